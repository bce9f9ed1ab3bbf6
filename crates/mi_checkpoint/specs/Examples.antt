-- The definitions at work: a session is started and an account added. Then a younger session is started, another account added, and the older
-- session committed. A base stands between the two starts.
use Rattle.std.specs.Prelude.{◌≡◌, List, [], ◌∷◌, codes}
use Rattle.mi_model.specs.Table.{size}
use Rattle.mi_model.specs.Database.{table_of, depth}
use Rattle.mi_model.specs.Examples.{start_state}
use Rattle.mi_commands.specs.Asked.{Asked, text}
use Rattle.mi_commands.specs.Holder.{HeldDatabase}
use Rattle.mi_replay.specs.Replayed.{replayed, unheld}
use Rattle.mi_replay.specs.Examples.{start_line, insert_line}
use Rattle.mi_checkpoint.specs.Settled.{based, IsBasedAt}

abbrev pub other_insert : Asked
other_insert = text (codes "{\"cmd\":\"insert\",\"row\":{\"balance\":6,\"owner\":\"b\",\"vip\":false}}")

abbrev pub commit_line : Asked
commit_line = text (codes "{\"cmd\":\"commit\",\"revision\":1}")

-- what the first two lines leave
abbrev pub there : HeldDatabase
there = replayed (start_line ∷ insert_line ∷ []) (unheld start_state)

abbrev pub rest : List Asked
rest = start_line ∷ other_insert ∷ commit_line ∷ []

-- The base has the account of the session that is open there, and no session. With the other lines it gives what all lines give: the younger
-- session is open, and held.
abbrev pub BaseStandsAtAnOpenSession : Type 0
BaseStandsAtAnOpenSession =
    (depth there.database ≡ 1) × (depth (based there).database ≡ 0) × (size (table_of (based there).database 0) ≡ 1)
    × IsBasedAt there rest × (replayed rest (based there) ≡ replayed rest there) × (depth (replayed rest there).database ≡ 1)
