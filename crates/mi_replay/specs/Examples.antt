-- The definitions at work on a small run: a connection starts a session, adds an account and breaks off, while another is kept out.
use Rattle.std.specs.Prelude.{◌≡◌, List, [], ◌∷◌, codes}
use Rattle.mi_model.specs.Table.{size}
use Rattle.mi_model.specs.Database.{table_of, depth}
use Rattle.mi_model.specs.Examples.{start_state}
use Rattle.mi_commands.specs.Asked.{Asked, text}
use Rattle.mi_commands.specs.Holder.{HeldDatabase, held_by}
use Rattle.mi_replay.specs.Acts.{Act, asks, leaves}
use Rattle.mi_replay.specs.Journal.{undo_line, JournalOf}
use Rattle.mi_replay.specs.Replayed.{replayer, replayed, unheld}

abbrev pub start_line : Asked
start_line = text (codes "{\"cmd\":\"start\"}")

abbrev pub insert_line : Asked
insert_line = text (codes "{\"cmd\":\"insert\",\"row\":{\"balance\":5,\"owner\":\"a\",\"vip\":false}}")

-- connection 2 starts a session and adds an account, connection 5 is kept out, and then connection 2 breaks off
abbrev pub broken_off : List Act
broken_off =
    asks 2 start_line (codes "{\"ok\":true,\"revision\":1}") ∷ asks 2 insert_line (codes "{\"id\":0,\"ok\":true}")
    ∷ asks 5 insert_line (codes "{\"error\":\"busy\",\"ok\":false}") ∷ leaves 2 ∷ []

-- its journal is the two lines and an undo
abbrev pub BreakIsAnUndo : Type 0
BreakIsAnUndo = JournalOf (unheld start_state) broken_off (start_line ∷ insert_line ∷ undo_line ∷ []) (unheld start_state)

-- what the replayer has left
abbrev pub again : List Asked → HeldDatabase
again lines = replayed lines (unheld start_state)

-- Before the undo the account is there, and the replayer holds the session; behind it both are gone.
abbrev pub FrontHoldsTheSession : Type 0
FrontHoldsTheSession =
    (size (table_of (again (start_line ∷ insert_line ∷ [])).database 0) ≡ 1)
    × (held_by replayer (again (start_line ∷ insert_line ∷ [])).holder ≡ 1)
    × (again (start_line ∷ insert_line ∷ undo_line ∷ []) ≡ unheld start_state)

abbrev pub push_line : Asked
push_line = text (codes "{\"cmd\":\"push\"}")

-- Connection 2 starts a session and lets go of it, and connection 5 starts one and breaks off: one session is open, and nobody holds it.
-- Without the push the replayer would hold it.
abbrev pub PushIsKept : Type 0
PushIsKept =
    (depth (again (start_line ∷ push_line ∷ start_line ∷ undo_line ∷ [])).database ≡ 1)
    × (held_by replayer (again (start_line ∷ push_line ∷ start_line ∷ undo_line ∷ [])).holder ≡ 0)
    × (held_by replayer (again (start_line ∷ start_line ∷ undo_line ∷ [])).holder ≡ 1)
