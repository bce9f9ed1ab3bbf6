-- A journal that is asked again, line by line, by one connection of a database that nobody else asks.
use Rattle.std.specs.Prelude.{◌≡◌, ℕ, ◌-◌, false, List, [], ◌∷◌, None, codes}
use Rattle.mi_model.specs.Database.{Database, undone_times}
use Rattle.mi_commands.specs.Asked.{Asked}
use Rattle.mi_commands.specs.Answer.{answer}
use Rattle.mi_commands.specs.Holder.{HeldDatabase, is_busy, held_count, held_by}

-- the connection that asks them
abbrev pub replayer : ℕ
replayer = 1

-- what is left once it has asked these lines
abbrev pub replayed : List Asked → HeldDatabase → HeldDatabase
replayed [] s = s
replayed (line ∷ lines) s = replayed lines (answer s replayer line).1

-- a database that nobody holds sessions of
abbrev pub unheld : Database → HeldDatabase
unheld d = record { database = d; holder = None }

-- t is s with this many of its held sessions undone, where the replayer holds what is left of them, or nobody where none is.
abbrev pub IsSameLess : ℕ → HeldDatabase → HeldDatabase → Type 0
IsSameLess undos s t =
    (t.database ≡ undone_times undos s.database) × (held_by replayer t.holder ≡ held_count s.holder - undos) × (is_busy t.holder replayer ≡ false)

-- t has the database of s, and the replayer holds as many sessions as are held there, by whichever connection; nobody else holds any.
abbrev pub IsSame : HeldDatabase → HeldDatabase → Type 0
IsSame s t = (t.database ≡ s.database) × (held_by replayer t.holder ≡ held_count s.holder) × (is_busy t.holder replayer ≡ false)

-- the reply to a line that is refused for memory
abbrev pub memory_reply : List ℕ
memory_reply = codes "{\"error\":\"memory\",\"ok\":false}"
