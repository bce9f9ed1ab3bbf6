-- Which lines the journal of a run has. Connection 1 starts a session and reads, connection 2 is kept out, and connection 1 breaks off:
-- the journal is the start, and an undo in the place of the break.
use Rattle.std.specs.Prelude.{◌≡◌, ◌⊎◌, ℕ, List, [], ◌∷◌, ◌++◌, replicate, false, codes}
use Rattle.mi_commands.specs.Asked.{Asked, text}
use Rattle.mi_commands.specs.Answer.{answer}
use Rattle.mi_commands.specs.Holder.{HeldDatabase, is_busy, held_by}
use Rattle.mi_replay.specs.Acts.{Act, asks, leaves, Acts}

-- the line that undoes the newest session
abbrev pub undo_line : Asked
undo_line = text (codes "{\"cmd\":\"undo\"}")

-- A line may stay out of the journal where it changed nothing: neither the database, nor who holds how many sessions.
abbrev pub IsLeftOut : HeldDatabase → HeldDatabase → List Asked → Type 0
IsLeftOut old new kept = (kept ≡ []) × (new ≡ old)

-- A line is put into the journal where it was answered, want of memory aside, and no other connection held sessions.
abbrev pub IsPutIn : HeldDatabase → ℕ → Asked → HeldDatabase → List Asked → Type 0
IsPutIn old conn line new kept = (kept ≡ line ∷ []) × (is_busy old.holder conn ≡ false) × (new ≡ (answer old conn line).1)

-- What a journal has of an act from old to new. A line that changed anything is in it, and any other may be, if nobody else held sessions
-- and it wasn't refused for memory. Of a connection that goes away it has an undo for each session that it held.
abbrev pub Keeps : HeldDatabase → Act → HeldDatabase → List Asked → Type 0
Keeps old (asks conn line reply) new kept = IsLeftOut old new kept ⊎ IsPutIn old conn line new kept
Keeps old (leaves conn) new kept = kept ≡ replicate (held_by conn old.holder) undo_line

-- From old, these acts are done one after another, this is a journal of them, and new is left.
abbrev pub JournalOf : HeldDatabase → List Act → List Asked → HeldDatabase → Type 0
JournalOf old [] lines new = (lines ≡ []) × (new ≡ old)
JournalOf old (act ∷ acts) lines new =
    (mid : HeldDatabase) × (kept : List Asked) × (later : List Asked)
    × Acts old act mid × Keeps old act mid kept × JournalOf mid acts later new × (lines ≡ kept ++ later)
