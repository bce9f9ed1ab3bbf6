-- What a watched reader or writer shows, and what passes through it.
use Rattle.std.specs.Prelude.{ℕ, ◌<◌, ◌==◌, List, length, take, Bool, true, not, Option, Result, Ok, Err}
use Rattle.std.specs.Io.KnownBytes.{Appends, Consumes}
use Rattle.mi_hub.specs.declared.watched.Watched.{Watched}

-- what is watched
abbrev pub watched : {T : Type 0} → Watched T → T
watched w = w.inner

-- the same of another reader or writer
abbrev pub with_watched : {T : Type 0} → T → Watched T → Watched T
with_watched inner w = record w { inner = inner }

-- whether it has failed
abbrev pub has_failed : {T : Type 0} → Watched T → Bool
has_failed w = w.failed

-- whether what failed was a flush
abbrev pub flush_failed : {T : Type 0} → Watched T → Bool
flush_failed w = w.unflushed

-- nothing was written since the last flush
abbrev pub is_flushed : {T : Type 0} → Watched T → Bool
is_flushed w = not w.waiting

-- a write that answered an error or 0
abbrev pub takes_none : {E : Type 0} → Result ℕ E → Bool
takes_none (Ok n) = n == 0
takes_none (Err e) = true

-- These bytes were read from old, and new is left; `remaining` is what a reader still has, where it tells.
abbrev pub Reads : {T : Type 0} → (T → Option (List ℕ)) → Watched T → Watched T → List ℕ → Type 0
Reads remaining old new bytes = Consumes (remaining (watched old)) (remaining (watched new)) bytes

-- These bytes were written to old, and new is left; `contents` is what a writer has taken, where it tells.
abbrev pub Writes : {T : Type 0} → (T → Option (List ℕ)) → Watched T → Watched T → List ℕ → Type 0
Writes contents old new bytes = Appends (contents (watched old)) (contents (watched new)) bytes

-- A front of these bytes was written, and not all of them.
abbrev pub WritesFront : {T : Type 0} → (T → Option (List ℕ)) → Watched T → Watched T → List ℕ → Type 0
WritesFront contents old new bytes = (n : ℕ) × (n < length bytes) × Writes contents old new (take n bytes)
