-- What a buffered stream holds: the bytes that have gone out, and then those that wait.
use Rattle.std.specs.Prelude.{ℕ, List, drop, Option}
use Rattle.std.specs.Io.KnownBytes.{append_known}
use Rattle.mi_program.specs.declared.buffered.Buffered.{Buffered}

abbrev pub stream_of : {S : Type 0} → Buffered S → S
stream_of b = b.inner

-- the bytes that haven't gone out yet
abbrev pub waiting : {S : Type 0} → Buffered S → List ℕ
waiting b = drop b.sent b.gathered.items

-- what was written to it, where the stream tells what it has taken
abbrev pub contents_of : {S : Type 0} → (S → Option (List ℕ)) → Buffered S → Option (List ℕ)
contents_of contents b = append_known (contents (stream_of b)) (waiting b)

-- what there is left to read of it, where the stream tells
abbrev pub remaining_of : {S : Type 0} → (S → Option (List ℕ)) → Buffered S → Option (List ℕ)
remaining_of remaining b = remaining (stream_of b)
