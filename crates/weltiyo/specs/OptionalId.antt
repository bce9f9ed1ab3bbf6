-- What may be left out: a number says whether it is there.
use Rattle.std.specs.Prelude.{ℕ, ◌==◌, if◌then◌else◌, Option, Some, None}

-- an id, unless the number before it is 0
abbrev pub optional_id : ℕ → ℕ → Option ℕ
optional_id is_given id = if is_given == 0 then None else Some id
