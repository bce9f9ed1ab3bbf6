-- The lines of all bytes that a connection was fed since its attach, and the rest that is no whole line yet.
-- "get⏎⏎undo\r⏎sta" has the lines "get" and "undo", and the rest "sta".
use Rattle.std.specs.Prelude.{ℕ, ◌-◌, List, [], ◌∷◌, ◌++◌, length, take, slice_index, map, nat_lt, ◌==◌, ◌&&◌, if◌then◌else◌, Option, Some, None}
use Rattle.std.specs.List.{filter_map}
use Rattle.mi_value.specs.declared.limits.TheConstants.{MAX_LINE}
use Rattle.mi_commands.specs.Asked.{Asked, text, too_long}
use Rattle.mi_hub.specs.Ended.{ended, if_none, after_newlines}

-- bytes that are no whole line yet, or nothing in the place of too many
abbrev pub Rest : Type 0
Rest = Option (List ℕ)

-- a text, or nothing in the place of one of more than 65,536 bytes
abbrev pub marked : List ℕ → Rest
marked t = if nat_lt MAX_LINE (length t) then None else Some t

-- the text without the one carriage return (byte 13) at its end
abbrev pub without_return : List ℕ → List ℕ
without_return t = if nat_lt 0 (length t) && (slice_index t (length t - 1) == 13) then take (length t - 1) t else t

-- an empty text is no line
abbrev pub unless_empty : List ℕ → Option Asked
unless_empty [] = None
unless_empty (b ∷ bs) = Some (text (b ∷ bs))

-- the line that a newline ends
abbrev pub ended_line : Rest → Option Asked
ended_line None = Some too_long
ended_line (Some t) = unless_empty (without_return t)

-- the line that the close of its connection ends: there no carriage return is dropped
abbrev pub last_line : Rest → Option Asked
last_line None = Some too_long
last_line (Some t) = unless_empty t

-- the lines of these bytes that a newline ends, in order
abbrev pub lines_of : List ℕ → List Asked
lines_of bytes = filter_map (λ t. ended_line (marked t)) (ended bytes)

-- what these bytes leave for the next line
abbrev pub rest_of : List ℕ → Rest
rest_of bytes = marked (after_newlines bytes)

-- The same where the bytes follow a rest, which is all that is kept of what came before them: laws tie these to the lines and
-- the rest of all bytes joined.

-- a rest and then a text without a newline
abbrev pub extended : Rest → List ℕ → Rest
extended None t = None
extended (Some r) t = marked (r ++ t)

-- the ended texts, the first of them behind this rest
abbrev pub behind : Rest → List (List ℕ) → List Rest
behind r [] = []
behind r (t ∷ ts) = extended r t ∷ map marked ts

-- the lines that newlines end in bytes that follow this rest
abbrev pub lines_from : Rest → List ℕ → List Asked
lines_from r bytes = filter_map ended_line (behind r (ended bytes))

-- what this rest and these bytes leave for the next line
abbrev pub rest_from : Rest → List ℕ → Rest
rest_from r bytes = if_none (ended bytes) (extended r bytes) (rest_of bytes)
