-- What a call with values tells: a number for its answer.
use Rattle.std.specs.Prelude.{ℕ, ◌-◌, ◌^◌, min, length, Bool, if◌then◌else◌, Result, Ok, Err}
use Rattle.mi_value.specs.declared.refusal.Refusal.{Refusal}
use Rattle.mi_value.specs.declared.refusal.Refusal.TheVariants.{Line, Json, Form as NoCommand, Busy, NoTable, Index, Kind, Row, Key, NoId}
use Rattle.mi_value.specs.declared.refusal.Refusal.TheVariants.{Range, Full, Spent, Unique, Lost, Depth, Session, Memory}
use Rattle.mi_protocol.specs.Replies as say
use Rattle.mi_protocol.specs.Replies.{Said}
use Rattle.mi_embed.specs.declared.call_result.CallResult.{CallResult}

-- the number of a refusal; 0 stands for none
abbrev pub refusal_number : Refusal → ℕ
refusal_number Line = 1
refusal_number Json = 2
refusal_number NoCommand = 3
refusal_number Busy = 4
refusal_number NoTable = 5
refusal_number Index = 6
refusal_number Kind = 7
refusal_number Row = 8
refusal_number Key = 9
refusal_number NoId = 10
refusal_number Range = 11
refusal_number Full = 12
refusal_number Spent = 13
refusal_number (Unique x id) = 14
refusal_number (Lost x id) = 15
refusal_number Depth = 16
refusal_number Session = 17
refusal_number Memory = 18

-- a number that is told in 32 bits, or the greatest one where it is greater; and in 64
abbrev pub in_32 : ℕ → ℕ
in_32 n = min n (2 ^ 32 - 1)

abbrev pub in_64 : ℕ → ℕ
in_64 n = min n (2 ^ 64 - 1)

-- what is accepted, with a number; what is refused, with the index and the record of a conflict
abbrev pub accepted : ℕ → CallResult
accepted n = record { status = 0; index = 0; number = n }

abbrev pub refused : Refusal → CallResult
refused (Unique x id) = record { status = 14; index = in_32 x; number = id }
refused (Lost x id) = record { status = 15; index = in_32 x; number = id }
refused e = record { status = refusal_number e; index = 0; number = 0 }

-- a number that is answered, or why it isn't
abbrev pub number_told : Result ℕ Refusal → CallResult
number_told (Ok n) = accepted n
number_told (Err e) = refused e

-- there is no room for what is answered: so many cells or rows are wanted, and so many bytes of texts
abbrev pub wanting : ℕ → ℕ → CallResult
wanting count bytes = record { status = 19; index = in_32 count; number = in_64 bytes }

-- a page has so many rows, and others remain or don't
abbrev pub paged : ℕ → Bool → CallResult
paged count more = record { status = 0; index = if more then 1 else 0; number = count }

-- what is told of what a command says: its number, the id of a row, how many rows, or the refusal; that it is done is told as 0
abbrev pub told_of : Said → CallResult
told_of (say.inserted id) = accepted id
told_of say.done = accepted 0
told_of (say.erased n) = accepted n
told_of (say.shown table id row) = accepted id
told_of (say.revised revision) = accepted revision
told_of (say.committed n) = accepted n
told_of (say.undone n) = accepted n
told_of (say.pushed n) = accepted n
told_of (say.status depth held revision) = accepted revision
told_of (say.counted n) = accepted n
told_of (say.ranked n) = accepted n
told_of (say.sized n) = accepted n
told_of (say.rows table records more) = paged (length records) more
told_of (say.refused_modify table e) = refused e
told_of (say.refused table e) = refused e
