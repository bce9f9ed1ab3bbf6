-- Where the numbers and the flags of a record stand in its bytes, and a record with another one.
--     IsNumberAt   the number of a column, and where its bytes begin
--     IsFlagAt     where the byte of a column's flag stands
--     IsMade       what comes of an edit that is made there
use Rattle.std.specs.Prelude.{Bool, true, false, ◌≡◌, ◌<◌, ◌≤◌, ◌+◌, ◌++◌, ℕ, ℤ, List, Some, None, length, take, drop, slice_get, slice_set, FitsSigned, ⊤}
use Rattle.std.specs.Int.{w64, to_le_bytes, cast_unsigned}
use Rattle.mi_value.specs.declared.value.Value.{Value}
use Rattle.mi_value.specs.declared.value.Value.TheVariants.{Int, Flag}
use Rattle.mi_value.specs.declared.edit.Edit.{Edit}
use Rattle.mi_value.specs.declared.record.InPlace.{InPlace}
use Rattle.mi_value.specs.declared.record.InPlace.TheVariants.{Done, Range, Undone}
use Rattle.mi_value.specs.Block.{unpacked}
use Rattle.mi_value.specs.Edits.{edited}

-- so many values stand before what is left of the bytes, and whatever as many bytes are left
pub record ArePassed (count : ℕ) (bytes left : List ℕ) : Type 0 where
  pub front : List ℕ
  pub values : List Value
  pub joined : bytes ≡ front ++ left
  pub many : length values ≡ count
  pub whatever : (others : List ℕ) → length others ≡ length left → unpacked (front ++ others) ≡ values ++ unpacked others

-- bytes with another number in the eight from a place on
abbrev pub with_number : ℕ → ℤ → List ℕ → List ℕ
with_number place n bytes = take place bytes ++ (to_le_bytes w64 (cast_unsigned w64 n) ++ drop (place + 8) bytes)

-- a column has this number, whose bytes stand from that place on: with another number there the column has that one
pub record IsNumberAt (bytes : List ℕ) (column : ℕ) (n : ℤ) (place : ℕ) : Type 0 where
  pub is : slice_get (unpacked bytes) column ≡ Some (Int n)
  pub within : place + 8 ≤ length bytes
  pub other : (m : ℤ) → FitsSigned w64 m → unpacked (with_number place m bytes) ≡ slice_set (unpacked bytes) column (Int m)

-- the tag of a flag
abbrev pub flag_tag : Bool → ℕ
flag_tag false = 2
flag_tag true = 3

-- a column has a flag, whose byte stands at that place: with another there the column has that one
pub record IsFlagAt (bytes : List ℕ) (column place : ℕ) : Type 0 where
  pub within : place < length bytes
  pub other : (b : Bool) → unpacked (slice_set bytes place (flag_tag b)) ≡ slice_set (unpacked bytes) column (Flag b)

-- what comes of an edit, where it was tried
abbrev pub IsMade : Edit → List Value → InPlace → Type 0
IsMade e r (Done row) = edited e r ≡ Some row
IsMade e r Range = edited e r ≡ None
IsMade e r Undone = ⊤
