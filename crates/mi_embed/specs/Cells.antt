-- Values as they cross the border of a process: cells, and the bytes in which their texts lie.
use Rattle.std.specs.Prelude.{◌≡◌, ℕ, ◌+◌, ◌==◌, nat_le, if◌then◌else◌, List, [], ◌∷◌, ◌++◌, length, take, drop, true, false}
use Rattle.std.specs.Prelude.{Option, Some, None, option_and_then, pos}
use Rattle.std.specs.Str.{is_utf8}
use Rattle.mi_value.specs.declared.value.Value.{Value}
use Rattle.mi_value.specs.declared.value.Value.TheVariants.{Int, Text, Flag}
use Rattle.mi_embed.specs.declared.cell.Cell.{Cell}

-- a whole number has the kind 0, a text 1, false 2 and true 3
-- these bytes as a text, where they are one
abbrev pub as_text : List ℕ → Option Value
as_text bytes = if is_utf8 bytes then Some (Text bytes) else None

-- the text of so many bytes from a place on
abbrev pub text_at : List ℕ → ℕ → ℕ → Option Value
text_at bytes at n = if nat_le (at + n) (length bytes) then as_text (take n (drop at bytes)) else None

-- the value that a cell is, with the bytes of the texts
abbrev pub value_in : List ℕ → Cell → Option Value
value_in bytes c =
    if c.kind == 0 then Some (Int c.integer)
    else if c.kind == 1 then text_at bytes c.at c.length
    else if c.kind == 2 then Some (Flag false)
    else if c.kind == 3 then Some (Flag true)
    else None

-- what is made of one and of those behind it, if each is made
abbrev pub before_all : {A : Type 0} → Option A → Option (List A) → Option (List A)
before_all v vs = option_and_then (λ x. option_and_then (λ xs. Some (x ∷ xs)) vs) v

-- the values of all cells, if each is one
abbrev pub values_in : List ℕ → List Cell → Option (List Value)
values_in bytes [] = Some []
values_in bytes (c ∷ cs) = before_all (value_in bytes c) (values_in bytes cs)

-- the texts of values, one behind another
abbrev pub text_of : Value → List ℕ
text_of (Int n) = []
text_of (Text bytes) = bytes
text_of (Flag b) = []

abbrev pub texts_of : List Value → List ℕ
texts_of [] = []
texts_of (v ∷ vs) = text_of v ++ texts_of vs

-- the cell of a value whose text lies from a place on
abbrev pub cell_of : ℕ → Value → Cell
cell_of at (Int n) = record { kind = 0; integer = n; at = 0; length = 0 }
cell_of at (Text bytes) = record { kind = 1; integer = pos 0; at = at; length = length bytes }
cell_of at (Flag false) = record { kind = 2; integer = pos 0; at = 0; length = 0 }
cell_of at (Flag true) = record { kind = 3; integer = pos 0; at = 0; length = 0 }

-- the cells of values whose texts lie from a place on
abbrev pub cells_of : ℕ → List Value → List Cell
cells_of at [] = []
cells_of at (v ∷ vs) = cell_of at v ∷ cells_of (at + length (text_of v)) vs

-- Values are put to the front of cells, and their texts to the front of bytes; the rest of both stays.
abbrev pub ArePut : ℕ → List Value → List Cell → List Cell → List ℕ → List ℕ → Type 0
ArePut at vs cells new_cells texts new_texts =
    (new_cells ≡ cells_of at vs ++ drop (length vs) cells) × (new_texts ≡ texts_of vs ++ drop (length (texts_of vs)) texts)
