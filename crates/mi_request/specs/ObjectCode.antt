-- Codes of objects and arrays, by which proofs tell them apart. They say nothing of what these mean, and no contract reads them.
use Rattle.std.specs.Prelude.{◌≡◌, ℕ, ◌==◌, ℤ, List, [], ◌∷◌, true, false, if◌then◌else◌, Float, refl, ◌⊎◌}
use Rattle.std.specs.Coded.{Coded, code_by, coded×, coded⊎, coded_list, coded_ℕ, coded_ℤ}
use Rattle.std.proofs.Common.{inl, inr, ap, ◌∙◌}
use base.Stored.{coded_float}
use Rattle.serde_json.specs.Data.{Num, unsigned, negative, float, Data, null, boolean, number, string}
use Rattle.serde_json.specs.Data.{array, object, Items, no_items, item, Members, no_members, member}

abbrev num_parts : Num → ℕ ⊎ (ℤ ⊎ Float)
num_parts (unsigned n) = inl n
num_parts (negative z) = inr (inl z)
num_parts (float x) = inr (inr x)

abbrev num_from : ℕ ⊎ (ℤ ⊎ Float) → Num
num_from (inl n) = unsigned n
num_from (inr (inl z)) = negative z
num_from (inr (inr x)) = float x

pub num_from-num_parts : (n : Num) → num_from (num_parts n) ≡ n
num_from-num_parts (unsigned n) = refl
num_from-num_parts (negative z) = refl
num_from-num_parts (float x) = refl

abbrev num_code : Coded Num
num_code = code_by (ℕ ⊎ (ℤ ⊎ Float)) (coded⊎ coded_ℕ (coded⊎ coded_ℤ coded_float)) num_parts num_from num_from-num_parts

-- a piece of an object: a mark with a text, or a number. Each piece stands in front of its parts
abbrev Piece : Type 0
Piece = (ℕ × List ℕ) ⊎ Num

abbrev mutual
  pieces : Data → List Piece → List Piece
  pieces null ps = inl (0, []) ∷ ps
  pieces (boolean true) ps = inl (1, []) ∷ ps
  pieces (boolean false) ps = inl (2, []) ∷ ps
  pieces (string s) ps = inl (3, s) ∷ ps
  pieces (number n) ps = inr n ∷ ps
  pieces (array ds) ps = inl (4, []) ∷ items_pieces ds ps
  pieces (object ms) ps = inl (5, []) ∷ members_pieces ms ps

  items_pieces : Items → List Piece → List Piece
  items_pieces no_items ps = inl (6, []) ∷ ps
  items_pieces (item d ds) ps = inl (7, []) ∷ pieces d (items_pieces ds ps)

  members_pieces : Members → List Piece → List Piece
  members_pieces no_members ps = inl (8, []) ∷ ps
  members_pieces (member k d ms) ps = inl (9, k) ∷ pieces d (members_pieces ms ps)

-- what pieces make, the first in front
pub data Part : Type 0 where
  value : Data → Part
  items : Items → Part
  members : Members → Part

abbrev as_array : List Part → List Part
as_array (items ds ∷ ps) = value (array ds) ∷ ps
as_array ps = ps

abbrev as_object : List Part → List Part
as_object (members ms ∷ ps) = value (object ms) ∷ ps
as_object ps = ps

abbrev as_item : List Part → List Part
as_item (value d ∷ items ds ∷ ps) = items (item d ds) ∷ ps
as_item ps = ps

abbrev as_member : List ℕ → List Part → List Part
as_member k (value d ∷ members ms ∷ ps) = members (member k d ms) ∷ ps
as_member k ps = ps

abbrev made : Piece → List Part → List Part
made (inr n) ps = value (number n) ∷ ps
made (inl (mark, s)) ps =
    if mark == 0 then value null ∷ ps
    else if mark == 1 then value (boolean true) ∷ ps
    else if mark == 2 then value (boolean false) ∷ ps
    else if mark == 3 then value (string s) ∷ ps
    else if mark == 4 then as_array ps
    else if mark == 5 then as_object ps
    else if mark == 6 then items no_items ∷ ps
    else if mark == 7 then as_item ps
    else if mark == 8 then members no_members ∷ ps
    else as_member s ps

abbrev parts : List Piece → List Part
parts [] = []
parts (p ∷ ps) = made p (parts ps)

mutual
  pub parts-pieces : (d : Data) (ps : List Piece) → parts (pieces d ps) ≡ value d ∷ parts ps
  parts-pieces null ps = refl
  parts-pieces (boolean true) ps = refl
  parts-pieces (boolean false) ps = refl
  parts-pieces (string s) ps = refl
  parts-pieces (number n) ps = refl
  parts-pieces (array ds) ps = ap as_array (parts-items_pieces ds ps)
  parts-pieces (object ms) ps = ap as_object (parts-members_pieces ms ps)

  pub parts-items_pieces : (ds : Items) (ps : List Piece) → parts (items_pieces ds ps) ≡ items ds ∷ parts ps
  parts-items_pieces no_items ps = refl
  parts-items_pieces (item d ds) ps = ap as_item (parts-pieces d (items_pieces ds ps) ∙ ap (λ xs. value d ∷ xs) (parts-items_pieces ds ps))

  pub parts-members_pieces : (ms : Members) (ps : List Piece) → parts (members_pieces ms ps) ≡ members ms ∷ parts ps
  parts-members_pieces no_members ps = refl
  parts-members_pieces (member k d ms) ps = ap (as_member k) (parts-pieces d (members_pieces ms ps) ∙ ap (λ xs. value d ∷ xs) (parts-members_pieces ms ps))

abbrev first_items : List Part → Items
first_items (items ds ∷ ps) = ds
first_items ps = no_items

abbrev pub items_code : Coded Items
items_code = code_by (List Piece) (coded_list (coded⊎ (coded× coded_ℕ (coded_list coded_ℕ)) num_code))
    (λ ds. items_pieces ds []) (λ ps. first_items (parts ps)) (λ ds. ap first_items (parts-items_pieces ds []))

abbrev first_members : List Part → Members
first_members (members ms ∷ ps) = ms
first_members ps = no_members

abbrev pub members_code : Coded Members
members_code = code_by (List Piece) (coded_list (coded⊎ (coded× coded_ℕ (coded_list coded_ℕ)) num_code))
    (λ ms. members_pieces ms []) (λ ps. first_members (parts ps)) (λ ms. ap first_members (parts-members_pieces ms []))
