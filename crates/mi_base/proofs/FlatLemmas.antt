-- What a base is made of has no floats and is nested once.
-- Cited by `BaseLines::check_digest`, `lists::list_line`, `read::take_head`, `read::take_heading`, `read::take_list` and 6 more.
use Rattle.std.proofs.Common.{◌≡◌, ◌||◌, ℕ, List, [], ◌∷◌, map, false, refl, ap, ◌∙◌, arith, pos, negsuc}
use Rattle.std.specs.Prelude.{max}
use Rattle.serde_json.specs.Data.{depth, items_depth}
use Rattle.serde_json.specs.View.{items_of}
use Rattle.serde_json.specs.Written.{has_float, items_have_float}
use Rattle.mi_value.specs.declared.value.Value.{Value}
use Rattle.mi_value.specs.declared.value.Value.TheVariants.{Int, Text, Flag}
use Rattle.mi_catalog.specs.Key.{Row}
use Rattle.mi_base.specs.declared.heading.Heading.{Heading}
use Rattle.mi_base.specs.declared.heading.Head.{Head}
use Rattle.mi_base.specs.Lines.{IsFlat}
use Rattle.mi_base.specs.Base.{value_data, row_data, id_data, list_data, head_data, heading_data, digits_data}

value_whole : (v : Value) → has_float (value_data v) ≡ false
value_whole (Int (pos n)) = refl
value_whole (Int (negsuc n)) = refl
value_whole (Text t) = refl
value_whole (Flag b) = refl

value_shallow : (v : Value) → depth (value_data v) ≡ 0
value_shallow (Int n) = refl
value_shallow (Text t) = refl
value_shallow (Flag b) = refl

values_whole : (vs : List Value) → items_have_float (items_of (map value_data vs)) ≡ false
values_whole [] = refl
values_whole (v ∷ vs) = ap (λ b. b || items_have_float (items_of (map value_data vs))) (value_whole v) ∙ values_whole vs

values_shallow : (vs : List Value) → items_depth (items_of (map value_data vs)) ≡ 0
values_shallow [] = refl
values_shallow (v ∷ vs) = ap (λ n. max n (items_depth (items_of (map value_data vs)))) (value_shallow v) ∙ ap (max 0) (values_shallow vs)

ids_whole : (ids : List ℕ) → items_have_float (items_of (map id_data ids)) ≡ false
ids_whole [] = refl
ids_whole (id ∷ ids) = ids_whole ids

ids_shallow : (ids : List ℕ) → items_depth (items_of (map id_data ids)) ≡ 0
ids_shallow [] = refl
ids_shallow (id ∷ ids) = ap (max 0) (ids_shallow ids)

pub row_flat : (r : Row) → IsFlat (row_data r)
unfolding row_data
row_flat r = record { whole = values_whole r.1; shallow = let e = values_shallow r.1 in omega (arith, e) }

pub list_flat : (ids : List ℕ) → IsFlat (list_data ids)
unfolding list_data
list_flat ids = record { whole = ids_whole ids; shallow = let e = ids_shallow ids in omega (arith, e) }

pub head_flat : (name : List ℕ) (h : Head) → IsFlat (head_data name h)
unfolding head_data
head_flat name h = record { whole = refl; shallow = omega arith }

pub heading_flat : (h : Heading) → IsFlat (heading_data h)
unfolding heading_data
heading_flat h = record { whole = refl; shallow = omega arith }

pub digits_flat : (digest : List ℕ) → IsFlat (digits_data digest)
unfolding digits_data
digits_flat digest = record { whole = refl; shallow = omega arith }
