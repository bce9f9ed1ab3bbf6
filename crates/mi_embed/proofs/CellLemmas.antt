-- What bytes are as a text, and how many values cells are.
-- Cited by `cell::values_of`, `NameLemmas`, `arguments` and `cell`.
use Rattle.std.proofs.Common.{◌≡◌, ◌⊎◌, ◌∙◌, ◌&&◌, ℕ, suc, List, [], ◌∷◌, ◌++◌, length, map, Bool, true, false, true≢false}
use Rattle.std.proofs.Common.{Option, Some, None, option_map, option_and_then, cond, refl, sym, ap, inl, inr}
use Rattle.std.specs.Str.{IsUtf8, is_utf8}
use Rattle.std.proofs.lemmas.Str.{IsUtf8-from_is_utf8, is_utf8-from_IsUtf8}
use Rattle.mi_value.specs.Lent.{lent}
use Rattle.mi_value.specs.declared.value.Value.{Value}
use Rattle.mi_value.specs.declared.value.ValueRef.{ValueRef}
use Rattle.mi_value.specs.declared.value.Value.TheVariants.{Text}
use Rattle.mi_catalog.specs.declared.index.Column.{Column}
use Rattle.mi_catalog.specs.Fits.{fits_type, fits_record}
use Rattle.mi_embed.specs.declared.cell.Cell.{Cell}
use Rattle.mi_embed.specs.Cells.{as_text, before_all, value_in, values_in}
use Rattle.mi_embed.specs.Asked.{if_row, row_in}

none_some : {A : Type 0} {v : A} → ◌≡◌ {A = Option A} None (Some v) → ⊥
none_some e = cc

of_some : {A : Type 0} {v w : A} → ◌≡◌ {A = Option A} (Some v) (Some w) → v ≡ w
of_some e = cc

and_then_true : (a b : Bool) → (a && b) ≡ true → b ≡ true
and_then_true true b h = h
and_then_true false b h = absurd (true≢false (sym h))

pub test_of : (b : Bool) → (b ≡ true) ⊎ (b ≡ false)
test_of true = inl refl
test_of false = inr refl

pub utf8_is_text : (bs : List ℕ) → IsUtf8 bs → as_text bs ≡ Some (Text bs)
utf8_is_text bs is = ap (λ b. cond b (Some (Text bs)) None) (is_utf8-from_IsUtf8 bs is)

pub other_is_none : (bs : List ℕ) → ¬ IsUtf8 bs → as_text bs ≡ None
other_is_none bs isnt = elim (test_of (is_utf8 bs)) [
  | inl is ↦ absurd (isnt (IsUtf8-from_is_utf8 bs is))
  | inr is ↦ ap (λ b. cond b (Some (Text bs)) None) is
]

append_one : (front : List ValueRef) (v : ValueRef) (vs : List Value) → map lent (front ++ v ∷ []) ++ vs ≡ map lent front ++ lent v ∷ vs
append_one [] v vs = refl
append_one (w ∷ front) v vs = ap (λ us. lent w ∷ us) (append_one front v vs)

-- one value more in front
pub one_more : (front : List ValueRef) (v : ValueRef) (r : Option (List Value))
    → option_map (λ vs. map lent (front ++ v ∷ []) ++ vs) r ≡ option_map (λ vs. map lent front ++ vs) (before_all (Some (lent v)) r)
one_more front v None = refl
one_more front v (Some vs) = ap Some (append_one front v vs)

-- cells are as many values as they are
values_count : (bytes : List ℕ) (cells : List Cell) (vs : List Value) → values_in bytes cells ≡ Some vs → length vs ≡ length cells
values_count bytes [] vs is = sym (ap length (of_some is))
values_count bytes (c ∷ cs) vs is = by (value_in bytes c) (values_in bytes cs) (values_count bytes cs) is
  where
    by : (v : Option Value) (r : Option (List Value)) → ((us : List Value) → r ≡ Some us → length us ≡ length cs)
        → before_all v r ≡ Some vs → length vs ≡ length (c ∷ cs)
    by None r more h = absurd (none_some h)
    by (Some v) None more h = absurd (none_some h)
    by (Some v) (Some us) more h = sym (ap length (of_some h)) ∙ ap suc (more us refl)

record_count : (cs : List Column) (vs : List Value) → fits_record cs vs ≡ true → length vs ≡ length cs
record_count [] [] is = refl
record_count [] (v ∷ vs) is = absurd (true≢false (sym is))
record_count (c ∷ cs) [] is = absurd (true≢false (sym is))
record_count (c ∷ cs) (v ∷ vs) is = ap suc (record_count cs vs (and_then_true (fits_type c.kind v) (fits_record cs vs) is))

-- cells that aren't as many as the columns are no record
pub other_count : (cs : List Column) (bytes : List ℕ) (cells : List Cell) → ¬ (length cells ≡ length cs) → row_in cs bytes cells ≡ None
other_count cs bytes cells others = by (values_in bytes cells) refl
  where
    no : (vs : List Value) → values_in bytes cells ≡ Some vs → (b : Bool) → fits_record cs vs ≡ b → cond b (Some vs) None ≡ None
    no vs e true fits = absurd (others (sym (values_count bytes cells vs e) ∙ record_count cs vs fits))
    no vs e false fits = refl

    by : (r : Option (List Value)) → values_in bytes cells ≡ r → option_and_then (if_row cs) r ≡ None
    by None e = refl
    by (Some vs) e = no vs e (fits_record cs vs) refl
