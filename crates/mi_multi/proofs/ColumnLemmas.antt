-- What the marks of the columns in which two records differ say of their keys.
-- Cited by `changed::key_changed` and `EditMarkLemmas`.
use Rattle.std.proofs.Common.{◌≡◌, ℕ, ◌+◌, ◌<◌, zero, suc, Bool, true, false, not, List, [], ◌∷◌, ◌++◌, drop, length, get_or, slice_get, Some, None}
use Rattle.std.proofs.Common.{refl, ap, sym, ◌∙◌}
use Rattle.std.specs.Ordering.{is_eq, ordering_then}
use Rattle.std.specs.declared.cmp.Ordering.{Ordering}
use Rattle.std.specs.declared.cmp.Ordering.TheVariants.{Less, Equal, Greater}
use Rattle.std.proofs.lemmas.Bool.{false≢true}
use Rattle.std.proofs.lemmas.List.{at_drop_more}
use Rattle.mi_value.specs.declared.value.Value.{Value}
use Rattle.mi_value.specs.declared.compare.KeyPart.{KeyPart}
use Rattle.mi_value.specs.Order.{compare_missing, directed}
use Rattle.mi_multi.specs.Changed.{is_changed}
use Rattle.mi_multi.specs.Columns.{differ, changed_columns, AreFirst}

-- the mark of a column says whether the values there differ
column_mark : (old new : List Value) (k : ℕ) (b : Bool) → slice_get (changed_columns old new) k ≡ Some b
    → not (is_eq (compare_missing (slice_get old k) (slice_get new k))) ≡ b
column_mark [] new k b h = absurd (let bad : None ≡ Some b = h in cc)
column_mark (a ∷ old) [] k b h = absurd (let bad : None ≡ Some b = h in cc)
column_mark (a ∷ old) (c ∷ new) zero b h = let same : Some (differ a c) ≡ Some b = h in cc
column_mark (a ∷ old) (c ∷ new) (suc k) b h = column_mark old new k b h

get_in_front : (xs ys : List Bool) (k : ℕ) (b : Bool) → slice_get xs k ≡ Some b → slice_get (xs ++ ys) k ≡ Some b
get_in_front [] ys k b h = absurd (let bad : None ≡ Some b = h in cc)
get_in_front (x ∷ xs) ys zero b h = h
get_in_front (x ∷ xs) ys (suc k) b h = get_in_front xs ys k b h

pub then_differs : (d : Bool) (o q : Ordering) → not (is_eq o) ≡ true → not (is_eq (ordering_then (directed d o) q)) ≡ true
then_differs true Less q h = refl
then_differs false Less q h = refl
then_differs d Equal q h = absurd (false≢true h)
then_differs true Greater q h = refl
then_differs false Greater q h = refl

pub then_rest : (d : Bool) (o q : Ordering) → not (is_eq o) ≡ false → not (is_eq (ordering_then (directed d o) q)) ≡ not (is_eq q)
then_rest d Less q h = absurd (false≢true (sym h))
then_rest true Equal q h = refl
then_rest false Equal q h = refl
then_rest d Greater q h = absurd (false≢true (sym h))

module _ (marks : List Bool) (old new : List Value) (first : AreFirst marks old new) (p : KeyPart) (ps : List KeyPart) where
  part_mark : (b : Bool) → slice_get marks p.column ≡ Some b → not (is_eq (compare_missing (slice_get old p.column) (slice_get new p.column))) ≡ b
  part_mark b h = column_mark old new p.column b (sym (ap (λ ms. slice_get ms p.column) first.1) ∙ get_in_front marks first.0 p.column b h)

  -- a part whose column is marked changes the key
  pub part_changes : slice_get marks p.column ≡ Some true → is_changed (p ∷ ps) old new ≡ true
  part_changes h = then_differs p.descending _ _ (part_mark true h)

  -- one whose column isn't leaves it to the other parts
  pub part_stays : slice_get marks p.column ≡ Some false → is_changed (p ∷ ps) old new ≡ is_changed ps old new
  part_stays h = then_rest p.descending _ _ (part_mark false h)

-- by the place of the part among all parts
module _ (marks : List Bool) (old new : List Value) (first : AreFirst marks old new)
    (ps : List KeyPart) (i : ℕ) (none : KeyPart) (there : i < length ps) where
  at_part : is_changed (drop i ps) old new ≡ is_changed (get_or ps i none ∷ drop (i + 1) ps) old new
  at_part = at_drop_more (λ (qs : List KeyPart). is_changed qs old new) ps i none there

  pub changes_at : slice_get marks (get_or ps i none).column ≡ Some true → is_changed (drop i ps) old new ≡ true
  changes_at h = at_part ∙ part_changes marks old new first (get_or ps i none) (drop (i + 1) ps) h

  pub stays_at : slice_get marks (get_or ps i none).column ≡ Some false → is_changed (drop i ps) old new ≡ is_changed (drop (i + 1) ps) old new
  stays_at h = at_part ∙ part_stays marks old new first (get_or ps i none) (drop (i + 1) ps) h
