-- What one edit changes: a key of its column, if it gives that another value, and no other key.
-- Cited by `MultiIndex::changed_by_edits`.
use Rattle.std.proofs.Common.{◌≡◌, ◌≢◌, ℕ, zero, suc, ℤ, pos, Bool, true, false, not, cond, List, [], ◌∷◌, slice_get, get_or, length, Option, Some, None, inl, inr, refl, ap, sym, ◌∙◌, arith}
use Rattle.std.specs.Prelude.{◌+ℤ◌, slice_set, if◌then◌else◌}
use Rattle.std.specs.Option.{option_map, option_map_or, option_and_then}
use Rattle.std.specs.Ordering.{is_eq, int_cmp, int_eq, ordering_reverse}
use Rattle.std.specs.declared.cmp.Ordering.{Ordering}
use Rattle.std.specs.declared.cmp.Ordering.TheVariants.{Less, Equal, Greater}
use Rattle.std.specs.Cmp.{ranked_equal}
use Rattle.std.proofs.lemmas.Cmp.{int_ranked}
use Rattle.std.proofs.lemmas.Bool.Decides.{same_from_decides, Decides-like, Decides-int_eq, eqb_tells}
use Rattle.std.proofs.Math.IntN.{+ℤ_idl, +ℤ_idr, +ℤ_comm, +ℤ-neg_ℤ_cancel, ◌-ℤ◌}
use Rattle.mi_value.specs.declared.value.Value.{Value}
use Rattle.mi_value.specs.declared.value.Value.TheVariants.{Int, Text, Flag}
use Rattle.mi_value.specs.declared.edit.Edit.{Edit}
use Rattle.mi_value.specs.declared.edit.Edit.TheVariants.{Put, Add}
use Rattle.mi_value.specs.declared.compare.KeyPart.{KeyPart}
use Rattle.mi_value.specs.Edits.{fits_int, add_to, edited, apply, column_of}
use Rattle.mi_value.specs.Order.{compare_missing}
use Rattle.mi_value.proofs.OrderLaws.{directed_total}
use Rattle.mi_catalog.specs.declared.index.Index.{Index}
use Rattle.mi_container.proofs.PairLemmas.{none_some, some_is}
use Rattle.mi_multi.specs.Changed.{is_changed, changed_keys}
use Rattle.mi_multi.specs.Columns.{differ, changes_column, has_column, keys_with}
use Rattle.mi_multi.proofs.ColumnLemmas.{then_differs, then_rest}

-- A sum

no_more : (m n : ℤ) → n ≡ pos 0 → m ≡ m +ℤ n
no_more m n h = sym (ap (λ k. m +ℤ k) h ∙ +ℤ_idr m)

is_no_more : (m n : ℤ) → m ≡ m +ℤ n → n ≡ pos 0
is_no_more m n h =
    sym (+ℤ-neg_ℤ_cancel n m) ∙ ap (λ k. k -ℤ m) (+ℤ_comm n m ∙ sym h) ∙ ap (λ k. k -ℤ m) (sym (+ℤ_idl m)) ∙ +ℤ-neg_ℤ_cancel (pos 0) m

sum_is_same : (m n : ℤ) → is_eq (int_cmp m (m +ℤ n)) ≡ int_eq n (pos 0)
sum_is_same m n =
    same_from_decides (is_eq (int_cmp m (m +ℤ n))) (int_eq n (pos 0))
    (ranked_equal m (m +ℤ n) (int_cmp m (m +ℤ n)) (int_ranked m (m +ℤ n) (int_cmp m (m +ℤ n)) refl))
    (Decides-like (int_eq n (pos 0)) (no_more m n) (is_no_more m n) (Decides-int_eq n (pos 0)))

-- The edit's column, and the others

set_mark : (old : List Value) (c : ℕ) (v : Value)
    → not (is_eq (compare_missing (slice_get old c) (slice_get (slice_set old c v) c))) ≡ option_map_or (λ w. differ w v) (slice_get old c) false
set_mark [] c v = refl
set_mark (a ∷ old) zero v = refl
set_mark (a ∷ old) (suc c) v = set_mark old c v

get_other : (old : List Value) (c d : ℕ) (v : Value) → c ≢ d → slice_get (slice_set old c v) d ≡ slice_get old d
get_other [] c d v ne = refl
get_other (a ∷ old) zero zero v ne = absurd (ne refl)
get_other (a ∷ old) zero (suc d) v ne = refl
get_other (a ∷ old) (suc c) zero v ne = refl
get_other (a ∷ old) (suc c) (suc d) v ne = get_other old c d v (λ e. ne (ap suc e))

-- what an edit sets, and whether that differs from what was there
record Sets (old new : List Value) (c : ℕ) (b : Bool) : Type 0 where
  value : Value
  set : slice_set old c value ≡ new
  mark : option_map_or (λ w. differ w value) (slice_get old c) false ≡ b

summed : (old new : List Value) (c : ℕ) (m n : ℤ) → slice_get old c ≡ Some (Int m) → (b : Bool)
    → option_map (slice_set old c) (if b then Some (Int (m +ℤ n)) else None) ≡ Some new → Sets old new c (not (int_eq n (pos 0)))
summed old new c m n is false made = absurd (none_some made)
summed old new c m n is true made = record {
  value = Int (m +ℤ n);
  set = some_is made;
  mark = ap (λ o. option_map_or (λ w. differ w (Int (m +ℤ n))) o false) is ∙ ap not (sum_is_same m n);
}

added : (old new : List Value) (c : ℕ) (n : ℤ) (o : Option Value) → slice_get old c ≡ o
    → option_map (slice_set old c) (add_to o n) ≡ Some new → Sets old new c (not (int_eq n (pos 0)))
added old new c n None is made = absurd (none_some made)
added old new c n (Some (Int m)) is made = summed old new c m n is (fits_int (m +ℤ n)) made
added old new c n (Some (Text t)) is made = absurd (none_some made)
added old new c n (Some (Flag f)) is made = absurd (none_some made)

sets : (e : Edit) (old new : List Value) → edited e old ≡ Some new → Sets old new (column_of e) (changes_column e old)
sets (Put c v) old new made = record { value = v; set = some_is made; mark = refl }
sets (Add c n) old new made = added old new c n (slice_get old c) refl made

-- Keys

no_turn : (o : Ordering) → o ≡ ordering_reverse o → not (is_eq o) ≡ false
no_turn Less h = absurd (let bad : Less ≡ Greater = h in cc)
no_turn Equal h = refl
no_turn Greater h = absurd (let bad : Greater ≡ Less = h in cc)

same_value : (o p : Option Value) → p ≡ o → not (is_eq (compare_missing o p)) ≡ false
same_value o p is = ap (λ q. not (is_eq (compare_missing o q))) is ∙ no_turn (compare_missing o o) ((directed_total false).antisymm o o)

module _ (c : ℕ) (b : Bool) (old new : List Value)
    (at : not (is_eq (compare_missing (slice_get old c) (slice_get new c))) ≡ b)
    (others : (d : ℕ) → c ≢ d → slice_get new d ≡ slice_get old d) where
  -- a part of the column, which changes or not
  part_here : (p : KeyPart) (ps : List KeyPart) → is_changed ps old new ≡ cond b (has_column c ps) false → (z : Bool) → b ≡ z → p.column ≡ c
      → is_changed (p ∷ ps) old new ≡ z
  part_here p ps rest true is same =
      then_differs p.descending _ _ (ap (λ k. not (is_eq (compare_missing (slice_get old k) (slice_get new k)))) same ∙ at ∙ is)
  part_here p ps rest false is same =
      then_rest p.descending _ _ (ap (λ k. not (is_eq (compare_missing (slice_get old k) (slice_get new k)))) same ∙ at ∙ is)
      ∙ rest ∙ ap (λ z. cond z (has_column c ps) false) is

  never : (z : Bool) → cond z false false ≡ false
  never true = refl
  never false = refl

  once : (z : Bool) → cond z true false ≡ z
  once true = refl
  once false = refl

  key_changes : (ps : List KeyPart) → is_changed ps old new ≡ cond b (has_column c ps) false
  key_changes [] = sym (never b)
  key_changes (p ∷ ps) = elim (eqb_tells p.column c) [
    | inl is ↦ part_here p ps (key_changes ps) b refl is.1 ∙ sym (ap (λ z. cond b (cond z true (has_column c ps)) false) is.0 ∙ once b)
    | inr isnt ↦ then_rest p.descending _ _ (same_value (slice_get old p.column) (slice_get new p.column) (others p.column (λ e. isnt.1 (sym e))))
        ∙ key_changes ps ∙ sym (ap (λ z. cond b (cond z true (has_column c ps)) false) isnt.0)
  ]

  pub keys_are : (is : List Index) → keys_with c b is ≡ changed_keys is old new
  keys_are [] = refl
  keys_are (i ∷ is) = λ k. sym (key_changes i.parts) k ∷ keys_are is k

-- the marks of a single edit
pub edit_marks : (e : Edit) (old new : List Value) → edited e old ≡ Some new → (is : List Index)
    → keys_with (column_of e) (changes_column e old) is ≡ changed_keys is old new
edit_marks e old new made is =
    let s = sets e old new made in
    keys_are (column_of e) (changes_column e old) old new
    (ap (λ vs. not (is_eq (compare_missing (slice_get old (column_of e)) (slice_get vs (column_of e))))) (sym s.set)
    ∙ set_mark old (column_of e) s.value ∙ s.mark)
    (λ d ne. ap (λ vs. slice_get vs d) (sym s.set) ∙ get_other old (column_of e) d s.value ne) is

done : (o : Option (List Value)) (new : List Value) → option_and_then (apply []) o ≡ Some new → o ≡ Some new
done None new made = absurd (none_some made)
done (Some vs) new made = made

-- of a list of edits that has one
pub single : (es : List Edit) (e : Edit) (old new : List Value) → length es ≡ 1 → e ≡ get_or es 0 e → apply es old ≡ Some new → edited e old ≡ Some new
single [] e old new one is made = absurd (omega arith)
single (a ∷ []) e old new one is made = ap (λ x. edited x old) is ∙ done (edited a old) new made
single (a ∷ b ∷ es) e old new one is made = absurd (omega arith)
