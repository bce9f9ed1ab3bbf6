-- Edits of different columns, in any order.
-- Cited by `laws::edits_in_any_order`.
use Rattle.std.proofs.Common.{◌≡◌, ◌≢◌, ℕ, zero, suc, ◌<◌, ◌||◌, List, [], ◌∷◌, length, get_or, set, slice_get, Option, Some, None, refl, ap, sym, ◌∙◌, arith}
use Rattle.std.specs.Prelude.{is_none, slice_set}
use Rattle.std.specs.Option.{option_map, option_and_then}
use Rattle.std.specs.List.{list_any, swap}
use Rattle.std.proofs.lemmas.List.{set_comm}
use Rattle.std.proofs.lemmas.List.Sorted.{IsPermutation-keeps}
use Rattle.mi_value.specs.declared.value.Value.{Value}
use Rattle.mi_value.specs.declared.edit.Edit.{Edit}
use Rattle.mi_value.specs.declared.edit.Edit.TheVariants.{Put, Add}
use Rattle.mi_value.specs.Edits.{add_to, edited, apply, column_of, SparesColumn, NamesEachOnce, EditsInAnyOrder, RangeOfOneEdit}

-- what an edit puts into its column, from what is there
abbrev put_by : Edit → Option Value → Option Value
put_by (Put c v) o = Some v
put_by (Add c n) o = add_to o n

edited_is : (e : Edit) (r : List Value) → edited e r ≡ option_map (slice_set r (column_of e)) (put_by e (slice_get r (column_of e)))
edited_is (Put c v) r = refl
edited_is (Add c n) r = refl

-- another column is as it was
get_other : (r : List Value) (c d : ℕ) (v : Value) → c ≢ d → slice_get (set r c v) d ≡ slice_get r d
get_other [] c d v ne = refl
get_other (a ∷ r) zero zero v ne = absurd (ne refl)
get_other (a ∷ r) zero (suc d) v ne = refl
get_other (a ∷ r) (suc c) zero v ne = refl
get_other (a ∷ r) (suc c) (suc d) v ne = get_other r c d v (λ e. ne (ap suc e))

-- two edits of different columns, in either order
both : (es : List Edit) (r : List Value) (c d : ℕ) (v w : Option Value) → c ≢ d → (f g : Option Value → Option Value) → f (slice_get r c) ≡ v
    → g (slice_get r d) ≡ w
    → option_and_then (λ q. option_and_then (apply es) (option_map (slice_set q d) (g (slice_get q d)))) (option_map (slice_set r c) v)
    ≡ option_and_then (λ q. option_and_then (apply es) (option_map (slice_set q c) (f (slice_get q c)))) (option_map (slice_set r d) w)
both es r c d None None ne f g is it = refl
both es r c d None (Some w) ne f g is it =
    sym (ap (λ o. option_and_then (apply es) (option_map (slice_set (set r d w) c) o)) (ap f (get_other r d c w (λ e. ne (sym e))) ∙ is))
both es r c d (Some v) None ne f g is it = ap (λ o. option_and_then (apply es) (option_map (slice_set (set r c v) d) o)) (ap g (get_other r c d v ne) ∙ it)
both es r c d (Some v) (Some w) ne f g is it =
    ap (λ o. option_and_then (apply es) (option_map (slice_set (set r c v) d) o)) (ap g (get_other r c d v ne) ∙ it)
    ∙ ap (apply es) (set_comm r c d v w ne)
    ∙ sym (ap (λ o. option_and_then (apply es) (option_map (slice_set (set r d w) c) o)) (ap f (get_other r d c w (λ e. ne (sym e))) ∙ is))

swapped_two : (a b : Edit) (es : List Edit) → column_of a ≢ column_of b → (r : List Value) → apply (a ∷ b ∷ es) r ≡ apply (b ∷ a ∷ es) r
swapped_two a b es ne r =
    ap (option_and_then (apply (b ∷ es))) (edited_is a r)
    ∙ (λ i. option_and_then (λ q. option_and_then (apply es) (edited_is b q i)) (option_map (slice_set r (column_of a)) (put_by a (slice_get r (column_of a)))))
    ∙ both es r (column_of a) (column_of b) _ _ ne (put_by a) (put_by b) refl refl
    ∙ (λ i. option_and_then (λ q. option_and_then (apply es) (sym (edited_is a q) i))
    (option_map (slice_set r (column_of b)) (put_by b (slice_get r (column_of b)))))
    ∙ ap (option_and_then (apply (a ∷ es))) (sym (edited_is b r))

-- lists of edits that do the same where each column is named once
record Alike (es others : List Edit) : Type 0 where
  spared : (c : ℕ) → SparesColumn c es → SparesColumn c others
  once : NamesEachOnce es → NamesEachOnce others
  effect : NamesEachOnce es → (r : List Value) → apply others r ≡ apply es r

alike_refl : (es : List Edit) → Alike es es
alike_refl es = record { spared = λ c h. h; once = λ h. h; effect = λ h r. refl }

alike_trans : (es fs gs : List Edit) → Alike es fs → Alike fs gs → Alike es gs
alike_trans es fs gs a b =
    record {
      spared = λ c h. b.spared c (a.spared c h);
      once = λ h. b.once (a.once h);
      effect = λ h r. b.effect (a.once h) r ∙ a.effect h r;
    }

alike_cons : (e : Edit) (es fs : List Edit) → Alike es fs → Alike (e ∷ es) (e ∷ fs)
alike_cons e es fs a =
    record {
      spared = λ c h. (h.0, a.spared c h.1);
      once = λ h. (a.spared (column_of e) h.0, a.once h.1);
      effect = λ h r i. option_and_then (λ q. a.effect h.1 q i) (edited e r);
    }

alike_two : (a b : Edit) (es : List Edit) → Alike (a ∷ b ∷ es) (b ∷ a ∷ es)
alike_two a b es =
    record {
      spared = λ c h. (h.1.0, (h.0, h.1.1));
      once = λ h. ((λ e. h.0.0 (sym e), h.1.0), (h.0.1, h.1.1));
      effect = λ h r. sym (swapped_two a b es h.0.0 r);
    }

-- the first for a later one
front : (a : Edit) (es : List Edit) (j : ℕ) (d : Edit) → j < length es → Alike (a ∷ es) (get_or es j d ∷ set es j a)
front a [] j d l = absurd (omega arith)
front a (b ∷ es) zero d l = alike_two a b es
front a (b ∷ es) (suc j) d l =
    alike_trans (a ∷ b ∷ es) (b ∷ a ∷ es) (get_or es j d ∷ b ∷ set es j a) (alike_two a b es)
    (alike_trans (b ∷ a ∷ es) (b ∷ get_or es j d ∷ set es j a) (get_or es j d ∷ b ∷ set es j a)
    (alike_cons b (a ∷ es) (get_or es j d ∷ set es j a) (front a es j d (omega arith))) (alike_two b (get_or es j d) (set es j a)))

-- two edits in each other's place
exchanged : (es : List Edit) (i j : ℕ) (d : Edit) → i < length es → j < length es → Alike es (set (set es i (get_or es j d)) j (get_or es i d))
exchanged [] i j d l m = absurd (omega arith)
exchanged (a ∷ es) zero zero d l m = alike_refl (a ∷ es)
exchanged (a ∷ es) zero (suc j) d l m = front a es j d (omega arith)
exchanged (a ∷ es) (suc i) zero d l m = front a es i d (omega arith)
exchanged (a ∷ es) (suc i) (suc j) d l m =
    alike_cons a es (set (set es i (get_or es j d)) j (get_or es i d)) (exchanged es i j d (omega arith) (omega arith))

swapped : (es : List Edit) (i j : ℕ) → i < length es → j < length es → Alike es (swap es i j)
swapped [] i j l m = absurd (omega arith)
swapped (a ∷ es) i j l m = exchanged (a ∷ es) i j a l m

pub edits_in_any_order : EditsInAnyOrder
edits_in_any_order es others shuffled once r =
    (IsPermutation-keeps es (Alike es) (alike_refl es) (λ l i j p q h. alike_trans es l (swap l i j) h (swapped l i j p q)) others shuffled).effect once r

none_mapped : (f : Value → List Value) (o : Option Value) → is_none (option_map f o) ≡ is_none o
none_mapped f None = refl
none_mapped f (Some v) = refl

stays_through : (r q : List Value) (c d : ℕ) (o : Option Value) → c ≢ d → option_map (slice_set r c) o ≡ Some q → slice_get q d ≡ slice_get r d
stays_through r q c d None ne is = absurd (let h : None ≡ Some q = is in cc)
stays_through r q c d (Some v) ne is =
    let h : Some (set r c v) ≡ Some q = is in let same : set r c v ≡ q = cc in sym (ap (λ l. slice_get l d) same) ∙ get_other r c d v ne

-- an edit of another column fits after an edit exactly where it does before
fits_after : (e f : Edit) (r q : List Value) → column_of e ≢ column_of f → edited e r ≡ Some q → is_none (edited f q) ≡ is_none (edited f r)
fits_after e f r q ne is =
    ap is_none (edited_is f q)
    ∙ none_mapped (slice_set q (column_of f)) (put_by f (slice_get q (column_of f)))
    ∙ ap (λ o. is_none (put_by f o)) (stays_through r q (column_of e) (column_of f) (put_by e (slice_get r (column_of e))) ne (sym (edited_is e r) ∙ is))
    ∙ sym (none_mapped (slice_set r (column_of f)) (put_by f (slice_get r (column_of f))))
    ∙ sym (ap is_none (edited_is f r))

any_after : (e : Edit) (es : List Edit) (r q : List Value) → SparesColumn (column_of e) es → edited e r ≡ Some q
    → list_any (λ f. is_none (edited f q)) es ≡ list_any (λ f. is_none (edited f r)) es
any_after e [] r q spares is = refl
any_after e (f ∷ es) r q spares is = λ i. fits_after e f r q spares.0 is i || any_after e es r q spares.1 is i

first_fits : (e : Edit) (es : List Edit) (r : List Value) → SparesColumn (column_of e) es
    → ((q : List Value) → is_none (apply es q) ≡ list_any (λ f. is_none (edited f q)) es) → (o : Option (List Value)) → edited e r ≡ o
    → is_none (option_and_then (apply es) o) ≡ (is_none o || list_any (λ f. is_none (edited f r)) es)
first_fits e es r spares rest None is = refl
first_fits e es r spares rest (Some q) is = rest q ∙ any_after e es r q spares is

pub range_of_one_edit : RangeOfOneEdit
range_of_one_edit [] once r = refl
range_of_one_edit (e ∷ es) once r = first_fits e es r once.0 (range_of_one_edit es once.1) (edited e r) refl
