-- The first id of a key in a sorted index, and how many ids an index has of a key.
-- Cited by `PlainTable::count`, `PlainTable::find_row`, `PlainTable::find_sorted` and `PlainTable::nth_row`.
use Rattle.std.proofs.Common.{◌≡◌, ◌≢◌, ◌⊎◌, ℕ, ◌+◌, ◌<◌, zero, suc, Bool, true, false, cond, inl, inr, List, [], ◌∷◌, length, slice_get}
use Rattle.std.proofs.Common.{refl, ap, sym, ◌∙◌, arith, eqb-true}
use Rattle.std.proofs.Math.Dec.{eqb}
use Rattle.std.specs.Prelude.{IsTrue, IfSome}
use Rattle.std.specs.List.{filter}
use Rattle.std.specs.Option.{option_eq}
use Rattle.std.specs.Ordering.{is_eq, is_ge, is_gt}
use Rattle.std.specs.declared.cmp.Ordering.{Ordering}
use Rattle.std.specs.declared.cmp.Ordering.TheVariants.{Less, Equal, Greater}
use Rattle.std.specs.declared.option.Option.{Option}
use Rattle.std.specs.declared.option.Option.TheVariants.{None, Some}
use Rattle.std.proofs.lemmas.Bool.Decides.{eqb_tells}
use Rattle.mi_value.specs.declared.value.Value.{Value}
use Rattle.mi_catalog.specs.declared.index.Index.{Index}
use Rattle.mi_catalog.specs.Shape.{Shape, index_at}
use Rattle.mi_catalog.specs.Kinds.{is_sorted}
use Rattle.mi_model.specs.Table.{Table, IsTable, has, list_of}
use Rattle.mi_model.specs.View.{view, compare_to_id}
use Rattle.mi_model.specs.LookUp as look
use Rattle.mi_model.proofs.NextLaws.{key_is_there}
use Rattle.mi_model.proofs.PlaceLaws.{IsOnce, each_in_view, there_at, listed_within, sorted_listed}
use Rattle.mi_model.proofs.QueryLaws.{find_none, find_some}
use Rattle.mi_plain.specs.declared.pass.Boundary.TheVariants.{Lower, Upper}
use Rattle.mi_plain.proofs.BoundaryLemmas.{view_is, listed, shown_count}
use Rattle.mi_plain.proofs.ShownLemmas.{count_of}

option_same : (a b : Option ℕ) → true ≡ option_eq eqb a b → a ≡ b
option_same None None is = refl
option_same None (Some n) is = absurd (cc)
option_same (Some m) None is = absurd (cc)
option_same (Some m) (Some n) is = ap Some (eqb-true m n (sym is))

same_itself : (a : Option ℕ) → option_eq eqb a a ≡ true
same_itself None = refl
same_itself (Some n) = elim (eqb_tells n n) [ inl is ↦ is.0 | inr isnt ↦ absurd (isnt.1 refl) ]

option_other : (a b : Option ℕ) → false ≡ option_eq eqb a b → a ≢ b
option_other a b isnt same = let yes : option_eq eqb a b ≡ true = ap (λ o. option_eq eqb a o) (sym same) ∙ same_itself a in absurd (cc)

same_or_other : (a b : Option ℕ) → (a ≡ b) ⊎ (a ≢ b)
same_or_other a b = (elim (option_eq eqb a b) as (λ c. option_eq eqb a b ≡ c → (a ≡ b) ⊎ (a ≢ b)) [
  | true ↦ λ e. inl (option_same a b (sym e))
  | false ↦ λ e. inr (option_other a b (sym e))
]) refl

-- the first of a list that passes a test
module _ (p : ℕ → Bool) where
  first_passes : (ids : List ℕ) (e : ℕ) → slice_get (filter p ids) 0 ≡ Some e → p e ≡ true
  first_passes [] e is = absurd (cc)
  first_passes (a ∷ ids) e is = (elim (p a) as (λ b. p a ≡ b → slice_get (cond b (a ∷ filter p ids) (filter p ids)) 0 ≡ Some e → p e ≡ true) [
    | true ↦ λ passes is. let same : a ≡ e = cc in ap p (sym same) ∙ passes
    | false ↦ λ fails is. first_passes ids e is
  ]) refl is

  some_passes : (ids : List ℕ) (n e : ℕ) → slice_get ids n ≡ Some e → p e ≡ true → slice_get (filter p ids) 0 ≡ None → ⊥
  some_passes [] n e at passes none = absurd (cc)
  some_passes (a ∷ ids) zero e at passes none = (elim (p a) as (λ b. p a ≡ b → slice_get (cond b (a ∷ filter p ids) (filter p ids)) 0 ≡ None → ⊥) [
    | true ↦ λ is none. absurd (cc)
    | false ↦ λ is none. let same : a ≡ e = cc in let both : true ≡ false = sym passes ∙ ap p (sym same) ∙ is in absurd (cc)
  ]) refl none
  some_passes (a ∷ ids) (suc n) e at passes none = (elim (p a) as (λ b. p a ≡ b → slice_get (cond b (a ∷ filter p ids) (filter p ids)) 0 ≡ None → ⊥) [
    | true ↦ λ is none. absurd (cc)
    | false ↦ λ is none. some_passes ids n e at passes none
  ]) refl none

-- the first id of a key is that of its lower bound, if it has the key
module _ (s : Shape) (t : Table) (x : ℕ) (key : List Value) (is : IsTrue (is_sorted (index_at s x).kind)) (once : IsOnce (view s t x)) where
  abbrev has_key : ℕ → Bool
  has_key id = is_eq (compare_to_id (index_at s x) t key id)

  lower_or_none : (look.find s t x key ≡ look.lower s t x key) ⊎ (look.find s t x key ≡ None)
  lower_or_none = elim (same_or_other (look.lower s t x key) (look.upper s t x key)) [
    | inl same ↦ inr (find_none s t x key is once same)
    | inr other ↦ inl (find_some s t x key is other)
  ]

  pub past_all : look.lower s t x key ≡ None → None ≡ look.find s t x key
  past_all none = elim lower_or_none [ inl e ↦ sym (e ∙ none) | inr e ↦ sym e ]

  pub has_it : (id : ℕ) → look.lower s t x key ≡ Some id → has_key id ≡ true → Some id ≡ look.find s t x key
  has_it id at passes = elim lower_or_none [
    | inl e ↦ sym (e ∙ at)
    | inr e ↦ absurd (some_passes has_key (view s t x) (look.lower_rank s t x key) id at passes e)
  ]

  pub has_another : (id : ℕ) → look.lower s t x key ≡ Some id → has_key id ≡ false → None ≡ look.find s t x key
  has_another id at fails = elim lower_or_none [
    | inl e ↦ let both : true ≡ false = sym (first_passes has_key (view s t x) id (e ∙ at)) ∙ fails in absurd (cc)
    | inr e ↦ sym e
  ]

-- those that a key isn't less than are those that it is greater than and those that have it
parted : (f : ℕ → Ordering) (ids : List ℕ)
    → length (filter (λ a. is_ge (f a)) ids) ≡ length (filter (λ a. is_gt (f a)) ids) + length (filter (λ a. is_eq (f a)) ids)
parted f [] = refl
parted f (a ∷ ids) =
    let rest = parted f ids in
    elim (f a) as (λ o. length (cond (is_ge o) (a ∷ filter (λ b. is_ge (f b)) ids) (filter (λ b. is_ge (f b)) ids))
    ≡ length (cond (is_gt o) (a ∷ filter (λ b. is_gt (f b)) ids) (filter (λ b. is_gt (f b)) ids))
    + length (cond (is_eq o) (a ∷ filter (λ b. is_eq (f b)) ids) (filter (λ b. is_eq (f b)) ids))) [
      | Less ↦ rest
      | Equal ↦ omega (arith, rest)
      | Greater ↦ omega (arith, rest)
    ]

pub key_shown : (s : Shape) (t : Table) (x : ℕ) (is : IsTable s t) (i : Index) (same : i ≡ index_at s x) (key : List Value) → x < length s.indexes
    → count_of i t x key Upper ≡ count_of i t x key Lower + look.count s t x key
key_shown s t x is i same key within =
    let p : ℕ → Bool = λ id. is_eq (compare_to_id (index_at s x) t key id) in
    let all : length (filter p (list_of t x)) ≡ look.count s t x key =
    shown_count (index_at s x) t (list_of t x) (listed s t x is within) p ∙ ap (λ ids. length (filter p ids)) (sym (view_is s t x)) in
    let parts : count_of (index_at s x) t x key Upper ≡ count_of (index_at s x) t x key Lower + length (filter p (list_of t x)) =
    parted (compare_to_id (index_at s x) t key) (list_of t x) in
    ap (λ (j : Index). count_of j t x key Upper) same ∙ parts
    ∙ (λ k. count_of (sym same k) t x key Lower + all k)

-- ids that an index shows are there

pub shown_there : (s : Shape) (t : Table) (x : ℕ) → IsTable s t → IsTrue (is_sorted (index_at s x).kind) → (k : ℕ) (o : Option ℕ)
    → o ≡ look.nth s t x k → IfSome o (λ (id : ℕ). IsTrue (has t id))
shown_there s t x is sorts k None at = tt
shown_there s t x is sorts k (Some e) at =
    there_at t (view s t x) (each_in_view s t x is (listed_within s x (sorted_listed (index_at s x).kind sorts))) k e (sym at)

pub key_there : (s : Shape) (t : Table) (x : ℕ) (key : List Value) → IsTable s t → x < length s.indexes → (o : Option ℕ)
    → o ≡ look.find s t x key → IfSome o (λ (id : ℕ). IsTrue (has t id))
key_there s t x key is within None at = tt
key_there s t x key is within (Some e) at = key_is_there s t x key (each_in_view s t x is within) 0 e (sym at)
