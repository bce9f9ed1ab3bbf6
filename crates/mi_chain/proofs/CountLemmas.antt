-- How many keys there are, when a node is put in or taken out.
-- Cited by `CallLemmas`.
use Rattle.std.proofs.Common.{◌≡◌, ◌+◌, ◌≤◌, ◌<◌, Bool, true, false, cond, List, [], ◌∷◌, ◌++◌, length, refl, sym, ap, ◌∙◌, arith}
use Rattle.std.specs.List.{filter}
use Rattle.mi_node.specs.Refs.{Ref}
use Rattle.mi_chain.specs.Groups.{has_none, key_count}
use Rattle.mi_chain.proofs.GroupLemmas.{IsAlike, like, filter_same, filter_with, filter_without, not_both, no_is_false, not_empty}

none_is : (l : List Ref) → l ≡ [] → has_none l ≡ true
none_is l e = ap has_none e

some_is : (l : List Ref) → (l ≡ [] → ⊥) → has_none l ≡ false
some_is [] h = absurd (h refl)
some_is (x ∷ l) h = refl

is_none : (l : List Ref) → has_none l ≡ true → l ≡ []
is_none [] h = refl
is_none (x ∷ l) h = absurd cc

pub count_least : (R : Ref → Ref → Bool) (rs : List Ref) → key_count R rs ≤ length rs
count_least R [] = omega arith
count_least R (r ∷ rs) =
    let on = count_least R rs in
    elim (has_none (filter (R r) rs)) as (λ b. cond b (key_count R rs + 1) (key_count R rs) ≤ length (r ∷ rs)) [ true ↦ omega arith | false ↦ omega arith ]

pub count_some : (R : Ref → Ref → Bool) (rs : List Ref) → (rs ≡ [] → ⊥) → 0 < key_count R rs
count_some R [] some = absurd (some refl)
count_some R (r ∷ rs) some = (elim (has_none (filter (R r) rs)) as (λ b. has_none (filter (R r) rs) ≡ b → 0 < cond b (key_count R rs + 1) (key_count R rs)) [
  | true ↦ λ e. omega arith
  | false ↦ λ e. count_some R rs (λ none. let t : true ≡ false = sym (none_is (filter (R r) rs) (ap (filter (R r)) none)) ∙ e in cc)
]) refl

module _ (R : Ref → Ref → Bool) (A : IsAlike R) (r : Ref) (ys : List Ref) where
  unlike_back : (x : Ref) → R r x ≡ false → R x r ≡ false
  unlike_back x e = no_is_false (R x r) (λ t. not_both (R r x) (A.symmetric x r t) e)

  -- a node of another key changes no class
  other_class : (x : Ref) (xs : List Ref) → R r x ≡ false → filter (R x) (xs ++ r ∷ ys) ≡ filter (R x) (xs ++ ys)
  other_class x xs e = filter_without (R x) xs r ys (unlike_back x e)

  -- the first node of its key
  pub count_new : (xs : List Ref) → filter (R r) (xs ++ ys) ≡ [] → key_count R (xs ++ r ∷ ys) ≡ key_count R (xs ++ ys) + 1
  count_new [] none = ap (λ b. cond b (key_count R ys + 1) (key_count R ys)) (none_is (filter (R r) ys) none)
  count_new (x ∷ xs) none =
      let not_it : R r x ≡ false = no_is_false (R r x)
      (λ t. let full : x ∷ filter (R r) (xs ++ ys) ≡ [] = ap (λ b. cond b (x ∷ filter (R r) (xs ++ ys)) (filter (R r) (xs ++ ys))) (sym t) ∙ none in cc) in
      let rest : filter (R r) (xs ++ ys) ≡ [] = ap (λ b. cond b (x ∷ filter (R r) (xs ++ ys)) (filter (R r) (xs ++ ys))) (sym not_it) ∙ none in
      let on = count_new xs rest in let same = other_class x xs not_it in
      let n = key_count R (xs ++ ys) in
      (λ i. cond (has_none (same i)) (on i + 1) (on i))
      ∙ (elim (has_none (filter (R x) (xs ++ ys))) as (λ b. cond b (n + 1 + 1) (n + 1) ≡ cond b (n + 1) n + 1) [ true ↦ refl | false ↦ refl ])

  -- one of several of its key
  pub count_old : (xs : List Ref) → (filter (R r) (xs ++ ys) ≡ [] → ⊥) → key_count R (xs ++ r ∷ ys) ≡ key_count R (xs ++ ys)
  count_old [] some = ap (λ b. cond b (key_count R ys + 1) (key_count R ys)) (some_is (filter (R r) ys) some)
  count_old (x ∷ xs) some = (elim (R r x) as (λ b. R r x ≡ b → key_count R (x ∷ xs ++ r ∷ ys) ≡ key_count R (x ∷ xs ++ ys)) [
    | true ↦ λ t. here (λ some. count_old xs some) t (has_none (filter (R r) (xs ++ ys))) refl
    | false ↦ λ t.
        let rest = λ (none : filter (R r) (xs ++ ys) ≡ []). some (ap (λ b. cond b (x ∷ filter (R r) (xs ++ ys)) (filter (R r) (xs ++ ys))) t ∙ none) in
        let on = count_old xs rest in let same = other_class x xs t in λ i. cond (has_none (same i)) (on i + 1) (on i)
  ]) refl
    where
      here : ((filter (R r) (xs ++ ys) ≡ [] → ⊥) → key_count R (xs ++ r ∷ ys) ≡ key_count R (xs ++ ys)) → R r x ≡ true
          → (b : Bool) → has_none (filter (R r) (xs ++ ys)) ≡ b → key_count R (x ∷ xs ++ r ∷ ys) ≡ key_count R (x ∷ xs ++ ys)
      here old t b e =
          let full : has_none (filter (R x) (xs ++ r ∷ ys)) ≡ false = some_is (filter (R x) (xs ++ r ∷ ys))
          (λ none. not_empty (filter (R x) xs) r (filter (R x) ys) (sym (filter_with (R x) xs r ys (A.symmetric r x t)) ∙ none)) in
          let classes : has_none (filter (R x) (xs ++ ys)) ≡ has_none (filter (R r) (xs ++ ys)) =
          ap has_none (sym (filter_same (R r) (R x) (λ q. like R A r x q t) (xs ++ ys))) in
          ap (λ c. cond c (key_count R (xs ++ r ∷ ys) + 1) (key_count R (xs ++ r ∷ ys))) full ∙ by b e
          ∙ ap (λ c. cond c (key_count R (xs ++ ys) + 1) (key_count R (xs ++ ys))) (sym (classes ∙ e))
        where
          by : (b : Bool) → has_none (filter (R r) (xs ++ ys)) ≡ b → key_count R (xs ++ r ∷ ys) ≡ cond b (key_count R (xs ++ ys) + 1) (key_count R (xs ++ ys))
          by true e = count_new xs (is_none (filter (R r) (xs ++ ys)) e)
          by false e = old (λ none. let c : false ≡ true = sym e ∙ none_is (filter (R r) (xs ++ ys)) none in cc)
