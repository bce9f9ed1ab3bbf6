-- Look-ups in the ids of a list of nodes.
-- Cited by `CallLemmas`, `ConflictLemmas`, `KeyCallLemmas`, `LookUpLemmas`, `ProbeLemmas` and 1 more.
use Rattle.std.proofs.Common.{◌≡◌, ℕ, ◌+◌, ◌≤◌, zero, suc, Bool, true, false, not, cond, List, [], ◌∷◌}
use Rattle.std.proofs.Common.{◌++◌, map, slice_get, length, refl, ap, sym, ◌∙◌, subst, arith}
use Rattle.std.specs.Prelude.{◌==◌, IfSome}
use Rattle.std.specs.List.{AllByRecursion, filter, position_or_len}
use Rattle.std.specs.Option.{option_map}
use Rattle.std.specs.declared.option.Option.{Option}
use Rattle.std.specs.declared.option.Option.TheVariants.{None, Some}
use Rattle.mi_model.specs.LookUp.{rank_in, before_place, after_in, before_in}
use Rattle.mi_model.proofs.LookUpLaws.{rank_first, rank_next}
use Rattle.mi_model.proofs.ViewLaws.{Lacks}
use Rattle.mi_node.specs.Refs.{Ref, first_of, last_of}
use Rattle.mi_tree.specs.BinaryTree.{nth_of}
use Rattle.mi_tree.specs.Probed.{first_where}
use Rattle.mi_container.proofs.PairLemmas.{is_other}

-- what holds of all nodes of a list holds of one of them

module _ (P : Ref → Type 0) where
  pub all_first : (rs : List Ref) → AllByRecursion P rs → IfSome (first_of rs None) P
  all_first [] all = tt
  all_first (r ∷ rs) all = all.0

  last_too : (o : Option Ref) (rs : List Ref) → IfSome o P → AllByRecursion P rs → IfSome (last_of o rs) P
  last_too o [] one all = one
  last_too o (r ∷ rs) one all = last_too (Some r) rs all.0 all.1

  pub all_last : (rs : List Ref) → AllByRecursion P rs → IfSome (last_of None rs) P
  all_last rs all = last_too None rs tt all

  pub all_nth : (rs : List Ref) (n : ℕ) → AllByRecursion P rs → IfSome (nth_of rs n) P
  all_nth [] n all = tt
  all_nth (r ∷ rs) zero all = all.0
  all_nth (r ∷ rs) (suc n) all = all_nth rs n all.1

  pub all_where : (f : Ref → Bool) (rs : List Ref) → AllByRecursion P rs → IfSome (first_where f rs) P
  all_where f [] all = tt
  all_where f (r ∷ rs) all = elim (f r) as (λ b. IfSome (cond b (Some r) (first_where f rs)) P) [ true ↦ all.0 | false ↦ all_where f rs all.1 ]

  pub all_filter : (f : Ref → Bool) (rs : List Ref) → AllByRecursion P rs → AllByRecursion P (filter f rs)
  all_filter f [] all = tt
  all_filter f (r ∷ rs) all =
      elim (f r) as (λ b. AllByRecursion P (cond b (r ∷ filter f rs) (filter f rs))) [ true ↦ (all.0, all_filter f rs all.1) | false ↦ all_filter f rs all.1 ]

  pub all_before : (xs : List Ref) (ys : List Ref) → AllByRecursion P (xs ++ ys) → AllByRecursion P xs
  all_before [] ys all = tt
  all_before (x ∷ xs) ys all = (all.0, all_before xs ys all.1)

  pub all_behind : (xs : List Ref) (r : Ref) (ys : List Ref) → AllByRecursion P (xs ++ r ∷ ys) → AllByRecursion P ys
  all_behind [] r ys all = all.1
  all_behind (x ∷ xs) r ys all = all_behind xs r ys all.1

module _ (idf : Ref → ℕ) where
  pub first_ids : (rs : List Ref) → option_map idf (first_of rs None) ≡ slice_get (map idf rs) 0
  first_ids [] = refl
  first_ids (r ∷ rs) = refl

  last_got : (x : Ref) (xs zs : List Ref) → slice_get (idf x ∷ map idf (xs ++ zs)) (length xs) ≡ option_map idf (last_of (Some x) xs)
  last_got x [] zs = refl
  last_got x (b ∷ xs) zs = last_got b xs zs

  pub length_ids : (rs : List Ref) → length (map idf rs) ≡ length rs
  length_ids [] = refl
  length_ids (r ∷ rs) = ap suc (length_ids rs)

  before_got : (xs zs : List Ref) → before_place (map idf (xs ++ zs)) (length xs) ≡ option_map idf (last_of None xs)
  before_got [] zs = refl
  before_got (x ∷ xs) zs = last_got x xs zs

  all_got : (rs : List Ref) → before_place (map idf rs) (length rs) ≡ option_map idf (last_of None rs)
  all_got [] = refl
  all_got (x ∷ xs) = subst (λ ws. slice_get (idf x ∷ map idf ws) (length xs) ≡ option_map idf (last_of (Some x) xs)) (whole xs) (last_got x xs [])
    where
      whole : (ws : List Ref) → ws ++ [] ≡ ws
      whole [] = refl
      whole (w ∷ ws) = ap (λ q. w ∷ q) (whole ws)

  pub last_of_ids : (rs : List Ref) → option_map idf (last_of None rs) ≡ before_place (map idf rs) (length (map idf rs))
  last_of_ids rs = sym (ap (before_place (map idf rs)) (length_ids rs) ∙ all_got rs)

  pub nth_ids : (rs : List Ref) (n : ℕ) → option_map idf (nth_of rs n) ≡ slice_get (map idf rs) n
  nth_ids [] n = refl
  nth_ids (r ∷ rs) zero = refl
  nth_ids (r ∷ rs) (suc n) = nth_ids rs n

  pub none_past : (rs : List Ref) (n : ℕ) → length rs ≤ n → slice_get (map idf rs) n ≡ None
  none_past [] n l = refl
  none_past (r ∷ rs) zero l = absurd (omega arith)
  none_past (r ∷ rs) (suc n) l = none_past rs n (omega arith)

  pub where_ids : (f : Ref → Bool) (p : ℕ → Bool) (rs : List Ref) → AllByRecursion (λ r. f r ≡ p (idf r)) rs
      → option_map idf (first_where f rs) ≡ slice_get (filter p (map idf rs)) 0
  where_ids f p [] all = refl
  where_ids f p (r ∷ rs) all =
      ap (λ b. option_map idf (cond b (Some r) (first_where f rs))) all.0
      ∙ elim (p (idf r))
      as (λ b. option_map idf (cond b (Some r) (first_where f rs)) ≡ slice_get (cond b (idf r ∷ filter p (map idf rs)) (filter p (map idf rs))) 0) [
        | true ↦ refl
        | false ↦ where_ids f p rs all.1
      ]

  pub count_ids : (f : Ref → Bool) (p : ℕ → Bool) (rs : List Ref) → AllByRecursion (λ r. f r ≡ p (idf r)) rs
      → length (filter f rs) ≡ length (filter p (map idf rs))
  count_ids f p [] all = refl
  count_ids f p (r ∷ rs) all =
      ap (λ b. length (cond b (r ∷ filter f rs) (filter f rs))) all.0
      ∙ elim (p (idf r))
      as (λ b. length (cond b (r ∷ filter f rs) (filter f rs)) ≡ length (cond b (idf r ∷ filter p (map idf rs)) (filter p (map idf rs)))) [
        | true ↦ ap suc (count_ids f p rs all.1)
        | false ↦ count_ids f p rs all.1
      ]

  pub place_ids : (f : Ref → Bool) (p : ℕ → Bool) (rs : List Ref) → AllByRecursion (λ r. f r ≡ p (idf r)) rs
      → position_or_len f rs ≡ position_or_len p (map idf rs)
  place_ids f p [] all = refl
  place_ids f p (r ∷ rs) all = λ j. cond (not (all.0 j)) (1 + place_ids f p rs all.1 j) 0

  -- a node between others

  pub rank_middle : (e : ℕ) (xs : List Ref) (r : Ref) (ys : List Ref) → (idf r == e) ≡ true
      → Lacks e (map idf xs) → rank_in (map idf (xs ++ r ∷ ys)) e ≡ length xs
  rank_middle e [] r ys is lacks = rank_first e (idf r) (map idf ys) is
  rank_middle e (x ∷ xs) r ys is lacks =
      let rest : rank_in (map idf (xs ++ r ∷ ys)) e ≡ length xs = rank_middle e xs r ys is lacks.1 in
      let more : 1 + rank_in (map idf (xs ++ r ∷ ys)) e ≡ suc (length xs) = omega arith in
      rank_next e (idf x) (map idf (xs ++ r ∷ ys)) (is_other (idf x) e lacks.0) ∙ more

  after_got : (xs : List Ref) (r : Ref) (ys : List Ref) → slice_get (map idf (xs ++ r ∷ ys)) (suc (length xs)) ≡ slice_get (map idf ys) 0
  after_got [] r ys = refl
  after_got (x ∷ xs) r ys = after_got xs r ys

  pub after_middle : (e : ℕ) (xs : List Ref) (r : Ref) (ys : List Ref) → (idf r == e) ≡ true
      → Lacks e (map idf xs) → option_map idf (first_of ys None) ≡ after_in (map idf (xs ++ r ∷ ys)) e
  after_middle e xs r ys is lacks =
      let rank : rank_in (map idf (xs ++ r ∷ ys)) e ≡ length xs = rank_middle e xs r ys is lacks in
      let place : rank_in (map idf (xs ++ r ∷ ys)) e + 1 ≡ suc (length xs) = omega arith in
      first_ids ys ∙ sym (ap (slice_get (map idf (xs ++ r ∷ ys))) place ∙ after_got xs r ys)

  pub before_middle : (e : ℕ) (xs : List Ref) (r : Ref) (ys : List Ref) → (idf r == e) ≡ true
      → Lacks e (map idf xs) → option_map idf (last_of None xs) ≡ before_in (map idf (xs ++ r ∷ ys)) e
  before_middle e xs r ys is lacks = sym (ap (before_place (map idf (xs ++ r ∷ ys))) (rank_middle e xs r ys is lacks) ∙ before_got xs (r ∷ ys))
