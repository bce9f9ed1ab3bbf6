-- Those of a list that have asked to end others, and those that are ended; `ending` cites them.
-- Cited by `ending::end_asked`, `ending::end_one` and `ending::next_end`.
use Rattle.std.proofs.Common.{◌≡◌, ◌⊎◌, cond, inl, inr, ◌+◌, ◌<◌, ◌≤◌, ℕ, zero, suc, List, [], ◌∷◌, length, slice_set, true, false, Option, Some, None, refl, sym, ap, ◌∙◌, subst, arith}
use Rattle.std.specs.Prelude.{slice_index_or, MatchOption, is_some}
use Rattle.std.specs.List.{AllZip}
use Rattle.mi_clients.specs.Clients.{ids}
use Rattle.mi_clients.specs.Ending.{forgotten, NoneEnds, TakesEnd, IsEnded, EachEnded, HasAsked, IsBroken, IsAsBefore}
use Rattle.mi_clients.specs.declared.client.Phase.TheVariants.{Broken}
use Rattle.mi_clients.specs.declared.client.Client.{Client}
use Rattle.mi_clients.proofs.ClientsLemmas.{DoneTo, done_all}

-- of the first i nothing is noted
abbrev pub NoneTo : {S : Type 0} → ℕ → List (Client S) → Type 0
NoneTo zero clients = Unit {0}
NoneTo (suc i) [] = Unit {0}
NoneTo (suc i) (c ∷ clients) = (c.ends ≡ None) × NoneTo i clients

same_number : (n m : ℕ) → ◌≡◌ {A = Option ℕ} (Some n) (Some m) → n ≡ m
same_number n m h = cc

some_none : (n : ℕ) → ◌≡◌ {A = Option ℕ} None (Some n) → ⊥
some_none n h = absurd (cc)

head_same : (x y : ℕ) (xs ys : List ℕ) → x ∷ xs ≡ y ∷ ys → x ≡ y
head_same x y xs ys e = cc

tail_same : (x y : ℕ) (xs ys : List ℕ) → x ∷ xs ≡ y ∷ ys → xs ≡ ys
tail_same x y xs ys e = cc

-- what was noted is some number
pub found_end : (A : Type 0) (B : ℕ → Type 0) (result ends : Option ℕ) → result ≡ ends → is_some ends ≡ true → ((n : ℕ) → ends ≡ Some n → B n)
    → MatchOption result A B
found_end A B result None is some b = absurd (cc)
found_end A B result (Some n) is some b = subst (λ r. MatchOption r A B) (sym is) (b n refl)

-- what isn't some is none
pub none_noted : (ends : Option ℕ) → is_some ends ≡ false → ends ≡ None
none_noted None is = refl
none_noted (Some n) is = absurd (cc)

module _ {S : Type 0} where
  pub none_more : (i : ℕ) (clients : List (Client S)) (d : Client S) → i < length clients → (slice_index_or clients i d).ends ≡ None → NoneTo i clients → NoneTo (i + 1) clients
  none_more i clients d lt none p = subst (λ n. NoneTo n clients) (next i) (go i clients lt none p)
    where
      next : (i : ℕ) → suc i ≡ i + 1
      next i = omega arith

      go : (i : ℕ) (clients : List (Client S)) → i < length clients → (slice_index_or clients i d).ends ≡ None → NoneTo i clients → NoneTo (suc i) clients
      go i [] lt none p = tt
      go zero (c ∷ clients) lt none p = (none, tt)
      go (suc i) (c ∷ clients) lt none p = (p.0, go i clients (omega arith) none p.1)

  pub none_all : (i : ℕ) (clients : List (Client S)) → length clients ≤ i → NoneTo i clients → NoneEnds clients
  none_all i [] le p = λ k d lt. absurd (omega arith)
  none_all zero (c ∷ clients) le p = absurd (omega arith)
  none_all (suc i) (c ∷ clients) le p = λ k d lt. at (none_all i clients (omega arith) p.1) k d lt
    where
      at : NoneEnds clients → (k : ℕ) (d : Client S) → k < length (c ∷ clients) → (slice_index_or (c ∷ clients) k d).ends ≡ None
      at more zero d lt = p.0
      at more (suc k) d lt = more k d (omega arith)

  -- which stands in the place of a missing one doesn't matter where none is missing
  pub same_place : (i : ℕ) (clients : List (Client S)) (d e : Client S) → i < length clients → slice_index_or clients i d ≡ slice_index_or clients i e
  same_place i [] d e lt = absurd (omega arith)
  same_place zero (c ∷ clients) d e lt = refl
  same_place (suc i) (c ∷ clients) d e lt = same_place i clients d e (omega arith)

  -- the first of which something is noted
  pub takes_first : (n i : ℕ) (clients : List (Client S)) (d x : Client S) → i < length clients → NoneTo i clients → (slice_index_or clients i d).ends ≡ Some n
      → x ≡ forgotten (slice_index_or clients i d) → TakesEnd n clients (slice_set clients i x)
  takes_first n i [] d x lt none noted same = absurd (omega arith)
  takes_first n zero (c ∷ clients) d x lt none noted same = inl (noted, ap (λ y. y ∷ clients) same)
  takes_first n (suc i) (c ∷ clients) d x lt none noted same =
      inr (none.0, slice_set clients i x, refl, takes_first n i clients d x (omega arith) none.1 noted same)

  -- one that is ended keeps its number
  ended_conn : (n : ℕ) (a b : Client S) → IsEnded n a b → b.conn ≡ a.conn
  ended_conn n a b (inl p) = ap (λ (c : Client S). c.conn) p.1.3
  ended_conn n a b (inr p) = ap (λ (c : Client S). c.conn) p.1

  -- and what it has asked
  ended_ends : (n : ℕ) (a b : Client S) → IsEnded n a b → b.ends ≡ a.ends
  ended_ends n a b (inl p) = ap (λ (c : Client S). c.ends) p.1.3
  ended_ends n a b (inr p) = ap (λ (c : Client S). c.ends) p.1

  pub ended_ids : (n : ℕ) (a b : List (Client S)) → EachEnded n a b → ids b ≡ ids a
  ended_ids n [] [] p = refl
  ended_ids n [] (y ∷ b) p = absurd p
  ended_ids n (x ∷ a) [] p = absurd p
  ended_ids n (x ∷ a) (y ∷ b) p = ap (λ k. k ∷ ids b) (ended_conn n x y p.0) ∙ ap (λ ks. x.conn ∷ ks) (ended_ids n a b p.1)

  -- so is a list of which one is noted no more
  pub takes_ids : (n : ℕ) (a b : List (Client S)) → TakesEnd n a b → ids b ≡ ids a
  takes_ids n [] b p = absurd p
  takes_ids n (x ∷ a) b (inl p) = ap ids p.1
  takes_ids n (x ∷ a) b (inr p) = ap ids p.2 ∙ ap (λ ks. x.conn ∷ ks) (takes_ids n a p.1 p.3)

  pub ended_all : (n : ℕ) (olds clients items : List (Client S)) (i : ℕ) → length clients ≤ i → items ≡ clients → DoneTo (IsEnded n) i olds clients → EachEnded n olds items
  ended_all n olds clients items i le is done = subst (AllZip (IsEnded n) olds) (sym is) (done_all (IsEnded n) olds clients i le done)

  -- ---- how many have asked

  abbrev pub asked_count : List (Client S) → ℕ
  asked_count [] = 0
  asked_count (c ∷ clients) = cond (is_some c.ends) 1 0 + asked_count clients

  pub takes_one : (n : ℕ) (a b : List (Client S)) → TakesEnd n a b → asked_count a ≡ asked_count b + 1
  takes_one n [] b p = absurd p
  takes_one n (x ∷ a) b (inl p) =
      ap (λ e. cond (is_some e) 1 0 + asked_count a) p.0 ∙ omega (arith, ap asked_count p.1)
  takes_one n (x ∷ a) b (inr p) =
      let more = takes_one n a p.1 p.3 in
      omega (arith, more, ap asked_count p.2)

  pub ended_count : (n : ℕ) (a b : List (Client S)) → EachEnded n a b → asked_count b ≡ asked_count a
  ended_count n [] [] p = refl
  ended_count n [] (y ∷ b) p = absurd p
  ended_count n (x ∷ a) [] p = absurd p
  ended_count n (x ∷ a) (y ∷ b) p =
      ap (λ e. cond (is_some e) 1 0 + asked_count b) (ended_ends n x y p.0) ∙ ap (λ k. cond (is_some x.ends) 1 0 + k) (ended_count n a b p.1)

  -- ---- who was asked to end

  pub takes_asked : (n m : ℕ) (a b : List (Client S)) → TakesEnd m a b → HasAsked n a → (n ≡ m) ⊎ HasAsked n b
  takes_asked n m [] b p asked = absurd asked
  takes_asked n m (x ∷ a) b (inl p) (inl is) = inl (same_number n m (sym is ∙ p.0))
  takes_asked n m (x ∷ a) b (inl p) (inr more) = inr (subst (HasAsked n) (sym p.1) (inr more))
  takes_asked n m (x ∷ a) b (inr p) (inl is) = absurd (some_none n (sym p.0 ∙ is))
  takes_asked n m (x ∷ a) b (inr p) (inr more) = elim (takes_asked n m a p.1 p.3 more) [
    | inl same ↦ inl same
    | inr there ↦ inr (subst (HasAsked n) (sym p.2) (inr there))
  ]

  pub none_asked : (n : ℕ) (clients : List (Client S)) → NoneEnds clients → HasAsked n clients → ⊥
  none_asked n [] none asked = asked
  none_asked n (c ∷ clients) none (inl is) = some_none n (sym (none 0 c (omega arith)) ∙ is)
  none_asked n (c ∷ clients) none (inr more) = none_asked n clients (λ k d lt. none (suc k) d (omega arith)) more

  pub takes_from : (n m : ℕ) (a b : List (Client S)) → TakesEnd m a b → HasAsked n b → HasAsked n a
  takes_from n m [] b p asked = absurd p
  takes_from n m (x ∷ a) b (inl p) asked = elim (subst (HasAsked n) p.1 asked) [
    | inl is ↦ absurd (some_none n is)
    | inr more ↦ inr more
  ]
  takes_from n m (x ∷ a) b (inr p) asked = elim (subst (HasAsked n) p.2 asked) [
    | inl is ↦ inl is
    | inr more ↦ inr (takes_from n m a p.1 p.3 more)
  ]

  pub takes_first_asked : (m : ℕ) (a b : List (Client S)) → TakesEnd m a b → HasAsked m a
  takes_first_asked m [] b p = absurd p
  takes_first_asked m (x ∷ a) b (inl p) = inl p.0
  takes_first_asked m (x ∷ a) b (inr p) = inr (takes_first_asked m a p.1 p.3)

  pub takes_broken : (n m : ℕ) (a b : List (Client S)) → TakesEnd m a b → IsBroken n a → IsBroken n b
  takes_broken n m [] b p broken = absurd p
  takes_broken n m (x ∷ a) b (inl p) broken = subst (IsBroken n) (sym p.1) (broken.0, broken.1)
  takes_broken n m (x ∷ a) b (inr p) broken = subst (IsBroken n) (sym p.2) (broken.0, takes_broken n m a p.1 p.3 broken.1)

  pub ended_asked : (n m : ℕ) (a b : List (Client S)) → EachEnded m a b → HasAsked n a → HasAsked n b
  ended_asked n m [] b p asked = absurd asked
  ended_asked n m (x ∷ a) [] p asked = absurd p
  ended_asked n m (x ∷ a) (y ∷ b) p (inl is) = inl (ended_ends m x y p.0 ∙ is)
  ended_asked n m (x ∷ a) (y ∷ b) p (inr more) = inr (ended_asked n m a b p.1 more)

  pub ended_from : (n m : ℕ) (a b : List (Client S)) → EachEnded m a b → HasAsked n b → HasAsked n a
  ended_from n m [] [] p asked = absurd asked
  ended_from n m [] (y ∷ b) p asked = absurd p
  ended_from n m (x ∷ a) [] p asked = absurd p
  ended_from n m (x ∷ a) (y ∷ b) p (inl is) = inl (sym (ended_ends m x y p.0) ∙ is)
  ended_from n m (x ∷ a) (y ∷ b) p (inr more) = inr (ended_from n m a b p.1 more)

  pub ended_broken : (n m : ℕ) (a b : List (Client S)) → EachEnded m a b → IsBroken n a → IsBroken n b
  ended_broken n m [] [] p broken = tt
  ended_broken n m [] (y ∷ b) p broken = absurd p
  ended_broken n m (x ∷ a) [] p broken = absurd p
  ended_broken n m (x ∷ a) (y ∷ b) (p, q) broken = (
    λ is. still x y p (broken.0 (sym (ended_conn m x y p) ∙ is)),
    ended_broken n m a b q broken.1,
  )
    where
      still : (x y : Client S) → IsEnded m x y → x.phase ≡ Broken → y.phase ≡ Broken
      still x y (inl gone) is = gone.1.0
      still x y (inr same) is = ap (λ (c : Client S). c.phase) same.1 ∙ is

  pub ended_self : (m : ℕ) (a b : List (Client S)) → EachEnded m a b → IsBroken m b
  ended_self m [] [] p = tt
  ended_self m [] (y ∷ b) p = absurd p
  ended_self m (x ∷ a) [] p = absurd p
  ended_self m (x ∷ a) (y ∷ b) (p, q) = (λ is. gone x y p (sym (ended_conn m x y p) ∙ is), ended_self m a b q)
    where
      gone : (x y : Client S) → IsEnded m x y → x.conn ≡ m → y.phase ≡ Broken
      gone x y (inl done) is = done.1.0
      gone x y (inr same) is = absurd (same.0 is)

  -- ---- who wasn't

  pub before_same : (n : ℕ) (a : List (Client S)) → IsAsBefore n a a
  before_same n [] = tt
  before_same n (x ∷ a) = (λ is. (refl, refl), before_same n a)

  pub takes_before : (n m : ℕ) (o a b : List (Client S)) → TakesEnd m a b → IsAsBefore n o a → IsAsBefore n o b
  takes_before n m o [] b p before = absurd p
  takes_before n m [] (x ∷ a) b p before = absurd before
  takes_before n m (z ∷ o) (x ∷ a) b (inl p) before = subst (IsAsBefore n (z ∷ o)) (sym p.1) (before.0, before.1)
  takes_before n m (z ∷ o) (x ∷ a) b (inr p) before = subst (IsAsBefore n (z ∷ o)) (sym p.2) (before.0, takes_before n m o a p.1 p.3 before.1)

  pub ended_before : (n m : ℕ) (o a b : List (Client S)) → ¬ (n ≡ m) → ids a ≡ ids o → EachEnded m a b → IsAsBefore n o a → IsAsBefore n o b
  ended_before n m [] [] [] other same p before = tt
  ended_before n m [] [] (y ∷ b) other same p before = absurd p
  ended_before n m [] (x ∷ a) b other same p before = absurd before
  ended_before n m (z ∷ o) [] b other same p before = absurd before
  ended_before n m (z ∷ o) (x ∷ a) [] other same p before = absurd p
  ended_before n m (z ∷ o) (x ∷ a) (y ∷ b) other same (p, q) (first, more) = (
    λ is. kept x y p (head_same x.conn z.conn (ids a) (ids o) same ∙ is) (first is),
    ended_before n m o a b other (tail_same x.conn z.conn (ids a) (ids o) same) q more,
  )
    where
      kept : (x y : Client S) → IsEnded m x y → x.conn ≡ n → (x.phase ≡ z.phase) × (x.stream ≡ z.stream)
          → (y.phase ≡ z.phase) × (y.stream ≡ z.stream)
      kept x y (inl gone) is was = absurd (other (sym is ∙ gone.0))
      kept x y (inr whole) is was = (ap (λ (c : Client S). c.phase) whole.1 ∙ was.0, ap (λ (c : Client S). c.stream) whole.1 ∙ was.1)
