-- The rows between two bounds are those from where one bound begins to where the other ends.
-- Cited by `KeyRange::walk_ascending`, `KeyRange::walk_down`, `walk::rows_ahead` and `walk::rows_between`.
use Rattle.std.proofs.Common.{Bor, ◌≡◌, ℕ, ◌+◌, ◌*◌, ◌^◌, ◌<◌, ◌≤◌, zero, suc, min, Bool, true, false, cond, not, ◌&&◌, ◌⊎◌, inl, inr, List, [], ◌∷◌, ◌++◌}
use Rattle.std.proofs.Common.{map, length, take, drop, reverse, get_or, Some, None, refl, ap, sym, ◌∙◌, subst, arith}
use Rattle.std.specs.List.{AllByRecursion, filter, prefix_len, position_or_len, take_while}
use Rattle.std.specs.Ordering.{is_le, is_lt, is_ge, is_gt, ordering_reverse}
use Rattle.std.specs.declared.cmp.Ordering.{Ordering}
use Rattle.std.specs.declared.cmp.Ordering.TheVariants.{Less, Equal, Greater}
use Rattle.std.proofs.lemmas.Bool.{cases_lt, false≢true}
use Rattle.std.proofs.lemmas.List.{length-take, take_all, take-take, take-map, drop-map, map-append, reverse-append}
use Rattle.std.proofs.lemmas.List.Sums.{take_while-cons, prefix_len-le-length, prefix_len_passes, prefix_len_stops}
use Rattle.mi_value.specs.declared.value.Value.{Value}
use Rattle.mi_value.specs.declared.bound.Lower.{Lower}
use Rattle.mi_value.specs.declared.bound.Lower.TheVariants as lower
use Rattle.mi_value.specs.declared.bound.Upper.{Upper}
use Rattle.mi_value.specs.declared.bound.Upper.TheVariants as upper
use Rattle.mi_value.specs.declared.bound.Probe.TheVariants.{Key}
use Rattle.mi_value.specs.declared.compare.KeyPart.{KeyPart}
use Rattle.mi_catalog.specs.Key.{Row, compare_to_row}
use Rattle.mi_model.proofs.SortLaws.{both_ways}
use Rattle.mi_node.specs.Pool.{Pooled, value_of, IsHeld}
use Rattle.mi_node.specs.Refs.{Ref, first_of}
use Rattle.mi_node.specs.Neighbours.{AreHeld}
use Rattle.mi_node.proofs.EntryLemmas.{held_has}
use Rattle.mi_tree.specs.Probed.{past, past_value, is_past_node, AllWhere, IsSteady}
use Rattle.mi_tree.specs.Walking.{IsWalk, beyond_place}
use Rattle.mi_tree.specs.declared.tree.Tree.{Tree}
use Rattle.mi_tree.specs.declared.walk.Direction.{Direction}
use Rattle.mi_tree.specs.declared.walk.Direction.TheVariants.{Ascending, Descending}
use Rattle.mi_tree.specs.declared.walk.Walk.{Walk}
use Rattle.mi_tree.proofs.LookUpLemmas.{steady}
use Rattle.mi_order.specs.Orders.{place_in, stored_order}
use Rattle.mi_order.specs.OrderLaws.{place_later}
use Rattle.mi_order.specs.declared.orders.ByKey.{ByKey}
use Rattle.mi_order.specs.declared.stored.Stored.{Stored}
use Rattle.mi_index.specs.declared.structure.Structure.TheVariants.{Sorted}
use Rattle.mi_index.specs.declared.walk.KeyRange.{KeyRange}
use Rattle.mi_index.specs.Standing.{Stands}
use Rattle.mi_index.specs.Walks.{row_if, shown_row}
use Rattle.mi_index.specs.Ranges.{meets_lower, meets_upper, is_from, is_to, directed, rows_in, rows_begun, stays, stays_in, IsBegun}
use Rattle.mi_index.proofs.OtherNodeLemmas.{nodes_held}
use Rattle.mi_index.proofs.WalkLemmas.{held_place}

-- Lists in which a test holds of all later ones once it holds

module _ {X : Type 0} where
  abbrev pub Stays : (X → Bool) → List X → Type 0
  Stays p [] = Unit {0}
  Stays p (x ∷ xs) = (p x ≡ true → AllByRecursion (λ y. p y ≡ true) xs) × Stays p xs

  all_of : (P : X → Type 0) → ((x : X) → P x) → (xs : List X) → AllByRecursion P xs
  all_of P each [] = tt
  all_of P each (x ∷ xs) = (each x, all_of P each xs)

  all_filter : (P : X → Type 0) (q : X → Bool) (xs : List X) → AllByRecursion P xs → AllByRecursion P (filter q xs)
  all_filter P q [] all = tt
  all_filter P q (x ∷ xs) all = go (q x) (all_filter P q xs all.1)
    where
      go : (b : Bool) → AllByRecursion P (filter q xs) → AllByRecursion P (cond b (x ∷ filter q xs) (filter q xs))
      go true rest = (all.0, rest)
      go false rest = rest

  all_reverse : (P : X → Type 0) (xs : List X) → AllByRecursion P xs → AllByRecursion P (reverse xs)
  all_reverse P [] all = tt
  all_reverse P (x ∷ xs) all = subst (AllByRecursion P) (sym (reverse-append (x ∷ []) xs)) (push (reverse xs) (all_reverse P xs all.1))
    where
      push : (ys : List X) → AllByRecursion P ys → AllByRecursion P (ys ++ x ∷ [])
      push [] h = (all.0, tt)
      push (y ∷ ys) h = (h.0, push ys h.1)

  stays_all : (p : X → Bool) → ((x : X) → p x ≡ true) → (xs : List X) → Stays p xs
  stays_all p each [] = tt
  stays_all p each (x ∷ xs) = ((λ _. all_of (λ y. p y ≡ true) each xs), stays_all p each xs)

  stays_none : (p : X → Bool) → ((x : X) → p x ≡ false) → (xs : List X) → Stays p xs
  stays_none p each [] = tt
  stays_none p each (x ∷ xs) = ((λ e. absurd (false≢true (sym (each x) ∙ e))), stays_none p each xs)

  first_at : (p : X → Bool) → ((x : X) → p x ≡ true) → (xs : List X) → position_or_len p xs ≡ 0
  first_at p each [] = refl
  first_at p each (x ∷ xs) = ap (λ b. cond (not b) (1 + position_or_len p xs) 0) (each x)

  while_all : (p : X → Bool) (xs : List X) → AllByRecursion (λ y. p y ≡ true) xs → take_while p xs ≡ xs
  while_all p [] all = refl
  while_all p (x ∷ xs) all = take_while-cons p x xs ∙ ap (λ b. cond b (x ∷ take_while p xs) []) all.0 ∙ ap (λ zs. x ∷ zs) (while_all p xs all.1)

  while_push : (p : X → Bool) (xs : List X) (x : X) → p x ≡ false → take_while p (xs ++ x ∷ []) ≡ take_while p xs
  while_push p [] x isnt = take_while-cons p x [] ∙ ap (λ b. cond b (x ∷ take_while p []) []) isnt
  while_push p (y ∷ xs) x isnt = take_while-cons p y (xs ++ x ∷ []) ∙ ap (λ zs. cond (p y) (y ∷ zs) []) (while_push p xs x isnt) ∙ sym (take_while-cons p y xs)

  -- the elements that pass both tests, of which p holds to the end and q from the start
  module _ (p q : X → Bool) where
    abbrev both : List X → List X
    both = filter (λ x. p x && q x)

    neither : (xs : List X) → AllByRecursion (λ y. not (q y) ≡ true) xs → both xs ≡ []
    neither [] all = refl
    neither (x ∷ xs) all = ap (λ b. cond b (x ∷ both xs) (both xs)) (no (p x) (q x) all.0) ∙ neither xs all.1
      where
        no : (a b : Bool) → not b ≡ true → (a && b) ≡ false
        no a true e = absurd (cc)
        no true false e = refl
        no false false e = refl

    while_both : (xs : List X) → AllByRecursion (λ y. p y ≡ true) xs → Stays (λ x. not (q x)) xs → take_while q xs ≡ both xs
    while_both [] all to = refl
    while_both (x ∷ xs) all to =
        take_while-cons q x xs
        ∙ both_ways (q x)
        (λ yes.
        ap (λ b. cond b (x ∷ take_while q xs) []) yes ∙ ap (λ zs. x ∷ zs) (while_both xs all.1 to.1)
        ∙ sym (λ i. cond (all.0 i && yes i) (x ∷ both xs) (both xs)))
        (λ isnt. ap (λ b. cond b (x ∷ take_while q xs) []) isnt ∙ sym (neither (x ∷ xs) (ap not isnt, to.0 (ap not isnt))))

    -- up from the first that passes p to the last that passes q
    up : (xs : List X) → Stays p xs → Stays (λ x. not (q x)) xs → take_while q (drop (position_or_len p xs) xs) ≡ both xs
    up [] from to = refl
    up (x ∷ xs) from to =
        let n = position_or_len p xs in
        both_ways (p x)
        (λ yes. ap (λ b. take_while q (drop (cond (not b) (1 + n) 0) (x ∷ xs))) yes ∙ while_both (x ∷ xs) (yes, from.0 yes) to)
        (λ isnt.
        ap (λ b. take_while q (drop (cond (not b) (1 + n) 0) (x ∷ xs))) isnt
        ∙ ap (λ k. take_while q (drop k (x ∷ xs))) (let e : 1 + n ≡ suc n = omega arith in e)
        ∙ up xs from.1 to.1 ∙ sym (ap (λ b. cond (b && q x) (x ∷ both xs) (both xs)) isnt))

    -- and down from that to the first
    down : (xs : List X) → Stays p xs → Stays (λ x. not (q x)) xs → take_while p (reverse (take_while q xs)) ≡ reverse (both xs)
    down [] from to = refl
    down (x ∷ xs) from to =
        both_ways (q x)
        (λ in_. both_ways (p x)
        (λ yes.
        ap (λ zs. take_while p (reverse zs)) (while_both (x ∷ xs) (yes, from.0 yes) to)
        ∙ while_all p (reverse (both (x ∷ xs)))
        (all_reverse (λ y. p y ≡ true) (both (x ∷ xs)) (all_filter (λ y. p y ≡ true) (λ y. p y && q y) (x ∷ xs) (yes, from.0 yes))))
        (λ isnt.
        ap (λ zs. take_while p (reverse zs)) (take_while-cons q x xs ∙ ap (λ b. cond b (x ∷ take_while q xs) []) in_)
        ∙ ap (take_while p) (reverse-append (x ∷ []) (take_while q xs)) ∙ while_push p (reverse (take_while q xs)) x isnt
        ∙ down xs from.1 to.1 ∙ ap reverse (sym (ap (λ b. cond (b && q x) (x ∷ both xs) (both xs)) isnt))))
        (λ out.
        ap (λ zs. take_while p (reverse zs)) (take_while-cons q x xs ∙ ap (λ b. cond b (x ∷ take_while q xs) []) out)
        ∙ sym (ap reverse (neither (x ∷ xs) (ap not out, to.0 (ap not out)))))

  -- what was taken one by one is all that was wanted, at the limit or where the test fails
  pub all_while : (p : X → Bool) (xs : List X) (k limit : ℕ) → k ≤ limit → k ≤ prefix_len p xs → (limit ≤ k) ⊎ (prefix_len p xs ≤ k)
      → take k xs ≡ take limit (take_while p xs)
  all_while p xs k limit le within (inl full) =
      sym (take-take k (prefix_len p xs) xs within) ∙ ap (λ n. take n (take_while p xs)) (let e : k ≡ limit = omega arith in e)
  all_while p xs k limit le within (inr past) =
      let same : k ≡ prefix_len p xs = omega arith in
      let long : length (take_while p xs) ≡ min (prefix_len p xs) (length xs) = length-take (prefix_len p xs) xs in
      ap (λ n. take n xs) same ∙ sym (take_all limit (take_while p xs) (omega arith))

  pub some_while : (p : X → Bool) (xs : List X) (k limit : ℕ) → k ≤ limit → k ≤ prefix_len p xs → k ≤ length (take limit (take_while p xs))
  some_while p xs k limit le within =
      let taken : length (take limit (take_while p xs)) ≡ min limit (length (take_while p xs)) = length-take limit (take_while p xs) in
      let long : length (take_while p xs) ≡ min (prefix_len p xs) (length xs) = length-take (prefix_len p xs) xs in
      let few = prefix_len-le-length p xs in
      omega arith

map_reverse : {X Y : Type 0} (f : X → Y) (xs : List X) → map f (reverse xs) ≡ reverse (map f xs)
map_reverse f [] = refl
map_reverse f (x ∷ xs) =
    ap (map f) (reverse-append (x ∷ []) xs) ∙ map-append f (reverse xs) (x ∷ [])
    ∙ ap (λ ys. ys ++ f x ∷ []) (map_reverse f xs) ∙ sym (reverse-append (f x ∷ []) (map f xs))

between_is : (d : Direction) (p q : Row → Bool) (rows : List Row) → Stays p rows → Stays (λ row. not (q row)) rows
    → take_while (stays d p q) (rows_begun d p q rows) ≡ directed d (filter (λ row. p row && q row) rows)
between_is Ascending p q = up p q
between_is Descending p q = down p q

-- the next row

row_there : (m : Pooled Stored) (us : List Ref) (k : ℕ) (r : Ref) → first_of (drop k us) None ≡ Some r
    → (k < length (map (shown_row m) us)) × ((d : Row) → get_or (map (shown_row m) us) k d ≡ shown_row m r)
row_there m [] zero r e = absurd (cc)
row_there m [] (suc k) r e = absurd (cc)
row_there m (u ∷ us) zero r e = let same : u ≡ r = cc in (omega arith, λ d. ap (shown_row m) same)
row_there m (u ∷ us) (suc k) r e = let rest = row_there m us k r e in (omega (arith, rest.0), rest.1)

module _ (m : Pooled Stored) (us : List Ref) (k : ℕ) (r : Ref) (v : Stored) (is : first_of (drop k us) None ≡ Some r) (has : value_of m r.name ≡ Some v)
    (p : Row → Bool) (within : k ≤ prefix_len p (map (shown_row m) us)) where
  abbrev rows : List Row
  rows = map (shown_row m) us

  abbrev one : Row
  one = (v.id, v.row)

  here : get_or rows k one ≡ one
  here = (row_there m us k r is).1 one ∙ ap row_if has

  -- it is one more, or none is
  pub one_more : p one ≡ true → k + 1 ≤ prefix_len p rows
  one_more passes = elim (cases_lt k (prefix_len p rows)) [
    | inl less ↦ omega (arith, less)
    | inr most ↦
        let same : k ≡ prefix_len p rows = omega arith in
        let stop : p (get_or rows (prefix_len p rows) one) ≡ false = prefix_len_stops p rows one (subst (λ n. n < length rows) same (row_there m us k r is).0) in
        absurd (false≢true (sym stop ∙ ap (λ n. p (get_or rows n one)) (sym same) ∙ ap p here ∙ passes))
  ]

  pub no_more : p one ≡ false → prefix_len p rows ≤ k
  no_more isnt = elim (cases_lt k (prefix_len p rows)) [
    | inl less ↦ absurd (false≢true (sym isnt ∙ ap p (sym here) ∙ prefix_len_passes p rows k one less))
    | inr most ↦ most
  ]

-- where no node is left, no row is
pub none_left : (m : Pooled Stored) (us : List Ref) (k : ℕ) (p : Row → Bool) → first_of (drop k us) None ≡ None → prefix_len p (map (shown_row m) us) ≤ k
none_left m us k p none = let few = prefix_len-le-length p (map (shown_row m) us) in let past : length (map (shown_row m) us) ≤ k = end us k none in omega arith
  where
    end : (us : List Ref) (k : ℕ) → first_of (drop k us) None ≡ None → length (map (shown_row m) us) ≤ k
    end [] k e = omega arith
    end (u ∷ us) zero e = absurd (cc)
    end (u ∷ us) (suc k) e = let rest = end us k e in omega (arith, rest)

-- Bounds, and whether a node is past a key

abbrev pub lower_of : Bool → List Value → Lower
lower_of false key = lower.From key
lower_of true key = lower.Beyond key

abbrev pub upper_of : Bool → List Value → Upper
upper_of false key = upper.Below key
upper_of true key = upper.UpTo key

past_lower : (is_upper : Bool) (ps : List KeyPart) (key : List Value) (row : Row)
    → past is_upper (ordering_reverse (compare_to_row ps key row)) ≡ meets_lower ps (lower_of is_upper key) row
past_lower false ps key row = by (compare_to_row ps key row)
  where
    by : (o : Ordering) → past false (ordering_reverse o) ≡ is_le o
    by Less = refl
    by Equal = refl
    by Greater = refl
past_lower true ps key row = by (compare_to_row ps key row)
  where
    by : (o : Ordering) → past true (ordering_reverse o) ≡ is_lt o
    by Less = refl
    by Equal = refl
    by Greater = refl

past_upper : (is_upper : Bool) (ps : List KeyPart) (key : List Value) (row : Row)
    → past is_upper (ordering_reverse (compare_to_row ps key row)) ≡ not (meets_upper ps (upper_of is_upper key) row)
past_upper false ps key row = by (compare_to_row ps key row)
  where
    by : (o : Ordering) → past false (ordering_reverse o) ≡ not (is_gt o)
    by Less = refl
    by Equal = refl
    by Greater = refl
past_upper true ps key row = by (compare_to_row ps key row)
  where
    by : (o : Ordering) → past true (ordering_reverse o) ≡ not (is_ge o)
    by Less = refl
    by Equal = refl
    by Greater = refl

not_twice : (b : Bool) → not (not b) ≡ b
not_twice true = refl
not_twice false = refl

module _ (t : Tree ByKey) (m : Pooled Stored) (rs : List Ref) (h : Stands (Sorted t) m rs) where
  abbrev ps : List KeyPart
  ps = t.order.parts

  abbrev shown : List Row
  shown = map (shown_row m) rs

  held : AreHeld m rs
  held = nodes_held (Sorted t) m rs h

  abbrev node_past : Bool → Bor (List Value) → Ref → Bool
  node_past is_upper k = is_past_node is_upper (λ v. place_in ps v (Key k)) m

  -- a test of nodes is one of their rows
  abbrev AreSame : (Ref → Bool) → (Row → Bool) → Type 0
  AreSame f g = (r : Ref) → IsHeld m r → f r ≡ g (shown_row m r)

  one_past : (is_upper : Bool) (k : Bor (List Value)) → AreSame (node_past is_upper k) (λ row. past is_upper (ordering_reverse (compare_to_row ps k.now row)))
  unfolding is_past_node
  one_past is_upper k r there =
      let v = held_has m r there in
      ap (past_value is_upper (λ v. place_in ps v (Key k))) v.1
      ∙ sym (ap (λ o. past is_upper (ordering_reverse (compare_to_row ps k.now (row_if o)))) v.1)

  prefix_rows : (f : Ref → Bool) (g : Row → Bool) → AreSame f g → (us : List Ref) → AreHeld m us → prefix_len f us ≡ prefix_len g (map (shown_row m) us)
  prefix_rows f g same [] there = refl
  prefix_rows f g same (u ∷ us) there = (λ i. cond (same u there.0 i) (1 + prefix_rows f g same us there.1 i) 0)

  stays_rows : (f : Ref → Bool) (g : Row → Bool) → AreSame f g → (us : List Ref) → AreHeld m us → IsSteady f us → Stays g (map (shown_row m) us)
  stays_rows f g same [] there st = tt
  stays_rows f g same (u ∷ us) there st = ((λ e. all us there.1 (st.0 (same u there.0 ∙ e))), stays_rows f g same us there.1 st.1)
    where
      all : (vs : List Ref) → AreHeld m vs → AllWhere f vs → AllByRecursion (λ row. g row ≡ true) (map (shown_row m) vs)
      all [] k w = tt
      all (v ∷ vs) k w = (sym (same v k.0) ∙ w.0, all vs k.1 w.1)

  stays_past : (is_upper : Bool) (key : List Value) (g : Row → Bool) → ((row : Row) → past is_upper (ordering_reverse (compare_to_row ps key row)) ≡ g row)
      → Stays g shown
  stays_past is_upper key g same =
      let k : Bor (List Value) = record { ref_ptr = (0, 0); now = key } in
      stays_rows (node_past is_upper k) g (λ r there. one_past is_upper k r there ∙ same (shown_row m r)) rs held
      (steady (stored_order ps) (λ v. place_in ps v (Key k)) (place_later ps (Key k)) is_upper m t.slot rs h.rising)

  from_stays : (low : Lower) → Stays (meets_lower ps low) shown
  from_stays lower.All = stays_all (λ _. true) (λ _. refl) shown
  from_stays (lower.From key) = stays_past false key _ (past_lower false ps key)
  from_stays (lower.Beyond key) = stays_past true key _ (past_lower true ps key)

  to_stays : (high : Upper) → Stays (λ row. not (meets_upper ps high row)) shown
  to_stays upper.All = stays_none (λ _. false) (λ _. refl) shown
  to_stays (upper.UpTo key) = stays_past true key _ (past_upper true ps key)
  to_stays (upper.Below key) = stays_past false key _ (past_upper false ps key)

  module _ (g : KeyRange) (w : Walk) (parts : t.order.parts ≡ g.parts.now) where
    -- a walk from the beginning of a range goes along it to its end
    pub range_walked : (b : IsBegun g w m rs) → take_while (stays_in g) (map (shown_row m) b.us) ≡ rows_in g (map (shown_row m) rs)
    range_walked b =
        ap (take_while (stays_in g)) b.rows
        ∙ between_is g.direction (is_from g) (is_to g) shown
        (subst (λ k. Stays (meets_lower k g.lower.now) shown) parts (from_stays g.lower.now))
        (subst (λ k. Stays (λ row. not (meets_upper k g.upper.now row)) shown) parts (to_stays g.upper.now))

    -- a walk from a place on, which is where the range begins

    abbrev Walks : Direction → ℕ → Type 0
    Walks d n = (levels : ℕ) × IsWalk w m levels (beyond_place d n rs) × ((b : ℕ) → length rs < 2 ^ b → levels ≤ 2 * b)

    begun : (d : Direction) (n : ℕ) → g.direction ≡ d → Walks d n
        → map (shown_row m) (beyond_place d n rs) ≡ rows_begun d (is_from g) (is_to g) shown → IsBegun g w m rs
    begun d n towards walked same = record {
      levels = walked.0;
      us = beyond_place d n rs;
      walk = walked.1;
      held = held_place m d n rs held;
      rows = same ∙ sym (ap (λ k. rows_begun k (is_from g) (is_to g) shown) towards);
      low = walked.2;
    }

    pub begun_up : g.direction ≡ Ascending → (is_upper : Bool) (k : Bor (List Value)) → g.lower.now ≡ lower_of is_upper k.now
        → Walks Ascending (position_or_len (node_past is_upper k) rs) → IsBegun g w m rs
    begun_up towards is_upper k bound walked =
        let n = position_or_len (node_past is_upper k) rs in
        begun Ascending n towards walked
        (sym (drop-map (shown_row m) n rs)
        ∙ ap (λ i. drop i shown)
        (prefix_rows (λ r. not (node_past is_upper k r)) (λ row. not (is_from g row))
        (λ r there.
        ap not
        (one_past is_upper k r there ∙ past_lower is_upper ps k.now (shown_row m r)
        ∙ (λ i. meets_lower (parts i) (sym bound i) (shown_row m r))))
        rs held))

    pub begun_down : g.direction ≡ Descending → (is_upper : Bool) (k : Bor (List Value)) → g.upper.now ≡ upper_of is_upper k.now
        → Walks Descending (position_or_len (node_past is_upper k) rs) → IsBegun g w m rs
    begun_down towards is_upper k bound walked =
        let n = position_or_len (node_past is_upper k) rs in
        begun Descending n towards walked
        (map_reverse (shown_row m) (take n rs)
        ∙ ap reverse
        (sym (take-map (shown_row m) n rs)
        ∙ ap (λ i. take i shown)
        (prefix_rows (λ r. not (node_past is_upper k r)) (is_to g)
        (λ r there.
        ap not (one_past is_upper k r there ∙ past_upper is_upper ps k.now (shown_row m r)) ∙ not_twice _
        ∙ (λ i. meets_upper (parts i) (sym bound i) (shown_row m r)))
        rs held)))

    pub begun_first : g.direction ≡ Ascending → g.lower.now ≡ lower.All → Walks Ascending 0 → IsBegun g w m rs
    begun_first towards bound walked =
        begun Ascending 0 towards walked (sym (ap (λ n. drop n shown) (first_at (is_from g) (λ row. ap (λ l. meets_lower g.parts.now l row) bound) shown)))

    pub begun_last : g.direction ≡ Descending → g.upper.now ≡ upper.All → (n : ℕ) → length rs ≤ n → Walks Descending n → IsBegun g w m rs
    begun_last towards bound n long walked =
        begun Descending n towards walked
        (map_reverse (shown_row m) (take n rs)
        ∙ ap (λ k. reverse (map (shown_row m) k)) (take_all n rs long)
        ∙ ap reverse (sym (while_all (is_to g) shown (all_of (λ row. is_to g row ≡ true) (λ row. ap (λ u. meets_upper g.parts.now u row) bound) shown))))
