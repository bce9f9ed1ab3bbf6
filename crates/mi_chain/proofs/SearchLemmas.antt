-- What the searches in a chain keep, and that they end.
--     Walked      the groups so far were passed
--     Gapped      the nodes so far, from the newest on, have no lower stamp
-- Cited by `look::gap_for`, `look::group_ending`, `look::group_of`, `look::group_of_key`, `CallLemmas` and 2 more.
use Rattle.std.proofs.Common.{◌≡◌, ◌⊎◌, inl, inr, ℕ, zero, suc, ◌+◌, ◌==◌, ◌<◌, ◌≤◌, Bool, true, false, cond, List, [], ◌∷◌}
use Rattle.std.proofs.Common.{◌++◌, length, Option, Some, None, refl, sym, ap, ◌∙◌, subst, append_assoc, arith, length-append}
use Rattle.std.proofs.lemmas.List.{append-nil}
use Rattle.mi_node.specs.Pool.{Pooled, link_of, IsHeld, IsHeldIf, node_count}
use Rattle.mi_node.specs.Neighbours.{IsLinked}
use Rattle.mi_node.specs.Refs.{Ref, first_of, last_of, IsOut, IsApart}
use Rattle.mi_node.proofs.EntryLemmas.{flip, same_refl}
use Rattle.mi_node.proofs.KeepingLemmas.{node_count-least}
use Rattle.mi_node.proofs.NeighbourLemmas.{linked_left, linked_right, linked_held}
use Rattle.mi_node.proofs.RefLemmas.{out_left, apart_across, last_push, are_out_tail, are_out_flip}
use Rattle.mi_chain.specs.Groups.{members, first_in, last_in, AreFull, ArePassed, IsChained, IsChain}
use Rattle.mi_chain.specs.Places.{is_named, Found, AreBelow, AreNotBelow, IsCut, IsGap, forth_of, back_of, prev_in_group}
use Rattle.mi_chain.specs.Moves.{hops, next_group}
use Rattle.mi_chain.proofs.CutLemmas.{list_of, chained_right, chained_held, last_held, some_last, last_out, first_in_out, out_of_ys}

some_is : (x y : Ref) → Some x ≡ Some y → x ≡ y
some_is x y e = cc

-- the groups passed, and those to come
pub record Walked (K : Ref → Bool) (gs : List (List Ref)) (before at : Option Ref) : Type 0 where
  pub xs : List (List Ref)
  pub ys : List (List Ref)
  pub parts : gs ≡ xs ++ ys
  pub passed : ArePassed K xs
  pub before_is : before ≡ last_in None xs
  pub at_is : at ≡ first_in ys None

-- the nodes to come, and those that were passed
pub record Gapped (stamp : Ref → ℕ) (n : ℕ) (g : List Ref) (at next : Option Ref) : Type 0 where
  pub us : List Ref
  pub vs : List Ref
  pub parts : g ≡ us ++ vs
  pub at_is : at ≡ last_of None us
  pub next_is : next ≡ first_of vs None
  pub above : AreNotBelow stamp n vs

-- a stamp that is not above the first one's goes to the front
gap_at_front : (stamp : Ref → ℕ) (n : ℕ) (first : Ref) (g us vs : List Ref) → g ≡ us ++ vs → AreBelow stamp n us → AreNotBelow stamp n vs
    → first_of g None ≡ Some first → n ≤ stamp first → IsGap stamp n g None (Some first)
gap_at_front stamp n first g [] vs q below above e le =
    record { us = []; vs = vs; parts = q; prev_is = refl; next_is = sym e ∙ ap (λ l. first_of l None) q; below = tt; above = above }
gap_at_front stamp n first g (u ∷ us) vs q below above e le =
    let here : Some u ≡ Some first = sym (ap (λ l. first_of l None) q) ∙ e in
    let same : u ≡ first = some_is u first here in
    let less = subst (λ r. stamp r < n) same below.0 in absurd (omega (arith, less, le))

pub gap_front : (stamp : Ref → ℕ) (n : ℕ) (first : Ref) (g : List Ref) → IsCut stamp n g → first_of g None ≡ Some first → n ≤ stamp first
    → IsGap stamp n g None (Some first)
gap_front stamp n first g cut e le = gap_at_front stamp n first g cut.us cut.vs cut.parts cut.below cut.above e le

-- a list that has a last
unpush : (us : List Ref) (z : Ref) → last_of None us ≡ Some z → (ws : List Ref) × (us ≡ ws ++ z ∷ [])
unpush [] z e = absurd (cc)
unpush (u ∷ []) z e = ([], ap (λ w. w ∷ []) (some_is u z e))
unpush (u ∷ v ∷ us) z e = let w = unpush (v ∷ us) z e in (u ∷ w.0, ap (λ l. u ∷ l) w.1)

pub full_right : (xs ys : List (List Ref)) → AreFull (xs ++ ys) → AreFull ys
full_right [] ys h = h
full_right (x ∷ xs) ys h = full_right xs ys h.1

pub full_left : (xs ys : List (List Ref)) → AreFull (xs ++ ys) → AreFull xs
full_left [] ys h = tt
full_left (x ∷ xs) ys h = (h.0, full_left xs ys h.1)

passed_push : (K : Ref → Bool) (xs : List (List Ref)) (g : List Ref) (y : Ref) → ArePassed K xs
    → first_of g None ≡ Some y → K y ≡ false → ArePassed K (xs ++ g ∷ [])
passed_push K [] g y p f n = ((y, f, n), tt)
passed_push K (x ∷ xs) g y p f n = (p.0, passed_push K xs g y p.1 f n)

last_in_push : (b : Option Ref) (xs : List (List Ref)) (g : List Ref) → last_in b (xs ++ g ∷ []) ≡ last_of (last_in b xs) g
last_in_push b [] g = refl
last_in_push b (x ∷ xs) g = last_in_push (last_of b x) xs g

-- a chain that has a first node has a first group, which begins with it
pub begins : (ys : List (List Ref)) (y : Ref) → AreFull ys → first_in ys None ≡ Some y → (ws : List Ref) × (zs : List (List Ref)) × (ys ≡ (y ∷ ws) ∷ zs)
begins [] y full e = absurd (cc)
begins ([] ∷ zs) y full e = absurd (full.0 refl)
begins ((z ∷ ws) ∷ zs) y full e = (ws, zs, ap (λ w. (w ∷ ws) ∷ zs) (some_is z y e))

pub ends_none : (ys : List (List Ref)) → AreFull ys → first_in ys None ≡ None → ys ≡ []
ends_none [] full e = refl
ends_none ([] ∷ zs) full e = absurd (full.0 refl)
ends_none ((z ∷ ws) ∷ zs) full e = absurd (cc)

pub full_length : (gs : List (List Ref)) → AreFull gs → length gs ≤ length (members gs)
full_length [] full = omega arith
full_length ([] ∷ gs) full = absurd (full.0 refl)
full_length ((y ∷ ys) ∷ gs) full = let rest = full_length gs full.1 in omega (arith, length-append ys (members gs))

right_length : (xs ys : List (List Ref)) → length ys ≤ length (xs ++ ys)
right_length xs ys = omega (arith, length-append xs ys)

module _ {T : Type 0} where
  -- what follows the last node
  pub after_last : (m : Pooled T) (s : ℕ) (b : Option Ref) (y : Ref) (ys : List Ref) (f : Option Ref)
      → IsLinked m s b (y ∷ ys) f → forth_of m s (last_of (Some y) ys) ≡ f
  after_last m s b y [] f h = h.2
  after_last m s b y (z ∷ ys) f h = after_last m s (Some y) z ys f h.3

  pub next_group_is : (m : Pooled T) (s : ℕ) (y : Ref) (ys : List Ref) (f : Option Ref) → IsLinked m s (last_of None (y ∷ ys)) (y ∷ ys) f → next_group m s y ≡ f
  next_group_is m s y ys f h = ap (forth_of m s) h.1 ∙ after_last m s (last_of None (y ∷ ys)) y ys f h

  pub hops_groups : (m : Pooled T) (s k : ℕ) (gs : List (List Ref)) → AreFull gs
      → IsChained m s gs None → length gs ≤ k → hops (next_group m s) k (first_in gs None) ≡ length gs
  hops_groups m s zero [] full h le = refl
  hops_groups m s (suc k) [] full h le = refl
  hops_groups m s zero (g ∷ gs) full h le = absurd (omega arith)
  hops_groups m s (suc k) ([] ∷ gs) full h le = absurd (full.0 refl)
  hops_groups m s (suc k) ((y ∷ ys) ∷ gs) full h le = ap (λ o. suc (hops (next_group m s) k o)) (next_group_is m s y ys (first_in gs None) h.0)
      ∙ ap suc (hops_groups m s k gs full.1 h.1 (omega arith))

  module _ (m : Pooled T) (s : ℕ) (head : Option Ref) (gs : List (List Ref)) (h : IsChain m s head gs) (K : Ref → Bool) where
    pub walk_start : Walked K gs None head
    walk_start = record { xs = []; ys = gs; parts = refl; passed = tt; before_is = refl; at_is = h.first_is }

    -- the group that the walk is at
    record Opened (before : Option Ref) (y : Ref) : Type 0 where
      xs : List (List Ref)
      ws : List Ref
      zs : List (List Ref)
      parts : gs ≡ xs ++ (y ∷ ws) ∷ zs
      passed : ArePassed K xs
      before_is : before ≡ last_in None xs
      linked : IsLinked m s (last_of None (y ∷ ws)) (y ∷ ws) (first_in zs None)
      chained : IsChained m s zs None
      full : AreFull zs
      fits : length zs + 1 ≤ node_count m

    opened : (before at : Option Ref) (y : Ref) → Walked K gs before at → at ≡ Some y → Opened before y
    opened before at y w e =
        let full_ys = full_right w.xs w.ys (subst AreFull w.parts h.full) in
        let b = begins w.ys y full_ys (sym w.at_is ∙ e) in
        let parts : gs ≡ w.xs ++ (y ∷ b.0) ∷ b.1 = w.parts ∙ ap (λ z. w.xs ++ z) b.2 in
        let on = chained_right s m w.xs ((y ∷ b.0) ∷ b.1) None (subst (λ z. IsChained m s z None) parts h.chained) in
        let many = right_length w.xs ((y ∷ b.0) ∷ b.1) in
        let all = full_length gs h.full in
        let fit = node_count-least m (members gs) h.apart (chained_held s m gs None h.chained) in
        let same : length gs ≡ length (w.xs ++ (y ∷ b.0) ∷ b.1) = ap length parts in
        record {
          xs = w.xs;
          ws = b.0;
          zs = b.1;
          parts = parts;
          passed = w.passed;
          before_is = w.before_is;
          linked = on.0;
          chained = on.1;
          full = (subst AreFull b.2 full_ys).1;
          fits = omega arith;
        }

    pub walk_held : (before at : Option Ref) (y : Ref) → Walked K gs before at → at ≡ Some y → IsHeld m y × IsHeldIf m (back_of m s y)
    walk_held before at y w e = let o = opened before at y w e in (
      o.linked.0,
      subst (IsHeldIf m) (sym o.linked.1) (last_held s m None (y ∷ o.ws) tt
          (linked_held s m (last_of None (y ∷ o.ws)) (y ∷ o.ws) (first_in o.zs None) o.linked)),
    )

    pub walk_step : (before at : Option Ref) (y : Ref) → Walked K gs before at → at ≡ Some y
        → K y ≡ false → Walked K gs (back_of m s y) (forth_of m s (back_of m s y))
    walk_step before at y w e n = let o = opened before at y w e in record {
      xs = o.xs ++ (y ∷ o.ws) ∷ [];
      ys = o.zs;
      parts = o.parts ∙ sym (append_assoc o.xs ((y ∷ o.ws) ∷ []) o.zs);
      passed = passed_push K o.xs (y ∷ o.ws) y o.passed refl n;
      before_is = o.linked.1 ∙ sym (last_in_push None o.xs (y ∷ o.ws));
      at_is = next_group_is m s y o.ws (first_in o.zs None) o.linked;
    }

    pub walk_found : (before at : Option Ref) (y : Ref) → Walked K gs before at → at ≡ Some y → K y ≡ true → Found K gs before y
    walk_found before at y w e t = let o = opened before at y w e in
        record { xs = o.xs; group = y ∷ o.ws; ys = o.zs; parts = o.parts; passed = o.passed; first_is = refl; of_key = t; before_is = o.before_is }

    pub walk_end : (before at : Option Ref) → Walked K gs before at → at ≡ None → ArePassed K gs
    walk_end before at w e =
        let none = ends_none w.ys (full_right w.xs w.ys (subst AreFull w.parts h.full)) (sym w.at_is ∙ e) in
        subst (ArePassed K) (sym (w.parts ∙ ap (λ z. w.xs ++ z) none ∙ append-nil w.xs)) w.passed

    pub walk_less : (before at : Option Ref) (y : Ref) → Walked K gs before at → at ≡ Some y
        → hops (next_group m s) (node_count m) (forth_of m s (back_of m s y)) < hops (next_group m s) (node_count m) at
    walk_less before at y w e =
        let o = opened before at y w e in let n = node_count m in
        let next : hops (next_group m s) n (next_group m s y) ≡ length o.zs =
        ap (hops (next_group m s) n) (next_group_is m s y o.ws (first_in o.zs None) o.linked)
        ∙ hops_groups m s n o.zs o.full o.chained (let f = o.fits in omega arith) in
        let here : hops (next_group m s) n at ≡ length ((y ∷ o.ws) ∷ o.zs) =
        ap (hops (next_group m s) n) e ∙ hops_groups m s n ((y ∷ o.ws) ∷ o.zs) (λ z. cc, o.full) (o.linked, o.chained) (let f = o.fits in omega arith) in
        omega arith

  -- one step back in the group that begins with first
  abbrev pub step_back : Pooled T → ℕ → Ref → Ref → Option Ref
  step_back m s first r = prev_in_group first r (back_of m s r)

  prev_is : (m : Pooled T) (s : ℕ) (first : Ref) (us : List Ref) (r : Ref) (vs : List Ref) (f : Option Ref)
      → IsLinked m s (last_of None (us ++ r ∷ vs)) (us ++ r ∷ vs) f → IsApart (us ++ r ∷ vs)
      → first_of (us ++ r ∷ vs) None ≡ Some first → step_back m s first r ≡ last_of None us
  prev_is m s first [] r vs f h a e = ap (λ b. cond b None (back_of m s r)) (ap (λ (q : Ref). r.name == q.name) (sym (some_is r first e)) ∙ same_refl r.name)
  prev_is m s first (u ∷ us) r vs f h a e =
      let out : (u.name == r.name) ≡ false = flip u.name r.name ∙ (are_out_tail (u ∷ us) r vs (apart_across (u ∷ us) (r ∷ vs) a)).1.0 in
      let there : (r.name == first.name) ≡ false = ap (λ (q : Ref). r.name == q.name) (sym (some_is u first e)) ∙ flip r.name u.name ∙ out in
      ap (λ b. cond b None (back_of m s r)) there ∙ (linked_right s m (last_of None (u ∷ us ++ r ∷ vs)) (u ∷ us) (r ∷ vs) f h).1

  held_at : (m : Pooled T) (s : ℕ) (first : Ref) (b : Option Ref) (g : List Ref) (f : Option Ref)
      → IsLinked m s b g f → first_of g None ≡ Some first → IsHeld m first
  held_at m s first b [] f h e = absurd (cc)
  held_at m s first b (y ∷ ys) f h e = subst (IsHeld m) (some_is y first e) h.0

  pub back_at : (m : Pooled T) (s : ℕ) (first : Ref) (b : Option Ref) (g : List Ref) (f : Option Ref)
      → IsLinked m s b g f → first_of g None ≡ Some first → back_of m s first ≡ b
  back_at m s first b [] f h e = absurd (cc)
  back_at m s first b (y ∷ ys) f h e = ap (back_of m s) (sym (some_is y first e)) ∙ h.1

  module _ (m : Pooled T) (s : ℕ) (first : Ref) (g : List Ref) (f : Option Ref)
      (h : IsLinked m s (last_of None g) g f) (a : IsApart g) (e : first_of g None ≡ Some first) where
    hops_back : (k : ℕ) (us vs : List Ref) → g ≡ us ++ vs → length us ≤ k → hops (step_back m s first) k (last_of None us) ≡ length us
    hops_back zero [] vs p le = refl
    hops_back zero (u ∷ us) vs p le = absurd (omega arith)
    hops_back (suc k) [] vs p le = refl
    hops_back (suc k) (u ∷ us) vs p le =
        let z = some_last u us in let w = unpush (u ∷ us) z.0 z.1 in
        let q : g ≡ w.0 ++ z.0 ∷ vs = p ∙ ap (λ l. l ++ vs) w.1 ∙ append_assoc w.0 (z.0 ∷ []) vs in
        let back = prev_is m s first w.0 z.0 vs f (subst (λ l. IsLinked m s (last_of None l) l f) q h)
        (subst IsApart q a) (subst (λ l. first_of l None ≡ Some first) q e) in
        let n : length (u ∷ us) ≡ length w.0 + 1 = ap length w.1 ∙ omega (arith, length-append w.0 (z.0 ∷ [])) in
        ap (hops (step_back m s first) (suc k)) z.1 ∙ ap (λ o. suc (hops (step_back m s first) k o)) back
        ∙ ap suc (hops_back k w.0 (z.0 ∷ vs) q (omega arith)) ∙ omega arith

    pub first_is_held : IsHeld m first
    first_is_held = held_at m s first (last_of None g) g f h e

    back_of_first : back_of m s first ≡ last_of None g
    back_of_first = back_at m s first (last_of None g) g f h e

    module _ (stamp : Ref → ℕ) (n : ℕ) where
      pub gap_start : Gapped stamp n g (back_of m s first) None
      gap_start = record { us = g; vs = []; parts = sym (append-nil g); at_is = back_of_first; next_is = refl; above = tt }

      record AtNode (at next : Option Ref) (z : Ref) : Type 0 where
        ws : List Ref
        vs : List Ref
        parts : g ≡ ws ++ z ∷ vs
        was : (us : List Ref) × (us ≡ ws ++ z ∷ []) × (g ≡ us ++ vs) × (at ≡ last_of None us)
        back : step_back m s first z ≡ last_of None ws
        held : IsHeld m z
        fits : length ws + 1 ≤ node_count m
        next_is : next ≡ first_of vs None
        above : AreNotBelow stamp n vs

      at_node : (at next : Option Ref) (z : Ref) → Gapped stamp n g at next → at ≡ Some z → AtNode at next z
      at_node at next z w i =
          let u = unpush w.us z (sym w.at_is ∙ i) in
          let q : g ≡ u.0 ++ z ∷ w.vs = w.parts ∙ ap (λ l. l ++ w.vs) u.1 ∙ append_assoc u.0 (z ∷ []) w.vs in
          let h' = subst (λ l. IsLinked m s (last_of None l) l f) q h in
          let held = linked_held s m (last_of None (u.0 ++ z ∷ w.vs)) (u.0 ++ z ∷ w.vs) f h' in
          let fit = node_count-least m g a (linked_held s m (last_of None g) g f h) in
          let many = length-append u.0 (z ∷ w.vs) in let same : length g ≡ length (u.0 ++ z ∷ w.vs) = ap length q in
          record {
            ws = u.0;
            vs = w.vs;
            parts = q;
            was = (w.us, u.1, w.parts, w.at_is);
            back = prev_is m s first u.0 z w.vs f h' (subst IsApart q a) (subst (λ l. first_of l None ≡ Some first) q e);
            held = (linked_right s m (last_of None (u.0 ++ z ∷ w.vs)) u.0 (z ∷ w.vs) f h').0;
            fits = omega arith;
            next_is = w.next_is;
            above = w.above;
          }

      pub gap_held : (at next : Option Ref) (z : Ref) → Gapped stamp n g at next → at ≡ Some z → IsHeld m z
      gap_held at next z w i = (at_node at next z w i).held

      pub gap_step : (at next : Option Ref) (z : Ref) → Gapped stamp n g at next → at ≡ Some z → n ≤ stamp z → Gapped stamp n g (step_back m s first z) (Some z)
      gap_step at next z w i le =
          let o = at_node at next z w i in record { us = o.ws; vs = z ∷ o.vs; parts = o.parts; at_is = o.back; next_is = refl; above = (le, o.above) }

      pub gap_less : (at next : Option Ref) (z : Ref) → Gapped stamp n g at next → at ≡ Some z
          → hops (step_back m s first) (node_count m) (step_back m s first z) < hops (step_back m s first) (node_count m) at
      gap_less at next z w i =
          let o = at_node at next z w i in let k = node_count m in let fits = o.fits in
          let there : hops (step_back m s first) k (step_back m s first z) ≡ length o.ws =
          ap (hops (step_back m s first) k) o.back ∙ hops_back k o.ws (z ∷ o.vs) o.parts (omega arith) in
          let count : length o.was.0 ≡ length o.ws + 1 = ap length o.was.1 ∙ omega (arith, length-append o.ws (z ∷ [])) in
          let here : hops (step_back m s first) k at ≡ length o.was.0 =
          ap (hops (step_back m s first) k) o.was.3 ∙ hops_back k o.was.0 o.vs o.was.2 (omega arith) in
          omega arith

      pub gap_found : (at next : Option Ref) (z : Ref) → Gapped stamp n g at next → at ≡ Some z → stamp z < n → IsGap stamp n g (Some z) next
      gap_found at next z w i less = record {
        us = w.us;
        vs = w.vs;
        parts = w.parts;
        prev_is = sym i ∙ w.at_is;
        next_is = w.next_is;
        below = less;
        above = w.above;
      }

      pub gap_end : (at next : Option Ref) → Gapped stamp n g at next → at ≡ None → IsGap stamp n g None next
      gap_end at next w i = record { us = w.us; vs = w.vs; parts = w.parts; prev_is = sym i ∙ w.at_is; next_is = w.next_is; below = tt; above = w.above }

is_named_if : (k : ℕ) (o : Option Ref) → IsOut k (list_of o) → is_named k o ≡ false
is_named_if k None h = refl
is_named_if k (Some r) h = h.0

-- what the links of a node in a group say of its neighbours
module _ {T : Type 0} (m : Pooled T) (s : ℕ) (us : List Ref) (r : Ref) (vs : List Ref)
    (hs : List (List Ref)) (full : AreFull hs) (a : IsApart ((us ++ r ∷ vs) ++ members hs))
    (h : IsLinked m s (last_of None (us ++ r ∷ vs)) (us ++ r ∷ vs) (first_in hs None)) (c : IsChained m s hs None) where
  out_of_rest : IsOut r.name (members hs)
  out_of_rest = (are_out_tail (members hs) r vs
      (out_of_ys (members hs) us (r ∷ vs) (are_out_flip (us ++ r ∷ vs) (members hs) (apart_across (us ++ r ∷ vs) (members hs) a)))).1

  after_it : IsLinked m s (last_of (last_of None (us ++ r ∷ vs)) us) (r ∷ vs) (first_in hs None)
  after_it = linked_right s m (last_of None (us ++ r ∷ vs)) us (r ∷ vs) (first_in hs None) h

  pub forth_is : (link_of m r.name s).forth ≡ first_of vs (first_in hs None)
  forth_is = after_it.2

  -- the next node leads back to it, and a node of the next group doesn't
  pub next_leads : (q : Ref) → first_of vs (first_in hs None) ≡ Some q
      → IsHeld m q
      × (((is_named r.name (back_of m s q) ≡ true) × (first_of vs None ≡ Some q)) ⊎ ((is_named r.name (back_of m s q) ≡ false) × (first_of vs None ≡ None)))
  next_leads = leads vs hs full out_of_rest after_it c
    where
      leads : (vs : List Ref) (hs : List (List Ref)) → AreFull hs → IsOut r.name (members hs)
          → IsLinked m s (last_of (last_of None (us ++ r ∷ vs)) us) (r ∷ vs) (first_in hs None) → IsChained m s hs None
          → (q : Ref) → first_of vs (first_in hs None) ≡ Some q
          → IsHeld m q
          × (((is_named r.name (back_of m s q) ≡ true) × (first_of vs None ≡ Some q))
          ⊎ ((is_named r.name (back_of m s q) ≡ false) × (first_of vs None ≡ None)))
      leads (v ∷ vs) hs full o h c q e =
          let same : v ≡ q = some_is v q e in
          (subst (IsHeld m) same h.3.0, inl (ap (λ (z : Ref). is_named r.name (back_of m s z)) (sym same) ∙ ap (is_named r.name) h.3.1 ∙ same_refl r.name, e))
      leads [] [] full o h c q e = absurd cc
      leads [] ([] ∷ hs) full o h c q e = absurd (full.0 refl)
      leads [] ((y ∷ ys) ∷ hs) full o h c q e =
          let same : y ≡ q = some_is y q e in
          let not_it = is_named_if r.name (last_of None (y ∷ ys)) (last_out r.name None (y ∷ ys) tt (out_left r.name (y ∷ ys) (members hs) o)) in
          (subst (IsHeld m) same c.0.0, inr (ap (λ (z : Ref). is_named r.name (back_of m s z)) (sym same) ∙ ap (is_named r.name) c.0.1 ∙ not_it, refl))

  -- the node before leads forth to it, and the last node of the group doesn't
  pub prev_leads : ((is_named r.name (forth_of m s (link_of m r.name s).back) ≡ true) × ((link_of m r.name s).back ≡ last_of None us))
      ⊎ ((is_named r.name (forth_of m s (link_of m r.name s).back) ≡ false) × (last_of None us ≡ None))
  prev_leads = leads us refl
    where
      leads : (ws : List Ref) → us ≡ ws
          → ((is_named r.name (forth_of m s (link_of m r.name s).back) ≡ true) × ((link_of m r.name s).back ≡ last_of None us))
          ⊎ ((is_named r.name (forth_of m s (link_of m r.name s).back) ≡ false) × (last_of None us ≡ None))
      leads [] e =
          let top : (link_of m r.name s).back ≡ last_of (Some r) vs = after_it.1
          ∙ ap (λ ws. last_of (last_of None (us ++ r ∷ vs)) ws) e ∙ last_push None us r vs in
          let next : forth_of m s (last_of (Some r) vs) ≡ first_in hs None = after_last m s _ r vs (first_in hs None) after_it in
          inr (
            ap (λ o. is_named r.name (forth_of m s o)) top ∙ ap (is_named r.name) next
                ∙ is_named_if r.name (first_in hs None) (first_in_out r.name hs out_of_rest),
            ap (last_of None) e,
          )
      leads (w ∷ ws) e =
          let top : (link_of m r.name s).back ≡ last_of None us = after_it.1
          ∙ ap (λ ts. last_of (last_of None (us ++ r ∷ vs)) ts) e ∙ sym (ap (last_of None) e) in
          let left = subst (λ ts. IsLinked m s (last_of None (us ++ r ∷ vs)) ts (Some r)) e
          (linked_left s m (last_of None (us ++ r ∷ vs)) us (r ∷ vs) (first_in hs None) h) in
          let next : forth_of m s (last_of None us) ≡ Some r = ap (λ ts. forth_of m s (last_of None ts)) e ∙ after_last m s _ w ws (Some r) left in
          inl (ap (λ o. is_named r.name (forth_of m s o)) top ∙ ap (is_named r.name) next ∙ same_refl r.name, top)
