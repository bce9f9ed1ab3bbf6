-- What putting a node in and taking one out make of the chains as a whole.
-- Cited by `CallLemmas`.
use Rattle.std.proofs.Common.{◌≡◌, ℕ, ◌⊎◌, inl, inr, ◌<◌, ◌%◌, Bool, true, false, List, [], ◌∷◌, ◌++◌}
use Rattle.std.proofs.Common.{length, slice_index_or, Option, Some, None, refl, sym, ap, ◌∙◌, subst}
use Rattle.std.specs.List.{filter}
use Rattle.std.specs.Option.{option_or}
use Rattle.std.proofs.lemmas.List.{append-nil}
use Rattle.std.proofs.lemmas.List.Elements.{filter-append}
use Rattle.mi_node.specs.Pool.{Pooled, link_of, IsHeld, IsHeldIf, Keeps, with_link}
use Rattle.mi_node.specs.Neighbours.{kept_if, IsLinked, joined}
use Rattle.mi_node.proofs.EntryLemmas.{same_node, same_name, same_refl}
use Rattle.mi_node.proofs.NeighbourLemmas.{linked_held}
use Rattle.mi_node.specs.Refs.{Ref, first_of, last_of, IsOut, IsApart}
use Rattle.mi_node.specs.declared.link.Link.{Link}
use Rattle.mi_node.proofs.KeepingLemmas.{keeps_link, keeps_then, keeps_more}
use Rattle.mi_node.proofs.RefLemmas.{out_left, out_right, apart_right, apart_remove}
use Rattle.mi_chain.specs.Groups.{members, unalike, first_in, last_in, AreFull, ArePassed, IsChained, IsGrouped}
use Rattle.mi_chain.specs.Places.{Found, IsFound, is_named, IsGap, IsBelowIf, back_of, forth_of, ends_with}
use Rattle.mi_chain.specs.Heads.{heads_joined}
use Rattle.mi_chain.specs.Chained.{AreAfter, AreBefore, in_bucket, IsBucket, AreBuckets}
use Rattle.mi_chain.proofs.GroupLemmas.{IsAlike, both_empty, filter_with, first_passes, last_passes, not_empty, out_filter}
use Rattle.mi_chain.proofs.GroupLemmas.{grouped_out, group_other, group_gone, group_new, class_found, passed_before, passed_not}
use Rattle.mi_chain.proofs.CutLemmas.{list_of, left_of, right_of, back_between, forth_between, members-append, first_in-append, members_at}
use Rattle.mi_chain.proofs.CutLemmas.{AreParted, parted, parts_of, is_put, is_taken, is_gone, back_of_it, forth_of_it, keeps_joined}
use Rattle.mi_chain.proofs.CutLemmas.{place_out, some_last, some_last_in, chained_right, last_held, last_in_held, first_held}
use Rattle.mi_chain.proofs.SearchLemmas.{after_last, back_at, full_left, full_right, next_leads, prev_leads}
use Rattle.mi_chain.proofs.StandingLemmas.{chain_of, group_found, settled, unsettled, others_same, class_with, class_without}
use Rattle.mi_chain.proofs.StandingLemmas.{other_head, this_head, same_cut, class_below, class_above, class_in}

-- the head of a bucket in which a group has one node more
put_head : (X : List (List Ref)) (us : List Ref) (r : Ref) (vs : List Ref) (Y : List (List Ref)) → AreFull X
    → kept_if (left_of X us) (first_in (X ++ (us ++ vs) ∷ Y) None) (Some r) ≡ first_in (X ++ (us ++ r ∷ vs) ∷ Y) None
put_head [] [] r vs Y full = refl
put_head [] (u ∷ us) r vs Y full = ap (λ o. kept_if o (Some u) (Some r)) (some_last u us).1
put_head ([] ∷ X) us r vs Y full = absurd (full.0 refl)
put_head ((y ∷ ys) ∷ X) us r vs Y full =
    let z = some_last y ys in let w = some_last_in z.0 X in let v = some_last w.0 us in
    ap (λ o. kept_if o (Some y) (Some r)) (ap (λ o. last_of o us) (ap (λ o. last_in o X) z.1 ∙ w.1) ∙ v.1)

-- and one less
take_head : (X : List (List Ref)) (us : List Ref) (r : Ref) (vs : List Ref) (Y : List (List Ref)) → AreFull X
    → kept_if (left_of X us) (first_in (X ++ (us ++ r ∷ vs) ∷ Y) None) (first_of vs (first_in Y None)) ≡ first_in (X ++ (us ++ vs) ∷ Y) None
take_head [] [] r vs Y full = refl
take_head [] (u ∷ us) r vs Y full = ap (λ o. kept_if o (Some u) (first_of vs (first_in Y None))) (some_last u us).1
take_head ([] ∷ X) us r vs Y full = absurd (full.0 refl)
take_head ((y ∷ ys) ∷ X) us r vs Y full =
    let z = some_last y ys in let w = some_last_in z.0 X in let v = some_last w.0 us in
    ap (λ o. kept_if o (Some y) (first_of vs (first_in Y None))) (ap (λ o. last_of o us) (ap (λ o. last_in o X) z.1 ∙ w.1) ∙ v.1)

one_left : (xs ys : List Ref) (r : Ref) → xs ++ ys ≡ [] → xs ++ r ∷ ys ≡ r ∷ []
one_left [] ys r e = ap (λ z. r ∷ z) e
one_left (x ∷ xs) ys r e = absurd (cc)

first_in_held : {T : Type 0} (m : Pooled T) (s : ℕ) (gs : List (List Ref)) → IsChained m s gs None → IsHeldIf m (first_in gs None)
first_in_held m s [] h = tt
first_in_held m s (g ∷ gs) h = first_held s m g (first_in gs None) (first_in_held m s gs h.1) (linked_held s m (last_of None g) g (first_in gs None) h.0)

-- where the neighbours of a stamp lead
or_some : (o p : Option Ref) (z : Ref) → o ≡ Some z → option_or o p ≡ o
or_some None p z e = absurd (cc)
or_some (Some x) p z e = refl

module _ {T : Type 0} (m : Pooled T) (s : ℕ) (first : Ref) (X Y : List (List Ref)) (f : Option Ref) where
  spot_left : (us : List Ref) → option_or (last_of None us) (last_in None X) ≡ left_of X us
  spot_left [] = refl
  spot_left (u ∷ us) = let z = some_last u us in or_some (last_of (Some u) us) (last_in None X) z.0 z.1

  spot_right : (us vs : List Ref) → first_of (us ++ vs) None ≡ Some first → option_or (first_of vs None) (Some first) ≡ right_of us vs
  spot_right us [] e = sym (ap (λ z. first_of z None) (sym (append-nil us)) ∙ e)
  spot_right us (v ∷ vs) e = refl

  spot_back : (us : List Ref) (r : Ref) (vs : List Ref) → first_of (us ++ vs) None ≡ Some first
      → IsLinked m s (last_of None (us ++ vs)) (us ++ vs) f → option_or (last_of None us) (back_of m s first) ≡ last_of (last_of (Some r) vs) us
  spot_back [] r [] e h = absurd (cc)
  spot_back [] r (v ∷ vs) e h = back_at m s first (last_of None (v ∷ vs)) (v ∷ vs) f h e
  spot_back (u ∷ us) r vs e h = let z = some_last u us in or_some (last_of (Some u) us) (back_of m s first) z.0 z.1

  spot_forth : (us vs : List Ref) → first_of (us ++ vs) None ≡ Some first → IsLinked m s (last_of None (us ++ vs)) (us ++ vs) f
      → option_or (first_of vs None) (forth_of m s (last_of None us)) ≡ first_of vs f
  spot_forth [] [] e h = absurd (cc)
  spot_forth (u ∷ us) [] e h =
      let e0 = append-nil (u ∷ us) in after_last m s (last_of None (u ∷ us)) u us f (subst (λ z. IsLinked m s (last_of None z) z f) e0 h)
  spot_forth us (v ∷ vs) e h = refl

decide_empty : (l : List Ref) → (l ≡ []) ⊎ (l ≡ [] → ⊥)
decide_empty [] = inl refl
decide_empty (x ∷ l) = inr (λ e. cc)

module _ (R : Ref → Ref → Bool) (A : IsAlike R) (stamp hash : Ref → ℕ) (H : (a b : Ref) → R a b ≡ true → hash a ≡ hash b) where
  module _ {T : Type 0} (m m2 : Pooled T) (s : ℕ) (heads heads2 : List (Option Ref)) (n : ℕ) (xs : List Ref) (r : Ref) (ys : List Ref) where
    abbrev mine : ℕ
    mine = hash r % n

    abbrev J : Ref → Bool
    J = in_bucket hash n mine

    -- a group has the node too, or is new
    module _ (h : AreBuckets R stamp hash m s heads n (xs ++ ys)) (held : IsHeld m r) (out : IsOut r.name (xs ++ ys))
        (before : AreBefore R stamp r (stamp r) xs) (after : AreAfter R stamp r (stamp r) ys) (lt : mine < n) (fits : mine < length heads) where
      abbrev C : List (List Ref)
      C = (h.each mine lt).groups

      names_out : (k : ℕ) → IsOut k (filter J (xs ++ ys)) → IsOut k (members C)
      names_out k o = let b = h.each mine lt in grouped_out R A k b.groups (filter J (xs ++ ys)) b.grouped o

      put_at : (X : List (List Ref)) (us vs : List Ref) (Y : List (List Ref)) (l : Link) (left right : Option Ref)
          → ((k : ℕ) → IsOut k (filter J (xs ++ ys)) → IsOut k (list_of left) × IsOut k (list_of right))
          → m2 ≡ joined (with_link m r.name s l) s left (Some r) right (Some r) → Keeps m m2 s (r ∷ filter J (xs ++ ys))
      put_at X us vs Y l left right among e =
          subst (λ z. Keeps m z s (r ∷ filter J (xs ++ ys))) (sym e)
          (keeps_then s m (with_link m r.name s l) (joined (with_link m r.name s l) s left (Some r) right (Some r))
          (r ∷ []) (filter J (xs ++ ys)) (r ∷ filter J (xs ++ ys)) (keeps_link s m r l)
          (keeps_joined s (with_link m r.name s l) left (Some r) right (Some r) (filter J (xs ++ ys)) among) (λ k o. ((o.0, tt), o.1)))

      pub put_new : (l : Link) → l.back ≡ Some r → l.forth ≡ slice_index_or heads mine None → ArePassed (R r) C
          → filter (R r) (xs ++ ys) ≡ [] → m2 ≡ joined (with_link m r.name s l) s None (Some r) None (Some r)
          → heads2 ≡ heads_joined None heads mine (Some r) → AreBuckets R stamp hash m2 s heads2 n (xs ++ r ∷ ys) × Keeps m m2 s (r ∷ filter J (xs ++ ys))
      put_new l lb lf passed none e he =
          let b = h.each mine lt in
          let keeps = put_at [] [] [] C l None None (λ k o. (tt, tt)) e in
          let both : (filter (R r) xs ++ filter (R r) ys ≡ []) = sym (filter-append (R r) xs ys) ∙ none in
          let ex : filter (R r) xs ++ r ∷ filter (R r) ys ≡ r ∷ [] = one_left (filter (R r) xs) (filter (R r) ys) r both in
          let now = class_with R A stamp hash H m s heads n m2 heads2 xs r ys ∙ ex in
          let a = parted [] [] [] C (chain_of R A stamp hash H m s heads n (xs ++ ys) h mine lt).apart in
          let o = names_out r.name (out_filter J r.name (xs ++ ys) out) in
          let chain = is_put s m [] [] [] C None r l tt a held tt o (record { left = tt; front = tt; rest = tt; right = b.chained }) lb (lf ∙ b.first_is) in (
            settled R A stamp hash H m s heads n m2 heads2 xs r ys h held out before after keeps
                (λ i d. ap (λ z. slice_index_or z i None) he ∙ other_head None heads mine (Some r) i d)
                (record {
                  groups = (r ∷ []) ∷ C;
                  first_is = ap (λ z. slice_index_or z mine None) he ∙ this_head None heads mine (Some r) fits;
                  chained = subst (λ z. IsChained z s ((r ∷ []) ∷ C) None) (sym e) chain;
                  grouped = group_new R A r C (r ∷ []) (filter J (xs ++ ys)) (filter J (xs ++ r ∷ ys)) b.grouped
                      passed (others_same R A stamp hash H m s heads n m2 heads2 xs r ys) now (not_empty [] r []);
                }),
            keeps,
          )

      pub put_old : (bef : Option Ref) (first : Ref) (f : Found (R r) C bef first) (l : Link) (left right : Option Ref)
          → left ≡ left_of f.xs (filter (R r) xs) → right ≡ right_of (filter (R r) xs) (filter (R r) ys)
          → l.back ≡ back_between (filter (R r) xs) r (filter (R r) ys) → l.forth ≡ forth_between (filter (R r) ys) f.ys
          → m2 ≡ joined (with_link m r.name s l) s left (Some r) right (Some r)
          → heads2 ≡ heads_joined left heads mine (Some r) → AreBuckets R stamp hash m2 s heads2 n (xs ++ r ∷ ys) × Keeps m m2 s (r ∷ filter J (xs ++ ys))
      put_old bef first f l left right el er lb lf e he =
          let b = h.each mine lt in let us = filter (R r) xs in let vs = filter (R r) ys in let X = f.xs in let Y = f.ys in
          let is : f.group ≡ us ++ vs = sym (group_found R A stamp hash H m s heads n (xs ++ ys) h r lt bef first f) ∙ filter-append (R r) xs ys in
          let G : C ≡ X ++ (us ++ vs) ∷ Y = f.parts ∙ ap (λ z. X ++ z ∷ Y) is in
          let chain = chain_of R A stamp hash H m s heads n (xs ++ ys) h mine lt in
          let flat : members C ≡ (members X ++ us) ++ (vs ++ members Y) = ap members G ∙ members_at X us vs Y in
          let a = parted X us vs Y (subst IsApart flat chain.apart) in
          let full = full_left X ((us ++ vs) ∷ Y) (subst AreFull G chain.full) in
          let linked = subst (λ z. IsChained m s z None) G b.chained in
          let o = subst (IsOut r.name) flat (names_out r.name (out_filter J r.name (xs ++ ys) out)) in
          let put = is_put s m X us vs Y (first_of vs (first_in Y None)) r l full a held (out_left r.name (members X ++ us) (vs ++ members Y) o)
          (out_right r.name (members X ++ us) (vs ++ members Y) o) (parts_of s m X us vs Y linked) lb lf in
          let same : m2 ≡ joined (with_link m r.name s l) s (left_of X us) (Some r) (right_of us vs) (Some r) =
          e ∙ (λ i. joined (with_link m r.name s l) s (el i) (Some r) (er i) (Some r)) in
          let among : (k : ℕ) → IsOut k (filter J (xs ++ ys)) → IsOut k (list_of (left_of X us)) × IsOut k (list_of (right_of us vs)) =
          λ k q.
          let p = subst (IsOut k) flat (names_out k q) in
          place_out X us vs k (out_left k (members X ++ us) (vs ++ members Y) p)
          (out_left k vs (members Y) (out_right k (members X ++ us) (vs ++ members Y) p)) in
          let keeps = put_at X us vs Y l (left_of X us) (right_of us vs) among same in
          let g' = us ++ r ∷ vs in
          let top = ap (λ z. slice_index_or z mine None) (he ∙ ap (λ z. heads_joined z heads mine (Some r)) el)
          ∙ this_head (left_of X us) heads mine (Some r) fits
          ∙ ap (λ z. kept_if (left_of X us) z (Some r)) (b.first_is ∙ ap (λ z. first_in z None) G) ∙ put_head X us r vs Y full in (
            settled R A stamp hash H m s heads n m2 heads2 xs r ys h held out before after keeps
                (λ i d. ap (λ z. slice_index_or z i None) he ∙ other_head left heads mine (Some r) i d)
                (record {
                  groups = X ++ g' ∷ Y;
                  first_is = top;
                  chained = subst (λ z. IsChained z s (X ++ g' ∷ Y) None) (sym same) put;
                  grouped = group_other R A r X f.group Y g' (filter J (xs ++ ys)) (filter J (xs ++ r ∷ ys)) first
                      (subst (λ z. IsGrouped R z (filter J (xs ++ ys))) f.parts b.grouped) f.passed f.first_is f.of_key
                      (others_same R A stamp hash H m s heads n m2 heads2 xs r ys)
                      (class_with R A stamp hash H m s heads n m2 heads2 xs r ys) (not_empty us r vs);
                }),
            keeps,
          )

      -- what stands around the place is held
      pub spot_held : (bef : Option Ref) (first : Ref) (f : Found (R r) C bef first)
          → IsHeldIf m (left_of f.xs (filter (R r) xs)) × IsHeldIf m (right_of (filter (R r) xs) (filter (R r) ys))
      spot_held bef first f =
          let b = h.each mine lt in let us = filter (R r) xs in let vs = filter (R r) ys in let X = f.xs in let Y = f.ys in
          let is : f.group ≡ us ++ vs = sym (group_found R A stamp hash H m s heads n (xs ++ ys) h r lt bef first f) ∙ filter-append (R r) xs ys in
          let p = parts_of s m X us vs Y (subst (λ z. IsChained m s z None) (f.parts ∙ ap (λ z. X ++ z ∷ Y) is) b.chained) in
          let u = linked_held s m _ us _ p.front in let v = linked_held s m _ vs _ p.rest in
          (last_held s m (last_in None X) us (last_in_held s m None X _ tt p.left) u, first_held s m vs (first_of us None) (first_held s m us None tt u) v)

      -- the place that a stamp's neighbours tell
      pub gap_spot : (bef : Option Ref) (first : Ref) (f : Found (R r) C bef first) (prev next : Option Ref) → IsGap stamp (stamp r) f.group prev next
          → (option_or prev bef ≡ left_of f.xs (filter (R r) xs)) × (option_or next (Some first) ≡ right_of (filter (R r) xs) (filter (R r) ys))
          × (option_or prev (back_of m s first) ≡ back_between (filter (R r) xs) r (filter (R r) ys))
          × (option_or next (forth_of m s prev) ≡ forth_between (filter (R r) ys) f.ys)
      gap_spot bef first f prev next gap =
          let b = h.each mine lt in let us = filter (R r) xs in let vs = filter (R r) ys in let X = f.xs in let Y = f.ys in
          let all = group_found R A stamp hash H m s heads n (xs ++ ys) h r lt bef first f in
          let cut = same_cut stamp (stamp r) us vs gap.us gap.vs (sym (filter-append (R r) xs ys) ∙ all ∙ gap.parts)
          (class_below R stamp r (stamp r) xs before) (class_above R stamp r (stamp r) ys after)
          (subst (IsBelowIf stamp (stamp r)) gap.prev_is gap.below) gap.above in
          let is : f.group ≡ us ++ vs = sym all ∙ filter-append (R r) xs ys in
          let linked = subst (λ z. IsChained m s z None) (f.parts ∙ ap (λ z. X ++ z ∷ Y) is) b.chained in
          let group = (chained_right s m X ((us ++ vs) ∷ Y) None linked).0 in
          let first_is : first_of (us ++ vs) None ≡ Some first = ap (λ z. first_of z None) (sym is) ∙ f.first_is in
          let ep : prev ≡ last_of None us = gap.prev_is ∙ ap (last_of None) (sym cut.0) in
          let en : next ≡ first_of vs None = gap.next_is ∙ ap (λ z. first_of z None) (sym cut.1) in (
            (λ i. option_or (ep i) (f.before_is i)) ∙ spot_left m s first X Y (first_in Y None) us,
            ap (λ z. option_or z (Some first)) en ∙ spot_right m s first X Y (first_in Y None) us vs first_is,
            ap (λ z. option_or z (back_of m s first)) ep ∙ spot_back m s first X Y (first_in Y None) us r vs first_is group,
            (λ i. option_or (en i) (forth_of m s (ep i))) ∙ spot_forth m s first X Y (first_in Y None) us vs first_is group,
          )

    module _ (h : AreBuckets R stamp hash m s heads n (xs ++ r ∷ ys)) (lt : mine < n) (fits : mine < length heads)
        (bef : Option Ref) (first : Ref) (f : Found (R r) (h.each mine lt).groups bef first) where
      abbrev us : List Ref
      us = filter (R r) xs

      abbrev vs : List Ref
      vs = filter (R r) ys

      abbrev X : List (List Ref)
      X = f.xs

      abbrev Y : List (List Ref)
      Y = f.ys

      group_is : f.group ≡ us ++ r ∷ vs
      group_is = sym (group_found R A stamp hash H m s heads n (xs ++ r ∷ ys) h r lt bef first f) ∙ filter_with (R r) xs r ys (A.reflexive r)

      G : (h.each mine lt).groups ≡ X ++ (us ++ r ∷ vs) ∷ Y
      G = f.parts ∙ ap (λ z. X ++ z ∷ Y) group_is

      flat_apart : IsApart ((members X ++ us) ++ r ∷ (vs ++ members Y))
      flat_apart = subst IsApart (ap members G ∙ members_at X us (r ∷ vs) Y) (chain_of R A stamp hash H m s heads n (xs ++ r ∷ ys) h mine lt).apart

      full : AreFull X
      full = full_left X ((us ++ r ∷ vs) ∷ Y) (subst AreFull G (chain_of R A stamp hash H m s heads n (xs ++ r ∷ ys) h mine lt).full)

      a : AreParted X us vs Y
      a = parted X us vs Y (apart_remove (members X ++ us) r (vs ++ members Y) flat_apart).0

      linked : IsChained m s (X ++ (us ++ r ∷ vs) ∷ Y) None
      linked = let b = h.each mine lt in subst (λ z. IsChained m s z None) G b.chained

      in_group : IsLinked m s (last_of None (us ++ r ∷ vs)) (us ++ r ∷ vs) (first_in Y None)
      in_group = (chained_right s m X ((us ++ r ∷ vs) ∷ Y) None linked).0

      pub link_back : (link_of m r.name s).back ≡ back_between us r vs
      link_back = back_of_it s m X us r vs Y full a linked

      link_forth : (link_of m r.name s).forth ≡ forth_between vs Y
      link_forth = forth_of_it s m X us r vs Y full a linked

      rest_apart : IsApart ((us ++ r ∷ vs) ++ members Y)
      rest_apart = apart_right (members X) ((us ++ r ∷ vs) ++ members Y)
          (subst IsApart (ap members G ∙ members-append X ((us ++ r ∷ vs) ∷ Y)) (chain_of R A stamp hash H m s heads n (xs ++ r ∷ ys) h mine lt).apart)

      rest_full : AreFull Y
      rest_full = (full_right X ((us ++ r ∷ vs) ∷ Y) (subst AreFull G (chain_of R A stamp hash H m s heads n (xs ++ r ∷ ys) h mine lt).full)).1

      rest_chained : IsChained m s Y None
      rest_chained = (chained_right s m X ((us ++ r ∷ vs) ∷ Y) None linked).1

      -- which nodes of its key stand beside it
      pub next_says : (q : Ref) → (link_of m r.name s).forth ≡ Some q
          → IsHeld m q
          × (((is_named r.name (back_of m s q) ≡ true) × (first_of vs None ≡ Some q))
          ⊎ ((is_named r.name (back_of m s q) ≡ false) × (first_of vs None ≡ None)))
      next_says q e = next_leads m s us r vs Y rest_full rest_apart in_group rest_chained q (sym link_forth ∙ e)

      none_next : (ws : List Ref) (o : Option Ref) → first_of ws o ≡ None → first_of ws None ≡ None
      none_next [] o e = refl
      none_next (v ∷ ws) o e = e

      pub none_says : (link_of m r.name s).forth ≡ None → first_of vs None ≡ None
      none_says e = none_next vs (first_in Y None) (sym link_forth ∙ e)

      pub prev_says : ((is_named r.name (forth_of m s (link_of m r.name s).back) ≡ true) × ((link_of m r.name s).back ≡ last_of None us))
          ⊎ ((is_named r.name (forth_of m s (link_of m r.name s).back) ≡ false) × (last_of None us ≡ None))
      prev_says = prev_leads m s us r vs Y rest_full rest_apart in_group rest_chained

      -- what stands around the node is held
      pub ends_held : IsHeldIf m (left_of X us) × IsHeldIf m (right_of us vs)
      ends_held =
          let p = parts_of s m X us (r ∷ vs) Y linked in
          let u = linked_held s m _ us _ p.front in let v = linked_held s m _ vs _ p.rest.3 in
          (last_held s m (last_in None X) us (last_in_held s m None X _ tt p.left) u, first_held s m vs (first_of us None) (first_held s m us None tt u) v)

      pub back_is_held : IsHeldIf m (link_of m r.name s).back
      back_is_held =
          let p = parts_of s m X us (r ∷ vs) Y linked in
          let u = linked_held s m _ us _ p.front in let v = linked_held s m _ vs _ p.rest.3 in
          subst (IsHeldIf m) (sym link_back) (last_held s m (last_of (Some r) vs) us (last_held s m (Some r) vs p.rest.0 v) u)

      module _ (left right : Option Ref) (el : left ≡ left_of X us) (er : right ≡ right_of us vs)
          (e : m2 ≡ joined m s left (link_of m r.name s).forth right (link_of m r.name s).back)
          (he : heads2 ≡ heads_joined left heads mine (link_of m r.name s).forth) where
        same : m2 ≡ joined m s (left_of X us) (first_of vs (first_in Y None)) (right_of us vs) (last_of (last_of (Some r) vs) us)
        same = e ∙ (λ i. joined m s (el i) (link_forth i) (er i) (link_back i))

        top : slice_index_or heads2 mine None ≡ first_in (X ++ (us ++ vs) ∷ Y) None
        top =
            let b = h.each mine lt in
            ap (λ z. slice_index_or z mine None) (he ∙ (λ i. heads_joined (el i) heads mine (link_forth i)))
            ∙ this_head (left_of X us) heads mine (first_of vs (first_in Y None)) fits
            ∙ ap (λ z. kept_if (left_of X us) z (first_of vs (first_in Y None))) (b.first_is ∙ ap (λ z. first_in z None) G) ∙ take_head X us r vs Y full

        keeps_all : ((k : ℕ) → IsOut k (filter J (xs ++ ys)) → IsOut k (members (X ++ (us ++ vs) ∷ Y))) → Keeps m m2 s (filter J (xs ++ ys))
        keeps_all out = subst (λ z. Keeps m z s (filter J (xs ++ ys))) (sym same)
            (keeps_joined s m (left_of X us) (first_of vs (first_in Y None)) (right_of us vs) (last_of (last_of (Some r) vs) us) (filter J (xs ++ ys))
            (λ k o.
            let p = subst (IsOut k) (members_at X us vs Y) (out k o) in
            place_out X us vs k (out_left k (members X ++ us) (vs ++ members Y) p)
            (out_left k vs (members Y) (out_right k (members X ++ us) (vs ++ members Y) p))))

        finish : Keeps m m2 s (filter J (xs ++ ys)) → IsBucket R m2 s (slice_index_or heads2 mine None) (filter J (xs ++ ys))
            → AreBuckets R stamp hash m2 s heads2 n (xs ++ ys) × Keeps m m2 s (filter J (xs ++ ys))
        finish keeps bucket = (
          unsettled R A stamp hash H m s heads n m2 heads2 xs r ys h (keeps_more s m m2 (filter J (xs ++ ys)) (r ∷ filter J (xs ++ ys)) keeps (λ k o. o.1))
              (λ i d. ap (λ z. slice_index_or z i None) he ∙ other_head left heads mine (link_of m r.name s).forth i d) bucket,
          keeps,
        )

        old_grouped : IsGrouped R (X ++ f.group ∷ Y) (filter J (xs ++ r ∷ ys))
        old_grouped = let b = h.each mine lt in subst (λ z. IsGrouped R z (filter J (xs ++ r ∷ ys))) f.parts b.grouped

        take_some : (us ++ vs ≡ [] → ⊥) → AreBuckets R stamp hash m2 s heads2 n (xs ++ ys) × Keeps m m2 s (filter J (xs ++ ys))
        take_some some =
            let grouped = group_other R A r X f.group Y (us ++ vs) (filter J (xs ++ r ∷ ys))
            (filter J (xs ++ ys)) first old_grouped f.passed f.first_is f.of_key
            (sym (others_same R A stamp hash H m s heads n m2 heads2 xs r ys)) (class_without R A stamp hash H m s heads n m2 heads2 xs r ys) some in
            finish (keeps_all (λ k o. grouped_out R A k (X ++ (us ++ vs) ∷ Y) (filter J (xs ++ ys)) grouped o))
            (record {
              groups = X ++ (us ++ vs) ∷ Y;
              first_is = top;
              chained = subst (λ z. IsChained z s (X ++ (us ++ vs) ∷ Y) None) (sym same) (is_taken s m X us r vs Y full a linked);
              grouped = grouped;
            })

        take_last : us ++ vs ≡ [] → AreBuckets R stamp hash m2 s heads2 n (xs ++ ys) × Keeps m m2 s (filter J (xs ++ ys))
        take_last none =
            let grouped = group_gone R A r X f.group Y (filter J (xs ++ r ∷ ys)) (filter J (xs ++ ys)) first old_grouped f.passed f.first_is f.of_key
            (sym (others_same R A stamp hash H m s heads n m2 heads2 xs r ys)) (class_without R A stamp hash H m s heads n m2 heads2 xs r ys ∙ none) in
            let both = both_empty us vs none in
            let flat : members (X ++ (us ++ vs) ∷ Y) ≡ members (X ++ Y) =
            ap (λ z. members (X ++ z ∷ Y)) none ∙ members-append X ([] ∷ Y) ∙ sym (members-append X Y) in
            let ends : first_in (X ++ (us ++ vs) ∷ Y) None ≡ first_in (X ++ Y) None =
            ap (λ z. first_in (X ++ z ∷ Y) None) none ∙ first_in-append X ([] ∷ Y) None ∙ sym (first_in-append X Y None) in
            finish (keeps_all (λ k o. subst (IsOut k) (sym flat) (grouped_out R A k (X ++ Y) (filter J (xs ++ ys)) grouped o)))
            (record {
              groups = X ++ Y;
              first_is = top ∙ ends;
              chained = subst (λ z. IsChained z s (X ++ Y) None) (sym same) (is_gone s m X us r vs Y full a linked both.0 both.1);
              grouped = grouped;
            })

        pub take_old : AreBuckets R stamp hash m2 s heads2 n (xs ++ ys) × Keeps m m2 s (filter J (xs ++ ys))
        take_old = elim (decide_empty (us ++ vs)) [
          | inl e' ↦ take_last e'
          | inr e' ↦ take_some e'
        ]

module _ (R : Ref → Ref → Bool) (A : IsAlike R) (stamp hash : Ref → ℕ) (H : (a b : Ref) → R a b ≡ true → hash a ≡ hash b) where
  module _ {T : Type 0} (m : Pooled T) (s : ℕ) (heads : List (Option Ref)) (n : ℕ) (rs : List Ref)
      (h : AreBuckets R stamp hash m s heads n rs) (r : Ref) (lt : hash r % n < n) where
    abbrev B : List (List Ref)
    B = (h.each (hash r % n) lt).groups

    -- the group of a key that has nodes
    pub some_found : (filter (R r) rs ≡ [] → ⊥) → (bef : Option Ref) × (first : Ref) × Found (R r) B bef first
    some_found some =
        let b = h.each (hash r % n) lt in let I = in_bucket hash n (hash r % n) in
        let f = class_found R A r b.groups (filter I rs) b.grouped (λ z. some (sym (class_in R A stamp hash H m s heads n rs r) ∙ z)) in
        (last_in None f.0, f.3, record { xs = f.0; group = f.1; ys = f.2; parts = f.4; passed = f.5; first_is = f.6; of_key = f.7; before_is = refl })

    last_of_found : (z : Ref) → last_of None (filter (R r) rs) ≡ Some z
        → (bef : Option Ref) (first : Ref) → Found (R r) B bef first → ends_with m s z.name first ≡ true
    last_of_found z e bef first f =
        let chain = chain_of R A stamp hash H m s heads n rs h (hash r % n) lt in
        let on = chained_right s m f.xs (f.group ∷ f.ys) None (subst (λ g. IsChained m s g None) f.parts chain.chained) in
        let all = group_found R A stamp hash H m s heads n rs h r lt bef first f in
        ap (is_named z.name) (back_at m s first (last_of None f.group) f.group (first_in f.ys None) on.0 f.first_is ∙ ap (last_of None) (sym all) ∙ e)
        ∙ same_refl z.name

    -- the group that ends with the last of its key is found
    pub end_found : (z : Ref) → last_of None (filter (R r) rs) ≡ Some z → (before result : Option Ref)
        → IsFound (ends_with m s z.name) B before result → (first : Ref) × (result ≡ Some first) × Found (R r) B before first
    end_found z e before None passed =
        let w = some_found (λ none. no_last (filter (R r) rs) z none e) in
        absurd (passed_not (ends_with m s z.name) B passed w.2.xs w.2.group w.2.ys w.1 w.2.parts w.2.first_is (last_of_found z e w.0 w.1 w.2))
      where
        no_last : (l : List Ref) (z : Ref) → l ≡ [] → last_of None l ≡ Some z → ⊥
        no_last l z none e = let f : None ≡ Some z = sym (ap (last_of None) none) ∙ e in cc
    end_found z e before (Some first) f =
        let chain = chain_of R A stamp hash H m s heads n rs h (hash r % n) lt in
        let b = h.each (hash r % n) lt in let I = in_bucket hash n (hash r % n) in
        let on = chained_right s m f.xs (f.group ∷ f.ys) None (subst (λ g. IsChained m s g None) f.parts chain.chained) in
        let back = back_at m s first (last_of None f.group) f.group (first_in f.ys None) on.0 f.first_is in
        let end = named_some z.name (last_of None f.group) (ap (is_named z.name) (sym back) ∙ f.of_key) in
        let held = linked_held s m _ f.group _ on.0 in
        let w = some_found (λ none. let e0 : None ≡ Some z = sym (ap (last_of None) none) ∙ e in cc) in
        let all = group_found R A stamp hash H m s heads n rs h r lt w.0 w.1 w.2 in
        let on2 = chained_right s m w.2.xs (w.2.group ∷ w.2.ys) None (subst (λ g. IsChained m s g None) w.2.parts chain.chained) in
        let z_held = subst (IsHeldIf m) (ap (last_of None) (sym all) ∙ e) (last_held s m None w.2.group tt (linked_held s m _ w.2.group _ on2.0)) in
        let end_held = subst (IsHeldIf m) end.1 (last_held s m None f.group tt held) in
        let same : end.0 ≡ z = same_node m end.0 z end_held z_held (sym end.2) in
        let grouped = subst (λ g. IsGrouped R g (filter I rs)) f.parts b.grouped in
        let like_z : R r z ≡ true = last_passes (R r) rs z e in
        let first_like : R r first ≡ true = passed_group R A f.xs f.group f.ys (filter I rs) first end.0 grouped f.first_is end.1 (ap (R r) same ∙ like_z) in (
          first,
          refl,
          record {
            xs = f.xs;
            group = f.group;
            ys = f.ys;
            parts = f.parts;
            passed = passed_before R A r f.xs f.group f.ys (filter I rs) first grouped f.first_is first_like;
            first_is = f.first_is;
            of_key = first_like;
            before_is = f.before_is;
          },
        )
      where
        named_some : (k : ℕ) (o : Option Ref) → is_named k o ≡ true → (q : Ref) × (o ≡ Some q) × (k ≡ q.name)
        named_some k None e = absurd cc
        named_some k (Some q) e = (q, refl, same_name k q.name e)

        -- the first of a group is like its last
        passed_group : (R : Ref → Ref → Bool) (A : IsAlike R) (X : List (List Ref)) (g : List Ref) (Y : List (List Ref)) (us : List Ref) (y q : Ref)
            → IsGrouped R (X ++ g ∷ Y) us → first_of g None ≡ Some y → last_of None g ≡ Some q → R r q ≡ true → R r y ≡ true
        passed_group R A [] g Y us y q h f l t =
            let xy = first_passes (R h.0) us g y h.2 f in let xq = last_passes (R h.0) us q (ap (last_of None) h.2 ∙ l) in
            A.transitive r q y t (A.transitive q h.0 y (A.symmetric h.0 q xq) xy)
        passed_group R A (g1 ∷ X) g Y us y q h f l t = passed_group R A X g Y (unalike R h.0 us) y q h.3 f l t
