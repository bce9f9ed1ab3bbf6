-- A node that keeps its place in a tree as it gets another value: from pool m to n it stays, and in o it has the value and the tag.
--     kept_stands      the tree stands with the same list
--     kept_stamped      the node has the stamp in the end
--     flagged_as, flagged_past      what a flag says, and where there is none
--     retagged_from      the node's links, seen from another pool
-- Cited by `Nodes::rekey`, `Nodes::rekey_back`, `Structures::retag`, `all::+retag_all`, `all::keeps_one` and 2 more.
use Rattle.std.proofs.Common.{◌≡◌, ◌↔◌, ℕ, zero, suc, ◌+◌, ◌<◌, ◌≤◌, ◌==◌, Bool, true, false, cond, List, [], ◌∷◌, ◌++◌, length, replicate, set}
use Rattle.std.proofs.Common.{Option, Some, None, option_map, IsTrue, refl, sym, ap, ◌∙◌, subst, arith}
use Rattle.std.specs.Cmp.Lexicographic.{pointwise}
use Rattle.std.proofs.Math.Bool.{beq}
use Rattle.std.proofs.lemmas.Bool.{false≢true}
use Rattle.std.proofs.lemmas.List.{get_or-set_same, get_or-set_other, get_or_past}
use Rattle.std.specs.declared.cmp.Ordering.{Ordering}
use Rattle.mi_node.specs.Pool.{Pooled, value_of, link_of}
use Rattle.mi_node.specs.Refs.{Ref}
use Rattle.mi_node.specs.declared.link.Link.{Link}
use Rattle.mi_tree.specs.Sorted.{AllAre, compared, by_stamp}
use Rattle.mi_tree.specs.Keeping.{side_of_item, KeepsPlace}
use Rattle.mi_tree.specs.declared.tree.Tree.{Tree}
use Rattle.mi_tree.proofs.RetagLemmas.{tree_kept}
use Rattle.mi_tree.proofs.SortedLemmas.{item_kept}
use Rattle.mi_order.specs.Orders.{stored_order, stored_tag}
use Rattle.mi_order.specs.OrderLaws.{stored_total}
use Rattle.mi_order.specs.declared.stored.Stored.{Stored}
use Rattle.mi_order.specs.declared.orders.ByKey.{ByKey}
use Rattle.mi_index.specs.Standing.{slot_in, Stands, IsLike}
use Rattle.mi_index.specs.Places.{is_given, mark_at, still_marked, still_given, is_moved, stamp_for, IsOneOf, HasStamp}
use Rattle.mi_node.specs.declared.old_place.OldPlace.{OldPlace}
use Rattle.mi_node.proofs.EntryLemmas.{none_some}
use Rattle.mi_index.specs.declared.moved_indexes.MovedIndexes.{MovedIndexes}
use Rattle.mi_index.specs.declared.moved_indexes.MovedIndexes.TheVariants.{All, Marked, Placed}
use Rattle.mi_index.specs.Pass.{Asks, AllStand, AllCan, AreReady}
use Rattle.mi_index.specs.Passes.{IsSame, HasNodeIf}
use Rattle.mi_index.specs.Keeping.{KeepsIts, IsFlagged, own_link, retags, KeepsButLinks, AreRetagged, ArePlaced}
use Rattle.mi_index.specs.declared.structure.Structure.{Structure}
use Rattle.mi_index.specs.declared.structure.Structure.TheVariants.{Sorted}
use Rattle.mi_index.proofs.LikeLemmas.{by_kind}
use Rattle.mi_index.proofs.OtherNodeLemmas.{IsExchanged}

module _ (m n o : Pooled Stored) (r : Ref) (v : Stored) (values : (k : ℕ) → value_of n k ≡ value_of m k) (ex : IsExchanged r v n o) (t : ℕ) where
  sides_kept : (order : Stored → Stored → Ordering) (s : ℕ) (f : Ordering) (rs : List Ref) → ((k : ℕ) → link_of n k s ≡ link_of m k s)
      → AllAre (side_of_item order m s v t) f rs → AllAre (side_of_item order n s v t) f rs
  sides_kept order s f [] links h = tt
  sides_kept order s f (q ∷ rs) links h = (
    ap (compared (by_stamp order) (Some (v, t))) (item_kept m n s q.name (values q.name) (ap (λ (l : Link). l.tag) (links q.name))) ∙ h.0,
    sides_kept order s f rs links h.1,
  )

  place_kept : (a c : Tree ByKey) (xs ys : List Ref) → IsLike (Sorted a) (Sorted c) → ((k : ℕ) → link_of n k a.slot ≡ link_of m k a.slot)
      → KeepsPlace (stored_order a.order.parts) m a.slot v t xs ys → KeepsPlace (stored_order c.order.parts) n c.slot v t xs ys
  place_kept a c xs ys like links h =
      subst (λ (z : ℕ × ByKey). KeepsPlace (stored_order z.1.parts) n z.0 v t xs ys) (λ i. (sym like.0 i, sym like.1 i)) (record {
        below = sides_kept (stored_order a.order.parts) a.slot _ xs links h.below;
        above = sides_kept (stored_order a.order.parts) a.slot _ ys links h.above;
      })

  -- the node's link in the slot of a structure
  abbrev Owns : ℕ → Structure → Type 0
  Owns s y = link_of o r.name s ≡ own_link (Some t) y v (link_of n r.name s)

  kept_tree : (a c : Tree ByKey) (s : ℕ) (rs us : List Ref) → IsLike (Sorted a) (Sorted c) → a.slot ≡ s → Owns s (Sorted c)
      → Stands (Sorted c) n us → KeepsIts (Sorted a) m r v t rs → IsSame (Sorted a) m n rs us → Stands (Sorted c) o us
  kept_tree a c s rs us like slot own h k same =
      let at : us ≡ k.xs ++ r ∷ k.ys = same.list ∙ k.parts in
      subst (Stands (Sorted c) o) (sym at)
      (tree_kept (stored_order c.order.parts) (stored_tag c.order.types c.order.parts) (stored_total c.order.parts) c n o k.xs r k.ys v t
      (subst (Stands (Sorted c) n) at h) (place_kept a c k.xs k.ys like same.links k.keeps) (record {
        refs = ex.refs;
        value = ex.own;
        values = ex.but.values;
        link = subst (λ z. link_of o r.name z ≡ own_link (Some t) (Sorted c) v (link_of n r.name z)) (sym slot ∙ sym like.0) own;
        links = λ q e. ex.but.links q c.slot e;
        slots = ex.but.slots;
      }))

  pub kept_stands : (x y : Structure) (s : ℕ) (rs us : List Ref) → IsLike x y → slot_in x ≡ s → Owns s y
      → Stands y n us → KeepsIts x m r v t rs → IsSame x m n rs us → Stands y o us
  kept_stands x y s rs us =
      by_kind (λ x y. slot_in x ≡ s → Owns s y → Stands y n us → KeepsIts x m r v t rs → IsSame x m n rs us → Stands y o us)
      (λ a c g. kept_tree a c s rs us g) (λ a c g slot own h k same. absurd k.keeps) (λ a c g slot own h k same. absurd k.keeps) x y

  module _ (p : Pooled Stored) where
    tree_stamped : (a c : Tree ByKey) (s : ℕ) (rs us ws : List Ref) → IsLike (Sorted a) (Sorted c) → a.slot ≡ s → Owns s (Sorted c)
        → IsSame (Sorted a) m n rs us → IsSame (Sorted c) o p us ws → HasStamp (Sorted a) m p r t
    tree_stamped a c s rs us ws like slot own same then =
        let links : (k : ℕ) → link_of p k a.slot ≡ link_of o k a.slot = λ k. subst (λ z. link_of p k z ≡ link_of o k z) like.0 (then.links k) in
        let here = subst (λ z. link_of o r.name z ≡ own_link (Some t) (Sorted c) v (link_of n r.name z)) (sym slot) own in (
          ap (λ (l : Link). l.tag.stamp) (links r.name ∙ here),
          λ k e. ap (λ (l : Link). l.tag) (links k ∙ ex.but.links k a.slot e ∙ same.links k),
        )

    pub kept_stamped : (x y : Structure) (s : ℕ) (rs us ws : List Ref) → IsLike x y → slot_in x ≡ s → Owns s y
        → KeepsIts x m r v t rs → IsSame x m n rs us → IsSame y o p us ws → HasStamp x m p r t
    kept_stamped x y s rs us ws =
        by_kind (λ x y. slot_in x ≡ s → Owns s y → KeepsIts x m r v t rs → IsSame x m n rs us → IsSame y o p us ws → HasStamp x m p r t)
        (λ a c g slot own k. tree_stamped a c s rs us ws g slot own) (λ a c g slot own k. absurd k.keeps) (λ a c g slot own k. absurd k.keeps) x y

-- Flags and tags, one structure after another

-- a node that gets a stamp stands there
by_mark : (b : Bool) (t u : ℕ) (r : Ref) (rs : List Ref) → cond b (Some t) None ≡ Some u → HasNodeIf b r rs → IsOneOf r rs
by_mark true t u r rs e h = h
by_mark false t u r rs e h = absurd (none_some u e)

by_place : (g : Option OldPlace) (u : ℕ) (r : Ref) (rs : List Ref) → option_map (λ (p : OldPlace). p.stamp) g ≡ Some u → HasNodeIf (is_given g) r rs → IsOneOf r rs
by_place (Some p) u r rs e h = h
by_place None u r rs e h = absurd (none_some u e)

pub is_there : (moves : MovedIndexes) (s t u : ℕ) (r : Ref) (rs : List Ref) → stamp_for moves s t ≡ Some u → HasNodeIf (is_moved moves s) r rs → IsOneOf r rs
is_there All s t u r rs e h = h
is_there (Marked marks kept) s t u r rs e h = by_mark (still_marked kept.now marks.now s) t u r rs e h
is_there (Placed places kept) s t u r rs e h = by_place (still_given kept.now places.now s) u r rs e h

-- a flag that was set, and those before it
pub flag_here : (kept : List Bool) (s : ℕ) (b : Bool) → s < length kept → mark_at (set kept s b) s ≡ b
flag_here kept s b h = get_or-set_same kept s b false h

pub flag_before : (kept : List Bool) (s k : ℕ) (b : Bool) → k < s → mark_at (set kept s b) k ≡ mark_at kept k
flag_before kept s k b h = get_or-set_other kept s k b false (λ e. omega arith)

pub flag_past : (kept : List Bool) (s : ℕ) → length kept ≤ s → mark_at kept s ≡ false
flag_past kept s h = get_or_past kept s false h

-- a flag says what was found, or there is none for the slot
pub flagged_as : (kept : List Bool) (s : ℕ) (b : Bool) (K : Type 0) → mark_at kept s ≡ b → (IsTrue b ↔ K) → IsFlagged kept s K
flagged_as kept s b K e h = record { sound = λ t. h.0 (sym e ∙ t); full = λ _ k. e ∙ h.1 k }

never : {b : Bool} → b ≡ false → IsTrue b → ⊥
never e t = cc

pub flagged_past : (kept : List Bool) (s : ℕ) (K : Type 0) → length kept ≤ s → IsFlagged kept s K
flagged_past kept s K h = record { sound = λ t. absurd (never (flag_past kept s h) t); full = λ l k. absurd (omega arith) }

module _ (P A : Asks) (x : Structure) (xs : List Structure) (s : ℕ) (m : Pooled Stored) where
  pub flags_both : ((rs : List Ref) → Stands x m rs → P s x m rs → A s x m rs)
      → ((rss : List (List Ref)) → AllStand xs (s + 1) m rss → AllCan P xs (s + 1) m rss → AllCan A xs (s + 1) m rss)
      → (rss : List (List Ref)) → AllStand (x ∷ xs) s m rss → AllCan P (x ∷ xs) s m rss → AllCan A (x ∷ xs) s m rss
  flags_both first rest [] h c = absurd h
  flags_both first rest (rs ∷ rss) h c = (first rs h.1 c.0, rest rss h.2 c.1)

pub rest_ready : (P : Asks) (s : ℕ) (x : Structure) (xs : List Structure) (m : Pooled Stored) → AreReady P s (x ∷ xs) m → AreReady P (s + 1) xs m
rest_ready P s x xs m q = of_rest q.rss q.stand q.can
  where
    of_rest : (rss : List (List Ref)) → AllStand (x ∷ xs) s m rss → AllCan P (x ∷ xs) s m rss → AreReady P (s + 1) xs m
    of_rest [] h c = absurd h
    of_rest (rs ∷ rss) h c = record { rss = rss; stand = h.2; can = c.1 }

pub differs_from : (s k : ℕ) → s + 1 ≤ k → (s == k) ≡ false
differs_from s k h = grind arith

pub placed_still : (xs : List Structure) (s : ℕ) (m n : Pooled Stored) → n.slots ≡ m.slots → ArePlaced xs s m → ArePlaced xs s n
placed_still [] s m n e h = tt
placed_still (x ∷ xs) s m n e h = (h.0, subst (λ z. s < z) (sym e) h.1, placed_still xs (s + 1) m n e h.2)

pub but_none : (m : Pooled Stored) (r : Ref) → KeepsButLinks m m r
but_none m r = record { refs = λ k. refl; values = λ k. refl; slots = refl; links = λ k t e. refl }

pub but_then : (m n o : Pooled Stored) (r : Ref) → KeepsButLinks m n r → KeepsButLinks n o r → KeepsButLinks m o r
but_then m n o r g h = record {
  refs = λ k. h.refs k ∙ g.refs k;
  values = λ k. h.values k ∙ g.values k;
  slots = h.slots ∙ g.slots;
  links = λ k t e. h.links k t e ∙ g.links k t e;
}

-- from a pool in which the links of later slots are the same
pub retagged_from : (stamps : ℕ → Option ℕ) (r : Ref) (v : Stored) (ys : List Structure) (s : ℕ) (n z o : Pooled Stored)
    → ((t : ℕ) → s ≤ t → link_of z r.name t ≡ link_of n r.name t) → AreRetagged stamps r v ys s z o → AreRetagged stamps r v ys s n o
retagged_from stamps r v [] s n z o e h = tt
retagged_from stamps r v (y ∷ ys) s n z o e h =
    (h.0 ∙ ap (own_link (stamps s) y v) (e s (omega arith)), retagged_from stamps r v ys (s + 1) n z o (λ t l. e t (omega arith)) h.1)

-- No flag is set

pub unset : (n : ℕ) (kept : List Bool) → pointwise beq kept (replicate n false) ≡ true → (s : ℕ) → mark_at kept s ≡ false
unset zero [] h s = refl
unset zero (k ∷ kept) h s = absurd (false≢true h)
unset (suc n) [] h s = refl
unset (suc n) (true ∷ kept) h s = absurd (false≢true h)
unset (suc n) (false ∷ kept) h zero = refl
unset (suc n) (false ∷ kept) h (suc s) = unset n kept h s

-- then no link differs
pub none_retagged : (kept : List Bool) → ((s : ℕ) → mark_at kept s ≡ false) → (stamps : ℕ → Option ℕ) (r : Ref) (v : Stored) (xs : List Structure) (s : ℕ) (m : Pooled Stored)
    → AreRetagged (retags kept stamps) r v xs s m m
none_retagged kept none stamps r v [] s m = tt
none_retagged kept none stamps r v (x ∷ xs) s m = (
  sym (ap (λ b. own_link (cond b (stamps s) None) x v (link_of m r.name s)) (none s)),
  none_retagged kept none stamps r v xs (s + 1) m,
)
