-- What a step asks and gives is of its own slot alone, and of references and values.
--     Stays P, Before Q, After Q, IsLocal P Q      it isn't touched by a change in another slot
--     .._stays, .._local      so it is of each pass
-- Cited by `all::link_all`, `all::make_room_all`, `all::relink_all`, `all::relocate_all`, `all::unlink_all` and 2 more.
use Rattle.std.proofs.Common.{◌≡◌, ℕ, ◌==◌, Bool, true, false, List, Option, Some, None, sym, ap, ◌∙◌, subst}
use Rattle.std.specs.declared.cmp.Ordering.{Ordering}
use Rattle.std.specs.declared.cmp.Ordering.TheVariants.{Equal}
use Rattle.mi_node.specs.Pool.{Pooled, link_of}
use Rattle.mi_node.specs.Refs.{Ref, first_of, last_of}
use Rattle.std.specs.List.{filter}
use Rattle.mi_node.specs.declared.link.Link.{Link}
use Rattle.mi_tree.specs.Sorted.{NoneAre, compared, by_stamp, stamped, item_of, side_of_new}
use Rattle.mi_chain.specs.Keying.{Keying, same_values, same_nodes, stamp_at}
use Rattle.mi_order.specs.Orders.{stored_order, keying_of}
use Rattle.mi_index.specs.Standing.{slot_in, AllAbove, AllBelow}
use Rattle.mi_index.specs.Places.{is_moved, place_for, before_at, NoneHas, HasPlace, CanJoin, HasStamp, IsBeside, KeepsTags, HasOldPlace}
use Rattle.mi_index.specs.Pass.{Asks, Gives}
use Rattle.mi_index.specs.Passes.{IsSame, CanJoinIf, IsJoinedIf, joining, joined, IsLeftIf, leaving}
use Rattle.mi_index.specs.Passes.{left, CanReturnTo, IsBackAt, returning, returned, nothing_asked, grown}
use Rattle.mi_index.specs.Inserting.{IsRelocatedIf, relocating_at, relocated_at}
use Rattle.mi_order.specs.declared.stored.Stored.{Stored}
use Rattle.mi_node.specs.OldPlace.{own_place}
use Rattle.mi_node.specs.declared.old_place.OldPlace.{OldPlace}
use Rattle.mi_index.specs.declared.moved_indexes.MovedIndexes.{MovedIndexes}
use Rattle.mi_index.specs.declared.structure.Structure.{Structure}
use Rattle.mi_index.specs.declared.structure.Structure.TheVariants.{Sorted, Hashed, Sequenced}
use Rattle.mi_index.proofs.FrameLemmas.{Agree}

abbrev pub Stays : Asks → Type 0
Stays P = (s : ℕ) (x : Structure) (m n : Pooled Stored) (rs : List Ref) → slot_in x ≡ s → Agree (slot_in x) m n → P s x m rs → P s x n rs

-- the pool before is another
abbrev pub Before : Gives → Type 0
Before Q = (s : ℕ) (x : Structure) (l m n : Pooled Stored) (rs us : List Ref) → slot_in x ≡ s → Agree (slot_in x) l m → Q s x m n rs us → Q s x l n rs us

-- the pool after it is
abbrev pub After : Gives → Type 0
After Q = (s : ℕ) (x : Structure) (m n o : Pooled Stored) (rs us : List Ref) → slot_in x ≡ s → Agree (slot_in x) n o → Q s x m n rs us → Q s x m o rs us

-- neither what a step asks nor what it gives is touched
pub record IsLocal (P : Asks) (Q : Gives) : Type 0 where
  pub stays : Stays P
  pub before : Before Q
  pub after : After Q

module _ (s : ℕ) (m n : Pooled Stored) (a : Agree s m n) where
  stamps_same : stamp_at n s ≡ stamp_at m s
  stamps_same = λ i r. (a.links r.name i).tag.stamp

  keys_same : (k : Keying Stored) (r : Ref) → same_nodes k n r ≡ same_nodes k m r
  unfolding same_nodes
  keys_same k r = λ i q. same_values k.same (a.values r.name i) (a.values q.name i)

  sides_same : (order : Stored → Stored → Ordering) (r : Ref) (stamp : ℕ) → side_of_new order n s r stamp ≡ side_of_new order m s r stamp
  unfolding side_of_new item_of
  sides_same order r stamp = λ i q. compared (by_stamp order) (stamped (a.values r.name i) stamp) (stamped (a.values q.name i) (a.links q.name i).tag.stamp)

tag_in : (s : ℕ) (m n : Pooled Stored) → Agree s m n → (k : ℕ) → (link_of n k s).tag ≡ (link_of m k s).tag
tag_in s m n a k = ap (λ (l : Link). l.tag) (a.links k)

-- A node comes in

place_stays : (x : Structure) (m n : Pooled Stored) (r : Ref) (stamp : ℕ) (b : Option Ref) (rs : List Ref)
    → Agree (slot_in x) m n → HasPlace x m r stamp b rs → HasPlace x n r stamp b rs
place_stays (Sorted t) m n r stamp b rs a h = subst (λ f. NoneAre f Equal rs) (sym (sides_same t.slot m n a (stored_order t.order.parts) r stamp)) h
place_stays (Hashed c) m n r stamp b rs a h = subst (λ f. NoneHas f stamp rs) (sym (stamps_same c.slot m n a)) h
place_stays (Sequenced l) m n r stamp b rs a h = h

join_stays : (x : Structure) (m n : Pooled Stored) (r : Ref) (stamp : ℕ) (b : Option Ref) (rs : List Ref)
    → Agree (slot_in x) m n → CanJoin x m r stamp b rs → CanJoin x n r stamp b rs
join_stays x m n r stamp b rs a c = record { held = a.refs r.name ∙ c.held; out = c.out; few = c.few; place = place_stays x m n r stamp b rs a c.place }

join_if_stays : (moves : Bool) (x : Structure) (m n : Pooled Stored) (r : Ref) (stamp : ℕ) (b : Option Ref) (rs : List Ref)
    → Agree (slot_in x) m n → CanJoinIf moves x m r stamp b rs → CanJoinIf moves x n r stamp b rs
join_if_stays true x m n r stamp b rs a c = join_stays x m n r stamp b rs a c
join_if_stays false x m n r stamp b rs a c = tt

joining_stays : (moves : MovedIndexes) (r : Ref) (stamp : ℕ) (b : Option (ℕ × Ref)) → Stays (joining moves r stamp b)
joining_stays moves r stamp b s x m n rs e a c = join_if_stays (is_moved moves s) x m n r stamp (before_at s b) rs a c

stamp_before : (x : Structure) (l m n : Pooled Stored) (r : Ref) (stamp : ℕ) → Agree (slot_in x) l m → HasStamp x m n r stamp → HasStamp x l n r stamp
stamp_before (Sorted t) l m n r stamp a h = (h.0, λ k e. h.1 k e ∙ tag_in t.slot l m a k)
stamp_before (Hashed c) l m n r stamp a h = (h.0, λ k e. h.1 k e ∙ tag_in c.slot l m a k)
stamp_before (Sequenced q) l m n r stamp a h = tt

stamp_after : (x : Structure) (m n o : Pooled Stored) (r : Ref) (stamp : ℕ) → Agree (slot_in x) n o → HasStamp x m n r stamp → HasStamp x m o r stamp
stamp_after (Sorted t) m n o r stamp a h = (ap (λ (l : Link). l.tag.stamp) (a.links r.name) ∙ h.0, λ k e. tag_in t.slot n o a k ∙ h.1 k e)
stamp_after (Hashed c) m n o r stamp a h = (ap (λ (l : Link). l.tag.stamp) (a.links r.name) ∙ h.0, λ k e. tag_in c.slot n o a k ∙ h.1 k e)
stamp_after (Sequenced q) m n o r stamp a h = tt

same_before : (x : Structure) (l m n : Pooled Stored) (rs us : List Ref) → Agree (slot_in x) l m → IsSame x m n rs us → IsSame x l n rs us
same_before x l m n rs us a h = record { list = h.list; links = λ k. h.links k ∙ a.links k }

same_after : (x : Structure) (m n o : Pooled Stored) (rs us : List Ref) → Agree (slot_in x) n o → IsSame x m n rs us → IsSame x m o rs us
same_after x m n o rs us a h = record { list = h.list; links = λ k. a.links k ∙ h.links k }

joined_if_before : (moves : Bool) (x : Structure) (l m n : Pooled Stored) (r : Ref) (stamp : ℕ) (b : Option Ref) (rs us : List Ref)
    → Agree (slot_in x) l m → IsJoinedIf moves x m n r stamp b rs us → IsJoinedIf moves x l n r stamp b rs us
joined_if_before true x l m n r stamp b rs us a h = record { joined = h.joined; put = h.put; stamped = stamp_before x l m n r stamp a h.stamped }
joined_if_before false x l m n r stamp b rs us a h = same_before x l m n rs us a h

joined_if_after : (moves : Bool) (x : Structure) (m n o : Pooled Stored) (r : Ref) (stamp : ℕ) (b : Option Ref) (rs us : List Ref)
    → Agree (slot_in x) n o → IsJoinedIf moves x m n r stamp b rs us → IsJoinedIf moves x m o r stamp b rs us
joined_if_after true x m n o r stamp b rs us a h = record { joined = h.joined; put = h.put; stamped = stamp_after x m n o r stamp a h.stamped }
joined_if_after false x m n o r stamp b rs us a h = same_after x m n o rs us a h

joined_before : (moves : MovedIndexes) (r : Ref) (stamp : ℕ) (b : Option (ℕ × Ref)) → Before (joined moves r stamp b)
joined_before moves r stamp b s x l m n rs us e a h = joined_if_before (is_moved moves s) x l m n r stamp (before_at s b) rs us a h

joined_after : (moves : MovedIndexes) (r : Ref) (stamp : ℕ) (b : Option (ℕ × Ref)) → After (joined moves r stamp b)
joined_after moves r stamp b s x m n o rs us e a h = joined_if_after (is_moved moves s) x m n o r stamp (before_at s b) rs us a h

-- so it is where a node comes in
pub joining_local : (moves : MovedIndexes) (r : Ref) (stamp : ℕ) (b : Option (ℕ × Ref)) → IsLocal (joining moves r stamp b) (joined moves r stamp b)
joining_local moves r stamp b = record { stays = joining_stays moves r stamp b; before = joined_before moves r stamp b; after = joined_after moves r stamp b }

-- A node goes

leaving_stays : (moves : MovedIndexes) (r : Ref) → Stays (leaving moves r)
leaving_stays moves r s x m n rs e a c = c

beside_stays : (x : Structure) (m n : Pooled Stored) (r : Ref) (back forth : Option Ref) (xs ys : List Ref)
    → Agree (slot_in x) m n → IsBeside x m r back forth xs ys → IsBeside x n r back forth xs ys
beside_stays (Sorted t) m n r back forth xs ys a h = tt
beside_stays (Hashed c) m n r back forth xs ys a h =
    let e = keys_same c.slot m n a (keying_of c.keys) r in
    (h.0 ∙ (λ i. last_of None (filter (sym e i) xs)), h.1 ∙ (λ i. first_of (filter (sym e i) ys) None))
beside_stays (Sequenced l) m n r back forth xs ys a h = h

-- and with the neighbours of its own link
own_beside : (x : Structure) (n o : Pooled Stored) (r : Ref) (xs ys : List Ref) → Agree (slot_in x) n o
    → IsBeside x n r (link_of n r.name (slot_in x)).back (link_of n r.name (slot_in x)).forth xs ys
    → IsBeside x o r (link_of o r.name (slot_in x)).back (link_of o r.name (slot_in x)).forth xs ys
own_beside x n o r xs ys a h = subst (λ (l : Link). IsBeside x o r l.back l.forth xs ys) (sym (a.links r.name)) (beside_stays x n o r _ _ xs ys a h)

tags_before : (x : Structure) (l m n : Pooled Stored) → Agree (slot_in x) l m → KeepsTags x m n → KeepsTags x l n
tags_before (Sorted t) l m n a h = λ k. h k ∙ tag_in t.slot l m a k
tags_before (Hashed c) l m n a h = λ k. h k ∙ tag_in c.slot l m a k
tags_before (Sequenced q) l m n a h = tt

tags_after : (x : Structure) (m n o : Pooled Stored) → Agree (slot_in x) n o → KeepsTags x m n → KeepsTags x m o
tags_after (Sorted t) m n o a h = λ k. tag_in t.slot n o a k ∙ h k
tags_after (Hashed c) m n o a h = λ k. tag_in c.slot n o a k ∙ h k
tags_after (Sequenced q) m n o a h = tt

left_if_before : (moves : Bool) (x : Structure) (l m n : Pooled Stored) (r : Ref) (rs us : List Ref)
    → Agree (slot_in x) l m → IsLeftIf moves x m n r rs us → IsLeftIf moves x l n r rs us
left_if_before true x l m n r rs us a h = record { left = h.left; remembers = h.remembers; tags = tags_before x l m n a h.tags }
left_if_before false x l m n r rs us a h = same_before x l m n rs us a h

left_if_after : (moves : Bool) (x : Structure) (m n o : Pooled Stored) (r : Ref) (rs us : List Ref)
    → Agree (slot_in x) n o → IsLeftIf moves x m n r rs us → IsLeftIf moves x m o r rs us
left_if_after true x m n o r rs us a h = record {
  left = h.left;
  remembers = own_beside x n o r h.left.xs h.left.ys a h.remembers;
  tags = tags_after x m n o a h.tags;
}
left_if_after false x m n o r rs us a h = same_after x m n o rs us a h

left_before : (moves : MovedIndexes) (r : Ref) → Before (left moves r)
left_before moves r s x l m n rs us e a h = left_if_before (is_moved moves s) x l m n r rs us a h

left_after : (moves : MovedIndexes) (r : Ref) → After (left moves r)
left_after moves r s x m n o rs us e a h = left_if_after (is_moved moves s) x m n o r rs us a h

-- so it is where a node goes
pub leaving_local : (moves : MovedIndexes) (r : Ref) → IsLocal (leaving moves r) (left moves r)
leaving_local moves r = record { stays = leaving_stays moves r; before = left_before moves r; after = left_after moves r }

-- A node comes back

old_place_stays : (x : Structure) (m n : Pooled Stored) (r : Ref) (p : OldPlace) (rs : List Ref)
    → Agree (slot_in x) m n → HasOldPlace x m r p rs → HasOldPlace x n r p rs
old_place_stays (Sorted t) m n r p rs a h = subst (λ f. NoneAre f Equal rs) (sym (sides_same t.slot m n a (stored_order t.order.parts) r p.stamp)) h
old_place_stays (Hashed c) m n r p rs a h =
    let e = sym (stamps_same c.slot m n a) in
    record {
      xs = h.xs;
      ys = h.ys;
      parts = h.parts;
      below = subst (λ f. AllBelow f p.stamp h.xs) e h.below;
      above = subst (λ f. AllAbove f p.stamp h.ys) e h.above;
      beside = beside_stays (Hashed c) m n r p.back p.forth h.xs h.ys a h.beside;
    }
old_place_stays (Sequenced l) m n r p rs a h = record {
  own = h.own ∙ ap own_place (sym (a.links r.name));
  xs = h.xs;
  ys = h.ys;
  parts = h.parts;
  beside = h.beside;
}

return_stays : (o : Option OldPlace) (x : Structure) (m n : Pooled Stored) (r : Ref) (rs : List Ref)
    → Agree (slot_in x) m n → CanReturnTo o x m r rs → CanReturnTo o x n r rs
return_stays None x m n r rs a c = tt
return_stays (Some p) x m n r rs a c = record { held = a.refs r.name ∙ c.held; out = c.out; few = c.few; place = old_place_stays x m n r p rs a c.place }

link_at : (s : ℕ) (x : Structure) (m n : Pooled Stored) (r : Ref) → slot_in x ≡ s → Agree (slot_in x) m n → link_of n r.name s ≡ link_of m r.name s
link_at s x m n r e a = subst (λ k. link_of n r.name k ≡ link_of m r.name k) e (a.links r.name)

returning_stays : (moves : MovedIndexes) (r : Ref) → Stays (returning moves r)
returning_stays moves r s x m n rs e a c =
    subst (λ l. CanReturnTo (place_for moves s l) x n r rs) (sym (link_at s x m n r e a)) (return_stays (place_for moves s (link_of m r.name s)) x m n r rs a c)

back_before : (o : Option OldPlace) (x : Structure) (l m n : Pooled Stored) (r : Ref) (rs us : List Ref)
    → Agree (slot_in x) l m → IsBackAt o x m n r rs us → IsBackAt o x l n r rs us
back_before None x l m n r rs us a h = same_before x l m n rs us a h
back_before (Some p) x l m n r rs us a h = record {
  back = h.back;
  beside = beside_back x l m r p.back p.forth h.back.xs h.back.ys a h.beside;
  stamped = stamp_before x l m n r p.stamp a h.stamped;
}
  where
    beside_back : (x : Structure) (m n : Pooled Stored) (r : Ref) (back forth : Option Ref) (xs ys : List Ref)
        → Agree (slot_in x) m n → IsBeside x n r back forth xs ys → IsBeside x m r back forth xs ys
    beside_back (Sorted t) m n r back forth xs ys a h = tt
    beside_back (Hashed c) m n r back forth xs ys a h =
        let e = keys_same c.slot m n a (keying_of c.keys) r in
        (h.0 ∙ (λ i. last_of None (filter (e i) xs)), h.1 ∙ (λ i. first_of (filter (e i) ys) None))
    beside_back (Sequenced l) m n r back forth xs ys a h = h

back_after : (o : Option OldPlace) (x : Structure) (m n q : Pooled Stored) (r : Ref) (rs us : List Ref)
    → Agree (slot_in x) n q → IsBackAt o x m n r rs us → IsBackAt o x m q r rs us
back_after None x m n q r rs us a h = same_after x m n q rs us a h
back_after (Some p) x m n q r rs us a h = record { back = h.back; beside = h.beside; stamped = stamp_after x m n q r p.stamp a h.stamped }

returned_before : (moves : MovedIndexes) (r : Ref) → Before (returned moves r)
returned_before moves r s x l m n rs us e a h =
    back_before (place_for moves s (link_of l r.name s)) x l m n r rs us a (subst (λ k. IsBackAt (place_for moves s k) x m n r rs us) (link_at s x l m r e a) h)

returned_after : (moves : MovedIndexes) (r : Ref) → After (returned moves r)
returned_after moves r s x m n o rs us e a h = back_after (place_for moves s (link_of m r.name s)) x m n o r rs us a h

-- so it is where a node comes back
pub returning_local : (moves : MovedIndexes) (r : Ref) → IsLocal (returning moves r) (returned moves r)
returning_local moves r = record { stays = returning_stays moves r; before = returned_before moves r; after = returned_after moves r }

-- Chains grow

nothing_stays : Stays nothing_asked
nothing_stays s x m n rs e a c = tt

grown_before : Before grown
grown_before s x l m n rs us e a h = record { list = h.list; tags = tags_before x l m n a h.tags }

grown_after : After grown
grown_after s x m n o rs us e a h = record { list = h.list; tags = tags_after x m n o a h.tags }

-- so it is where chains grow
pub growing_local : IsLocal nothing_asked grown
growing_local = record { stays = nothing_stays; before = grown_before; after = grown_after }

-- A node moves in one list

relocating_stays : (index : ℕ) (r : Ref) (b : Option Ref) → Stays (relocating_at index r b)
relocating_stays index r b s x m n rs e a c = c

relocated_if_before : (here : Bool) (x : Structure) (l m n : Pooled Stored) (r : Ref) (b : Option Ref) (rs us : List Ref)
    → Agree (slot_in x) l m → IsRelocatedIf here x m n r b rs us → IsRelocatedIf here x l n r b rs us
relocated_if_before true x l m n r b rs us a h = h
relocated_if_before false x l m n r b rs us a h = same_before x l m n rs us a h

relocated_if_after : (here : Bool) (x : Structure) (m n o : Pooled Stored) (r : Ref) (b : Option Ref) (rs us : List Ref)
    → Agree (slot_in x) n o → IsRelocatedIf here x m n r b rs us → IsRelocatedIf here x m o r b rs us
relocated_if_after true x m n o r b rs us a h = h
relocated_if_after false x m n o r b rs us a h = same_after x m n o rs us a h

relocated_before : (index : ℕ) (r : Ref) (b : Option Ref) → Before (relocated_at index r b)
relocated_before index r b s x l m n rs us e a h = relocated_if_before (s == index) x l m n r b rs us a h

relocated_after : (index : ℕ) (r : Ref) (b : Option Ref) → After (relocated_at index r b)
relocated_after index r b s x m n o rs us e a h = relocated_if_after (s == index) x m n o r b rs us a h

-- so it is where a node moves in one list
pub relocating_local : (index : ℕ) (r : Ref) (b : Option Ref) → IsLocal (relocating_at index r b) (relocated_at index r b)
relocating_local index r b = record { stays = relocating_stays index r b; before = relocated_before index r b; after = relocated_after index r b }
