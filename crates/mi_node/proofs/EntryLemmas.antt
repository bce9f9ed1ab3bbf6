-- What a call on a pool gives of the parts of each entry, for a caller's proofs.
--     ref-.., value-.., link-.., slots-..      the reference, the value and the links of
--     each name, and the number of slots, after `set_link`, `swap_value`, `take` and `give`
--     refs, values, links, slot_counts      these as sets for `grind (arith, refs)`
--     link_here, link_there, link_beside      a link after `set_link` at its own name and slot, at another name, and in another slot
--     name_of_ref, held_of_ref, same_node      the reference of a name has that name, is held, and is the only one held of it
--     held_has, absent_link      a held node has a value; a name of no node has no link
--     held-.., held          a held node stays held after a call, as a set for `grind (arith, held)`
--     apart_of_free   a place that no node has is not the place of a held one
--     last-..         the reference of each name that was given back last, after a call
--     stale           the reference that was given back last isn't held once a node was taken
--     fewer           a pool without one of its nodes has fewer
-- Cited by `slab_entry::is_free`, `KeepingLemmas`, 4 more, `mi_chain`, `mi_index`, `mi_list`, `mi_multi`, `mi_tree` and `test_storage`.
use Rattle.std.proofs.Common.{◌≡◌, ℕ, zero, suc, ◌-◌, ◌<◌, ◌==◌, Bool, true, false, cond, List, [], ◌∷◌, option_map}
use Rattle.std.proofs.Common.{slice_index_or, replicate, Option, Some, None, refl, sym, ap, subst, ◌∙◌, arith, is_some}
use Rattle.std.specs.Ordering.{nat_cmp}
use Rattle.std.specs.Cmp.{nat_cmp_total, unsigned_tied}
use Rattle.std.specs.FinMap.{FinMap, get, len, contains_key, get-insert, get-remove, get-empty, len-remove, empty_of_len}
use Rattle.mi_node.specs.Pool.{Entry, Pooled, node_at, ref_of, value_of, link_of, last_given, IsNotLast, node_count, entry_link, no_link, noted}
use Rattle.mi_node.specs.Pool.{put_link, IsHeld, change, changed, no_nodes, taken, without, with_link, with_value}
use Rattle.mi_node.specs.Refs.{Ref}
use Rattle.mi_node.specs.declared.link.Link.{Link}

pub some_inj : {X : Type 0} (x y : X) → Some x ≡ Some y → x ≡ y
some_inj x y e = cc

pub none_some : {X : Type 0} (x : X) → None ≡ Some x → ⊥
none_some x e = cc

pub same_name : (k q : ℕ) → (k == q) ≡ true → k ≡ q
same_name k q e = grind (arith, e)

pub same_refl : (k : ℕ) → (k == k) ≡ true
same_refl k = grind arith

pub flip : (k q : ℕ) → (k == q) ≡ (q == k)
flip k q = grind arith

index-put : (xs : List Link) (s t : ℕ) (l : Link) → slice_index_or (put_link xs s l) t no_link ≡ cond (s == t) l (slice_index_or xs t no_link)
index-put [] zero zero l = refl
index-put [] zero (suc t) l = grind arith
index-put [] (suc s) zero l = grind arith
index-put [] (suc s) (suc t) l = index-put [] s t l ∙ grind arith
index-put (x ∷ xs) zero zero l = refl
index-put (x ∷ xs) zero (suc t) l = grind arith
index-put (x ∷ xs) (suc s) zero l = grind arith
index-put (x ∷ xs) (suc s) (suc t) l = index-put xs s t l ∙ grind arith

index-replicate : (n t : ℕ) → slice_index_or (replicate n no_link) t no_link ≡ no_link
index-replicate zero t = refl
index-replicate (suc n) zero = refl
index-replicate (suc n) (suc t) = index-replicate n t

module _ (T : Type 0) where
  pub ref-no_nodes : (n q : ℕ) → ref_of {T = T} (no_nodes n) q ≡ None
  unfolding ref_of no_nodes
  ref-no_nodes n q = ap (option_map (node_at {T = T} q)) (get-empty nat_cmp q)

  pub value-no_nodes : (n q : ℕ) → value_of {T = T} (no_nodes n) q ≡ None
  unfolding value_of no_nodes
  value-no_nodes n q = ap (option_map (λ (e : Entry T). e.value)) (get-empty nat_cmp q)

  pub link-no_nodes : (n q t : ℕ) → link_of {T = T} (no_nodes n) q t ≡ no_link
  unfolding link_of no_nodes
  link-no_nodes n q t = ap (λ (o : Option (Entry T)). entry_link o t) (get-empty nat_cmp q)

  pub slots-no_nodes : (n : ℕ) → (no_nodes {T = T} n).slots ≡ n
  unfolding no_nodes
  slots-no_nodes n = refl

module _ {T : Type 0} where
  named_at : (k : ℕ) (o : Option (Entry T)) (r : Ref) → option_map (node_at k) o ≡ Some r → r.name ≡ k
  named_at k None r e = absurd (none_some r e)
  named_at k (Some x) r e = ap (λ (n : Ref). n.name) (some_inj r (node_at k x) (sym e))

  -- the reference of a name has that name
  pub name_of_ref : (m : Pooled T) (k : ℕ) (r : Ref) → ref_of m k ≡ Some r → r.name ≡ k
  unfolding ref_of
  name_of_ref m k r e = named_at k (get m.entries k) r e

  -- and is held
  pub held_of_ref : (m : Pooled T) (k : ℕ) (r : Ref) → ref_of m k ≡ Some r → IsHeld m r
  held_of_ref m k r e = ap (ref_of m) (name_of_ref m k r e) ∙ e

  -- two held references of one name are one
  pub same_node : (m : Pooled T) (r q : Ref) → IsHeld m r → IsHeld m q → r.name ≡ q.name → r ≡ q
  same_node m r q g h e = some_inj r q (sym g ∙ ap (ref_of m) e ∙ h)

  -- the entry of each name, after a change of one
  found : (m : FinMap nat_cmp (Entry T)) (k q : ℕ) (h : Entry T → Entry T) (o : Option (Entry T))
      → get m k ≡ o → get (changed m k h o) q ≡ cond (k == q) (option_map h (get m q)) (get m q)
  found m k q h None e = (elim (k == q) as (λ y. (k == q) ≡ y → get m q ≡ cond y (option_map h (get m q)) (get m q)) [
    | true ↦ λ t. let here = ap (get m) (sym (same_name k q t)) ∙ e in here ∙ ap (option_map h) (sym here)
    | false ↦ λ t. refl
  ]) refl
  found m k q h (Some x) e = get-insert nat_cmp_total m k (h x) q
      ∙ ap (λ y. cond y (Some (h x)) (get m q)) (unsigned_tied q k ∙ flip q k) ∙ (elim (k == q) as (λ y. (k == q) ≡ y
      → cond y (Some (h x)) (get m q) ≡ cond y (option_map h (get m q)) (get m q)) [
        | true ↦ λ t. ap (option_map h) (sym e ∙ ap (get m) (same_name k q t))
        | false ↦ λ t. refl
      ]) refl

  get-change : (m : Pooled T) (k q : ℕ) (h : Entry T → Entry T)
      → get (change m k h).entries q ≡ cond (k == q) (option_map h (get m.entries q)) (get m.entries q)
  unfolding change
  get-change m k q h = found m.entries k q h (get m.entries k) refl

  slots-change : (m : Pooled T) (k : ℕ) (h : Entry T → Entry T) → (change m k h).slots ≡ m.slots
  unfolding change
  slots-change m k h = refl

  kept : {X : Type 0} (f : Entry T → X) (h : Entry T → Entry T) → ((e : Entry T) → f (h e) ≡ f e)
      → (b : Bool) (o : Option (Entry T)) → option_map f (cond b (option_map h o) o) ≡ option_map f o
  kept f h same true None = refl
  kept f h same true (Some e) = ap Some (same e)
  kept f h same false o = refl

  -- after `set_link`
  module _ (m : Pooled T) (k s : ℕ) (l : Link) where
    abbrev puts : Entry T → Entry T
    puts e = record e { links = put_link e.links s l }

    pub slots-with_link : (with_link m k s l).slots ≡ m.slots
    unfolding with_link
    slots-with_link = slots-change m k puts

    pub ref-with_link : (q : ℕ) → ref_of (with_link m k s l) q ≡ ref_of m q
    unfolding ref_of with_link
    ref-with_link q = ap (option_map (node_at q)) (get-change m k q puts) ∙ kept (node_at q) puts (λ e. refl) (k == q) (get m.entries q)

    pub value-with_link : (q : ℕ) → value_of (with_link m k s l) q ≡ value_of m q
    unfolding value_of with_link
    value-with_link q = ap (option_map (λ (e : Entry T). e.value)) (get-change m k q puts) ∙ kept (λ e. e.value) puts (λ e. refl) (k == q) (get m.entries q)

    pub link_there : (q t : ℕ) → (k == q) ≡ false → link_of (with_link m k s l) q t ≡ link_of m q t
    unfolding link_of with_link
    link_there q t e = ap (λ o. entry_link o t) (get-change m k q puts ∙ ap (λ b. cond b (option_map puts (get m.entries q)) (get m.entries q)) e)

    beside_at : (t : ℕ) → (s == t) ≡ false → (b : Bool) (o : Option (Entry T)) → entry_link (cond b (option_map puts o) o) t ≡ entry_link o t
    beside_at t e true None = refl
    beside_at t e true (Some x) = index-put x.links s t l ∙ ap (λ b. cond b l (slice_index_or x.links t no_link)) e
    beside_at t e false o = refl

    pub link_beside : (q t : ℕ) → (s == t) ≡ false → link_of (with_link m k s l) q t ≡ link_of m q t
    unfolding link_of with_link
    link_beside q t e = ap (λ o. entry_link o t) (get-change m k q puts) ∙ beside_at t e (k == q) (get m.entries q)

    links_at : (t : ℕ) (b : Bool) (o : Option (Entry T)) (f : Entry T → Ref) (r : Ref) → option_map f o ≡ Some r
        → entry_link (cond b (option_map puts o) o) t ≡ cond b (cond (s == t) l (entry_link o t)) (entry_link o t)
    links_at t b None f r e = absurd (none_some r e)
    links_at t true (Some x) f r e = index-put x.links s t l
    links_at t false (Some x) f r e = refl

  pub link-with_link : (m : Pooled T) (r : Ref) (s : ℕ) (l : Link) → IsHeld m r → (q t : ℕ)
      → link_of (with_link m r.name s l) q t ≡ cond (r.name == q) (cond (s == t) l (link_of m q t)) (link_of m q t)
  unfolding link_of with_link ref_of
  link-with_link m r s l held q t = ap (λ o. entry_link o t) (get-change m r.name q (puts m r.name s l))
      ∙ (elim (r.name == q) as (λ b. (r.name == q) ≡ b
      → entry_link (cond b (option_map (puts m r.name s l) (get m.entries q)) (get m.entries q)) t
      ≡ cond b (cond (s == t) l (entry_link (get m.entries q) t)) (entry_link (get m.entries q) t)) [
        | true ↦ λ e. links_at m r.name s l t true (get m.entries q) (node_at r.name) r
            (ap (λ z. option_map (node_at r.name) (get m.entries z)) (sym (same_name r.name q e)) ∙ held)
        | false ↦ λ e. refl
      ]) refl

  pub link_here : (m : Pooled T) (r : Ref) (s : ℕ) (l : Link) → IsHeld m r → link_of (with_link m r.name s l) r.name s ≡ l
  link_here m r s l held = link-with_link m r s l held r.name s
      ∙ ap (λ b. cond b (cond (s == s) l (link_of m r.name s)) (link_of m r.name s)) (same_refl r.name) ∙ ap (λ b. cond b l (link_of m r.name s)) (same_refl s)

  -- after `swap_value`
  module _ (m : Pooled T) (k : ℕ) (v : T) where
    abbrev swaps : Entry T → Entry T
    swaps e = record e { value = v }

    pub slots-with_value : (with_value m k v).slots ≡ m.slots
    unfolding with_value
    slots-with_value = slots-change m k swaps

    pub ref-with_value : (q : ℕ) → ref_of (with_value m k v) q ≡ ref_of m q
    unfolding ref_of with_value
    ref-with_value q = ap (option_map (node_at q)) (get-change m k q swaps) ∙ kept (node_at q) swaps (λ e. refl) (k == q) (get m.entries q)

    swapped : (b : Bool) (o : Option (Entry T))
        → option_map (λ (e : Entry T). e.value) (cond b (option_map swaps o) o)
        ≡ cond b (option_map (λ (_ : T). v) (option_map (λ (e : Entry T). e.value) o)) (option_map (λ (e : Entry T). e.value) o)
    swapped true None = refl
    swapped true (Some e) = refl
    swapped false o = refl

    pub value-with_value : (q : ℕ) → value_of (with_value m k v) q ≡ cond (k == q) (option_map (λ (_ : T). v) (value_of m q)) (value_of m q)
    unfolding value_of with_value
    value-with_value q = ap (option_map (λ (e : Entry T). e.value)) (get-change m k q swaps) ∙ swapped (k == q) (get m.entries q)

    same_links : (t : ℕ) (b : Bool) (o : Option (Entry T)) → entry_link (cond b (option_map swaps o) o) t ≡ entry_link o t
    same_links t true None = refl
    same_links t true (Some e) = refl
    same_links t false o = refl

    pub link-with_value : (q t : ℕ) → link_of (with_value m k v) q t ≡ link_of m q t
    unfolding link_of with_value
    link-with_value q t = ap (λ o. entry_link o t) (get-change m k q swaps) ∙ same_links t (k == q) (get m.entries q)

  held_value : (v : T) (o : Option (Entry T)) (r : Ref) → option_map (node_at r.name) o ≡ Some r
      → option_map (λ (_ : T). v) (option_map (λ (e : Entry T). e.value) o) ≡ Some v
  held_value v None r e = absurd (none_some r e)
  held_value v (Some x) r e = refl

  pub value_here : (m : Pooled T) (r : Ref) (v : T) → IsHeld m r → value_of (with_value m r.name v) r.name ≡ Some v
  unfolding ref_of value_of
  value_here m r v held = value-with_value m r.name v r.name
      ∙ ap (λ b. cond b (option_map (λ (_ : T). v) (value_of m r.name)) (value_of m r.name)) (same_refl r.name) ∙ held_value v (get m.entries r.name) r held

  pub value_there : (m : Pooled T) (k : ℕ) (v : T) (q : ℕ) → (k == q) ≡ false → value_of (with_value m k v) q ≡ value_of m q
  value_there m k v q e = value-with_value m k v q ∙ ap (λ b. cond b (option_map (λ (_ : T). v) (value_of m q)) (value_of m q)) e

  -- a name without a reference has no entry
  none_there : (k : ℕ) (o : Option (Entry T)) → option_map (node_at k) o ≡ None → o ≡ None
  none_there k None e = refl
  none_there k (Some x) e = absurd (none_some (node_at k x) (sym e))

  pub absent_get : (m : Pooled T) (k : ℕ) → ref_of m k ≡ None → get m.entries k ≡ None
  unfolding ref_of
  absent_get m k e = none_there k (get m.entries k) e

  pub absent_link : (m : Pooled T) (k t : ℕ) → ref_of m k ≡ None → link_of m k t ≡ no_link
  unfolding link_of
  absent_link m k t e = ap (λ o. entry_link o t) (absent_get m k e)

  some_value : (o : Option (Entry T)) (r : Ref) → option_map (node_at r.name) o ≡ Some r → (v : T) × (option_map (λ (e : Entry T). e.value) o ≡ Some v)
  some_value None r e = absurd (none_some r e)
  some_value (Some x) r e = (x.value, refl)

  -- a held node has a value
  pub held_has : (m : Pooled T) (r : Ref) → IsHeld m r → (v : T) × (value_of m r.name ≡ Some v)
  unfolding ref_of value_of
  held_has m r held = some_value (get m.entries r.name) r held

  of_cond : {X : Type 0} (f : Entry T → X) (b : Bool) (x : Entry T) (o : Option (Entry T))
      → option_map f (cond b (Some x) o) ≡ cond b (Some (f x)) (option_map f o)
  of_cond f true x o = refl
  of_cond f false x o = refl

  of_none : {X : Type 0} (f : Entry T → X) (b : Bool) (o : Option (Entry T)) → option_map f (cond b None o) ≡ cond b None (option_map f o)
  of_none f true o = refl
  of_none f false o = refl

  -- after `take`
  module _ (m : Pooled T) (r : Ref) (v : T) where
    abbrev new_entry : Entry T
    new_entry = record { generation = r.generation; value = v; links = replicate m.slots no_link }

    get-taken : (q : ℕ) → get (taken m r v).entries q ≡ cond (r.name == q) (Some new_entry) (get m.entries q)
    unfolding taken
    get-taken q = get-insert nat_cmp_total m.entries r.name new_entry q
        ∙ ap (λ b. cond b (Some new_entry) (get m.entries q)) (unsigned_tied q r.name ∙ flip q r.name)

    pub slots-taken : (taken m r v).slots ≡ m.slots
    unfolding taken
    slots-taken = refl

    pub ref-taken : (q : ℕ) → ref_of (taken m r v) q ≡ cond (r.name == q) (Some r) (ref_of m q)
    unfolding ref_of
    ref-taken q = ap (option_map (node_at q)) (get-taken q) ∙ of_cond (node_at q) (r.name == q) new_entry (get m.entries q)
        ∙ (elim (r.name == q) as (λ b. (r.name == q) ≡ b
        → cond b (Some (node_at q new_entry)) (option_map (node_at q) (get m.entries q)) ≡ cond b (Some r) (option_map (node_at q) (get m.entries q))) [
          | true ↦ λ e. ap (λ n. Some (node_at n new_entry)) (sym (same_name r.name q e))
          | false ↦ λ e. refl
        ]) refl

    pub held_taken : IsHeld (taken m r v) r
    held_taken = ref-taken r.name ∙ ap (λ b. cond b (Some r) (ref_of m r.name)) (same_refl r.name)

    pub value-taken : (q : ℕ) → value_of (taken m r v) q ≡ cond (r.name == q) (Some v) (value_of m q)
    unfolding value_of
    value-taken q = ap (option_map (λ (e : Entry T). e.value)) (get-taken q) ∙ of_cond (λ e. e.value) (r.name == q) new_entry (get m.entries q)

    fresh_links : (t : ℕ) (b : Bool) (o : Option (Entry T)) → entry_link (cond b (Some new_entry) o) t ≡ cond b no_link (entry_link o t)
    fresh_links t true o = index-replicate m.slots t
    fresh_links t false o = refl

    pub link-taken : (q t : ℕ) → link_of (taken m r v) q t ≡ cond (r.name == q) no_link (link_of m q t)
    unfolding link_of
    link-taken q t = ap (λ o. entry_link o t) (get-taken q) ∙ fresh_links t (r.name == q) (get m.entries q)

  -- after `give`
  module _ (m : Pooled T) (k : ℕ) where
    get-without : (q : ℕ) → get (without m k).entries q ≡ cond (k == q) None (get m.entries q)
    unfolding without
    get-without q = get-remove nat_cmp_total m.entries k q ∙ ap (λ b. cond b None (get m.entries q)) (unsigned_tied q k ∙ flip q k)

    pub slots-without : (without m k).slots ≡ m.slots
    unfolding without
    slots-without = refl

    pub ref-without : (q : ℕ) → ref_of (without m k) q ≡ cond (k == q) None (ref_of m q)
    unfolding ref_of
    ref-without q = ap (option_map (node_at q)) (get-without q) ∙ of_none (node_at q) (k == q) (get m.entries q)

    pub value-without : (q : ℕ) → value_of (without m k) q ≡ cond (k == q) None (value_of m q)
    unfolding value_of
    value-without q = ap (option_map (λ (e : Entry T). e.value)) (get-without q) ∙ of_none (λ e. e.value) (k == q) (get m.entries q)

    no_links : (t : ℕ) (b : Bool) (o : Option (Entry T)) → entry_link (cond b None o) t ≡ cond b no_link (entry_link o t)
    no_links t true o = refl
    no_links t false o = refl

    pub link-without : (q t : ℕ) → link_of (without m k) q t ≡ cond (k == q) no_link (link_of m q t)
    unfolding link_of
    link-without q t = ap (λ o. entry_link o t) (get-without q) ∙ no_links t (k == q) (get m.entries q)

-- what stays held, after each call
module _ {T : Type 0} where
  -- a place that no node has is not the place of a held one
  pub apart_of_free : (m : Pooled T) (r q : Ref) → IsHeld m r → ref_of m q.name ≡ None → (q.name == r.name) ≡ false
  apart_of_free m r q h e = differs (q.name == r.name) refl
    where
      differs : (b : Bool) → (q.name == r.name) ≡ b → (q.name == r.name) ≡ false
      differs true is = absurd (none_some r (sym e ∙ ap (ref_of m) (same_name q.name r.name is) ∙ h))
      differs false is = is

  pub apart_of_free' : (m : Pooled T) (r q : Ref) → IsHeld m r → ref_of m q.name ≡ None → (r.name == q.name) ≡ false
  apart_of_free' m r q h e = flip r.name q.name ∙ apart_of_free m r q h e

  pub held-taken : (m : Pooled T) (r q : Ref) (v : T) → IsHeld m r → ref_of m q.name ≡ None → IsHeld (taken m q v) r
  held-taken m r q v h e = ref-taken m q v r.name ∙ ap (λ b. cond b (Some q) (ref_of m r.name)) (apart_of_free m r q h e) ∙ h

  pub held-without : (m : Pooled T) (r q : Ref) → IsHeld m r → (q.name == r.name) ≡ false → IsHeld (without m q.name) r
  held-without m r q h e = ref-without m q.name r.name ∙ ap (λ b. cond b None (ref_of m r.name)) e ∙ h

  pub held-with_link : (m : Pooled T) (r : Ref) (k s : ℕ) (l : Link) → IsHeld m r → IsHeld (with_link m k s l) r
  held-with_link m r k s l h = ref-with_link m k s l r.name ∙ h

  pub held-with_value : (m : Pooled T) (r : Ref) (k : ℕ) (v : T) → IsHeld m r → IsHeld (with_value m k v) r
  held-with_value m r k v h = ref-with_value m k v r.name ∙ h

-- which references are held, after any calls
pub ruleset refs = (ref-no_nodes, ref-taken, ref-without, ref-with_link, ref-with_value)

-- the same, where names are known by their nodes alone
pub ruleset held = (held_taken, held-taken, held-without, held-with_link, held-with_value, apart_of_free, apart_of_free')

-- the values, the links and the number of slots after any calls
pub ruleset values = (value-no_nodes, value-taken, value-without, value-with_link, value-with_value)

pub ruleset links = (link-no_nodes, link-taken, link-without, link_there, link_beside, link_here, link-with_value)

pub ruleset slot_counts = (slots-no_nodes, slots-taken, slots-without, slots-with_link, slots-with_value)

abbrev named : ℕ → ℕ → Ref
named q b = record { name = q; generation = b }

-- the reference that was given back last
module _ {T : Type 0} where
  pub last-taken : (m : Pooled T) (r : Ref) (v : T) (q : ℕ) → last_given (taken m r v) q ≡ last_given m q
  unfolding last_given taken
  last-taken m r v q = refl

  pub last-with_link : (m : Pooled T) (k s : ℕ) (l : Link) (q : ℕ) → last_given (with_link m k s l) q ≡ last_given m q
  unfolding last_given with_link change
  last-with_link m k s l q = refl

  pub last-with_value : (m : Pooled T) (k : ℕ) (v : T) (q : ℕ) → last_given (with_value m k v) q ≡ last_given m q
  unfolding last_given with_value change
  last-with_value m k v q = refl

  noted_at : (g : FinMap nat_cmp ℕ) (r : Ref) (q : ℕ) (o : Option (Entry T)) → option_map (node_at r.name) o ≡ Some r
      → option_map (named q) (get (noted g r.name o) q) ≡ cond (r.name == q) (Some r) (option_map (named q) (get g q))
  noted_at g r q None e = absurd (none_some r e)
  noted_at g r q (Some x) e =
      let generation : x.generation ≡ r.generation = ap (λ (p : Ref). p.generation) (some_inj (node_at r.name x) r e) in
      ap (option_map (named q)) (get-insert nat_cmp_total g r.name x.generation q
      ∙ ap (λ b. cond b (Some x.generation) (get g q)) (unsigned_tied q r.name ∙ flip q r.name))
      ∙ (elim (r.name == q) as (λ b. (r.name == q) ≡ b
      → option_map (named q) (cond b (Some x.generation) (get g q)) ≡ cond b (Some r) (option_map (named q) (get g q))) [
        | true ↦ λ t. (λ i. Some (named (sym (same_name r.name q t) i) (generation i)))
        | false ↦ λ t. refl
      ]) refl

  pub last-without : (m : Pooled T) (r : Ref) (q : ℕ) → IsHeld m r → last_given (without m r.name) q ≡ cond (r.name == q) (Some r) (last_given m q)
  unfolding last_given without ref_of
  last-without m r q h = noted_at m.last_freed r q (get m.entries r.name) h

  -- a reference was given back, and then a node was taken, maybe at the same place
  pub stale : (m : Pooled T) (r q : Ref) (v : T) → IsHeld m r → IsNotLast (without m r.name) q → IsHeld (taken (without m r.name) q v) r → ⊥
  stale m r q v h other held =
      let n = without m r.name in
      let last : last_given n r.name ≡ Some r = last-without m r r.name h ∙ ap (λ b. cond b (Some r) (last_given m r.name)) (same_refl r.name) in
      let last_freed : ref_of n r.name ≡ None = ref-without m r.name r.name ∙ ap (λ b. cond b None (ref_of m r.name)) (same_refl r.name) in
      let is : cond (q.name == r.name) (Some q) (ref_of n r.name) ≡ Some r = sym (ref-taken n q v r.name) ∙ held in
      differs last last_freed is (q.name == r.name) refl
    where
      differs : last_given (without m r.name) r.name ≡ Some r → ref_of (without m r.name) r.name ≡ None
          → cond (q.name == r.name) (Some q) (ref_of (without m r.name) r.name) ≡ Some r → (b : Bool) → (q.name == r.name) ≡ b → ⊥
      differs last last_freed is true t =
          let one : q ≡ r = some_inj q r (ap (λ b. cond b (Some q) (ref_of (without m r.name) r.name)) (sym t) ∙ is) in
          other (ap (last_given (without m r.name)) (ap (λ (p : Ref). p.name) one) ∙ last ∙ ap Some (sym one))
      differs last last_freed is false t = none_some r (sym last_freed ∙ ap (λ b. cond b (Some q) (ref_of (without m r.name) r.name)) (sym t) ∙ is)

not_none : {X : Type 0} (o : Option X) (b : Bool) → is_some o ≡ b → (r : Ref) (f : X → Ref) → option_map f o ≡ Some r → b ≡ true
not_none None b e r f h = absurd (none_some r h)
not_none (Some x) b e r f h = sym e

positive : (n : ℕ) → (n ≡ 0 → ⊥) → 0 < n
positive zero h = absurd (h refl)
positive (suc n) h = omega arith

less : (n : ℕ) (b : Bool) → b ≡ true → (n ≡ 0 → ⊥) → cond b (n - 1) n < n
less n true e h = let above : 0 < n = positive n h in omega arith
less n false e h = absurd cc

-- a pool without one of its nodes has fewer
pub fewer : {T : Type 0} (m : Pooled T) (r : Ref) → IsHeld m r → node_count (without m r.name) < node_count m
unfolding ref_of node_count without
fewer {T} m r h =
    subst (λ n. n < len m.entries) (sym (len-remove nat_cmp_total m.entries r.name))
    (less (len m.entries) (contains_key m.entries r.name) (not_none (get m.entries r.name) _ refl r (node_at r.name) h)
    (λ z. none_some r (sym (ap (option_map (node_at {T = T} r.name))
    (ap (λ (n : FinMap nat_cmp (Entry T)). get n r.name) (empty_of_len m.entries z) ∙ get-empty nat_cmp r.name))
    ∙ h)))
