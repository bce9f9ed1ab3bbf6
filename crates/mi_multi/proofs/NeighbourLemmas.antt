-- What a node remembers is what data say that it does.
-- Cited by `EraseLemmas`, `InsertedLemmas`, `LinkLemmas`, `LookUpLemmas`, `NewRecordLemmas` and 7 more.
use Rattle.std.proofs.Common.{◌≡◌, ℕ, Bool, true, false, cond, List, [], ◌∷◌, ◌++◌, map, refl, ap, sym, ◌∙◌, subst}
use Rattle.std.specs.List.{AllByRecursion, filter}
use Rattle.std.specs.Ordering.{nat_cmp, is_eq, ordering_reverse}
use Rattle.std.specs.Cmp.{IsTotalOrder}
use Rattle.std.specs.FinMap.{FinMap, get}
use Rattle.std.specs.declared.cmp.Ordering.{Ordering}
use Rattle.std.specs.declared.cmp.Ordering.TheVariants.{Less, Equal, Greater}
use Rattle.std.specs.declared.option.Option.TheVariants.{None, Some}
use Rattle.mi_value.specs.declared.value.Value.{Value}
use Rattle.mi_value.specs.declared.compare.KeyPart.{KeyPart}
use Rattle.mi_value.specs.Order.{compare_key}
use Rattle.mi_value.proofs.OrderLaws.{compare_key_total}
use Rattle.mi_model.proofs.ViewLaws.{Lacks}
use Rattle.mi_node.specs.Pool.{Pooled, value_of}
use Rattle.mi_node.specs.Refs.{Ref, first_of, last_of}
use Rattle.mi_chain.specs.Keying.{same_nodes, same_values}
use Rattle.mi_order.specs.declared.stored.Stored.{Stored}
use Rattle.mi_index.specs.Orders.{keying_of, has_one_key}
use Rattle.mi_order.specs.declared.orders.ByHash.{ByHash as HashedBy}
use Rattle.mi_container.specs.Data.{Order, node_of, content_of, content_in, ids_by_stamp}
use Rattle.mi_container.specs.Changes.{link_of_id as link_at, group}
use Rattle.mi_container.proofs.SequenceLemmas.{lacks_left}
use Rattle.mi_ids.specs.declared.entry.IdEntry.{IdEntry}
use Rattle.mi_multi.specs.Physical.{stored_id, record_in, node_in}
use Rattle.mi_multi.specs.Multi.{id_at, ids_at, AreLive, HasNode}
use Rattle.mi_multi.proofs.ListLemmas.{itself, IsRow, link_middle, filter_ids}
use Rattle.mi_multi.proofs.LiveNodeLemmas.{IsLiveRef, node_live, rows_of, lacks_middle, all_left, all_right}
use Rattle.mi_multi.proofs.StampLemmas.{rows}

pub filter_append : {A : Type 0} (p : A → Bool) (xs ys : List A) → filter p (xs ++ ys) ≡ filter p xs ++ filter p ys
filter_append p [] ys = refl
filter_append p (x ∷ xs) ys =
    elim (p x) as (λ b. cond b (x ∷ filter p (xs ++ ys)) (filter p (xs ++ ys)) ≡ cond b (x ∷ filter p xs) (filter p xs) ++ filter p ys) [
      | true ↦ ap (λ q. x ∷ q) (filter_append p xs ys)
      | false ↦ filter_append p xs ys
    ]

pub filter_eq : {A : Type 0} (p q : A → Bool) (xs : List A) → AllByRecursion (λ x. p x ≡ q x) xs → filter p xs ≡ filter q xs
filter_eq p q [] all = refl
filter_eq p q (x ∷ xs) all = (λ i. cond (all.0 i) (x ∷ filter_eq p q xs all.1 i) (filter_eq p q xs all.1 i))

all_filter : {A : Type 0} (P : A → Type 0) (p : A → Bool) (xs : List A) → AllByRecursion P xs → AllByRecursion P (filter p xs)
all_filter P p [] all = tt
all_filter P p (x ∷ xs) all =
    elim (p x) as (λ b. AllByRecursion P (cond b (x ∷ filter p xs) (filter p xs))) [ true ↦ (all.0, all_filter P p xs all.1) | false ↦ all_filter P p xs all.1 ]

pub lacks_filter : (idf : Ref → ℕ) (p : Ref → Bool) (e : ℕ) (xs : List Ref) → Lacks e (map idf xs) → Lacks e (map idf (filter p xs))
lacks_filter idf p e [] lacks = tt
lacks_filter idf p e (x ∷ xs) lacks =
    elim (p x) as (λ b. Lacks e (map idf (cond b (x ∷ filter p xs) (filter p xs)))) [
      | true ↦ (lacks.0, lacks_filter idf p e xs lacks.1)
      | false ↦ lacks_filter idf p e xs lacks.1
    ]

pub ids_append : (idf : Ref → ℕ) (xs ys : List Ref) → map idf (xs ++ ys) ≡ map idf xs ++ map idf ys
ids_append idf [] ys = refl
ids_append idf (x ∷ xs) ys = ap (λ q. idf x ∷ q) (ids_append idf xs ys)

self_equal : (o : Ordering) → o ≡ ordering_reverse o → is_eq o ≡ true
self_equal Less h = absurd (cc)
self_equal Equal h = refl
self_equal Greater h = absurd (cc)

pub own_key : (ps : List KeyPart) (r : List Value) → is_eq (compare_key ps r r) ≡ true
own_key ps r = let o : IsTotalOrder (compare_key ps) = compare_key_total ps in self_equal (compare_key ps r r) (o.antisymm r r)

module _ (ids : FinMap nat_cmp IdEntry) (m n : Pooled Stored) (os : List Order)
    (held : (e : ℕ) (a : IdEntry) → get ids e ≡ Some a → HasNode m e a.node) (values : (k : ℕ) → value_of n k ≡ value_of m k) (e : ℕ) (r : Ref)
    (there : get ids e ≡ Some (record { node = r; live = true })) where
  abbrev pub has : HasNode m e r
  has = held e (record { node = r; live = true }) there

  pub id_is : id_at m r ≡ e
  id_is = ap stored_id has.is ∙ has.id

  live_ref : IsLiveRef ids m r
  live_ref = ap (get ids) id_is ∙ there

  own_node : node_of (rows ids m os) e ≡ Some (node_in m os r)
  own_node = ap (node_of (rows ids m os)) (sym id_is) ∙ node_live ids m os r live_ref

  own_values : (content_of (rows ids m os) e).values ≡ record_in (value_of m r.name)
  own_values = ap (λ o. (content_in o).values) own_node

  -- whether a row has its key
  abbrev key_of : List KeyPart → ℕ → Bool
  key_of ps a = is_eq (compare_key ps (content_of (rows ids m os) e).values (content_of (rows ids m os) a).values)

  key_at : (h : HashedBy) (q : Ref) → IsLiveRef ids m q → key_of h.parts (id_at m q) ≡ same_nodes (keying_of h) n r q
  unfolding same_nodes
  key_at h q live =
      let its : HasNode m (id_at m q) q = held (id_at m q) (record { node = q; live = true }) live in
      let its_values : (content_of (rows ids m os) (id_at m q)).values ≡ record_in (value_of m q.name) =
      ap (λ o. (content_in o).values) (node_live ids m os q live) in
      (λ i. is_eq (compare_key h.parts (own_values i) (its_values i)))
      ∙ (λ i. is_eq (compare_key h.parts (record_in (has.is i)) (record_in (its.is i))))
      ∙ sym ((λ i. same_values (has_one_key h.parts) (values r.name i) (values q.name i)) ∙ (λ i. same_values (has_one_key h.parts) (has.is i) (its.is i)))

  keys_at : (h : HashedBy) (qs : List Ref) → AllByRecursion (IsLiveRef ids m) qs
      → AllByRecursion (λ q. key_of h.parts (id_at m q) ≡ same_nodes (keying_of h) n r q) qs
  keys_at h [] all = tt
  keys_at h (q ∷ qs) all = (key_at h q all.0, keys_at h qs all.1)

  module _ (xs ys : List Ref) (live : AreLive ids m (xs ++ r ∷ ys)) where
    before : AllByRecursion (IsLiveRef ids m) xs
    before = all_left (IsLiveRef ids m) xs (r ∷ ys) live.rows

    behind : AllByRecursion (IsLiveRef ids m) ys
    behind = let rest : AllByRecursion (IsLiveRef ids m) (r ∷ ys) = all_right (IsLiveRef ids m) xs (r ∷ ys) live.rows in rest.1

    lacks : Lacks e (ids_at m xs)
    lacks = lacks_left e (ids_at m xs) (ids_at m ys) (subst (Lacks e) (ids_append (id_at m) xs ys) (lacks_middle ids m e r xs ys id_is there live))

    -- in a list
    pub link_listed : link_at (rows ids m os) e (ids_at m (xs ++ r ∷ ys)) ≡ record { back = last_of None xs; forth = first_of ys None }
    link_listed = link_middle (id_at m) (rows ids m os) e xs r ys (itself id_is) lacks (rows_of ids m os xs before) (rows_of ids m os ys behind)

    -- among the nodes of its key
    pub link_hashed : (h : HashedBy) (x : ℕ) → ids_by_stamp x (rows ids m os) ≡ ids_at m (xs ++ r ∷ ys)
        → link_at (rows ids m os) e (group h.parts x (rows ids m os) (content_of (rows ids m os) e).values)
        ≡ record { back = last_of None (filter (same_nodes (keying_of h) n r) xs); forth = first_of (filter (same_nodes (keying_of h) n r) ys) None }
    link_hashed h x by =
        let p : Ref → Bool = λ q. key_of h.parts (id_at m q) in
        let p' : Ref → Bool = same_nodes (keying_of h) n r in
        let mine : p r ≡ true = ap (key_of h.parts) id_is ∙ own_key h.parts (content_of (rows ids m os) e).values in
        let parts : filter p (xs ++ r ∷ ys) ≡ filter p xs ++ r ∷ filter p ys = filter_append p xs (r ∷ ys)
        ∙ ap (λ b. filter p xs ++ cond b (r ∷ filter p ys) (filter p ys)) mine in
        let left : filter p xs ≡ filter p' xs = filter_eq p p' xs (keys_at h xs before) in
        let right : filter p ys ≡ filter p' ys = filter_eq p p' ys (keys_at h ys behind) in
        let whole : group h.parts x (rows ids m os) (content_of (rows ids m os) e).values ≡ ids_at m (filter p' xs ++ r ∷ filter p' ys) =
        ap (filter (key_of h.parts)) by ∙ filter_ids (id_at m) (key_of h.parts) (xs ++ r ∷ ys) ∙ ap (ids_at m) (parts ∙ (λ i. left i ++ r ∷ right i)) in
        ap (link_at (rows ids m os) e) whole
        ∙ link_middle (id_at m) (rows ids m os) e (filter p' xs) r (filter p' ys) (itself id_is) (lacks_filter (id_at m) p' e xs lacks)
        (all_filter (IsRow (id_at m) (rows ids m os)) p' xs (rows_of ids m os xs before))
        (all_filter (IsRow (id_at m) (rows ids m os)) p' ys (rows_of ids m os ys behind))
