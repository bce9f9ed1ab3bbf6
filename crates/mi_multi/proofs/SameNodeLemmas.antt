-- What a pool says of nodes stays where their values, stamps and links stay.
-- Cited by `EraseLemmas`, `InsertedLemmas`, `PutLemmas`, `RelocateLemmas`, `RoomLemmas` and 3 more.
use Rattle.std.proofs.Common.{◌≡◌, ◌≢◌, ℕ, ◌+◌, zero, suc, Bool, true, false, cond, List, [], ◌∷◌, get_or, refl, ap, sym, ◌∙◌, subst, arith}
use Rattle.std.specs.Option.{option_and_then}
use Rattle.std.specs.Ordering.{nat_cmp}
use Rattle.std.specs.FinMap.{FinMap, get, entries}
use Rattle.std.specs.declared.option.Option.{Option}
use Rattle.std.specs.declared.option.Option.TheVariants.{None, Some}
use Rattle.mi_catalog.specs.declared.index.Index.{Index}
use Rattle.mi_catalog.specs.declared.index.IndexKind.{IndexKind}
use Rattle.mi_catalog.specs.declared.index.IndexKind.TheVariants.{Ordered, Ranked, Hashed, Sequenced}
use Rattle.mi_value.specs.declared.compare.KeyPart.{KeyPart}
use Rattle.mi_node.specs.Pool.{Pooled, link_of}
use Rattle.mi_node.specs.Refs.{Ref}
use Rattle.mi_order.specs.declared.stored.Stored.{Stored}
use Rattle.mi_container.specs.Data.{Order, has_stamps}
use Rattle.mi_container.specs.Data.Order.{ById, ByKey, ByHash, Listed}
use Rattle.mi_ids.specs.declared.entry.IdEntry.{IdEntry}
use Rattle.mi_multi.specs.Physical.{order_of, orders_of, plan, stamp_in, stamps_in, neighbours_in}
use Rattle.mi_multi.specs.Physical.{all_neighbours, record_in, node_in, kept_node_in, live_in, kept_in, picked}
use Rattle.mi_multi.specs.Alike.{SaysSame, IsAltered}
use Rattle.mi_multi.proofs.RowLemmas.{picked_still}

one_stamp : (m n : Pooled Stored) (k x : ℕ) (o : Order)
    → (has_stamps o ≡ true → (link_of n k x).tag.stamp ≡ (link_of m k x).tag.stamp) → stamp_in n k x o ≡ stamp_in m k x o
one_stamp m n k x ById same = refl
one_stamp m n k x (ByKey ps) same = same refl
one_stamp m n k x (ByHash ps) same = same refl
one_stamp m n k x (Listed ids) same = refl

stamps_from : (m n : Pooled Stored) (k y : ℕ) (os : List Order)
    → ((x : ℕ) → has_stamps (get_or os x ById) ≡ true → (link_of n k (y + x)).tag.stamp ≡ (link_of m k (y + x)).tag.stamp)
    → stamps_in n k y os ≡ stamps_in m k y os
stamps_from m n k y [] same = refl
stamps_from m n k y (o ∷ os) same =
    let here : y + 0 ≡ y = omega arith in
    let first : stamp_in n k y o ≡ stamp_in m k y o = one_stamp m n k y o
    (λ h. subst (λ q. (link_of n k q).tag.stamp ≡ (link_of m k q).tag.stamp) here (same zero h)) in
    let rest : stamps_in n k (suc y) os ≡ stamps_in m k (suc y) os =
    stamps_from m n k (suc y) os (λ x h.
    let next : y + suc x ≡ suc y + x = omega arith in subst (λ q. (link_of n k q).tag.stamp ≡ (link_of m k q).tag.stamp) next (same (suc x) h)) in
    (λ i. first i ∷ rest i)

one_neighbours : (m n : Pooled Stored) (k x : ℕ) (o : Order) → link_of n k x ≡ link_of m k x → neighbours_in n k x o ≡ neighbours_in m k x o
one_neighbours m n k x ById same = refl
one_neighbours m n k x (ByKey ps) same = refl
one_neighbours m n k x (ByHash ps) same = (λ i. record { back = (same i).back; forth = (same i).forth })
one_neighbours m n k x (Listed ids) same = (λ i. record { back = (same i).back; forth = (same i).forth })

neighbours_same : (m n : Pooled Stored) (k y : ℕ) (os : List Order)
    → ((x : ℕ) → link_of n k x ≡ link_of m k x) → all_neighbours n k y os ≡ all_neighbours m k y os
neighbours_same m n k y [] same = refl
neighbours_same m n k y (o ∷ os) same = (λ i. one_neighbours m n k y o (same y) i ∷ neighbours_same m n k (suc y) os same i)

pub node_same : (os : List Order) (m n : Pooled Stored) (r : Ref) → SaysSame os m n r.name → node_in n os r ≡ node_in m os r
node_same os m n r same =
    let values = same.value in
    let stamps : stamps_in n r.name 0 os ≡ stamps_in m r.name 0 os =
    stamps_from m n r.name 0 os (λ x h.
    let here : 0 + x ≡ x = omega arith in subst (λ q. (link_of n r.name q).tag.stamp ≡ (link_of m r.name q).tag.stamp) (sym here) (same.stamps x h)) in
    (λ i. record { at = r; content = record { values = record_in (values i); stamps = stamps i } })

kept_same : (os : List Order) (m n : Pooled Stored) (r : Ref) → SaysSame os m n r.name
    → ((t : ℕ) → link_of n r.name t ≡ link_of m r.name t) → kept_node_in n os r ≡ kept_node_in m os r
kept_same os m n r same links =
    let node = node_same os m n r same in
    let all = neighbours_same m n r.name 0 os links in
    (λ i. record { node = node i; links = all i })

live_of : (os : List Order) (m n : Pooled Stored) (a : IdEntry) (b : Bool) → SaysSame os m n a.node.name
    → cond b (Some (node_in n os a.node)) None ≡ cond b (Some (node_in m os a.node)) None
live_of os m n a true same = ap Some (node_same os m n a.node same)
live_of os m n a false same = refl

kept_of : (os : List Order) (m n : Pooled Stored) (a : IdEntry) (b : Bool) → SaysSame os m n a.node.name
    → (b ≡ false → (t : ℕ) → link_of n a.node.name t ≡ link_of m a.node.name t)
    → cond b None (Some (kept_node_in n os a.node)) ≡ cond b None (Some (kept_node_in m os a.node))
kept_of os m n a true same links = refl
kept_of os m n a false same links = ap Some (kept_same os m n a.node same (links refl))

-- a change of one row says the same of every other
pub live_alike : (os : List Order) (ids : FinMap nat_cmp IdEntry) (m n : Pooled Stored) (e : ℕ)
    → IsAltered os ids m n e → (q : ℕ) (a : IdEntry) → q ≢ e → get ids q ≡ Some a → live_in n os a ≡ live_in m os a
live_alike os ids m n e altered q a ne is = live_of os m n a a.live (altered.says q a ne is)

pub kept_alike : (os : List Order) (ids : FinMap nat_cmp IdEntry) (m n : Pooled Stored) (e : ℕ)
    → IsAltered os ids m n e → (q : ℕ) (a : IdEntry) → q ≢ e → get ids q ≡ Some a → kept_in n os a ≡ kept_in m os a
kept_alike os ids m n e altered q a ne is = kept_of os m n a a.live (altered.says q a ne is) (altered.kept q a ne is)

-- so all kept nodes stay, where that row is kept neither before nor after
pub kept_still : (os : List Order) (ids : FinMap nat_cmp IdEntry) (m n : Pooled Stored) (e : ℕ) {o : Option IdEntry} → get ids e ≡ o
    → option_and_then (kept_in n os) o ≡ option_and_then (kept_in m os) o → IsAltered os ids m n e
    → picked (kept_in n os) (entries ids) ≡ picked (kept_in m os) (entries ids)
kept_still os ids m n e is same altered =
    picked_still (kept_in m os) (kept_in n os) ids ids e (λ q ne. refl) (kept_alike os ids m n e altered)
    (ap (option_and_then (kept_in n os)) is ∙ same ∙ sym (ap (option_and_then (kept_in m os)) is))

-- Orders with lists, and without

one_plain : (m : Pooled Stored) (k x : ℕ) (kind : IndexKind) (ps : List KeyPart) (l u : List ℕ)
    → neighbours_in m k x (order_of kind ps l) ≡ neighbours_in m k x (order_of kind ps u)
one_plain m k x Ordered ps l u = refl
one_plain m k x Ranked ps l u = refl
one_plain m k x Hashed ps l u = refl
one_plain m k x Sequenced ps l u = refl

plain_neighbours : (m : Pooled Stored) (k x : ℕ) (is : List Index) (ls : List (List ℕ))
    → all_neighbours m k x (orders_of is ls) ≡ all_neighbours m k x (plan is)
plain_neighbours m k x [] ls = refl
plain_neighbours m k x (i ∷ is) [] = refl
plain_neighbours m k x (i ∷ is) (l ∷ ls) = (λ j. one_plain m k x i.kind i.parts l [] j ∷ plain_neighbours m k (suc x) is ls j)
