-- All that is known of each index before and after a pass.
-- Cited by `AcceptLemmas`, `EraseLemmas`, `ImagingLemmas`, `IndexNumberLemmas`, `InsertLemmas` and 19 more.
use Rattle.std.proofs.Common.{◌≡◌, ℕ, ◌+◌, ◌<◌, zero, suc, true, List, [], ◌∷◌, map, get_or, length, refl, ap, sym, ◌∙◌, subst, arith}
use Rattle.std.specs.Ordering.{nat_cmp}
use Rattle.std.specs.FinMap.{FinMap}
use Rattle.std.specs.List.{AllByRecursion}
use Rattle.std.proofs.lemmas.Bool.{false≢true}
use Rattle.mi_catalog.specs.declared.index.Index.{Index}
use Rattle.mi_catalog.specs.declared.index.IndexKind.{IndexKind}
use Rattle.mi_catalog.specs.declared.index.IndexKind.TheVariants as kind
use Rattle.mi_catalog.specs.Kinds.{is_sorted, is_hashed, is_sequenced}
use Rattle.mi_catalog.proofs.KindLaws.{sequenced, hashed}
use Rattle.mi_value.specs.declared.compare.KeyPart.{KeyPart}
use Rattle.mi_node.specs.Pool.{Pooled, value_of}
use Rattle.mi_node.specs.Refs.{Ref, names}
use Rattle.mi_list.specs.Listed.{IsListed}
use Rattle.mi_list.specs.Order.{order}
use Rattle.mi_list.specs.declared.list.List.{List as Line}
use Rattle.mi_list.proofs.OrderLemmas.{order-listed}
use Rattle.mi_order.specs.declared.stored.Stored.{Stored}
use Rattle.mi_index.specs.declared.structure.Structure.{Structure}
use Rattle.mi_index.specs.declared.structure.Structure.TheVariants.{Sorted, Hashed, Sequenced}
use Rattle.mi_index.specs.Standing.{slot_in, Stands, IsLike}
use Rattle.mi_index.specs.Pass.{Gives, AllStand, AllGiven, AllLike}
use Rattle.mi_index.proofs.LikeLemmas.{by_kind}
use Rattle.mi_container.specs.Data.{Order, has_stamps}
use Rattle.mi_container.specs.Data.Order.{ById, ByHash, Listed}
use Rattle.mi_container.specs.Changes.{sorted_order}
use Rattle.mi_ids.specs.declared.entry.IdEntry.{IdEntry}
use Rattle.mi_multi.specs.Physical.{order_of, orders_of, plan, stored_id}
use Rattle.mi_multi.specs.Multi.{id_at, ids_at, own_list, own_lists, IsFor, AllFor, AreLive}
use Rattle.mi_multi.specs.Alike.{SeqBy}

pub record Turned (Q : Gives) (ids : FinMap nat_cmp IdEntry) (m n : Pooled Stored) (s : ℕ) (i : Index) (x y : Structure) (rs us : List Ref) : Type 0 where
  pub slot : slot_in x ≡ s
  pub for_ : IsFor i x
  pub like : IsLike x y
  pub was : Stands x m rs
  pub now : Stands y n us
  pub done : Q s x m n rs us
  pub live : AreLive ids m rs

-- it holds of each index, from that number on
pub data Every (P : ℕ → Index → Structure → Structure → List Ref → List Ref → Type 0) : ℕ
    → List Index → List Structure → List Structure → List (List Ref) → List (List Ref) → Type 0 where
  none : {s : ℕ} → Every P s [] [] [] [] []
  one : {s : ℕ} {i : Index} {x y : Structure} {rs us : List Ref} {is : List Index} {xs ys : List Structure} {rss uss : List (List Ref)}
      → P s i x y rs us → Every P (s + 1) is xs ys rss uss → Every P s (i ∷ is) (x ∷ xs) (y ∷ ys) (rs ∷ rss) (us ∷ uss)

pub every : (Q : Gives) (ids : FinMap nat_cmp IdEntry) (m n : Pooled Stored) (s : ℕ) (is : List Index) (xs ys : List Structure) (rss uss : List (List Ref))
    → AllFor is xs → AllLike xs ys → AllStand xs s m rss → AllStand ys s n uss → AllGiven Q xs s m n rss uss
    → AllByRecursion (AreLive ids m) rss → Every (Turned Q ids m n) s is xs ys rss uss
every Q ids m n s [] [] [] [] [] f l a b d v = none
every Q ids m n s [] [] [] [] (us ∷ uss) f l a b d v = absurd d
every Q ids m n s [] [] [] (rs ∷ rss) uss f l a b d v = absurd a
every Q ids m n s [] [] (y ∷ ys) rss uss f l a b d v = absurd l
every Q ids m n s [] (x ∷ xs) ys rss uss f l a b d v = absurd f
every Q ids m n s (i ∷ is) [] ys rss uss f l a b d v = absurd f
every Q ids m n s (i ∷ is) (x ∷ xs) [] rss uss f l a b d v = absurd l
every Q ids m n s (i ∷ is) (x ∷ xs) (y ∷ ys) [] uss f l a b d v = absurd a
every Q ids m n s (i ∷ is) (x ∷ xs) (y ∷ ys) (rs ∷ rss) [] f l a b d v = absurd b
every Q ids m n s (i ∷ is) (x ∷ xs) (y ∷ ys) (rs ∷ rss) (us ∷ uss) f l a b d v =
    one (record { slot = a.0; for_ = f.0; like = l.0; was = a.1; now = b.1; done = d.0; live = v.0 })
    (every Q ids m n (s + 1) is xs ys rss uss f.1 l.1 a.2 b.2 d.1 v.1)

-- what follows of each index's list afterwards holds of all
pub all_after : (P : ℕ → Index → Structure → Structure → List Ref → List Ref → Type 0) (L : List Ref → Type 0)
    → ((k : ℕ) (i : Index) (x y : Structure) (rs us : List Ref) → P k i x y rs us → L us)
    → {s : ℕ} {is : List Index} {xs ys : List Structure} {rss uss : List (List Ref)}
    → Every P s is xs ys rss uss → AllByRecursion L uss
all_after P L f none = tt
all_after P L f (one {s = s} {i = i} {x = x} {y = y} {rs = rs} {us = us} p rest) = (f s i x y rs us p, all_after P L f rest)

-- Structures that are alike

like_for : (i : Index) (x y : Structure) → IsLike x y → IsFor i x → IsFor i y
like_for i x y = by_kind (λ x y. IsFor i x → IsFor i y) (λ a c l f. (f.0, ap (λ o. o.parts) l.1 ∙ f.1))
    (λ a c l f. (f.0, ap (λ k. k.parts) l.1 ∙ f.1)) (λ a c l f. f) x y

pub all_for : (is : List Index) (xs ys : List Structure) → AllLike xs ys → AllFor is xs → AllFor is ys
all_for [] [] [] l f = tt
all_for [] [] (y ∷ ys) l f = absurd l
all_for [] (x ∷ xs) ys l f = absurd f
all_for (i ∷ is) [] ys l f = absurd f
all_for (i ∷ is) (x ∷ xs) [] l f = absurd l
all_for (i ∷ is) (x ∷ xs) (y ∷ ys) l f = (like_for i x y l.0 f.0, all_for is xs ys l.1 f.1)

-- The list of a sequenced index is that of its nodes

names_ids : (m : Pooled Stored) (rs : List Ref) → map (λ k. stored_id (value_of m k)) (names rs) ≡ ids_at m rs
names_ids m [] = refl
names_ids m (r ∷ rs) = ap (λ q. id_at m r ∷ q) (names_ids m rs)

own_line : (m : Pooled Stored) (l : Line) (rs : List Ref) → IsListed l m rs → map (λ k. stored_id (value_of m k)) (order l m) ≡ ids_at m rs
own_line m l rs stands = ap (map (λ k. stored_id (value_of m k))) (order-listed l m rs stands) ∙ names_ids m rs

pub sorted_not_sequenced : (k : IndexKind) → is_sorted k ≡ true → is_sequenced k ≡ true → ⊥
sorted_not_sequenced k a b = false≢true (ap is_sorted (sym (sequenced k b)) ∙ a)

pub hashed_not_sequenced : (k : IndexKind) → is_hashed k ≡ true → is_sequenced k ≡ true → ⊥
hashed_not_sequenced k a b = false≢true (ap is_hashed (sym (sequenced k b)) ∙ a)

pub own_is : (i : Index) (x : Structure) (m : Pooled Stored) (rs : List Ref) → IsFor i x
    → Stands x m rs → is_sequenced i.kind ≡ true → own_list m x ≡ ids_at m rs
own_is i (Sorted t) m rs f s is = absurd (sorted_not_sequenced i.kind f.0 is)
own_is i (Hashed c) m rs f s is = absurd (hashed_not_sequenced i.kind f.0 is)
own_is i (Sequenced l) m rs f s is = own_line m l rs s

-- each sequenced list changes as the ids of its nodes do
pub seq_by : (Q : Gives) (ids : FinMap nat_cmp IdEntry) (m n : Pooled Stored) (g : ℕ → List ℕ → List ℕ)
    {s : ℕ} {is : List Index} {xs ys : List Structure} {rss uss : List (List Ref)}
    → Every (Turned Q ids m n) s is xs ys rss uss
    → ((k : ℕ) (i : Index) (x y : Structure) (rs us : List Ref) → is_sequenced i.kind ≡ true
    → Turned Q ids m n (s + k) i x y rs us → ids_at n us ≡ g k (ids_at m rs))
    → SeqBy g is (own_lists m xs) (own_lists n ys)
seq_by Q ids m n g none step = tt
seq_by Q ids m n g (one {s = s} {i = i} {x = x} {y = y} {rs = rs} {us = us} t rest) step =
    let here : s ≡ s + 0 = omega arith in (
      λ seq. own_is i y n us (like_for i x y t.like t.for_) t.now seq
          ∙ step 0 i x y rs us seq (subst (λ k. Turned Q ids m n k i x y rs us) here t) ∙ ap (g 0) (sym (own_is i x m rs t.for_ t.was seq)),
      seq_by Q ids m n (λ k. g (suc k)) rest
          (λ k j x' y' rs' us' seq u.
          let next : (s + 1) + k ≡ s + suc k = omega arith in step (suc k) j x' y' rs' us' seq (subst (λ q. Turned Q ids m n q j x' y' rs' us') next u)),
    )

-- what holds of each index is known of the one of a number
pub data At (P : ℕ → Index → Structure → Structure → List Ref → List Ref → Type 0) (s : ℕ) (o : Order) : Type 0 where
  at : (i : Index) (x y : Structure) (rs us : List Ref) (l : List ℕ) → P s i x y rs us → o ≡ order_of i.kind i.parts l → At P s o

pub at_plan : (P : ℕ → Index → Structure → Structure → List Ref → List Ref → Type 0) {s : ℕ}
    {is : List Index} {xs ys : List Structure} {rss uss : List (List Ref)}
    → Every P s is xs ys rss uss → (k : ℕ) → k < length is → At P (s + k) (get_or (plan is) k ById)
at_plan P none k l = absurd (omega arith)
at_plan P (one {s = s} {i = i} {x = x} {y = y} {rs = rs} {us = us} p rest) zero l =
    let here : s ≡ s + 0 = omega arith in at i x y rs us [] (subst (λ k. P k i x y rs us) here p) refl
at_plan P (one {s = s} {is = is} p rest) (suc k) l =
    let next : (s + 1) + k ≡ s + suc k = omega arith in subst (λ q. At P q (get_or (plan is) k ById)) next (at_plan P rest k (omega arith))

-- The parts of an order

pub sorted_parts : (k : IndexKind) (ps : List KeyPart) (l : List ℕ) → is_sorted k ≡ true → order_of k ps l ≡ sorted_order ps
sorted_parts kind.Ordered ps l is = refl
sorted_parts kind.Ranked ps l is = refl
sorted_parts kind.Hashed ps l is = absurd (false≢true is)
sorted_parts kind.Sequenced ps l is = absurd (false≢true is)

pub sequenced_order : (k : IndexKind) (ps : List KeyPart) (l : List ℕ) → is_sequenced k ≡ true → order_of k ps l ≡ Listed l
sequenced_order k ps l is = ap (λ w. order_of w ps l) (sequenced k is)

pub hashed_order : (k : IndexKind) (ps : List KeyPart) (l : List ℕ) → is_hashed k ≡ true → order_of k ps l ≡ ByHash ps
hashed_order k ps l is = ap (λ w. order_of w ps l) (hashed k is)

-- What stands at a number

pub length_orders : (is : List Index) (ls : List (List ℕ)) → length (orders_of is ls) ≡ length is
length_orders [] ls = refl
length_orders (i ∷ is) [] = ap suc (length_orders is [])
length_orders (i ∷ is) (l ∷ ls) = ap suc (length_orders is ls)

pub record Numbered (os qs : List Order) (m : Pooled Stored) (s : ℕ) (i : Index) (x : Structure) : Type 0 where
  pub plan_is : get_or os s ById ≡ order_of i.kind i.parts []
  pub order_is : get_or qs s ById ≡ order_of i.kind i.parts (own_list m x)
  pub few : s < length os
  pub fewer : s < length qs

abbrev pub Known : Gives → FinMap nat_cmp IdEntry → Pooled Stored → Pooled Stored → List Order
    → List Order → ℕ → Index → Structure → Structure → List Ref → List Ref → Type 0
Known Q ids m n os qs s i x y rs us = Turned Q ids m n s i x y rs us × Numbered os qs m s i x

numbered : (Q : Gives) (ids : FinMap nat_cmp IdEntry) (m n : Pooled Stored) (os qs : List Order)
    {s : ℕ} {is : List Index} {xs ys : List Structure} {rss uss : List (List Ref)}
    → Every (Turned Q ids m n) s is xs ys rss uss
    → ((k : ℕ) → get_or os (s + k) ById ≡ get_or (plan is) k ById)
    → ((k : ℕ) → get_or qs (s + k) ById ≡ get_or (orders_of is (own_lists m xs)) k ById) → s + length is ≡ length os → s + length is ≡ length qs
    → Every (Known Q ids m n os qs) s is xs ys rss uss
numbered Q ids m n os qs none p q l k = none
numbered Q ids m n os qs (one {s = s} {i = i} {x = x} {is = is} {xs = xs} t rest) p q l k =
    let here : s ≡ s + 0 = omega arith in
    let a : s < length os = (let h : s + suc (length is) ≡ length os = l in omega arith) in
    let b : s < length qs = (let h : s + suc (length is) ≡ length qs = k in omega arith) in
    one (t, record { plan_is = ap (λ w. get_or os w ById) here ∙ p 0; order_is = ap (λ w. get_or qs w ById) here ∙ q 0; few = a; fewer = b })
    (numbered Q ids m n os qs rest (λ w. let next : (s + 1) + w ≡ s + suc w = omega arith in ap (λ z. get_or os z ById) next ∙ p (suc w))
    (λ w. let next : (s + 1) + w ≡ s + suc w = omega arith in ap (λ z. get_or qs z ById) next ∙ q (suc w))
    (let h : s + suc (length is) ≡ length os = l in omega arith) (let h : s + suc (length is) ≡ length qs = k in omega arith))

pub all_known : (Q : Gives) (ids : FinMap nat_cmp IdEntry) (m n : Pooled Stored) {is : List Index} {xs ys : List Structure} {rss uss : List (List Ref)}
    → Every (Turned Q ids m n) 0 is xs ys rss uss
    → Every (Known Q ids m n (plan is) (orders_of is (own_lists m xs))) 0 is xs ys rss uss
all_known Q ids m n {is = is} {xs = xs} e =
    numbered Q ids m n (plan is) (orders_of is (own_lists m xs)) e (λ k. let same : 0 + k ≡ k = omega arith in ap (λ w. get_or (plan is) w ById) same)
    (λ k. let same : 0 + k ≡ k = omega arith in ap (λ w. get_or (orders_of is (own_lists m xs)) w ById) same)
    (let h : length (plan is) ≡ length is = length_orders is [] in omega arith)
    (let h : length (orders_of is (own_lists m xs)) ≡ length is = length_orders is (own_lists m xs) in omega arith)

-- the same with what is known of numbers
pub seq_known : (Q : Gives) (ids : FinMap nat_cmp IdEntry) (m n : Pooled Stored) (os qs : List Order)
    (g : ℕ → List ℕ → List ℕ) {s : ℕ} {is : List Index} {xs ys : List Structure} {rss uss : List (List Ref)}
    → Every (Known Q ids m n os qs) s is xs ys rss uss
    → ((k : ℕ) (i : Index) (x y : Structure) (rs us : List Ref) → is_sequenced i.kind ≡ true
    → Known Q ids m n os qs (s + k) i x y rs us → ids_at n us ≡ g k (ids_at m rs))
    → SeqBy g is (own_lists m xs) (own_lists n ys)
seq_known Q ids m n os qs g none step = tt
seq_known Q ids m n os qs g (one {s = s} {i = i} {x = x} {y = y} {rs = rs} {us = us} t rest) step =
    let here : s ≡ s + 0 = omega arith in (
      λ seq. own_is i y n us (like_for i x y t.0.like t.0.for_) t.0.now seq
          ∙ step 0 i x y rs us seq (subst (λ k. Known Q ids m n os qs k i x y rs us) here t) ∙ ap (g 0) (sym (own_is i x m rs t.0.for_ t.0.was seq)),
      seq_known Q ids m n os qs (λ k. g (suc k)) rest
          (λ k j x' y' rs' us' seq u.
          let next : (s + 1) + k ≡ s + suc k = omega arith in
          step (suc k) j x' y' rs' us' seq (subst (λ q. Known Q ids m n os qs q j x' y' rs' us') next u)),
    )

-- whether an index has stamps doesn't depend on its list
pub one_plan : (k : IndexKind) (ps : List KeyPart) (l u : List ℕ) → has_stamps (order_of k ps l) ≡ has_stamps (order_of k ps u)
one_plan kind.Ordered ps l u = refl
one_plan kind.Ranked ps l u = refl
one_plan kind.Hashed ps l u = refl
one_plan kind.Sequenced ps l u = refl

pub has_plan : (is : List Index) (ls : List (List ℕ)) (k : ℕ) → has_stamps (get_or (orders_of is ls) k ById) ≡ has_stamps (get_or (plan is) k ById)
has_plan [] ls k = refl
has_plan (i ∷ is) [] k = refl
has_plan (i ∷ is) (l ∷ ls) zero = one_plan i.kind i.parts l []
has_plan (i ∷ is) (l ∷ ls) (suc k) = has_plan is ls k

no_stamps_past : (is : List Index) (x : ℕ) → has_stamps (get_or (plan is) x ById) ≡ true → x < length is
no_stamps_past [] x has = absurd (false≢true has)
no_stamps_past (i ∷ is) zero has = omega arith
no_stamps_past (i ∷ is) (suc x) has = let l : x < length is = no_stamps_past is x has in omega arith

-- what is known of each index is known of one that has stamps
pub at_stamps : (P : ℕ → Index → Structure → Structure → List Ref → List Ref → Type 0)
    {is : List Index} {xs ys : List Structure} {rss uss : List (List Ref)}
    → Every P 0 is xs ys rss uss → (x : ℕ) → has_stamps (get_or (plan is) x ById) ≡ true → At P x (get_or (plan is) x ById)
at_stamps P {is = is} all x has =
    let same : 0 + x ≡ x = omega arith in
    subst (λ q. At P q (get_or (plan is) x ById)) same (at_plan P all x (no_stamps_past is x has))
