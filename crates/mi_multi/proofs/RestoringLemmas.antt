-- What the order of an index is, by its kind and its parts.
-- Cited by `MultiIndex::check_list`, `MultiIndex::check_lists`, `MultiIndex::fill`, `MultiIndex::keeping`, `MultiIndex::list` and 7 more.
use Rattle.std.proofs.Common.{◌≡◌, ℕ, ◌<◌, zero, suc, true, false, inl, inr, Vec, Global, List, [], ◌∷◌, ◌-◌, map, take, drop, length, get_or, set, replicate, refl, sym, ap, ◌∙◌, subst, arith}
use Rattle.std.specs.Prelude.{◌==◌}
use Rattle.std.proofs.lemmas.Bool.Decides.{eqb_tells}
use Rattle.std.proofs.lemmas.List.{get_or-set_same, get_or-set_other, length-drop}
use Rattle.mi_value.specs.declared.value.Value.{Value}
use Rattle.mi_catalog.specs.declared.index.Index.{Index}
use Rattle.mi_catalog.specs.declared.index.IndexKind.{IndexKind}
use Rattle.mi_catalog.specs.declared.index.IndexKind.TheVariants as kinds
use Rattle.mi_catalog.specs.Kinds.{is_sequenced, is_sorted}
use Rattle.mi_catalog.specs.Shape.{Shape, index_at}
use Rattle.mi_container.specs.Asked.{IsSequenced}
use Rattle.mi_container.specs.Data.{Order, order_at, KindFits, KindsFit}
use Rattle.mi_container.specs.Data.Order.{ById, ByKey, ByHash, Listed}
use Rattle.mi_container.specs.Fits.{HasOwnList}
use Rattle.mi_container.specs.Restore.{GoesByIds}
use Rattle.mi_multi.specs.Physical.{order_of, orders_of}
use Rattle.mi_multi.specs.Multi.{own_lists}
use Rattle.mi_multi.specs.Restoring.{keeping_of}
use Rattle.mi_multi.specs.Seen.{Seen, seen_of}
use Rattle.mi_multi.specs.declared.multi.MultiIndex.TheInside.{Inside}
use Rattle.mi_multi.specs.declared.restoring.Keeping.{Keeping}
use Rattle.mi_multi.specs.declared.restoring.Keeping.TheVariants as keeping

order_there : (is : List Index) (ls : List (List ℕ)) (k : ℕ) (none : Index) → k < length is
    → (l : List ℕ) × (get_or (orders_of is ls) k ById ≡ order_of (get_or is k none).kind (get_or is k none).parts l)
order_there [] ls k none few = absurd (omega arith)
order_there (i ∷ is) [] zero none few = ([], refl)
order_there (i ∷ is) (l ∷ ls) zero none few = (l, refl)
order_there (i ∷ is) [] (suc k) none few = order_there is [] k none (omega arith)
order_there (i ∷ is) (l ∷ ls) (suc k) none few = order_there is ls k none (omega arith)

pub order_kept : (i : Inside) (w : Seen) → seen_of i ≡ w → (x : ℕ) → x < length w.shape.indexes
    → (l : List ℕ) × (order_at w.plain.orders x ≡ order_of (index_at i.schema x).kind (index_at i.schema x).parts l)
order_kept i w seen x few =
    subst (λ (u : Seen). (l : List ℕ) × (order_at u.plain.orders x ≡ order_of (index_at i.schema x).kind (index_at i.schema x).parts l)) seen
    (order_there i.schema.indexes (own_lists i.nodes.pool i.nodes.structures.items) x _ (subst (λ (u : Seen). x < length u.shape.indexes) (sym seen) few))

keeps_ids : (o : Order) → keeping.Ids ≡ keeping_of o → o ≡ ById
keeps_ids ById h = refl
keeps_ids (ByKey ps) h = absurd (cc)
keeps_ids (ByHash ps) h = absurd (cc)
keeps_ids (Listed l) h = absurd (cc)

pub goes_by_ids : (o : Order) (k : Keeping) → k ≡ keeping_of o → k ≡ keeping.Ids → o ≡ ById
goes_by_ids o k h is = keeps_ids o (sym is ∙ h)

pub listed_of : (o : Order) → HasOwnList o → (l : List ℕ) × (o ≡ Listed l)
listed_of ById l = absurd l
listed_of (ByKey ps) l = absurd l
listed_of (ByHash ps) l = absurd l
listed_of (Listed l) h = (l, refl)

kinds_at : (is : List Index) (os : List Order) (x : ℕ) (none : Index) → KindsFit is os → x < length is → KindFits (get_or is x none) (get_or os x ById)
kinds_at [] os x none k l = absurd (omega (arith, l))
kinds_at (i ∷ is) [] x none k l = absurd k
kinds_at (i ∷ is) (o ∷ os) zero none k l = k.0
kinds_at (i ∷ is) (o ∷ os) (suc x) none k l = kinds_at is os x none k.1 (omega (arith, l))

sequenced_kind : (k : IndexKind) → is_sequenced k ≡ true → k ≡ kinds.Sequenced
sequenced_kind kinds.Ordered h = absurd (cc)
sequenced_kind kinds.Ranked h = absurd (cc)
sequenced_kind kinds.Hashed h = absurd (cc)
sequenced_kind kinds.Sequenced h = refl

fits_list : (i : Index) (o : Order) → KindFits i o → HasOwnList o → i.kind ≡ kinds.Sequenced
fits_list i ById f l = absurd l
fits_list i (ByKey ps) f l = absurd l
fits_list i (ByHash ps) f l = absurd l
fits_list i (Listed ids) f l = sequenced_kind i.kind f.0

keeps_list : (o : Order) → keeping.List ≡ keeping_of o → HasOwnList o
keeps_list ById h = absurd (cc)
keeps_list (ByKey ps) h = absurd (cc)
keeps_list (ByHash ps) h = absurd (cc)
keeps_list (Listed l) h = tt

pub sequenced_of : (s : Shape) (os : List Order) (x : ℕ) (k : Keeping) → KindsFit s.indexes os → x < length s.indexes
    → k ≡ keeping_of (order_at os x) → k ≡ keeping.List → IsSequenced s x
sequenced_of s os x k fit few h is = fits_list (index_at s x) (order_at os x) (kinds_at s.indexes os x _ fit few) (keeps_list (order_at os x) (sym is ∙ h))

-- The mark of one index

no_mark : (n k : ℕ) → get_or (replicate n false) k false ≡ false
no_mark zero k = refl
no_mark (suc n) zero = refl
no_mark (suc n) (suc k) = no_mark n k

pub one_mark : (x : ℕ) → x < 16 → (k : ℕ) → get_or (set (replicate 16 false) x true) k false ≡ (k == x)
one_mark x l k =
    elim (eqb_tells k x) [
      | inl same ↦ ap (λ q. get_or (set (replicate 16 false) x true) q false) same.1 ∙ get_or-set_same (replicate 16 false) x true false l ∙ sym same.0
      | inr other ↦ get_or-set_other (replicate 16 false) x k true false other.1 ∙ no_mark 16 k ∙ sym other.0
    ]

-- The list of an index

item_at : (xs : List (Vec ℕ Global)) (x : ℕ) (v : Vec ℕ Global) → x < length xs → v ≡ get_or xs x v
    → get_or (map (λ (w : Vec ℕ Global). w.items) xs) x [] ≡ v.items
item_at [] x v l is = absurd (omega (arith, l))
item_at (w ∷ xs) zero v l is = ap (λ (q : Vec ℕ Global). q.items) (sym is)
item_at (w ∷ xs) (suc x) v l is = item_at xs x v (omega (arith, l)) is

pub list_given : (xs : List (Vec ℕ Global)) (x : ℕ) (v : Vec ℕ Global) (ids : List ℕ) → x < length xs → v ≡ get_or xs x v → ids ≡ v.items
    → ids ≡ get_or (map (λ (w : Vec ℕ Global). w.items) xs) x []
list_given xs x v ids l is same = same ∙ sym (item_at xs x v l is)

pub long_given : (xs : List (Vec ℕ Global)) → length (map (λ (w : Vec ℕ Global). w.items) xs) ≡ length xs
long_given [] = refl
long_given (w ∷ xs) = ap suc (long_given xs)

fits_ids : (i : Index) (o : Order) → KindFits i o → o ≡ ById → (is_sorted i.kind ≡ true) × (i.parts ≡ [])
fits_ids i o f is = subst (KindFits i) is f

-- an index that keeps its rows by their ids goes by them alone
pub ids_alone : (s : Shape) (os : List Order) (x : ℕ) (k : Keeping) → KindsFit s.indexes os → x < length s.indexes
    → k ≡ keeping_of (order_at os x) → k ≡ keeping.Ids → GoesByIds s x
ids_alone s os x k fit few h is = fits_ids (index_at s x) (order_at os x) (kinds_at s.indexes os x _ fit few) (goes_by_ids (order_at os x) k h is)

-- As many ids as rows
pub ids_count : (rows : List (ℕ × List Value)) → length (map (λ (r : ℕ × List Value). r.0) rows) ≡ length rows
ids_count [] = refl
ids_count (r ∷ rows) = ap suc (ids_count rows)

-- What is behind the first ids of a list

take_whole : (ids : List ℕ) → take (length ids) ids ≡ ids
take_whole [] = refl
take_whole (e ∷ ids) = ap (λ q. e ∷ q) (take_whole ids)

pub long_behind : (k : ℕ) (ids : List ℕ) → length (drop k ids) ≡ length ids - k
long_behind k ids = length-drop k ids

pub all_behind : (k : ℕ) (ids : List ℕ) → take (length ids - k) (drop k ids) ≡ drop k ids
all_behind k ids = ap (λ n. take n (drop k ids)) (sym (long_behind k ids)) ∙ take_whole (drop k ids)
