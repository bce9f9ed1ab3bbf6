-- The list of a sequenced index: an id that left it stands again before the neighbour that it remembers.
-- Cited by `GroupLemmas`, `InvariantLemmas`, `InverseLemmas`, `RaiseLemmas`, `RestoreLemmas`, 2 more, `mi_database` and `mi_multi`.
use Rattle.std.proofs.Common.{◌≡◌, ◌≢◌, ℕ, ◌+◌, ◌<◌, ◌≤◌, zero, suc, true, false, cond, not}
use Rattle.std.proofs.Common.{List, [], ◌∷◌, ◌++◌, map, get_or, set, refl, ap, sym, ◌∙◌, subst, arith}
use Rattle.std.specs.Prelude.{◌==◌}
use Rattle.std.specs.List.{AllByRecursion}
use Rattle.std.specs.Option.{option_map}
use Rattle.std.proofs.lemmas.Bool.{eqb-true}
use Rattle.std.proofs.lemmas.List.{set-get_or}
use Rattle.std.specs.declared.option.Option.{Option}
use Rattle.std.specs.declared.option.Option.TheVariants.{None, Some}
use Rattle.mi_model.specs.Table.{times}
use Rattle.mi_model.specs.Change.{stand_before, stand, without, relocated}
use Rattle.mi_model.proofs.SortLaws.{both_ways}
use Rattle.mi_model.proofs.TableLaws.{lacks_of_count}
use Rattle.mi_model.proofs.ViewLaws.{Lacks, none_is}
use Rattle.mi_container.specs.Data.{Node, Order, node_of, NamesDiffer}
use Rattle.mi_container.specs.Data.Order.{ById, ByKey, ByHash, Listed}
use Rattle.mi_container.specs.Changes.{in_order, orders_with, ref_of, head_of, next_in, prev_in, link_of_id, links_from, moved_order, left_out}
use Rattle.mi_container.specs.Inverse.{id_named, id_of_ref, relinked}
use Rattle.mi_container.specs.Fits.{IsNot, last_or, IsThere, Meet}
use Rattle.mi_container.proofs.PairLemmas.{is_itself, is_other, some_is, head_is, head_isnt, lookup_out}

-- each id of a list stands in it once
abbrev pub Once : List ℕ → Type 0
Once [] = Unit {0}
Once (a ∷ ids) = Lacks a ids × Once ids

pub lacks_of_times : (e : ℕ) (ids : List ℕ) → times e ids ≡ 0 → Lacks e ids
lacks_of_times = lacks_of_count

times_of_lacks : (e : ℕ) (ids : List ℕ) → Lacks e ids → times e ids ≡ 0
times_of_lacks e [] lacks = refl
times_of_lacks e (a ∷ ids) lacks =
    let z : cond {A = ℕ} (a == e) 1 0 ≡ 0 = ap (λ b. cond {A = ℕ} b 1 0) (is_other a e lacks.0) in
    let n : times e ids ≡ 0 = times_of_lacks e ids lacks.1 in
    omega arith

pub once_of_times : (ids : List ℕ) → ((id : ℕ) → times id ids ≤ 1) → Once ids
once_of_times [] few = tt
once_of_times (a ∷ ids) few = (
  lacks_of_times a ids (let n : cond {A = ℕ} (a == a) 1 0 + times a ids ≤ 1 = few a in
      let one : cond {A = ℕ} (a == a) 1 0 ≡ 1 = ap (λ b. cond {A = ℕ} b 1 0) (is_itself a) in
      omega arith),
  once_of_times ids (λ id. let n : cond {A = ℕ} (a == id) 1 0 + times id ids ≤ 1 = few id in omega arith),
)

pub drop_is : (e a : ℕ) (ids : List ℕ) → (a == e) ≡ true → without e (a ∷ ids) ≡ without e ids
drop_is e a ids same = ap (λ b. cond (not b) (a ∷ without e ids) (without e ids)) same

pub drop_isnt : (e a : ℕ) (ids : List ℕ) → (a == e) ≡ false → without e (a ∷ ids) ≡ a ∷ without e ids
drop_isnt e a ids other = ap (λ b. cond (not b) (a ∷ without e ids) (without e ids)) other

pub without_lacks : (e : ℕ) (ids : List ℕ) → Lacks e ids → without e ids ≡ ids
without_lacks e [] lacks = refl
without_lacks e (a ∷ ids) lacks = drop_isnt e a ids (is_other a e lacks.0) ∙ ap (λ q. a ∷ q) (without_lacks e ids lacks.1)

without_push : (e : ℕ) (ids : List ℕ) → Lacks e ids → without e (ids ++ e ∷ []) ≡ ids
without_push e [] lacks = drop_is e e [] (is_itself e)
without_push e (a ∷ ids) lacks = drop_isnt e a (ids ++ e ∷ []) (is_other a e lacks.0) ∙ ap (λ q. a ∷ q) (without_push e ids lacks.1)

without_before : (b e : ℕ) (ids : List ℕ) → Lacks e ids → without e (stand_before b e ids) ≡ ids
without_before b e [] lacks = drop_is e e [] (is_itself e)
without_before b e (a ∷ ids) lacks =
    both_ways (a == b)
    (λ yes. ap (λ t. without e (cond t (e ∷ a ∷ ids) (a ∷ stand_before b e ids))) yes ∙ drop_is e e (a ∷ ids) (is_itself e) ∙ without_lacks e (a ∷ ids) lacks)
    (λ isnt. ap (λ t. without e (cond t (e ∷ a ∷ ids) (a ∷ stand_before b e ids))) isnt
    ∙ drop_isnt e a (stand_before b e ids) (is_other a e lacks.0) ∙ ap (λ q. a ∷ q) (without_before b e ids lacks.1))

-- what was put in is taken out again
without_stand : (b : Option ℕ) (e : ℕ) (ids : List ℕ) → Lacks e ids → without e (stand b e ids) ≡ ids
without_stand None e ids lacks = without_push e ids lacks
without_stand (Some b) e ids lacks = without_before b e ids lacks

next_is : (e a : ℕ) (ids : List ℕ) → (a == e) ≡ true → next_in e (a ∷ ids) ≡ head_of ids
next_is e a ids same = ap (λ t. cond t (head_of ids) (next_in e ids)) same

next_isnt : (e a : ℕ) (ids : List ℕ) → (a == e) ≡ false → next_in e (a ∷ ids) ≡ next_in e ids
next_isnt e a ids other = ap (λ t. cond t (head_of ids) (next_in e ids)) other

pub head_isnot : (a : ℕ) (ids : List ℕ) → Lacks a ids → IsNot a (head_of ids)
head_isnot a [] lacks = tt
head_isnot a (b ∷ ids) lacks = lacks.0

next_isnot : (a e : ℕ) (ids : List ℕ) → Lacks a ids → IsNot a (next_in e ids)
next_isnot a e [] lacks = tt
next_isnot a e (b ∷ ids) lacks =
    elim (b == e) as (λ t. IsNot a (cond t (head_of ids) (next_in e ids))) [ true ↦ head_isnot a ids lacks.1 | false ↦ next_isnot a e ids lacks.1 ]

-- the id behind e isn't e
next_other : (e : ℕ) (ids : List ℕ) → Once ids → IsNot e (next_in e ids)
next_other e [] once = tt
next_other e (a ∷ ids) once =
    both_ways (a == e)
    (λ yes. subst (IsNot e) (sym (next_is e a ids yes)) (head_isnot e ids (subst (λ k. Lacks k ids) (eqb-true a e yes) once.0)))
    (λ isnt. subst (IsNot e) (sym (next_isnt e a ids isnt)) (next_other e ids once.1))

stand_first : (e : ℕ) (ids : List ℕ) → stand (head_of ids) e ids ≡ e ∷ ids
stand_first e [] = refl
stand_first e (b ∷ ids) = ap (λ t. cond t (e ∷ b ∷ ids) (b ∷ stand_before b e ids)) (is_itself b)

stand_behind : (a e : ℕ) (o : Option ℕ) (ids : List ℕ) → IsNot a o → stand o e (a ∷ ids) ≡ a ∷ stand o e ids
stand_behind a e None ids other = refl
stand_behind a e (Some b) ids other = ap (λ t. cond t (e ∷ a ∷ ids) (a ∷ stand_before b e ids)) (is_other a b (λ same. other (sym same)))

-- an id that left a list stands again before the one that was behind it
stands_again : (e : ℕ) (ids : List ℕ) → Once ids → 0 < times e ids → stand (next_in e ids) e (without e ids) ≡ ids
stands_again e [] once some = absurd (omega arith)
stands_again e (a ∷ ids) once some =
    both_ways (a == e)
    (λ yes.
    let same : a ≡ e = eqb-true a e yes in
    let lacks : Lacks e ids = subst (λ k. Lacks k ids) same once.0 in
    ap (λ o. stand o e (without e (a ∷ ids))) (next_is e a ids yes)
    ∙ ap (stand (head_of ids) e) (drop_is e a ids yes ∙ without_lacks e ids lacks) ∙ stand_first e ids ∙ ap (λ k. k ∷ ids) (sym same))
    (λ isnt.
    let rest : 0 < times e ids = (let z : cond {A = ℕ} (a == e) 1 0 ≡ 0 = ap (λ b. cond {A = ℕ} b 1 0) isnt in
    let n : 0 < cond {A = ℕ} (a == e) 1 0 + times e ids = some in
    omega arith) in
    ap (λ o. stand o e (without e (a ∷ ids))) (next_isnt e a ids isnt) ∙ ap (stand (next_in e ids) e) (drop_isnt e a ids isnt)
    ∙ stand_behind a e (next_in e ids) (without e ids) (next_isnot a e ids once.0) ∙ ap (λ q. a ∷ q) (stands_again e ids once.1 rest))

prev_is : (p : Option ℕ) (e a : ℕ) (ids : List ℕ) → (a == e) ≡ true → prev_in p e (a ∷ ids) ≡ p
prev_is p e a ids same = ap (λ t. cond t p (prev_in (Some a) e ids)) same

prev_isnt : (p : Option ℕ) (e a : ℕ) (ids : List ℕ) → (a == e) ≡ false → prev_in p e (a ∷ ids) ≡ prev_in (Some a) e ids
prev_isnt p e a ids other = ap (λ t. cond t p (prev_in (Some a) e ids)) other

-- the neighbours of an id that left stand next to each other
pub neighbours_meet : (p : Option ℕ) (e : ℕ) (ids : List ℕ) → Once ids → 0 < times e ids
    → (xs ys : List ℕ) × (without e ids ≡ xs ++ ys) × (prev_in p e ids ≡ last_or p xs) × (next_in e ids ≡ head_of ys) × (ids ≡ xs ++ e ∷ ys)
neighbours_meet p e [] once some = absurd (omega arith)
neighbours_meet p e (a ∷ ids) once some =
    both_ways (a == e)
    (λ yes.
    let lacks : Lacks e ids = subst (λ k. Lacks k ids) (eqb-true a e yes) once.0 in
    ([], ids, drop_is e a ids yes ∙ without_lacks e ids lacks, prev_is p e a ids yes, next_is e a ids yes, ap (λ k. k ∷ ids) (eqb-true a e yes)))
    (λ isnt.
    let rest : 0 < times e ids = (let z : cond {A = ℕ} (a == e) 1 0 ≡ 0 = ap (λ b. cond {A = ℕ} b 1 0) isnt in
    let n : 0 < cond {A = ℕ} (a == e) 1 0 + times e ids = some in
    omega arith) in
    let h = neighbours_meet (Some a) e ids once.1 rest in
    (a ∷ h.0, h.1, drop_isnt e a ids isnt ∙ ap (λ q. a ∷ q) h.2, prev_isnt p e a ids isnt ∙ h.3, next_isnt e a ids isnt ∙ h.4, ap (λ q. a ∷ q) h.5))

pub lacks_left : (e : ℕ) (xs ys : List ℕ) → Lacks e (xs ++ ys) → Lacks e xs
lacks_left e [] ys lacks = tt
lacks_left e (a ∷ xs) ys lacks = (lacks.0, lacks_left e xs ys lacks.1)

pub lacks_right : (e : ℕ) (xs ys : List ℕ) → Lacks e (xs ++ ys) → Lacks e ys
lacks_right e [] ys lacks = lacks
lacks_right e (a ∷ xs) ys lacks = lacks_right e xs ys lacks.1

pub last_isnot : (e : ℕ) (p : Option ℕ) (xs : List ℕ) → IsNot e p → Lacks e xs → IsNot e (last_or p xs)
last_isnot e p [] isnt lacks = isnt
last_isnot e p (a ∷ xs) isnt lacks = last_isnot e (Some a) xs lacks.0 lacks.1

-- the reference of another id stays
pub ref_out : (e : ℕ) (rows : List (ℕ × Node)) (o : Option ℕ) → IsNot e o → ref_of (left_out e rows) o ≡ ref_of rows o
ref_out e rows None isnt = refl
ref_out e rows (Some b) isnt = ap (option_map (λ (n : Node). n.at)) (lookup_out b e rows isnt)

-- where the references of other ids stay, the neighbours of one that left meet
pub link_meets : (rows other : List (ℕ × Node)) (e : ℕ) (ids : List ℕ)
    → ((o : Option ℕ) → IsNot e o → ref_of other o ≡ ref_of rows o) → Once ids → 0 < times e ids
    → Meet other (link_of_id rows e ids) (without e ids)
link_meets rows other e ids alike once some =
    let h = neighbours_meet None e ids once some in
    let lacks : Lacks e (h.0 ++ h.1) = subst (Lacks e) h.2 (none_is e ids) in (
      h.0,
      h.1,
      h.2,
      ap (ref_of rows) h.3 ∙ sym (alike (last_or None h.0) (last_isnot e None h.0 tt (lacks_left e h.0 h.1 lacks))),
      ap (ref_of rows) h.4 ∙ sym (alike (head_of h.1) (head_isnot e h.1 (lacks_right e h.0 h.1 lacks))),
    )

-- a neighbour, where there is one, is live and another id
abbrev pub OtherThere : List (ℕ × Node) → ℕ → Option ℕ → Type 0
OtherThere rows e None = Unit {0}
OtherThere rows e (Some b) = IsThere rows b × (b ≢ e)

other_head : (rows : List (ℕ × Node)) (e : ℕ) (ids : List ℕ) → AllByRecursion (IsThere rows) ids → IsNot e (head_of ids) → OtherThere rows e (head_of ids)
other_head rows e [] all isnt = tt
other_head rows e (a ∷ ids) all isnt = (all.0, isnt)

other_next : (rows : List (ℕ × Node)) (f e : ℕ) (ids : List ℕ) → AllByRecursion (IsThere rows) ids → IsNot f (next_in e ids) → OtherThere rows f (next_in e ids)
other_next rows f e [] all isnt = tt
other_next rows f e (a ∷ ids) all isnt =
    elim (a == e) as (λ t. IsNot f (cond t (head_of ids) (next_in e ids)) → OtherThere rows f (cond t (head_of ids) (next_in e ids))) [
      | true ↦ other_head rows f ids all.1
      | false ↦ other_next rows f e ids all.1
    ] isnt

pub next_is_other : (rows : List (ℕ × Node)) (e : ℕ) (ids : List ℕ) → AllByRecursion (IsThere rows) ids → Once ids → OtherThere rows e (next_in e ids)
next_is_other rows e ids all once = other_next rows e e ids all (next_other e ids once)

-- Names

-- what holds of every node holds of that of an id
node_has : (P : Node → Type 0) (rows : List (ℕ × Node)) (b : ℕ) (n : Node) → AllByRecursion (λ (q : ℕ × Node). P q.1) rows → node_of rows b ≡ Some n → P n
node_has P [] b n all is = absurd (cc)
node_has P (r ∷ rows) b n all is =
    both_ways (r.0 == b)
    (λ yes. subst P (some_is (sym (head_is b r rows yes) ∙ is)) all.0)
    (λ isnt. node_has P rows b n all.1 (sym (head_isnt b r rows isnt) ∙ is))

-- the row of a node's name is that node's
pub named_again : (rows : List (ℕ × Node)) (b : ℕ) (n : Node) → NamesDiffer rows → node_of rows b ≡ Some n → id_named n.at.name rows ≡ Some b
named_again [] b n differ is = absurd (cc)
named_again (r ∷ rows) b n differ is =
    both_ways (r.0 == b)
    (λ yes.
    let same : r.1 ≡ n = some_is (sym (head_is b r rows yes) ∙ is) in
    let name : (r.1.at.name == n.at.name) ≡ true = ap (λ (m : Node). r.1.at.name == m.at.name) (sym same) ∙ is_itself r.1.at.name in
    ap (λ t. cond t (Some r.0) (id_named n.at.name rows)) name ∙ ap Some (eqb-true r.0 b yes))
    (λ isnt.
    let there : node_of rows b ≡ Some n = sym (head_isnt b r rows isnt) ∙ is in
    let other : n.at.name ≢ r.1.at.name = node_has (λ (m : Node). m.at.name ≢ r.1.at.name) rows b n differ.0 there in
    ap (λ t. cond t (Some r.0) (id_named n.at.name rows)) (is_other r.1.at.name n.at.name (λ same. other (sym same))) ∙ named_again rows b n differ.1 there)

-- the id of a live id's reference, once another is gone
found_again : (rows : List (ℕ × Node)) (e : ℕ) (o : Option ℕ) → NamesDiffer (left_out e rows)
    → OtherThere rows e o → id_of_ref (left_out e rows) (ref_of rows o) ≡ o
found_again rows e None differ other = refl
found_again rows e (Some b) differ other =
    let there : node_of (left_out e rows) b ≡ Some other.0.0 = lookup_out b e rows other.1 ∙ other.0.1 in
    ap (λ q. id_of_ref (left_out e rows) (option_map (λ (n : Node). n.at) q)) other.0.1 ∙ named_again (left_out e rows) b other.0.0 differ there

-- Over the orders of a container

-- what holds of an index's own list
abbrev pub OfList : (List ℕ → Type 0) → Order → Type 0
OfList P ById = Unit {0}
OfList P (ByKey ps) = Unit {0}
OfList P (ByHash ps) = Unit {0}
OfList P (Listed ids) = P ids

abbrev pub OfLists : (List ℕ → Type 0) → List Order → Type 0
OfLists P [] = Unit {0}
OfLists P (o ∷ os) = OfList P o × OfLists P os

of_list : (P Q : List ℕ → Type 0) → ((ids : List ℕ) → P ids → Q ids) → (o : Order) → OfList P o → OfList Q o
of_list P Q f ById p = tt
of_list P Q f (ByKey ps) p = tt
of_list P Q f (ByHash ps) p = tt
of_list P Q f (Listed ids) p = f ids p

pub of_lists : (P Q : List ℕ → Type 0) → ((ids : List ℕ) → P ids → Q ids) → (os : List Order) → OfLists P os → OfLists Q os
of_lists P Q f [] all = tt
of_lists P Q f (o ∷ os) all = (of_list P Q f o all.0, of_lists P Q f os all.1)

pub of_one : (P : List ℕ → Type 0) (os : List Order) (x : ℕ) → OfLists P os → OfList P (get_or os x ById)
of_one P [] x all = tt
of_one P (o ∷ os) zero all = all.0
of_one P (o ∷ os) (suc x) all = of_one P os x all.1

in_order_back : (f g : List ℕ → List ℕ) (o : Order) → OfList (λ ids. f (g ids) ≡ ids) o → in_order f (in_order g o) ≡ o
in_order_back f g ById p = refl
in_order_back f g (ByKey ps) p = refl
in_order_back f g (ByHash ps) p = refl
in_order_back f g (Listed ids) p = ap Listed p

in_order_same : (f : List ℕ → List ℕ) (o : Order) → OfList (λ ids. f ids ≡ ids) o → in_order f o ≡ o
in_order_same f ById p = refl
in_order_same f (ByKey ps) p = refl
in_order_same f (ByHash ps) p = refl
in_order_same f (Listed ids) p = ap Listed p

back_map : (e : ℕ) (os : List Order) → OfLists (Lacks e) os → map (in_order (without e)) (map (in_order (stand None e)) os) ≡ os
back_map e [] lacks = refl
back_map e (o ∷ os) lacks =
    let here : in_order (without e) (in_order (stand None e) o) ≡ o = in_order_back (without e) (stand None e) o
    (of_list (Lacks e) (λ ids. without e (stand None e ids) ≡ ids) (λ ids l. without_stand None e ids l) o lacks.0) in
    let rest : map (in_order (without e)) (map (in_order (stand None e)) os) ≡ os = back_map e os lacks.1 in
    λ i. here i ∷ rest i

back_set : (b e : ℕ) (os : List Order) (x : ℕ) → OfLists (Lacks e) os
    → map (in_order (without e)) (set (map (in_order (stand None e)) os) x (in_order (stand_before b e) (get_or os x ById))) ≡ os
back_set b e [] x lacks = refl
back_set b e (o ∷ os) zero lacks =
    let here : in_order (without e) (in_order (stand_before b e) o) ≡ o = in_order_back (without e) (stand_before b e) o
    (of_list (Lacks e) (λ ids. without e (stand_before b e ids) ≡ ids) (λ ids l. without_stand (Some b) e ids l) o lacks.0) in
    let rest : map (in_order (without e)) (map (in_order (stand None e)) os) ≡ os = back_map e os lacks.1 in
    λ i. here i ∷ rest i
back_set b e (o ∷ os) (suc x) lacks =
    let here : in_order (without e) (in_order (stand None e) o) ≡ o = in_order_back (without e) (stand None e) o
    (of_list (Lacks e) (λ ids. without e (stand None e ids) ≡ ids) (λ ids l. without_stand None e ids l) o lacks.0) in
    let rest : map (in_order (without e)) (set (map (in_order (stand None e)) os) x (in_order (stand_before b e) (get_or os x ById)))
    ≡ os = back_set b e os x lacks.1 in
    λ i. here i ∷ rest i

-- an insert taken back
pub orders_back : (p : Option (ℕ × ℕ)) (e : ℕ) (os : List Order) → OfLists (Lacks e) os → map (in_order (without e)) (orders_with p e os) ≡ os
orders_back None e os lacks = back_map e os lacks
orders_back (Some p) e os lacks = back_set p.1 e os p.0 lacks

-- one list changed and changed back
pub order_back : (f g : List ℕ → List ℕ) (os : List Order) (x : ℕ)
    → OfList (λ ids. f (g ids) ≡ ids) (get_or os x ById) → moved_order x f (moved_order x g os) ≡ os
order_back f g [] x p = refl
order_back f g (o ∷ os) zero p = ap (λ q. q ∷ os) (in_order_back f g o p)
order_back f g (o ∷ os) (suc x) p = ap (λ q. o ∷ q) (order_back f g os x p)

pub moved_same : (f : List ℕ → List ℕ) (os : List Order) (x : ℕ) → OfList (λ ids. f ids ≡ ids) (get_or os x ById) → moved_order x f os ≡ os
moved_same f os x p = ap (set os x) (in_order_same f (get_or os x ById) p) ∙ set-get_or os x ById

-- what holds of a list of live ids in which e stands
abbrev pub Stands : List (ℕ × Node) → ℕ → List ℕ → Type 0
Stands rows e ids = AllByRecursion (IsThere rows) ids × Once ids × (0 < times e ids)

relinked_one : (rows : List (ℕ × Node)) (e : ℕ) (ids : List ℕ) → NamesDiffer (left_out e rows) → Stands rows e ids
    → stand (id_of_ref (left_out e rows) (ref_of rows (next_in e ids))) e (without e ids) ≡ ids
relinked_one rows e ids differ s =
    ap (λ o. stand o e (without e ids)) (found_again rows e (next_in e ids) differ (next_is_other rows e ids s.0 s.1)) ∙ stands_again e ids s.1 s.2

-- an erase taken back
pub relinked_back : (x : ℕ) (rows : List (ℕ × Node)) (e : ℕ) (os : List Order) → NamesDiffer (left_out e rows) → OfLists (Stands rows e) os
    → relinked (left_out e rows) e (links_from x rows e os) (map (in_order (without e)) os) ≡ os
relinked_back x rows e [] differ all = refl
relinked_back x rows e (ById ∷ os) differ all = ap (λ q. ById ∷ q) (relinked_back (suc x) rows e os differ all.1)
relinked_back x rows e (ByKey ps ∷ os) differ all = ap (λ q. ByKey ps ∷ q) (relinked_back (suc x) rows e os differ all.1)
relinked_back x rows e (ByHash ps ∷ os) differ all = ap (λ q. ByHash ps ∷ q) (relinked_back (suc x) rows e os differ all.1)
relinked_back x rows e (Listed ids ∷ os) differ all =
    let here : stand (id_of_ref (left_out e rows) (ref_of rows (next_in e ids))) e (without e ids) ≡ ids = relinked_one rows e ids differ all.0 in
    let rest : relinked (left_out e rows) e (links_from (suc x) rows e os) (map (in_order (without e)) os)
    ≡ os = relinked_back (suc x) rows e os differ all.1 in
    λ i. Listed (here i) ∷ rest i

-- a relocation taken back
pub relocated_back : (rows : List (ℕ × Node)) (e : ℕ) (b : Option ℕ) (ids : List ℕ) → IsNot e b → Stands rows e ids
    → stand (next_in e ids) e (without e (relocated b e ids)) ≡ ids
relocated_back rows e None ids isnt s = ap (stand (next_in e ids) e) (without_stand None e (without e ids) (none_is e ids)) ∙ stands_again e ids s.1 s.2
relocated_back rows e (Some b) ids isnt s =
    ap (λ t. stand (next_in e ids) e (without e (cond t ids (stand (Some b) e (without e ids))))) (is_other b e isnt)
    ∙ ap (stand (next_in e ids) e) (without_stand (Some b) e (without e ids) (none_is e ids)) ∙ stands_again e ids s.1 s.2
