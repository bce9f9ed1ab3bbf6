-- The inverse of a change, taken back, gives exactly the data before it, and can be taken back.
-- Cited by `RunLemmas`.
use Rattle.std.proofs.Common.{◌≡◌, ℕ, ◌+◌, ◌-◌, ◌<◌, zero, suc, true, false, cond, List, [], ◌∷◌, map, length, get_or, refl, ap, sym, ◌∙◌, subst, arith}
use Rattle.std.specs.Prelude.{◌==◌}
use Rattle.std.specs.Option.{option_map}
use Rattle.std.specs.Ordering.{is_eq}
use Rattle.std.proofs.lemmas.Bool.{eqb-false}
use Rattle.std.specs.declared.option.Option.{Option}
use Rattle.std.specs.declared.option.Option.TheVariants.{None, Some}
use Rattle.mi_value.specs.declared.value.Value.{Value}
use Rattle.mi_value.specs.Order.{compare_key}
use Rattle.mi_catalog.specs.Shape.{Shape}
use Rattle.mi_model.specs.Change.{stand, without, relocated}
use Rattle.mi_model.proofs.SortLaws.{both_ways}
use Rattle.mi_node.specs.Refs.{Ref}
use Rattle.mi_container.specs.Data.{Content, Node, Order, Data, parts_of, node_of, kept_of, content_in, content_of, stamp_of, IsData}
use Rattle.mi_container.specs.Data.Order.{ById, ByKey, ByHash, Listed}
use Rattle.mi_container.specs.Changes.{entered, left_out, with_content, restamped, new_content, in_order, new_node, orders_with, inserted}
use Rattle.mi_container.specs.Changes.{replaced, next_in, link_in, links_from, kept_node, erased_node, erased, moved_order, relocated_in}
use Rattle.mi_container.specs.Inverse.{RowRef, at_in, row_ref, insert_inverse, old_places, old_record, old_content, put_inverse, erase_inverse}
use Rattle.mi_container.specs.Inverse.{next_in_order, moved_back, relocate_inverse, relinked, row_returned, stamps_back, taken_back}
use Rattle.mi_container.specs.Inverse.Inverse.{Nothing}
use Rattle.mi_container.specs.Fits.{IsNot, IsThere, IsLive, IsOther, HasOwnList, AllMeet, PlacesMeet, Ready}
use Rattle.mi_container.proofs.PairLemmas.{lookup_push_same, lookup_entered_same, out_push, out_entered, entered_back}
use Rattle.mi_container.proofs.ContentLemmas.{content_back, node_with}
use Rattle.mi_container.proofs.SequenceLemmas.{OfList, of_one, orders_back, order_back, moved_same, relinked_back, relocated_back, next_is_other, OtherThere}
use Rattle.mi_container.proofs.SequenceLemmas.{Stands}
use Rattle.mi_container.proofs.InvariantLemmas.{rows_climb, no_next, lists_stand, all_stand, lists_lack, unkept, stamp_early, stamps_long}
use Rattle.mi_container.proofs.StampedListLemmas.{by_stamp_moves, restamped_at}
use Rattle.mi_container.proofs.GroupLemmas.{StampsRise, RisesIn, all_meet, MovesLast, places_meet}
use Rattle.mi_container.proofs.ViewLemmas.{stamps_rise_in}
use Rattle.mi_container.proofs.NameLemmas.{names_out}

-- a live row is in the node of its reference
live_ref : (rows : List (ℕ × Node)) (e : ℕ) → IsThere rows e → IsLive rows (row_ref rows e)
live_ref rows e there = (there.0, there.1, sym (ap at_in there.1))

-- Insert

pub insert_back : (s : Shape) (p : Option (ℕ × ℕ)) (at : Ref) (r : List Value) (d : Data)
    → IsData s d → taken_back (insert_inverse at d) (inserted p at r d) ≡ d
insert_back s p at r d is =
    let rows : left_out d.next (inserted p at r d).rows ≡ d.rows = out_push d.next _ d.rows (no_next s d is) in
    let orders : map (in_order (without d.next)) (orders_with p d.next d.orders) ≡ d.orders = orders_back p d.next d.orders (lists_lack s d is) in
    let next : d.next + 1 - 1 ≡ d.next = omega arith in
    let arrivals : d.arrivals + 1 - 1 ≡ d.arrivals = omega arith in
    λ i. record { rows = rows i; orders = orders i; next = next i; arrivals = arrivals i; kept = d.kept }

pub insert_ready : (s : Shape) (p : Option (ℕ × ℕ)) (at : Ref) (r : List Value) (d : Data) → IsData s d → Ready (insert_inverse at d) (inserted p at r d)
insert_ready s p at r d is = ((new_node at r d, lookup_push_same d.next _ d.rows (no_next s d is), refl), refl, omega arith)

-- Put

-- the stamps of the old places are put back
stamps_again : (x : ℕ) (rows : List (ℕ × Node)) (e : ℕ) (old new : List Value) (now : ℕ) (os : List Order) (stamps : List ℕ)
    → stamps_back (old_places x rows e old new os stamps) (restamped os old new now stamps) ≡ stamps
stamps_again x rows e old new now [] stamps = refl
stamps_again x rows e old new now (o ∷ os) [] = refl
stamps_again x rows e old new now (o ∷ os) (a ∷ stamps) =
    let rest : stamps_back (old_places (suc x) rows e old new os stamps) (restamped os old new now stamps)
    ≡ stamps = stamps_again (suc x) rows e old new now os stamps in
    elim (is_eq (compare_key (parts_of o) old new))
    as (λ t. stamps_back (cond t None (Some (record { stamp = a; link = link_in x rows e o })) ∷ old_places (suc x) rows e old new os stamps)
    (cond t a now ∷ restamped os old new now stamps)
    ≡ a ∷ stamps) [
      | true ↦ ap (λ q. a ∷ q) rest
      | false ↦ ap (λ q. a ∷ q) rest
    ]

pub put_back : (s : Shape) (e : ℕ) (r : List Value) (d : Data) → IsThere d.rows e → taken_back (put_inverse e r d) (replaced e r d) ≡ d
put_back s e r d there =
    let was : Content = content_of d.rows e in
    let c : Content = new_content d.orders r d.arrivals was in
    let now : content_of (with_content e c d.rows) e ≡ c = ap content_in (node_with e c d.rows there.0 there.1) in
    let stamps : stamps_back (old_places 0 d.rows e was.values r d.orders was.stamps) c.stamps
    ≡ was.stamps = stamps_again 0 d.rows e was.values r d.arrivals d.orders was.stamps in
    let content : old_content (old_record e r was d) (content_of (with_content e c d.rows) e) ≡ was =
    ap (old_content (old_record e r was d)) now ∙ (λ i. record { values = was.values; stamps = stamps i }) in
    let rows : with_content e (old_content (old_record e r was d) (content_of (with_content e c d.rows) e)) (with_content e c d.rows) ≡ d.rows =
    ap (λ q. with_content e q (with_content e c d.rows)) content ∙ content_back e c d.rows in
    let arrivals : d.arrivals + 1 - 1 ≡ d.arrivals = omega arith in
    λ i. record { rows = rows i; orders = d.orders; next = d.next; arrivals = arrivals i; kept = d.kept }

-- a row whose key changes goes last
moves_last : (s : Shape) (e : ℕ) (r : List Value) (d : Data) → IsData s d → (there : IsThere d.rows e) → (x : ℕ) → x < length d.orders
    → MovesLast e (new_content d.orders r d.arrivals (content_of d.rows e)) d.rows there x (get_or d.orders x ById)
moves_last s e r d is there x l has_ changed =
    let was : Content = content_of d.rows e in
    let c : Content = new_content d.orders r d.arrivals was in
    let long : length was.stamps ≡ length d.orders = stamps_long s d is e there in
    let newest : get_or c.stamps x 0 ≡ d.arrivals = restamped_at d.orders ById was.values r d.arrivals was.stamps x l (omega arith)
    ∙ ap (λ b. cond b (get_or was.stamps x 0) d.arrivals) changed in
    by_stamp_moves x e d.next c d.rows (rows_climb s d is) there
    (λ a here. subst (λ n. stamp_of d.rows x a < n) (sym newest) (stamp_early s d is x has_ a here))

-- the stamps of an index of the container rise
rises_in : (s : Shape) (d : Data) → IsData s d → (k : ℕ) → k < length d.orders → RisesIn d.rows (0 + k) (get_or d.orders k ById)
rises_in s d is k l has_ =
    let same : 0 + k ≡ k = omega arith in subst (λ n. StampsRise n d.rows) (sym same) (stamps_rise_in s d is k l has_)

pub put_ready : (s : Shape) (e : ℕ) (r : List Value) (d : Data) → IsData s d → IsThere d.rows e → Ready (put_inverse e r d) (replaced e r d)
put_ready s e r d is there =
    let was : Content = content_of d.rows e in
    let c : Content = new_content d.orders r d.arrivals was in (
      (_, node_with e c d.rows there.0 there.1, sym (ap at_in there.1)),
      omega arith,
      subst (λ (q : Content). PlacesMeet 0 (with_content e c d.rows) q.values was.values (old_places 0 d.rows e was.values r d.orders was.stamps) d.orders)
          (sym (ap content_in (node_with e c d.rows there.0 there.1)))
          (places_meet e c d.rows there 0 d.orders was.stamps (stamps_long s d is e there) (all_stand s e d is there)
          (λ k l. let same : 0 + k ≡ k = omega arith in (
            rises_in s d is k l,
            subst (λ n. MovesLast e c d.rows there n (get_or d.orders k ById)) (sym same) (moves_last s e r d is there k l),
            ap (λ n. stamp_of d.rows n e) (sym same),
          ))),
    )

-- Erase

kept_there : (s : Shape) (e : ℕ) (n : Node) (d : Data) → IsData s d → node_of d.rows e ≡ Some n
    → kept_of (erased_node e (Some n) d).kept e ≡ Some (kept_node e n d)
kept_there s e n d is here = lookup_entered_same e (kept_node e n d) d.kept (unkept s e d is (n, here))

pub erase_back : (s : Shape) (e : ℕ) (why : Option (ℕ × ℕ)) (d : Data) → IsData s d → IsThere d.rows e → taken_back (erase_inverse e why d) (erased e d) ≡ d
erase_back s e why d is there =
    let n : Node = there.0 in
    let rows : entered e n (left_out e d.rows) ≡ d.rows = entered_back d.next e n d.rows (rows_climb s d is) there.1 in
    let orders : relinked (left_out e d.rows) e (links_from 0 d.rows e d.orders) (map (in_order (without e)) d.orders) ≡ d.orders =
    relinked_back 0 d.rows e d.orders (names_out e d.rows is.names) (lists_stand s e d is there) in
    let kept : left_out e (entered e (kept_node e n d) d.kept) ≡ d.kept = out_entered e (kept_node e n d) d.kept (unkept s e d is there) in
    ap (λ o. taken_back (erase_inverse e why d) (erased_node e o d)) there.1
    ∙ ap (λ o. row_returned e o (erased_node e (Some n) d)) (kept_there s e n d is there.1)
    ∙ (λ i. record { rows = rows i; orders = orders i; next = d.next; arrivals = d.arrivals; kept = kept i })

pub erase_ready : (s : Shape) (e : ℕ) (why : Option (ℕ × ℕ)) (d : Data) → IsData s d → IsThere d.rows e → Ready (erase_inverse e why d) (erased e d)
erase_ready s e why d is there =
    let n : Node = there.0 in
    let content : content_of d.rows e ≡ n.content = ap content_in there.1 in
    let meet : AllMeet 0 (left_out e d.rows) n.content (links_from 0 d.rows e d.orders) (map (in_order (without e)) d.orders) =
    subst (λ c. AllMeet 0 (left_out e d.rows) c (links_from 0 d.rows e d.orders) (map (in_order (without e)) d.orders))
    content (all_meet 0 e d.rows d.orders (all_stand s e d is there) (rises_in s d is)) in
    subst (λ o. Ready (erase_inverse e why d) (erased_node e o d)) (sym there.1)
    ((kept_node e n d, kept_there s e n d is there.1, sym (ap at_in there.1)), meet)

-- Relocate

-- the ids of live rows
ids_again : (rows : List (ℕ × Node)) (o : Option ℕ) → option_map (λ (q : RowRef). q.id) (option_map (row_ref rows) o) ≡ o
ids_again rows None = refl
ids_again rows (Some b) = refl

relocated_list : (x e : ℕ) (b : Option ℕ) (rows : List (ℕ × Node)) (os : List Order) (o : Order)
    → get_or os x ById ≡ o → HasOwnList o → IsNot e b → OfList (Stands rows e) o
    → moved_order x (λ ids. stand (next_in_order e o) e (without e ids)) (moved_order x (relocated b e) os) ≡ os
relocated_list x e b rows os ById is l isnt stands = absurd l
relocated_list x e b rows os (ByKey ps) is l isnt stands = absurd l
relocated_list x e b rows os (ByHash ps) is l isnt stands = absurd l
relocated_list x e b rows os (Listed ids) is l isnt stands =
    order_back (λ js. stand (next_in e ids) e (without e js)) (relocated b e) os x
    (subst (OfList (λ js. stand (next_in e ids) e (without e (relocated b e js)) ≡ js)) (sym is) (relocated_back rows e b ids isnt stands))

listed_again : (s : Shape) (x e : ℕ) (b : Option ℕ) (d : Data) → IsData s d → IsThere d.rows e → HasOwnList (get_or d.orders x ById) → IsNot e b
    → taken_back (moved_back x e d) (relocated_in x e b d) ≡ d
listed_again s x e b d is there l isnt =
    let o : Order = get_or d.orders x ById in
    let orders : moved_order x (λ ids. stand (option_map (λ (q : RowRef). q.id) (option_map (row_ref d.rows) (next_in_order e o))) e (without e ids))
    (moved_order x (relocated b e) d.orders)
    ≡ d.orders =
    ap (λ q. moved_order x (λ ids. stand q e (without e ids)) (moved_order x (relocated b e) d.orders)) (ids_again d.rows (next_in_order e o))
    ∙ relocated_list x e b d.rows d.orders o refl l isnt (of_one (Stands d.rows e) d.orders x (lists_stand s e d is there)) in
    λ i. record { rows = d.rows; orders = orders i; next = d.next; arrivals = d.arrivals; kept = d.kept }

every : (P : List ℕ → Type 0) → ((ids : List ℕ) → P ids) → (o : Order) → OfList P o
every P f ById = tt
every P f (ByKey ps) = tt
every P f (ByHash ps) = tt
every P f (Listed ids) = f ids

pub relocate_back : (s : Shape) (x e : ℕ) (b : Option ℕ) (d : Data) → IsData s d → IsThere d.rows e → HasOwnList (get_or d.orders x ById)
    → taken_back (relocate_inverse x e b d) (relocated_in x e b d) ≡ d
relocate_back s x e None d is there l = listed_again s x e None d is there l tt
relocate_back s x e (Some b) d is there l =
    both_ways (b == e)
    (λ yes.
    let same : (ids : List ℕ) → relocated (Some b) e ids ≡ ids = λ ids. ap (λ t. cond t ids (stand (Some b) e (without e ids))) yes in
    let orders : moved_order x (relocated (Some b) e) d.orders ≡ d.orders =
    moved_same (relocated (Some b) e) d.orders x (every (λ ids. relocated (Some b) e ids ≡ ids) same (get_or d.orders x ById)) in
    ap (λ t. taken_back (cond t Nothing (moved_back x e d)) (relocated_in x e (Some b) d)) yes
    ∙ (λ i. record { rows = d.rows; orders = orders i; next = d.next; arrivals = d.arrivals; kept = d.kept }))
    (λ isnt.
    ap (λ t. taken_back (cond t Nothing (moved_back x e d)) (relocated_in x e (Some b) d)) isnt
    ∙ listed_again s x e (Some b) d is there l (eqb-false b e isnt))

listed_still : (f : List ℕ → List ℕ) (os : List Order) (x : ℕ) → HasOwnList (get_or os x ById) → HasOwnList (get_or (moved_order x f os) x ById)
listed_still f [] x l = l
listed_still f (ById ∷ os) zero l = l
listed_still f (ByKey ps ∷ os) zero l = l
listed_still f (ByHash ps ∷ os) zero l = l
listed_still f (Listed ids ∷ os) zero l = tt
listed_still f (o ∷ os) (suc x) l = listed_still f os x l

other_ref : (rows : List (ℕ × Node)) (e : ℕ) (o : Option ℕ) → OtherThere rows e o → IsOther rows e (option_map (row_ref rows) o)
other_ref rows e None other = tt
other_ref rows e (Some b) other = (live_ref rows b other.0, other.1)

other_here : (rows : List (ℕ × Node)) (e : ℕ) (o : Order) → HasOwnList o → OfList (Stands rows e) o → OtherThere rows e (next_in_order e o)
other_here rows e ById l stands = absurd l
other_here rows e (ByKey ps) l stands = absurd l
other_here rows e (ByHash ps) l stands = absurd l
other_here rows e (Listed ids) l stands = next_is_other rows e ids stands.0 stands.1

moved_ready : (s : Shape) (x e : ℕ) (b : Option ℕ) (d : Data) → IsData s d → IsThere d.rows e
    → HasOwnList (get_or d.orders x ById) → Ready (moved_back x e d) (relocated_in x e b d)
moved_ready s x e b d is there l = (
  live_ref d.rows e there,
  other_ref d.rows e (next_in_order e (get_or d.orders x ById))
      (other_here d.rows e (get_or d.orders x ById) l (of_one (Stands d.rows e) d.orders x (lists_stand s e d is there))),
  listed_still (relocated b e) d.orders x l,
)

pub relocate_ready : (s : Shape) (x e : ℕ) (b : Option ℕ) (d : Data) → IsData s d → IsThere d.rows e → HasOwnList (get_or d.orders x ById)
    → Ready (relocate_inverse x e b d) (relocated_in x e b d)
relocate_ready s x e None d is there l = moved_ready s x e None d is there l
relocate_ready s x e (Some b) d is there l =
    elim (b == e) as (λ t. Ready (cond t Nothing (moved_back x e d)) (relocated_in x e (Some b) d)) [
      | true ↦ tt
      | false ↦ moved_ready s x e (Some b) d is there l
    ]
