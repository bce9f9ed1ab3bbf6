-- The rows of one key in a hashed index: one that leaves them is remembered by neighbours that then meet.
-- Cited by `InverseLemmas`.
use Rattle.std.proofs.Common.{◌≡◌, ◌≢◌, ℕ, ◌+◌, ◌<◌, zero, suc, Bool, true, false, cond, not, inl, inr}
use Rattle.std.proofs.Common.{List, [], ◌∷◌, ◌++◌, length, map, get_or, refl, ap, sym, ◌∙◌, subst, arith}
use Rattle.std.specs.Prelude.{◌==◌}
use Rattle.std.specs.List.{filter, AllByRecursion}
use Rattle.std.specs.Option.{option_map}
use Rattle.std.specs.Ordering.{is_eq, nat_cmp, on, ordering_reverse}
use Rattle.std.proofs.lemmas.Cmp.{ranked}
use Rattle.mi_model.proofs.StampLaws.{Rises}
use Rattle.std.specs.declared.cmp.Ordering.{Ordering}
use Rattle.std.specs.declared.cmp.Ordering.TheVariants.{Less, Equal, Greater}
use Rattle.std.specs.Cmp.{IsTotalOrder}
use Rattle.std.proofs.lemmas.Bool.Decides.{eqb_tells}
use Rattle.std.specs.declared.option.Option.{Option}
use Rattle.std.specs.declared.option.Option.TheVariants.{None, Some}
use Rattle.mi_value.specs.declared.value.Value.{Value}
use Rattle.mi_value.specs.declared.compare.KeyPart.{KeyPart}
use Rattle.mi_value.specs.Order.{compare_key}
use Rattle.mi_value.proofs.OrderLaws.{compare_key_total}
use Rattle.mi_model.specs.Table.{times}
use Rattle.mi_model.specs.Change.{without}
use Rattle.mi_model.proofs.SortLaws.{all_filter, both_ways}
use Rattle.mi_model.proofs.ViewLaws.{Lacks, none_is, filter_alike, filter_swap}
use Rattle.mi_container.specs.Data.{Content, Node, Order, parts_of, has_stamps, node_of, content_in, content_of, stamp_of, ids_by_stamp, listed, lists_from}
use Rattle.mi_container.specs.Data.Order.{ById, ByKey, ByHash, Listed}
use Rattle.mi_container.specs.Changes.{left_out, with_content, in_order, ref_of, head_of, link_of_id, group, link_in, links_from}
use Rattle.mi_container.specs.Inverse.{OldPlace, old_place, old_places}
use Rattle.mi_container.specs.Fits.{IsThere, IsNot, last_or, MeetByStamp, MeetIn, AllMeet, PlaceMeets, PlacesMeet}
use Rattle.mi_container.proofs.PairLemmas.{lookup_out}
use Rattle.mi_container.proofs.ContentLemmas.{node_with, node_beside}
use Rattle.mi_container.proofs.SequenceLemmas.{Once, neighbours_meet, lacks_left, lacks_right, last_isnot, head_isnot, ref_out, link_meets, Stands}
use Rattle.mi_container.proofs.StampedListLemmas.{by_stamp_erase}

suc_is : {m n : ℕ} → suc m ≡ suc n → m ≡ n
suc_is {m} {n} e = cc

lacks_filter : (p : ℕ → Bool) (e : ℕ) (ids : List ℕ) → Lacks e ids → Lacks e (filter p ids)
lacks_filter p e [] lacks = tt
lacks_filter p e (a ∷ ids) lacks =
    elim (p a) as (λ b. Lacks e (cond b (a ∷ filter p ids) (filter p ids))) [
      | true ↦ (lacks.0, lacks_filter p e ids lacks.1)
      | false ↦ lacks_filter p e ids lacks.1
    ]

once_filter : (p : ℕ → Bool) (ids : List ℕ) → Once ids → Once (filter p ids)
once_filter p [] once = tt
once_filter p (a ∷ ids) once =
    elim (p a) as (λ b. Once (cond b (a ∷ filter p ids) (filter p ids))) [
      | true ↦ (lacks_filter p a ids once.0, once_filter p ids once.1)
      | false ↦ once_filter p ids once.1
    ]

times_filter : (p : ℕ → Bool) (e : ℕ) (ids : List ℕ) → p e ≡ true → times e (filter p ids) ≡ times e ids
times_filter p e [] is = refl
times_filter p e (a ∷ ids) is =
    elim (eqb_tells a e) [
      | inl same ↦ ap (λ b. times e (cond b (a ∷ filter p ids) (filter p ids))) (ap p same.1 ∙ is) ∙ ap (λ n. cond (a == e) 1 0 + n) (times_filter p e ids is)
      | inr other ↦
          let none : cond {A = ℕ} (a == e) 1 0 ≡ 0 = ap (λ b. cond {A = ℕ} b 1 0) other.0 in
          let rest : times e (filter p ids) ≡ times e ids = times_filter p e ids is in
          elim (p a) as (λ b. times e (cond b (a ∷ filter p ids) (filter p ids)) ≡ cond (a == e) 1 0 + times e ids) [
            | true ↦ ap (λ n. cond (a == e) 1 0 + n) rest
            | false ↦ omega arith
          ]
    ]

filter_push : (p : ℕ → Bool) (e : ℕ) (ids : List ℕ) → p e ≡ false → filter p (ids ++ e ∷ []) ≡ filter p ids
filter_push p e [] isnt = ap (λ b. cond b (e ∷ []) []) isnt
filter_push p e (a ∷ ids) isnt =
    elim (p a) as (λ b. cond b (a ∷ filter p (ids ++ e ∷ [])) (filter p (ids ++ e ∷ [])) ≡ cond b (a ∷ filter p ids) (filter p ids)) [
      | true ↦ ap (λ q. a ∷ q) (filter_push p e ids isnt)
      | false ↦ filter_push p e ids isnt
    ]

-- whether the row of an id has r's key
abbrev has_key : List KeyPart → List (ℕ × Node) → List Value → ℕ → Bool
has_key ps rows r a = is_eq (compare_key ps r (content_of rows a).values)

self_equal : (o : Ordering) → o ≡ ordering_reverse o → o ≡ Equal
self_equal Less h = absurd (cc)
self_equal Equal h = refl
self_equal Greater h = absurd (cc)

own_key : (ps : List KeyPart) (rows : List (ℕ × Node)) (e : ℕ) → has_key ps rows (content_of rows e).values e ≡ true
own_key ps rows e =
    let o : IsTotalOrder (compare_key ps) = compare_key_total ps in
    ap is_eq (self_equal (compare_key ps (content_of rows e).values (content_of rows e).values)
    (o.antisymm (content_of rows e).values (content_of rows e).values))

-- the rows of a key without one that was erased
group_erased : (ps : List KeyPart) (x e : ℕ) (rows : List (ℕ × Node)) (r : List Value) → group ps x (left_out e rows) r ≡ without e (group ps x rows r)
group_erased ps x e rows r =
    ap (filter (has_key ps (left_out e rows) r)) (by_stamp_erase x e rows)
    ∙ filter_alike e (has_key ps (left_out e rows) r) (has_key ps rows r)
    (λ a ne. ap (λ o. is_eq (compare_key ps r (content_in o).values)) (lookup_out a e rows ne))
    (without e (ids_by_stamp x rows)) (none_is e (ids_by_stamp x rows))
    ∙ filter_swap (has_key ps rows r) (λ a. not (a == e)) (ids_by_stamp x rows)

-- without one whose key changed
group_put : (ps : List KeyPart) (x e : ℕ) (c : Content) (rows : List (ℕ × Node)) (r : List Value)
    → IsThere rows e → ids_by_stamp x (with_content e c rows) ≡ without e (ids_by_stamp x rows) ++ e ∷ []
    → is_eq (compare_key ps r c.values) ≡ false → group ps x (with_content e c rows) r ≡ without e (group ps x rows r)
group_put ps x e c rows r there moved changed =
    let new : has_key ps (with_content e c rows) r e ≡ false =
    ap (λ o. is_eq (compare_key ps r (content_in o).values)) (node_with e c rows there.0 there.1) ∙ changed in
    ap (filter (has_key ps (with_content e c rows) r)) moved
    ∙ filter_push (has_key ps (with_content e c rows) r) e (without e (ids_by_stamp x rows)) new
    ∙ filter_alike e (has_key ps (with_content e c rows) r) (has_key ps rows r)
    (λ a ne. ap (λ o. is_eq (compare_key ps r (content_in o).values)) (node_beside a e c rows ne))
    (without e (ids_by_stamp x rows)) (none_is e (ids_by_stamp x rows))
    ∙ filter_swap (has_key ps rows r) (λ a. not (a == e)) (ids_by_stamp x rows)

-- the references stay with another content
ref_with : (e : ℕ) (c : Content) (rows : List (ℕ × Node)) (o : Option ℕ) → IsThere rows e → ref_of (with_content e c rows) o ≡ ref_of rows o
ref_with e c rows None there = refl
ref_with e c rows (Some b) there =
    elim (eqb_tells b e) [
      | inl same ↦
          let at : node_of rows b ≡ Some there.0 = ap (node_of rows) same.1 ∙ there.1 in
          ap (λ q. option_map (λ (n : Node). n.at) (node_of (with_content e c rows) q)) same.1
          ∙ ap (option_map (λ (n : Node). n.at)) (node_with e c rows there.0 there.1) ∙ sym (ap (option_map (λ (n : Node). n.at)) at)
      | inr other ↦ ap (option_map (λ (n : Node). n.at)) (node_beside b e c rows other.1)
    ]

-- Lists that rise

rises_filter : (order : ℕ → ℕ → Ordering) (p : ℕ → Bool) (ids : List ℕ) → Rises order ids → Rises order (filter p ids)
rises_filter order p [] up = tt
rises_filter order p (a ∷ ids) up =
    elim (p a) as (λ b. Rises order (cond b (a ∷ filter p ids) (filter p ids))) [
      | true ↦ (all_filter (λ b. order a b ≡ Less) p ids up.0, rises_filter order p ids up.1)
      | false ↦ rises_filter order p ids up.1
    ]

all_middle : (P : ℕ → Type 0) (xs : List ℕ) (e : ℕ) (ys : List ℕ) → AllByRecursion P (xs ++ e ∷ ys) → P e
all_middle P [] e ys all = all.0
all_middle P (a ∷ xs) e ys all = all_middle P xs e ys all.1

rises_split : (order : ℕ → ℕ → Ordering) (xs : List ℕ) (e : ℕ) (ys : List ℕ) → Rises order (xs ++ e ∷ ys)
    → AllByRecursion (λ a. order a e ≡ Less) xs × AllByRecursion (λ b. order e b ≡ Less) ys
rises_split order [] e ys up = (tt, up.0)
rises_split order (a ∷ xs) e ys up = let rest = rises_split order xs e ys up.1 in ((all_middle (λ b. order a b ≡ Less) xs e ys up.0, rest.0), rest.1)

both_of : {P Q R : ℕ → Type 0} → ((a : ℕ) → P a → Q a → R a) → (ids : List ℕ) → AllByRecursion P ids → AllByRecursion Q ids → AllByRecursion R ids
both_of f [] p q = tt
both_of f (a ∷ ids) p q = (f a p.0 q.0, both_of f ids p.1 q.1)

-- the ids of an index with stamps, in their order
abbrev pub StampsRise : ℕ → List (ℕ × Node) → Type 0
StampsRise x rows = Rises (on (stamp_of rows x) nat_cmp) (ids_by_stamp x rows)

-- where the row of e leaves its group
group_meets : (ps : List KeyPart) (x e : ℕ) (rows other : List (ℕ × Node))
    → ((o : Option ℕ) → IsNot e o → ref_of other o ≡ ref_of rows o) → ((b : ℕ) → b ≢ e → stamp_of other x b ≡ stamp_of rows x b)
    → Stands rows e (ids_by_stamp x rows) → StampsRise x rows
    → group ps x other (content_of rows e).values ≡ without e (group ps x rows (content_of rows e).values)
    → MeetByStamp x other (stamp_of rows x e) (link_of_id rows e (group ps x rows (content_of rows e).values)) (group ps x other (content_of rows e).values)
group_meets ps x e rows other refs stamps stands up left =
    let p : ℕ → Bool = has_key ps rows (content_of rows e).values in
    let ids : List ℕ = filter p (ids_by_stamp x rows) in
    let some : 0 < times e ids = subst (λ n. 0 < n) (sym (times_filter p e (ids_by_stamp x rows) (own_key ps rows e))) stands.2 in
    let h = neighbours_meet None e ids (once_filter p (ids_by_stamp x rows) stands.1) some in
    let lacks : Lacks e (h.0 ++ h.1) = subst (Lacks e) h.2 (none_is e ids) in
    let before : Lacks e h.0 = lacks_left e h.0 h.1 lacks in
    let behind : Lacks e h.1 = lacks_right e h.0 h.1 lacks in
    let order : ℕ → ℕ → Ordering = on (stamp_of rows x) nat_cmp in
    let split = rises_split order h.0 e h.1 (subst (Rises order) h.5 (rises_filter order p (ids_by_stamp x rows) up)) in (
      h.0,
      h.1,
      left ∙ h.2,
      ap (ref_of rows) h.3 ∙ sym (refs (last_or None h.0) (last_isnot e None h.0 tt before)),
      ap (ref_of rows) h.4 ∙ sym (refs (head_of h.1) (head_isnot e h.1 behind)),
      both_of {P = λ a. order a e ≡ Less} {Q = λ a. a ≢ e} {R = λ b. stamp_of other x b < stamp_of rows x e}
          (λ a less ne. subst (λ n. n < stamp_of rows x e) (sym (stamps a ne)) (ranked (stamp_of rows x a) (stamp_of rows x e) Less (sym less)))
          h.0 split.0 before,
      both_of {P = λ b. order e b ≡ Less} {Q = λ b. b ≢ e} {R = λ b. stamp_of rows x e < stamp_of other x b}
          (λ b less ne. subst (λ n. stamp_of rows x e < n) (sym (stamps b ne)) (ranked (stamp_of rows x e) (stamp_of rows x b) Less (sym less)))
          h.1 split.1 behind,
    )

stamp_out : (x e : ℕ) (rows : List (ℕ × Node)) (b : ℕ) → b ≢ e → stamp_of (left_out e rows) x b ≡ stamp_of rows x b
stamp_out x e rows b ne = ap (λ o. get_or (content_in o).stamps x 0) (lookup_out b e rows ne)

stamp_beside : (x e : ℕ) (c : Content) (rows : List (ℕ × Node)) (b : ℕ) → b ≢ e → stamp_of (with_content e c rows) x b ≡ stamp_of rows x b
stamp_beside x e c rows b ne = ap (λ o. get_or (content_in o).stamps x 0) (node_beside b e c rows ne)

-- an index whose places have stamps has them rise
abbrev pub RisesIn : List (ℕ × Node) → ℕ → Order → Type 0
RisesIn rows x o = has_stamps o ≡ true → StampsRise x rows

-- in every index the neighbours of an erased row meet
pub all_meet : (x e : ℕ) (rows : List (ℕ × Node)) (os : List Order) → AllByRecursion (Stands rows e) (lists_from x rows os)
    → ((k : ℕ) → k < length os → RisesIn rows (x + k) (get_or os k ById))
    → AllMeet x (left_out e rows) (content_of rows e) (links_from x rows e os) (map (in_order (without e)) os)
all_meet x e rows [] all up = tt
all_meet x e rows (o ∷ os) all up = (
  let same : x + 0 ≡ x = omega arith in one_meets o all.0 (subst (λ n. RisesIn rows n o) same (up zero (omega arith))),
  all_meet (suc x) e rows os all.1 (λ k l.
      let next : x + suc k ≡ suc x + k = omega arith in subst (λ n. RisesIn rows n (get_or os k ById)) next (up (suc k) (omega arith))),
)
  where
    one_meets : (o : Order) → Stands rows e (listed x rows o) → RisesIn rows x o
        → MeetIn x (left_out e rows) (content_of rows e).values (stamp_of rows x e) (link_in x rows e o) (in_order (without e) o)
    one_meets ById stands up = tt
    one_meets (ByKey ps) stands up = tt
    one_meets (ByHash ps) stands up = group_meets ps x e rows (left_out e rows) (ref_out e rows)
        (stamp_out x e rows) stands (up refl) (group_erased ps x e rows (content_of rows e).values)
    one_meets (Listed ids) stands up = link_meets rows (left_out e rows) e ids (ref_out e rows) stands.1 stands.2

-- and those of a row in each index where its key changed
module _ (e : ℕ) (c : Content) (rows : List (ℕ × Node)) (there : IsThere rows e) where
  abbrev pub other : List (ℕ × Node)
  other = with_content e c rows

  abbrev pub old : List Value
  old = (content_of rows e).values

  -- an index with stamps has the row last where its key changes
  abbrev pub MovesLast : ℕ → Order → Type 0
  MovesLast x o = has_stamps o ≡ true → is_eq (compare_key (parts_of o) old c.values) ≡ false → ids_by_stamp x other ≡ without e (ids_by_stamp x rows) ++ e ∷ []

  place_meets : (x : ℕ) (o : Order) → Stands rows e (listed x rows o) → RisesIn rows x o → MovesLast x o
      → PlaceMeets x other c.values old (old_place x rows e old c.values o (stamp_of rows x e)) o
  place_meets x ById stands up moved = refl
  place_meets x (ByKey ps) stands up moved =
      let found : Bool → Option OldPlace = λ t. cond t None (Some (record { stamp = stamp_of rows x e; link = record { back = None; forth = None } })) in
      both_ways (is_eq (compare_key ps old c.values))
      (λ yes. subst (λ t. PlaceMeets x other c.values old (found t) (ByKey ps)) (sym yes) yes)
      (λ isnt. subst (λ t. PlaceMeets x other c.values old (found t) (ByKey ps)) (sym isnt) (isnt, tt))
  place_meets x (ByHash ps) stands up moved =
      let found : Bool → Option OldPlace = λ t. cond t None (Some (record { stamp = stamp_of rows x e; link = link_of_id rows e (group ps x rows old) })) in
      both_ways (is_eq (compare_key ps old c.values))
      (λ yes. subst (λ t. PlaceMeets x other c.values old (found t) (ByHash ps)) (sym yes) yes)
      (λ isnt. subst (λ t. PlaceMeets x other c.values old (found t) (ByHash ps)) (sym isnt) (
        isnt,
        group_meets ps x e rows other (λ o _. ref_with e c rows o there) (stamp_beside x e c rows)
            stands (up refl) (group_put ps x e c rows old there (moved refl isnt) isnt),
      ))
  place_meets x (Listed ids) stands up moved = refl

  -- what is asked of each index
  abbrev pub PutIn : ℕ → Order → ℕ → Type 0
  PutIn x o a = RisesIn rows x o × MovesLast x o × (a ≡ stamp_of rows x e)

  pub places_meet : (x : ℕ) (os : List Order) (stamps : List ℕ) → length stamps ≡ length os → AllByRecursion (Stands rows e) (lists_from x rows os)
      → ((k : ℕ) → k < length os → PutIn (x + k) (get_or os k ById) (get_or stamps k 0))
      → PlacesMeet x other c.values old (old_places x rows e old c.values os stamps) os
  places_meet x [] stamps long all each = tt
  places_meet x (o ∷ os) [] long all each = absurd (cc)
  places_meet x (o ∷ os) (a ∷ stamps) long all each =
      let same : x + 0 ≡ x = omega arith in
      let here : PutIn x o a = subst (λ n. PutIn n o a) same (each zero (omega arith)) in (
        subst (λ n. PlaceMeets x other c.values old (old_place x rows e old c.values o n) o) (sym here.2) (place_meets x o all.0 here.0 here.1),
        places_meet (suc x) os stamps (suc_is long) all.1
            (λ k l.
            let next : x + suc k ≡ suc x + k = omega arith in subst (λ n. PutIn n (get_or os k ById) (get_or stamps k 0)) next (each (suc k) (omega arith))),
      )
