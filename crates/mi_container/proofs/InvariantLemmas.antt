-- What the invariant of data gives: live ids, and lists that have each once.
-- Cited by `DataLemmas`, `InverseLemmas`, `RaiseLemmas`, `RestampLemmas`, `RestoreLemmas`, 2 more and `mi_multi`.
use Rattle.std.proofs.Common.{◌≡◌, ℕ, ◌<◌, ◌≤◌, suc, true, false, cond, List, [], ◌∷◌, map, length, get_or, refl, ap, sym, ◌∙◌, subst, arith}
use Rattle.std.specs.Prelude.{◌==◌}
use Rattle.std.specs.List.{AllByRecursion}
use Rattle.std.specs.Option.{option_map, is_some}
use Rattle.std.specs.Map.{lookup}
use Rattle.std.specs.declared.option.Option.{Option}
use Rattle.std.specs.declared.option.Option.TheVariants.{None, Some}
use Rattle.mi_catalog.specs.Shape.{Shape}
use Rattle.mi_catalog.specs.Key.{Row}
use Rattle.mi_model.specs.Table.{Table, times, has, Rise, ListsEach}
use Rattle.mi_model.proofs.SortLaws.{both_ways}
use Rattle.mi_model.proofs.ViewLaws.{Lacks}
use Rattle.mi_container.specs.Data.{Node, Kept, Order, Data, has_stamps, node_of, kept_of, content_in}
use Rattle.mi_container.specs.Data.{content_of, stamp_of, plain_row, lists_from, as_table, Climbs, IsData}
use Rattle.mi_container.specs.Data.Order.{ById, ByKey, ByHash, Listed}
use Rattle.mi_container.specs.Fits.{IsThere}
use Rattle.mi_container.proofs.PairLemmas.{is_itself, none_some, climbs_none}
use Rattle.mi_container.proofs.StampLemmas.{fits_length, fits_early}
use Rattle.mi_container.proofs.SequenceLemmas.{Once, once_of_times, lacks_of_times, OfLists, of_lists, Stands}

above_rows : (e : ℕ) (rows : List (ℕ × Node)) → AllByRecursion (λ (q : Row). e < q.0) (map plain_row rows) → AllByRecursion (λ (q : ℕ × Node). e < q.0) rows
above_rows e [] all = tt
above_rows e (r ∷ rows) all = (all.0, above_rows e rows all.1)

climbs_of_rise : (next : ℕ) (rows : List (ℕ × Node)) → Rise next (map plain_row rows) → Climbs next rows
climbs_of_rise next [] up = tt
climbs_of_rise next (r ∷ rows) up = (up.0, above_rows r.0 rows up.1, climbs_of_rise next rows up.2)

-- the live ids ascend, below next
pub rows_climb : (s : Shape) (d : Data) → IsData s d → Climbs d.next d.rows
rows_climb s d is = climbs_of_rise d.next d.rows is.table.ordered

pub no_next : (s : Shape) (d : Data) → IsData s d → node_of d.rows d.next ≡ None
no_next s d is = climbs_none d.next d.next d.rows (rows_climb s d is) (omega arith)

-- the record of a live id is that of its node
pub lookup_shown : (e : ℕ) (rows : List (ℕ × Node)) → lookup (λ k. k == e) (map plain_row rows) ≡ option_map (λ (n : Node). n.content.values) (node_of rows e)
lookup_shown e [] = refl
lookup_shown e (r ∷ rows) =
    both_ways (r.0 == e)
    (λ yes. ap (λ b. cond b (Some r.1.content.values) (lookup (λ k. k == e) (map plain_row rows))) yes
    ∙ sym (ap (λ b. option_map (λ (n : Node). n.content.values) (cond b (Some r.1) (node_of rows e))) yes))
    (λ isnt. ap (λ b. cond b (Some r.1.content.values) (lookup (λ k. k == e) (map plain_row rows))) isnt ∙ lookup_shown e rows
    ∙ sym (ap (λ b. option_map (λ (n : Node). n.content.values) (cond b (Some r.1) (node_of rows e))) isnt))

pub has_there : (d : Data) (e : ℕ) → IsThere d.rows e → has (as_table d) e ≡ true
has_there d e there = ap is_some (lookup_shown e d.rows ∙ ap (option_map (λ (n : Node). n.content.values)) there.1)

there_of : (rows : List (ℕ × Node)) (e : ℕ) (o : Option Node) → node_of rows e ≡ o
    → is_some (option_map (λ (n : Node). n.content.values) o) ≡ true → IsThere rows e
there_of rows e None is h = absurd (cc)
there_of rows e (Some n) is h = (n, is)

pub there_has : (d : Data) (e : ℕ) → has (as_table d) e ≡ true → IsThere d.rows e
there_has d e h = there_of d.rows e (node_of d.rows e) refl (sym (ap is_some (lookup_shown e d.rows)) ∙ h)

-- a claim on each id that stands in a list
all_standing : (P : ℕ → Type 0) (ids : List ℕ) → ((a : ℕ) → 0 < times a ids → P a) → AllByRecursion P ids
all_standing P [] f = tt
all_standing P (a ∷ ids) f = (
  f a (let one : cond {A = ℕ} (a == a) 1 0 ≡ 1 = ap (λ b. cond {A = ℕ} b 1 0) (is_itself a) in omega arith),
  all_standing P ids (λ b l. f b (omega arith)),
)

pub each_there : (d : Data) (ids : List ℕ) → ListsEach (as_table d) ids → AllByRecursion (IsThere d.rows) ids
each_there d ids each =
    all_standing (IsThere d.rows) ids (λ a l.
    both_ways (has (as_table d) a)
    (λ yes. there_has d a yes)
    (λ isnt. absurd (let n : times a ids ≡ 0 = each a ∙ ap (λ b. cond {A = ℕ} b 1 0) isnt in omega arith)))

pub each_once : (t : Table) (ids : List ℕ) → ListsEach t ids → Once ids
each_once t ids each =
    once_of_times ids (λ id. subst (λ n. n ≤ 1) (sym (each id)) (elim (has t id) as (λ b. cond {A = ℕ} b 1 0 ≤ 1) [ true ↦ omega arith | false ↦ omega arith ]))

stands_of : (d : Data) (e : ℕ) (ids : List ℕ) → IsThere d.rows e → ListsEach (as_table d) ids → Stands d.rows e ids
stands_of d e ids there each = (
  each_there d ids each,
  each_once (as_table d) ids each,
  (let n : times e ids ≡ 1 = each e ∙ ap (λ b. cond {A = ℕ} b 1 0) (has_there d e there) in omega arith),
)

each_listed : (t : Table) (x : ℕ) (rows : List (ℕ × Node)) (os : List Order) → AllByRecursion (ListsEach t) (lists_from x rows os) → OfLists (ListsEach t) os
each_listed t x rows [] all = tt
each_listed t x rows (ById ∷ os) all = (tt, each_listed t (suc x) rows os all.1)
each_listed t x rows (ByKey ps ∷ os) all = (tt, each_listed t (suc x) rows os all.1)
each_listed t x rows (ByHash ps ∷ os) all = (tt, each_listed t (suc x) rows os all.1)
each_listed t x rows (Listed ids ∷ os) all = (all.0, each_listed t (suc x) rows os all.1)

-- each index's own list has each live id once
lists_each : (s : Shape) (d : Data) → IsData s d → OfLists (ListsEach (as_table d)) d.orders
lists_each s d is = each_listed (as_table d) 0 d.rows d.orders is.table.complete

pub lists_stand : (s : Shape) (e : ℕ) (d : Data) → IsData s d → IsThere d.rows e → OfLists (Stands d.rows e) d.orders
lists_stand s e d is there = of_lists (ListsEach (as_table d)) (Stands d.rows e) (λ ids each. stands_of d e ids there each) d.orders (lists_each s d is)

all_lists : {P Q : List ℕ → Type 0} → ((ids : List ℕ) → P ids → Q ids) → (lists : List (List ℕ)) → AllByRecursion P lists → AllByRecursion Q lists
all_lists f [] all = tt
all_lists f (ids ∷ lists) all = (f ids all.0, all_lists f lists all.1)

-- so has the list of every index
pub all_stand : (s : Shape) (e : ℕ) (d : Data) → IsData s d → IsThere d.rows e → AllByRecursion (Stands d.rows e) (lists_from 0 d.rows d.orders)
all_stand s e d is there = all_lists {P = ListsEach (as_table d)} {Q = Stands d.rows e}
    (λ ids each. stands_of d e ids there each) (lists_from 0 d.rows d.orders) is.table.complete

lacks_next : (s : Shape) (d : Data) → IsData s d → (ids : List ℕ) → ListsEach (as_table d) ids → Lacks d.next ids
lacks_next s d is ids each =
    lacks_of_times d.next ids (each d.next
    ∙ ap (λ o. cond {A = ℕ} (is_some o) 1 0) (lookup_shown d.next d.rows ∙ ap (option_map (λ (n : Node). n.content.values)) (no_next s d is)))

-- and the next id not at all
pub lists_lack : (s : Shape) (d : Data) → IsData s d → OfLists (Lacks d.next) d.orders
lists_lack s d is = of_lists (ListsEach (as_table d)) (Lacks d.next) (lacks_next s d is) d.orders (lists_each s d is)

-- a live id isn't kept
not_kept : (s : Shape) (d : Data) → IsData s d → (e : ℕ) → IsThere d.rows e → (o : Option Kept) → kept_of d.kept e ≡ o → o ≡ None
not_kept s d is e there None h = refl
not_kept s d is e there (Some k) h = absurd (none_some (sym (is.gone e k h) ∙ there.1))

pub unkept : (s : Shape) (e : ℕ) (d : Data) → IsData s d → IsThere d.rows e → kept_of d.kept e ≡ None
unkept s e d is there = not_kept s d is e there (kept_of d.kept e) refl

-- The stamps of a live id

pub stamp_there : (rows : List (ℕ × Node)) (x a : ℕ) (there : IsThere rows a) → stamp_of rows x a ≡ get_or there.0.content.stamps x 0
stamp_there rows x a there = ap (λ o. get_or (content_in o).stamps x 0) there.1

-- are earlier than the next arrival
pub stamp_early : (s : Shape) (d : Data) → IsData s d → (x : ℕ) → has_stamps (get_or d.orders x ById) ≡ true
    → (a : ℕ) → IsThere d.rows a → stamp_of d.rows x a < d.arrivals
stamp_early s d is x has_ a there =
    subst (λ n. n < d.arrivals) (sym (stamp_there d.rows x a there))
    (fits_early d.arrivals d.orders there.0.content.stamps x (is.stamped a there.0 there.1) has_)

-- and as many as indexes
pub stamps_long : (s : Shape) (d : Data) → IsData s d → (a : ℕ) → IsThere d.rows a → length (content_of d.rows a).stamps ≡ length d.orders
stamps_long s d is a there = ap (λ o. length (content_in o).stamps) there.1
    ∙ fits_length d.arrivals d.orders there.0.content.stamps (is.stamped a there.0 there.1)
