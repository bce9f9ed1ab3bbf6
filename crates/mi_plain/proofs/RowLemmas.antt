-- Rows found and set, lists moved, and what a free replace says.
-- Cited by `Ids::with_before`, `PlainTable::replace`, `conflict::set_row` and `ids::with_moved`.
use Rattle.std.proofs.lemmas.List.{drop_all, append-nil}
use Rattle.std.proofs.Common.{◌≡◌, ℕ, suc, ◌+◌, ◌<◌, ◌≤◌, Bool, true, false, List, [], ◌∷◌, length, slice_set, refl, ap, sym, subst, cond, arith, ◌∙◌}
use Rattle.std.specs.Prelude.{◌==◌, not, if◌then◌else◌, nat_lt, MatchOption, drop, ◌++◌}
use Rattle.std.specs.List.{position_or_len, position, insert}
use Rattle.std.specs.Option.{option_map}
use Rattle.std.specs.declared.option.Option.{Option}
use Rattle.std.specs.declared.option.Option.TheVariants.{None, Some}
use Rattle.std.specs.Map.{set_value}
use Rattle.std.proofs.lemmas.Bool.{eqb-true, ltb-true, ltb-false}
use Rattle.mi_value.specs.declared.value.Value.{Value}
use Rattle.mi_value.specs.declared.refusal.Refusal.{Refusal}
use Rattle.mi_value.specs.declared.refusal.Refusal.TheVariants.{NoId, Spent}
use Rattle.mi_catalog.specs.declared.index.Index.{Index}
use Rattle.mi_catalog.specs.Shape.{Shape}
use Rattle.mi_catalog.specs.Key.{Row}
use Rattle.mi_model.specs.Table.{Table, has}
use Rattle.mi_model.specs.Conflict.{conflict}
use Rattle.mi_model.specs.Change.{moved, stand_before}
use Rattle.mi_model.specs.LookUp.{rank_in}
use Rattle.mi_model.specs.Verdict.{replace_refusal, is_spent, as_unique}

abbrev pub named : ℕ → Row → Bool
named e r = r.0 == e

there_step : (b : Bool) (w : Row) (rows set : List Row) (e : ℕ) (r : List Value) (p : ℕ)
    → (b ≡ true → w.0 ≡ e) → (p < length rows → set ≡ slice_set rows p (e, r))
    → cond (not b) (1 + p) 0 < length (w ∷ rows) → cond b ((w.0, r) ∷ rows) (w ∷ set) ≡ slice_set (w ∷ rows) (cond (not b) (1 + p) 0) (e, r)
there_step true w rows set e r p same later within = ap (λ k. (k, r) ∷ rows) (same refl)
there_step false w rows set e r p same later within =
    let one : 1 + p ≡ suc p = omega arith in
    subst (λ n. w ∷ set ≡ slice_set (w ∷ rows) n (e, r)) (sym one) (ap (λ xs. w ∷ xs) (later (omega arith)))

-- setting the value of the first row of an id is setting that row
set_value-there : (e : ℕ) (r : List Value) (rows : List Row) → position_or_len (named e) rows < length rows
    → set_value (λ a. a == e) rows r ≡ slice_set rows (position_or_len (named e) rows) (e, r)
set_value-there e r [] within = absurd (omega arith)
set_value-there e r (w ∷ rows) within = there_step (w.0 == e) w rows (set_value (λ a. a == e) rows r)
    e r (position_or_len (named e) rows) (λ h. eqb-true w.0 e h) (set_value-there e r rows) within

absent_step : (b : Bool) (w : Row) (rows set : List Row) (r : List Value) (p : ℕ) → (length rows ≤ p → set ≡ rows)
    → length (w ∷ rows) ≤ cond (not b) (1 + p) 0 → cond b ((w.0, r) ∷ rows) (w ∷ set) ≡ w ∷ rows
absent_step true w rows set r p later beyond = absurd (omega arith)
absent_step false w rows set r p later beyond = ap (λ xs. w ∷ xs) (later (omega arith))

-- where no row has the id nothing is set
set_value-absent : (e : ℕ) (r : List Value) (rows : List Row) → length rows ≤ position_or_len (named e) rows → set_value (λ a. a == e) rows r ≡ rows
set_value-absent e r [] beyond = refl
set_value-absent e r (w ∷ rows) beyond = absent_step (w.0 == e) w rows (set_value (λ a. a == e) rows r)
    r (position_or_len (named e) rows) (set_value-absent e r rows) beyond

position_cases : (b : Bool) (m n : ℕ) (found : Option ℕ) → (b ≡ true → m < n) → (b ≡ false → n ≤ m)
    → cond b (Some m) None ≡ found → MatchOption found (n ≤ m) (λ i. (m < n) × (m ≡ i))
position_cases true m n (Some i) within beyond h = (within refl, cc)
position_cases true m n None within beyond h = absurd (cc)
position_cases false m n (Some i) within beyond h = absurd (cc)
position_cases false m n None within beyond h = beyond refl

-- setting the value at the place of an id
pub set_value-found : (e : ℕ) (r : List Value) (rows : List Row) (i : ℕ)
    → position (named e) rows ≡ Some i → set_value (λ a. a == e) rows r ≡ slice_set rows i (e, r)
set_value-found e r rows i h =
    let m : ℕ = position_or_len (named e) rows in
    let at : (m < length rows) × (m ≡ i) = position_cases (nat_lt m (length rows)) m
    (length rows) (Some i) (ltb-true m (length rows)) (ltb-false m (length rows)) h in
    subst (λ k. set_value (λ a. a == e) rows r ≡ slice_set rows k (e, r)) at.1 (set_value-there e r rows at.0)

pub set_value-missing : (e : ℕ) (r : List Value) (rows : List Row) → position (named e) rows ≡ None → set_value (λ a. a == e) rows r ≡ rows
set_value-missing e r rows h =
    let m : ℕ = position_or_len (named e) rows in
    set_value-absent e r rows (position_cases (nat_lt m (length rows)) m (length rows) None (ltb-true m (length rows)) (ltb-false m (length rows)) h)

stand_step : (here : Bool) (a e : ℕ) (ids stood : List ℕ) (p : ℕ) → stood ≡ insert ids p e
    → cond here (e ∷ a ∷ ids) (a ∷ stood) ≡ insert (a ∷ ids) (cond (not here) (1 + p) 0) e
stand_step true a e ids stood p later = refl
stand_step false a e ids stood p later =
    let one : 1 + p ≡ suc p = omega arith in
    subst (λ n. a ∷ stood ≡ insert (a ∷ ids) n e) (sym one) (ap (λ xs. a ∷ xs) later)

-- standing before b is standing at its place
pub stand_before-is : (b e : ℕ) (ids : List ℕ) → stand_before b e ids ≡ insert ids (rank_in ids b) e
stand_before-is b e [] = refl
stand_before-is b e (a ∷ ids) = stand_step (a == b) a e ids (stand_before b e ids) (rank_in ids b) (stand_before-is b e ids)

-- where no list is left none is moved
moved-none : (is : List Index) (old new : List Value) (e : ℕ) → moved is old new e [] ≡ []
moved-none [] old new e = refl
moved-none (i ∷ is) old new e = refl

pub moved-end : (all lists whole : List (List ℕ)) (is : List Index) (old new : List Value) (e i : ℕ)
    → length lists ≤ i → all ++ moved is old new e (drop i lists) ≡ whole → all ≡ whole
moved-end all lists whole is old new e i past h =
    sym (append-nil all) ∙ ap (λ ms. all ++ ms) (sym (ap (moved is old new e) (drop_all i lists past) ∙ moved-none is old new e)) ∙ h

pick : (there spent : Bool) (o : Option Refusal) → (if not there then Some NoId else if spent then Some Spent else o) ≡ None → (there ≡ true) × (spent ≡ false)
pick false spent o h = absurd (cc)
pick true true o h = absurd (cc)
pick true false o h = (refl, refl)

-- a replace that nothing refuses is of a row that is there, in a table that isn't spent
pub free_replace : (s : Shape) (e : ℕ) (r : List Value) (t : Table) → replace_refusal s e r t ≡ None → (has t e ≡ true) × (is_spent t.arrivals ≡ false)
free_replace s e r t h = pick (has t e) (is_spent t.arrivals) (option_map as_unique (conflict s t r (Some e))) h
