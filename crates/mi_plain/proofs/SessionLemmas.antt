-- The copies of the open sessions, the newest last.
-- Cited by `PlainSessions::commit`, `PlainSessions::undo` and `PlainSessions::undo_all`.
use Rattle.std.proofs.Common.{◌≡◌, ℕ, min, cond, ◌+◌, ◌-◌, ◌≤◌, List, [], ◌∷◌, ◌++◌, length, take, drop, reverse, refl, ap, sym, ◌∙◌, arith}
use Rattle.std.proofs.lemmas.List.{reverse-append, take-append-drop, take-append-le, take_all, length-reverse, length-drop}
use Rattle.std.specs.declared.result.Result.{Result}
use Rattle.std.specs.declared.result.Result.TheVariants.{Ok, Err}
use Rattle.mi_value.specs.declared.refusal.NoSession.{NoSession}
use Rattle.mi_model.proofs.TableLaws.{not_same}
use Rattle.mi_catalog.specs.Shape.{CatalogShape}
use Rattle.mi_model.specs.Table.{Table}
use Rattle.mi_model.specs.Database.{Database, undo_step, undone, committed}

-- without the n oldest, newest first
reverse_drop : {A : Type 0} (n : ℕ) (xs : List A) → n ≤ length xs → reverse (drop n xs) ≡ take (length xs - n) (reverse xs)
reverse_drop n xs le =
    let whole : reverse xs ≡ reverse (drop n xs) ++ reverse (take n xs) = ap reverse (sym (take-append-drop n xs)) ∙ reverse-append (take n xs) (drop n xs) in
    let long : length (reverse (drop n xs)) ≡ length xs - n = length-reverse (drop n xs) ∙ length-drop n xs in
    let same : take (length xs - n) (reverse (drop n xs) ++ reverse (take n xs)) ≡ take (length xs - n) (reverse (drop n xs)) =
    take-append-le (length xs - n) (reverse (drop n xs)) (reverse (take n xs)) (omega (arith, long)) in
    sym (ap (take (length xs - n)) whole ∙ same ∙ take_all (length xs - n) (reverse (drop n xs)) (omega (arith, long)))

abbrev pub db : CatalogShape → List Table → List (List Table) → ℕ → Database
db c ts old r = record { catalog = c; tables = ts; old = old; revision = r }

undone_of : (c : CatalogShape) (ts : List Table) (old : List (List Table)) (r : ℕ) → (undo_step (db c ts old r)).1 ≡ undone (db c ts old r)
undone_of c ts [] r = refl
undone_of c ts (o ∷ old) r =
    ap (λ b. (cond {A = Result ℕ NoSession × Database} b (Err (record {}), db c ts (o ∷ old) r) (Ok (r - 1), undone (db c ts (o ∷ old) r))).1)
    (not_same (length (o ∷ old)) 0 (λ e. absurd (omega (arith, e))))

-- an undo leaves what the definition says, also where no session is open
pub undo_leaves : (d : Database) → (undo_step d).1 ≡ undone d
undo_leaves d = undone_of d.catalog d.tables d.old d.revision

-- without the copies of the sessions that end, the others stay
commit_leaves : (x n : ℕ) (c : CatalogShape) (ts : List Table) (old : List (List Table)) (r : ℕ) → length old ≤ r → n ≡ min (x - (r - length old)) (length old)
    → db c ts (reverse (drop n old)) r ≡ committed x (db c ts (reverse old) r)
commit_leaves x n c ts old r le is =
    let long : length (reverse old) ≡ length old = length-reverse old in
    let left : length old - n ≡ length (reverse old) - min (length (reverse old)) (x + length (reverse old) - r) = omega (arith, long, is, le) in
    ap (λ o. db c ts o r) (reverse_drop n old (omega (arith, is)) ∙ ap (λ k. take k (reverse old)) left)

-- the same, as `commit` comes to it
pub commit_left : (x n opened : ℕ) (c : CatalogShape) (ts : List Table) (old left : List (List Table)) (r : ℕ)
    → length old ≤ r → left ≡ drop n old → n ≡ min (x - (r - opened)) opened → opened ≡ length old
    → db c ts (reverse left) r ≡ committed x (db c ts (reverse old) r)
commit_left x n opened c ts old left r le is ending all =
    ap (λ o. db c ts (reverse o) r) is ∙ commit_leaves x n c ts old r le (ending ∙ ap (λ k. min (x - (r - k)) k) all)

-- and how many are left
pub fewer_left : (n : ℕ) (old left : List (List Table)) (r : ℕ) → length old ≤ r → left ≡ drop n old → length left ≤ r
fewer_left n old left r le is = let few : length left ≡ length old - n = ap length is ∙ length-drop n old in omega (arith, few, le)
