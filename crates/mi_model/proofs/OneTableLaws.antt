-- A catalog of one table answers and changes as that table by itself.
-- Cited by `mi_commands` and `mi_sessions`.
use Rattle.std.proofs.Common.{◌≡◌, ℕ, ◌+◌, ◌-◌, zero, suc, min, Bool, true, false, cond, List, [], ◌∷◌, map, take, length, refl, ap, ◌∙◌, arith}
use Rattle.std.specs.Prelude.{◌==◌}
use Rattle.std.proofs.lemmas.List.{length-map}
use Rattle.std.specs.declared.result.Result.{Result}
use Rattle.std.specs.declared.result.Result.TheVariants.{Ok, Err}
use Rattle.mi_value.specs.declared.refusal.Refusal.{Refusal}
use Rattle.mi_value.specs.declared.refusal.Refusal.TheVariants.{Spent, Depth}
use Rattle.mi_catalog.specs.Shape.{Shape}
use Rattle.mi_model.specs.Table.{Table}
use Rattle.mi_model.specs.Verdict.{is_spent}
use Rattle.mi_model.specs.Database.{Database, depth, started, undone_times, start_step, undo_step, squash_step, commit_step, undo_all_step}
use Rattle.mi_model.proofs.TableLaws.{not_same}
use Rattle.mi_model.specs.OneTable.{OneTable, start, undo_to, squash_to, commit, oldest, undo_all, in_catalog, and_in_catalog, OneTableAsBefore}

abbrev alone : Table → List Table → ℕ → OneTable
alone t old r = record { table = t; old = old; revision = r }

kept_long : (old : List Table) → length (map (λ (t : Table). t ∷ []) old) ≡ length old
kept_long old = length-map old (λ (t : Table). t ∷ [])

some_open : (t : Table) (old : List Table) → (length (map (λ (t : Table). t ∷ []) (t ∷ old)) == 0) ≡ false
some_open t old = not_same (length (map (λ (t : Table). t ∷ []) (t ∷ old))) 0 (λ is. absurd (omega arith))

module _ (first : ℕ) (s : Shape) where
  either : {A : Type 0} (b : Bool) (x y : A × Database) (z w : A × OneTable) → x ≡ and_in_catalog first s z → y ≡ and_in_catalog first s w
      → cond b x y ≡ and_in_catalog first s (cond b z w)
  either true x y z w p q = p
  either false x y z w p q = q

  start_alone : (d : OneTable) → start_step (in_catalog first s d) ≡ and_in_catalog first s (start d)
  start_alone d =
      let e : Database = in_catalog first s d in
      let more : OneTable = record { table = d.table; old = d.table ∷ d.old; revision = d.revision + 1 } in
      either {A = Result ℕ Refusal} (is_spent d.revision) (Err Spent, e) (cond (depth e == 1024) (Err Depth, e) (Ok (d.revision + 1), started e)) (Err Spent, d)
      (cond (length d.old == 1024) (Err Depth, d) (Ok (d.revision + 1), more)) refl
      (ap (λ n. cond (n == 1024) (let x : Result ℕ Refusal × Database = (Err Depth, e) in x) (Ok (d.revision + 1), started e)) (kept_long d.old)
      ∙ either {A = Result ℕ Refusal} (length d.old == 1024) (Err Depth, e) (Ok (d.revision + 1), started e)
      (Err Depth, d) (Ok (d.revision + 1), more) refl refl)

  undo_alone : (t : Table) (old : List Table) (r : ℕ) → undo_step (in_catalog first s (alone t old r)) ≡ and_in_catalog first s (undo_to (alone t old r) old)
  undo_alone t [] r = refl
  undo_alone t (u ∷ old) r =
      ap (λ b. cond b (Err (record {}), in_catalog first s (alone t (u ∷ old) r)) (Ok (r - 1), in_catalog first s (alone u old (r - 1)))) (some_open u old)

  squash_alone : (t : Table) (old : List Table) (r : ℕ)
      → squash_step (in_catalog first s (alone t old r)) ≡ and_in_catalog first s (squash_to (alone t old r) old)
  squash_alone t [] r = refl
  squash_alone t (u ∷ old) r =
      ap (λ b. cond b (Err (record {}), in_catalog first s (alone t (u ∷ old) r)) (Ok (r - 1), in_catalog first s (alone t old (r - 1)))) (some_open u old)

  take_kept : (n : ℕ) (old : List Table) → take n (map (λ (t : Table). t ∷ []) old) ≡ map (λ t. t ∷ []) (take n old)
  take_kept zero old = refl
  take_kept (suc n) [] = refl
  take_kept (suc n) (t ∷ old) = ap (λ l. (t ∷ []) ∷ l) (take_kept n old)

  commit_alone : (x : ℕ) (d : OneTable) → commit_step x (in_catalog first s d) ≡ and_in_catalog first s (commit x d)
  commit_alone x d =
      (λ i. let n : ℕ = kept_long d.old i in
      (Ok (min n (x + n - d.revision)), record (in_catalog first s d) { old = take (n - min n (x + n - d.revision)) (map (λ t. t ∷ []) d.old) }))
      ∙ ap (λ old. (Ok (min (length d.old) (x + length d.old - d.revision)), record (in_catalog first s d) { old = old })) (take_kept _ d.old)

  undone_alone : (t : Table) (old : List Table) (r : ℕ)
      → undone_times (length old) (in_catalog first s (alone t old r)) ≡ in_catalog first s (alone (oldest t old) [] (r - length old))
  undone_alone t [] r = ap (λ n. in_catalog first s (alone t [] n)) (omega arith)
  undone_alone t (u ∷ old) r = undone_alone u old (r - 1) ∙ ap (λ n. in_catalog first s (alone (oldest u old) [] n)) (omega arith)

  undo_all_alone : (d : OneTable) → undo_all_step (in_catalog first s d) ≡ and_in_catalog first s (undo_all d)
  undo_all_alone d =
      (λ i. let n : ℕ = kept_long d.old i in (Ok n, undone_times n (in_catalog first s d)))
      ∙ ap (λ e. (Ok (length d.old), e)) (undone_alone d.table d.old d.revision)

pub one_table_as_before : OneTableAsBefore
one_table_as_before first s d =
    record {
      opening = refl;
      schema = refl;
      table = refl;
      insert = λ at r. refl;
      replace = λ e r. refl;
      modify = λ e edits rollback. refl;
      erase = λ e. refl;
      erase_key = λ x key. refl;
      relocate = λ x e b. refl;
      start = start_alone first s d;
      undo = undo_alone first s d.table d.old d.revision;
      squash = squash_alone first s d.table d.old d.revision;
      commit = λ x. commit_alone first s x d;
      undo_all = undo_all_alone first s d;
    }
