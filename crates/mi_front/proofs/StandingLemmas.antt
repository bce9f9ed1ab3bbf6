-- What was there when the oldest open session was started stands still: undoing all open sessions gives it back, as long as that one is open.
-- Cited by `UndoneLemmas`.
use Rattle.std.proofs.Common.{◌≡◌, ℕ, zero, suc, ◌+◌, ◌-◌, ◌<◌, ◌≤◌, ◌⊎◌, min, Bool, true, false, cond, nat_le, List, [], ◌∷◌, length, take, Result, Ok, Err}
use Rattle.std.proofs.Common.{refl, sym, ap, ◌∙◌, subst, inl, inr, arith}
use Rattle.std.proofs.lemmas.List.{length-take, take_all}
use Rattle.mi_catalog.specs.Shape.{CatalogShape}
use Rattle.mi_model.specs.Table.{Table}
use Rattle.mi_model.specs.Database.{Database, depth, ending, started, undone, undone_times, squashed, committed}

abbrev pub db : CatalogShape → List Table → List (List Table) → ℕ → Database
db c ts old r = record { catalog = c; tables = ts; old = old; revision = r }

module _ (base : Database) where
  -- undoing all open sessions gives the base back, and the oldest has the number behind its revision
  pub record Stands (d : Database) : Type 0 where
    pub back : undone_times (depth d) d ≡ base
    pub above : depth d + base.revision ≡ d.revision

  -- or the session of that number has ended
  abbrev pub Still : Database → Type 0
  Still d = Stands d ⊎ (suc base.revision + depth d ≤ d.revision)

  -- whichever way a test goes
  pub either_way : {A : Type 0} (b : Bool) (x y : A × Database) → (suc base.revision ≤ x.1.revision → Still x.1) → (suc base.revision ≤ y.1.revision → Still y.1)
      → suc base.revision ≤ (cond b x y).1.revision → Still (cond b x y).1
  either_way true x y f g high = f high
  either_way false x y f g high = g high

  pub other_tables : (c : CatalogShape) (ts now : List Table) (old : List (List Table)) (v : ℕ) → Stands (db c ts old v) → suc base.revision ≤ v
      → Still (db c now old v)
  other_tables c ts now [] v is high = absurd (let above : 0 + base.revision ≡ v = is.above in omega arith)
  other_tables c ts now (t ∷ old) v is high = inl (record { back = is.back; above = is.above })

  pub started_stands : (d : Database) → Stands d → Still (started d)
  started_stands d is =
      let above : depth d + base.revision ≡ d.revision = is.above in
      let same : d.revision + 1 - 1 ≡ d.revision = omega arith in
      inl (record { back = ap (λ v. undone_times (depth d) (db d.catalog d.tables d.old v)) same ∙ is.back; above = omega arith })

  pub undone_stands : (c : CatalogShape) (ts : List Table) (old : List (List Table)) (v : ℕ) → Stands (db c ts old v) → Still (undone (db c ts old v))
  undone_stands c ts [] v is = inl is
  undone_stands c ts (t ∷ old) v is =
      let above : suc (length old) + base.revision ≡ v = is.above in inl (record { back = is.back; above = omega arith })

  pub squashed_stands : (c : CatalogShape) (ts : List Table) (old : List (List Table)) (v : ℕ) → Stands (db c ts old v)
      → suc base.revision ≤ (squashed (db c ts old v)).revision → Still (squashed (db c ts old v))
  squashed_stands c ts [] v is high = inl is
  squashed_stands c ts (t ∷ []) v is high = absurd (let above : 1 + base.revision ≡ v = is.above in omega arith)
  squashed_stands c ts (t ∷ (u ∷ old)) v is high =
      let above : suc (suc (length old)) + base.revision ≡ v = is.above in inl (record { back = is.back; above = omega arith })

  -- a commit that reaches the oldest ends it, and any other changes nothing
  pub committed_stands : (x : ℕ) (d : Database) → Stands d → suc base.revision ≤ d.revision → Still (committed x d)
  committed_stands x d is high = by_test (nat_le x base.revision) refl
    where
      above : depth d + base.revision ≡ d.revision
      above = is.above

      less : nat_le x base.revision ≡ true → x ≤ base.revision
      less t = grind arith

      more : nat_le x base.revision ≡ false → suc base.revision ≤ x
      more t = grind arith

      none_ends : x ≤ base.revision → committed x d ≡ d
      none_ends low =
          let number : depth d + base.revision ≡ d.revision = above in
          let all : depth d - ending x d ≡ length d.old = omega arith in
          ap (λ o. record d { old = o }) (ap (λ n. take n d.old) all ∙ take_all (length d.old) d.old (omega arith))

      some_end : suc base.revision ≤ x → suc base.revision + depth (committed x d) ≤ d.revision
      some_end reaches =
          let number : depth d + base.revision ≡ d.revision = above in
          let left : depth (committed x d) ≡ min (depth d - ending x d) (length d.old) = length-take (depth d - ending x d) d.old in
          omega arith

      by_test : (b : Bool) → nat_le x base.revision ≡ b → Still (committed x d)
      by_test true t = inl (subst Stands (sym (none_ends (less t))) is)
      by_test false t = inr (some_end (more t))

  pub all_undone_stands : (d : Database) → Stands d → suc base.revision ≤ (undone_times (depth d) d).revision → Still (undone_times (depth d) d)
  all_undone_stands d is high = absurd (let same : (undone_times (depth d) d).revision ≡ base.revision = ap (λ (e : Database). e.revision) is.back in omega arith)

pub start_stands : (base : Database) → depth base ≡ 0 → Stands base base
start_stands base none = record { back = ap (λ n. undone_times n base) none; above = omega (arith, none) }
