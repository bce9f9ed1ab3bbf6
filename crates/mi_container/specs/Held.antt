-- Which nodes the pool of a container holds, by the ids that stand in them.
use Rattle.std.specs.Prelude.{◌≡◌, ℕ, ◌+◌, ◌≤◌, if◌then◌else◌, List}
use Rattle.std.specs.Option.{is_some}
use Rattle.mi_model.specs.Table.{has, times}
use Rattle.mi_container.specs.Data.{Data, kept_of, as_table}

-- the ids of the nodes are those of the rows and those that are kept, each once, and no others
pub record HoldsNodes (ids : List ℕ) (d : Data) : Type 0 where
  pub each : (e : ℕ) → times e ids ≡ (if has (as_table d) e then 1 else 0) + (if is_some (kept_of d.kept e) then 1 else 0)
  pub once : (e : ℕ) → times e ids ≤ 1
