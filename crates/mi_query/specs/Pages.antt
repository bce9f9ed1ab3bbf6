-- What an index shows, as the clauses of pages say it.
use Rattle.std.specs.Prelude.{ℕ, ◌+◌, List}
use Rattle.std.specs.declared.option.Option.{Option}
use Rattle.std.specs.declared.option.Option.TheVariants.{None, Some}
use Rattle.mi_model.specs.Database.{Database, schema_of, table_of}
use Rattle.mi_model.specs.LookUp.{rank_in}
use Rattle.mi_model.specs.View.{view}

-- the ids that index x of table n shows
abbrev pub shown_by : Database → ℕ → ℕ → List ℕ
shown_by d n x = view (schema_of d n) (table_of d n) x

-- the place directly behind an id, or the first
abbrev pub place_behind : List ℕ → Option ℕ → ℕ
place_behind ids None = 0
place_behind ids (Some e) = rank_in ids e + 1
