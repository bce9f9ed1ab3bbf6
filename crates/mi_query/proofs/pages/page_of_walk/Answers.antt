-- What stays of the rows are the first of them.
use Rattle.std.proofs.Common.{ℕ, Bor, map, ap, sym, ◌∙◌}
use Rattle.std.proofs.lemmas.List.{take-map}
use Rattle.mi_value.specs.declared.record.Record.{Record}
use Rattle.mi_catalog.specs.Key.{Row}
use Rattle.mi_query.proofs.pages.page_of_walk.Goals as goal

-- the row that is lent
abbrev shown : ℕ × Bor Record → Row
shown r = (r.0, r.1.now)

pub returns-clause-rows : goal.returns-clause-rows
returns-clause-rows c = ap (map shown) c.truncate.ensures.items ∙ sym (take-map shown c.args.limit c.args.rows.items)
