-- no page says nothing
use Rattle.std.proofs.Common.{rules, ap, sym, ◌∙◌}
use Rattle.std.specs.FinMap.{len, len-empty}
use Rattle.std.specs.Ordering.{nat_cmp}
use Rattle.mi_ids.specs.declared.entry.IdEntry.{IdEntry}
use Rattle.mi_ids.proofs.PagesLemmas.{no-pages, none-used}
use Rattle.mi_ids.proofs.ids.Ids.new.Goals as goal

pub invariant_of-result : goal.invariant_of-result
invariant_of-result c = (sym (ap len (no-pages c.new.result.entries (search rules)) ∙ len-empty nat_cmp IdEntry), none-used c.new.result.entries (search rules))

pub returns : goal.returns
returns c = no-pages c.new.result.entries (search rules)
