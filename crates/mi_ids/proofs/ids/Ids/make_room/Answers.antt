-- the same pages
use Rattle.std.proofs.Common.{ap, sym, subst, ◌∙◌}
use Rattle.std.specs.FinMap.{len}
use Rattle.mi_ids.specs.IdMap.{IdMap}
use Rattle.mi_ids.specs.Pages.{of_pages, NoneIsEmpty}
use Rattle.mi_ids.proofs.ids.Ids.make_room.Goals as goal

pub invariant_of-self : goal.invariant_of-self
invariant_of-self c =
    (c.self.invariant.0 ∙ ap (λ es. len (of_pages es)) (sym c.reserve.ensures.entries), subst NoneIsEmpty (sym c.reserve.ensures.entries) c.self.invariant.1)

pub returns-clause-entries : goal.returns-clause-entries
returns-clause-entries c = ap of_pages c.reserve.ensures.entries ∙ ap (λ (m : IdMap). m.entries) c.self.view_is
