-- as many ids as before
use Rattle.std.proofs.Common.{ap, sym, ◌∙◌}
use Rattle.std.specs.FinMap.{len}
use Rattle.mi_ids.specs.Pages.{of_pages}
use Rattle.mi_ids.proofs.EntryLemmas.{len-with_live}
use Rattle.mi_ids.proofs.ids.Ids.set_live.Goals as goal

pub invariant_of-self : goal.invariant_of-self
invariant_of-self c = (
  c.self.invariant.0
      ∙ sym (ap len c.set_in.ensures.entries ∙ len-with_live (of_pages c.self.inside.pages.entries) c.args.id c.args.live),
  c.set_in.ensures.used,
)
