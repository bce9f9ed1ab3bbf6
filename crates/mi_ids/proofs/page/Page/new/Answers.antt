-- nothing stands beside what is put in
use Rattle.std.proofs.Common.{refl, ap, ◌∙◌, cond, ◌==◌, true, Some}
use Rattle.mi_ids.proofs.PageLemmas.{no-slot}
use Rattle.mi_ids.proofs.page.Page.new.Goals as goal

pub returns-clause-slots : goal.returns-clause-slots
returns-clause-slots c = λ k w. c.put.ensures.slots k w ∙ ap (cond (c.args.slot == k) (Some (record { node = c.args.node; live = true }))) (no-slot _ refl k)
