-- the bit that is written
use Rattle.std.proofs.Common.{rules, ap, ◌∙◌, cond, ◌==◌, option_map}
use Rattle.mi_ids.specs.IdMap.{flagged}
use Rattle.mi_ids.specs.Pages.{slot_of}
use Rattle.mi_ids.proofs.PageLemmas.{revived-slot, kept-slot}
use Rattle.mi_ids.proofs.page.Page.set_live.Goals as goal

pub returns-then-live-clause-slots : goal.returns-then-live-clause-slots
returns-then-live-clause-slots c = λ k w. revived-slot c.args.self.now c.args.slot c.requires k
    ∙ ap (λ b. cond (c.args.slot == k) (option_map (flagged b) (slot_of c.args.self.now k)) (slot_of c.args.self.now k)) (search rules)

pub returns-else-live-clause-slots : goal.returns-else-live-clause-slots
returns-else-live-clause-slots c = λ k w. kept-slot c.args.self.now c.args.slot c.requires k w
    ∙ ap (λ b. cond (c.args.slot == k) (option_map (flagged b) (slot_of c.args.self.now k)) (slot_of c.args.self.now k)) (search rules)

pub returns-then-live-clause-used : goal.returns-then-live-clause-used
returns-then-live-clause-used c = λ is. is

pub returns-else-live-clause-used : goal.returns-else-live-clause-used
returns-else-live-clause-used c = λ is. is
