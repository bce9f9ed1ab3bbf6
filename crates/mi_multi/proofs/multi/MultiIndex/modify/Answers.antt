-- A row that isn't there is refused; else its node is the live one of its id.
use Rattle.std.proofs.Common.{sym, ◌∙◌}
use Rattle.mi_container.specs.Data.{as_table}
use Rattle.mi_multi.proofs.PutCallLemmas.{live_of, gone_of}
use Rattle.mi_multi.proofs.ReplaceLemmas.{modify_no_row}
use Rattle.mi_multi.proofs.multi.MultiIndex.modify.Goals as goal

pub returns-in_default-clause-outcome : goal.returns-in_default-clause-outcome
returns-in_default-clause-outcome c =
    let now = c.args.self.now in
    modify_no_row now.shape c.args.id c.args.edits.now c.args.rollback (as_table now.plain)
    (gone_of c.self.inside now c.self.view_is c.args.id (sym c.live.ensures ∙ c.in_default.is))

pub edited-requires : goal.edited-requires
edited-requires c =
    live_of c.self.inside c.args.self.now c.self.view_is c.args.id c.in-Some.node (sym c.live.ensures ∙ c.in-Some.is)

pub modify_to-requires-clause-live : goal.modify_to-requires-clause-live
modify_to-requires-clause-live c =
    live_of c.self.inside c.args.self.now c.self.view_is c.args.id c.in-Some.node (sym c.live.ensures ∙ c.in-Some.is)

pub changed_by_edits-marks-requires-clause-live : goal.changed_by_edits-marks-requires-clause-live
changed_by_edits-marks-requires-clause-live c =
    live_of c.self.inside c.args.self.now c.self.view_is c.args.id c.in-Some.node (sym c.live.ensures ∙ c.in-Some.is)
