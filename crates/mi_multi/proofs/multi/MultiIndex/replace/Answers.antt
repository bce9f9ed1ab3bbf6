-- The refusals are asked in their order, and else the record is set.
use Rattle.std.proofs.Common.{◌≡◌, true, sym, ◌∙◌}
use Rattle.mi_value.specs.declared.refusal.Refusal.TheVariants.{NoId}
use Rattle.mi_model.specs.Table.{has as has_row}
use Rattle.mi_container.specs.Data.{as_table}
use Rattle.mi_container.specs.Fits.{IsLive}
use Rattle.mi_container.proofs.InvariantLemmas.{has_there, there_has}
use Rattle.mi_multi.proofs.PutCallLemmas.{live_of, gone_of}
use Rattle.mi_multi.proofs.ReplaceLemmas.{replace_no_row, replace_refused, replaceable, replace_meets, put_table}
use Rattle.mi_multi.proofs.multi.MultiIndex.replace.Goals.{In-Some}
use Rattle.mi_multi.proofs.multi.MultiIndex.replace.Goals as goal

pub returns-in_default-clause-outcome : goal.returns-in_default-clause-outcome
returns-in_default-clause-outcome c =
    let now = c.args.self.now in
    let gone = gone_of c.self.inside now c.self.view_is c.args.id (sym c.live.ensures ∙ c.in_default.is) in
    replace_refused now.shape c.args.id c.args.row (as_table now.plain) NoId (replace_no_row now.shape c.args.id c.args.row (as_table now.plain) gone)

module _ (c : In-Some) where
  its : IsLive c.args.self.now.plain.rows (record { id = c.args.id; at = c.in-Some.node })
  its = live_of c.self.inside c.args.self.now c.self.view_is c.args.id c.in-Some.node (sym c.live.ensures ∙ c.in-Some.is)

  there : has_row (as_table c.args.self.now.plain) c.args.id ≡ true
  there = has_there c.args.self.now.plain c.args.id (its.0, its.1)

pub changed_by-marks-requires : goal.changed_by-marks-requires
changed_by-marks-requires c = its (goal.at.changed_by-marks-requires c).In-Some

pub put_refusal-requires-clause-live : goal.put_refusal-requires-clause-live
put_refusal-requires-clause-live c = there (goal.at.put_refusal-requires-clause-live c).In-Some

pub put-old-requires-clause-live : goal.put-old-requires-clause-live
put-old-requires-clause-live c = its (goal.at.put-old-requires-clause-live c).In-Some

pub put-old-requires-clause-allowed : goal.put-old-requires-clause-allowed
put-old-requires-clause-allowed c =
    let now = c.args.self.now in
    let can = replaceable now.shape c.args.id c.args.row (as_table now.plain) (sym c.put_refusal.ensures.refusal ∙ c.in_default-put_refusal.is) in
    (there_has now.plain c.args.id can.0, can.1)

pub returns-clause-outcome : goal.returns-clause-outcome
returns-clause-outcome c =
    let now = c.args.self.now in let new = c.put-old.new.self.plain in
    replace_meets now.shape c.args.id c.args.row (as_table now.plain) (as_table new)
    (sym c.put_refusal.ensures.refusal ∙ c.in_default-put_refusal.is)
    (put_table now.shape c.args.id c.args.row now.plain _ new c.keeps_rules.ensures c.put-old.ensures.made.2)
