-- The edits so far are those of the columns that were gone over.
use Rattle.std.proofs.Common.{None, Ok, sym, ap, ◌∙◌, append-nil}
use Rattle.std.proofs.lemmas.Result.{err_from_is_err_and}
use Rattle.mi_protocol.specs.EditList.{edits_in}
use Rattle.mi_protocol.specs.Edits.{edits_from}
use Rattle.mi_protocol.proofs.AnswerLemmas.{refused}
use Rattle.mi_protocol.proofs.KeyLemmas.{in_front_none}
use Rattle.mi_protocol.proofs.EditLemmas.{edits_step, no_step}
use Rattle.mi_protocol.proofs.edits.edits_of.Goals as goal
use Rattle.mi_protocol.proofs.edits.edits_of.Goals.{in-Some+in_ok-put_edit, in_default}

pub columns-init : goal.columns-init
columns-init c =
    let all = edits_from 0 c.args.columns.now c.args.set.now c.args.add.now in
    in_front_none all

pub columns-preserved : goal.columns-preserved
columns-preserved c =
    let l = c.columns in
    let step = edits_step (edits_in l.edits) l.i c.args.columns.now c.index-columns-i.result c.args.set.now c.args.add.now
    c.index-columns-i.is c.columns-test.true l.invariant (edits_in c.match-branch-2.edits) in
    let good = c.in_ok-edit.ensures in
    elim c.match-branch-2.branch [
      | in-Some+in_ok-put_edit w ↦ step _ (good ∙ ap Ok w.in-Some.is) (ap edits_in w.edits-is ∙ w.in_ok-put_edit.ensures.ok)
      | in_default w ↦ step None (good ∙ ap Ok w.in_default.is) (ap edits_in w.edits-is ∙ sym (append-nil (edits_in l.edits)))
    ]

pub returns-in_err-edit : goal.returns-in_err-edit
returns-in_err-edit c =
    let l = c.columns in
    let p = err_from_is_err_and c.from_residual.result c.from_residual.ensures.1 in
    refused c.from_residual.result p.0 _ _ _ _ p.1 p.2
    (no_step (edits_in l.edits) l.i c.args.columns.now c.index-columns-i.result c.args.set.now c.args.add.now c.index-columns-i.is
    c.columns-test.true l.invariant) c.in_err-edit.ensures
