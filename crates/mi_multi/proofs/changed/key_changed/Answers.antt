-- What its column's mark says of the next part, all parts that are left say of the key.
use Rattle.std.proofs.Common.{Some, refl, sym, ap, ◌∙◌}
use Rattle.std.proofs.lemmas.Option.{slice_get_read}
use Rattle.mi_multi.proofs.ColumnLemmas.{changes_at, stays_at}
use Rattle.mi_multi.proofs.changed.key_changed.Goals as goal

pub returns-then-changed : goal.returns-then-changed
returns-then-changed c =
    let marks = c.args.columns.now in let found = c.in-Some.ensures.lookup in
    sym (changes_at marks c.args.old.now c.args.new.now c.requires c.args.parts.now c.loop-part.part-index _ c.loop-part-test.true
    (slice_get_read marks _ _ c.in-Some.changed.now refl found.3.0 found.1 ∙ ap Some c.if-changed.true)) ∙ c.loop-part.invariant

pub loop-part-preserved : goal.loop-part-preserved
loop-part-preserved c =
    let marks = c.args.columns.now in let found = c.in-Some.ensures.lookup in
    sym (stays_at marks c.args.old.now c.args.new.now c.requires c.args.parts.now c.loop-part.part-index _ c.loop-part-test.true
    (slice_get_read marks _ _ c.in-Some.changed.now refl found.3.0 found.1 ∙ ap Some c.if-changed.false)) ∙ c.loop-part.invariant
