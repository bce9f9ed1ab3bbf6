-- One list more is without e.
use Rattle.std.proofs.Common.{ap, sym, ◌∙◌}
use Rattle.std.proofs.lemmas.List.Edits.{map_over_more}
use Rattle.mi_model.specs.Change.{without}
use Rattle.mi_plain.proofs.ids.remove_from_all.Goals as goal

pub loop-ids-preserved : goal.loop-ids-preserved
loop-ids-preserved c =
    rw (c.remove.ensures ∙ ap (without c.args.e) (sym c.ids-item.is))
    (map_over_more (without c.args.e) c.args.lists.now c.loop-ids.lists c.loop-ids.ids-index
    c.ids-item.result c.loop-ids-test.true c.loop-ids.invariant c.ids-item.is)
