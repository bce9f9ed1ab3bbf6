-- The columns that were last_freed over have an empty cell at the place.
use Rattle.std.proofs.Common.{◌<◌, ap, sym, subst, length, slice_index_or, ◌∙◌}
use Rattle.mi_node.specs.Columns.{links_at, AreLong}
use Rattle.mi_node.proofs.ColumnLemmas.{cleared_room, cleared_put, all_cleared, cleared-here, cleared-there, cleared-length, long-cleared}
use Rattle.mi_node.proofs.columns.clear.Goals as goal

pub set-requires : goal.set-requires
set-requires c =
    let x = c.index_mut.result.now in
    cleared_room c.args.columns.now.items c.loop-slot.slot c.args.place x
    (subst (λ n. c.loop-slot.slot < n) (c.len-slot-end.ensures ∙ c.args.columns.now.ok.0) c.loop-slot-test.true) c.requires
    (c.index_mut.ensures.value ∙ ap (λ ds. slice_index_or ds c.loop-slot.slot x) c.loop-slot.invariant)

pub loop-slot-preserved : goal.loop-slot-preserved
loop-slot-preserved c =
    cleared_put c.args.columns.now.items c.loop-slot.columns.items c.loop-slot.slot c.args.place c.index_mut.result.now c.set.new.self c.loop-slot.invariant
    (subst (λ n. c.loop-slot.slot < n) (c.len-slot-end.ensures ∙ c.args.columns.now.ok.0) c.loop-slot-test.true) c.index_mut.ensures.value c.set.ensures

pub returns-clause-links : goal.returns-clause-links
returns-clause-links c =
    let cs = c.args.columns.now.items in
    ap (λ ds. links_at ds c.args.place) (all_cleared c.args.columns.now.items c.loop-slot.columns.items c.loop-slot.slot c.len-slot-end.result
    c.args.place c.loop-slot.invariant (c.len-slot-end.ensures ∙ c.args.columns.now.ok.0) c.loop-slot.auto.slot-end c.loop-slot-test.false)
    ∙ cleared-here cs c.args.place

pub returns-clause-others : goal.returns-clause-others
returns-clause-others c k e =
    let cs = c.args.columns.now.items in ap (λ ds. links_at ds k) c.loop-slot.invariant ∙ cleared-there cs c.loop-slot.slot c.args.place k e

pub returns-clause-count : goal.returns-clause-count
returns-clause-count c = ap (λ ds. length ds) c.loop-slot.invariant ∙ cleared-length c.args.columns.now.items c.loop-slot.slot c.args.place

pub returns-clause-long : goal.returns-clause-long
returns-clause-long c m long = subst (AreLong m) (sym c.loop-slot.invariant) (long-cleared c.args.columns.now.items c.loop-slot.slot c.args.place m long)
