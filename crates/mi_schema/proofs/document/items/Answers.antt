-- The items that were read are those of the values before; the first that is none ends it.
use Rattle.std.proofs.lemmas.Result.{err_from_is_err_and}
use Rattle.toml.specs.View.{items_view}
use Rattle.mi_schema.specs.Members.{each}
use Rattle.mi_schema.proofs.DocumentLaws.{goes_on, ends, is_done}
use Rattle.mi_schema.proofs.document.items.Goals as goal

pub returns-in_err-read : goal.returns-in_err-read
returns-in_err-read g c =
    let p = err_from_is_err_and c.from_residual.result c.from_residual.ensures.1 in
    rw (p.1, p.2) (ends g.T.Item.kind c.in_err-read.field-0.0 c.loop-value.items.items c.args.values.now c.loop-value.value-index c.value-item.result
    (each g.T.Item.kind (items_view c.args.values.now)) c.loop-value-test.true c.value-item.is c.in_err-read.ensures c.loop-value.invariant)

pub loop-value-preserved : goal.loop-value-preserved
loop-value-preserved g c =
    rw c.in_ok-push.ensures.items (goes_on g.T.Item.kind c.loop-value.items.items c.args.values.now c.loop-value.value-index
    c.value-item.result c.in_ok-read.field-0 (each g.T.Item.kind (items_view c.args.values.now)) c.loop-value-test.true
    c.value-item.is c.in_ok-read.ensures c.loop-value.invariant)

pub returns : goal.returns
returns g c = is_done g.T.Item.kind c.loop-value.items.items c.args.values.now c.loop-value.value-index
    (each g.T.Item.kind (items_view c.args.values.now)) c.loop-value-test.false c.loop-value.invariant
