-- The places so far are those of the indexes that were gone over.
use Rattle.std.proofs.Common.{◌≡◌, ◌<◌, ◌∙◌, length, arith}
use Rattle.mi_container.specs.Data.{content_of}
use Rattle.mi_container.specs.Backs.{place_seen}
use Rattle.mi_container.specs.declared.inverse.RowRef.{RowRef as Row}
use Rattle.mi_multi.proofs.OldPlaceLemmas.{places_more, places_all}
use Rattle.mi_multi.proofs.PutCallLemmas.{long_orders, long_stamps}
use Rattle.mi_multi.proofs.multi.MultiIndex.old_places.Goals as goal

pub loop-index-preserved : goal.loop-index-preserved
loop-index-preserved c =
    let d = c.args.self.now.plain in
    let row : Row = record { id = c.args.id; node = c.args.node } in
    let its = content_of d.rows c.args.id in
    let orders : length d.orders ≡ length c.self.inside.schema.indexes = long_orders
    c.self.inside c.self.invariant c.args.self.now c.self.view_is row c.requires.row in
    let few : c.loop-index.index < length d.orders =
    (let l = c.loop-index-test.true in let n = c.index_count-index-end.ensures in omega (arith, l, n, orders)) in (
      places_more d.rows c.args.id its.values c.args.new.now place_seen c.loop-index.places.items
          c.push.new.self.items c.old_place.result d.orders its.stamps c.loop-index.index
          (long_stamps c.self.inside c.self.invariant c.args.self.now c.self.view_is row c.requires.row)
          few c.loop-index.invariant.0 c.old_place.ensures c.push.ensures.items,
      (let n = c.push.ensures.len in let k = c.loop-index.invariant.1 in omega (arith, n, k)),
    )

pub returns : goal.returns
returns c =
    let d = c.args.self.now.plain in
    let row : Row = record { id = c.args.id; node = c.args.node } in
    let its = content_of d.rows c.args.id in
    let orders : length d.orders ≡ length c.self.inside.schema.indexes = long_orders
    c.self.inside c.self.invariant c.args.self.now c.self.view_is row c.requires.row in
    let end : c.loop-index.index ≡ length d.orders =
    (let l = c.loop-index-test.false in let u = c.loop-index.auto.index-end in let n = c.index_count-index-end.ensures in omega (arith, l, u, n, orders)) in
    c.loop-index.invariant.0
    ∙ places_all d.rows c.args.id its.values c.args.new.now d.orders its.stamps c.loop-index.index
    (long_stamps c.self.inside c.self.invariant c.args.self.now c.self.view_is row c.requires.row) end
