-- Each id is that of a row.
use Rattle.std.proofs.Common.{List, ℕ, ◌<◌, length, get_or, sym, subst, arith}
use Rattle.mi_container.specs.Fits.{IsThere}
use Rattle.mi_multi.proofs.ImagingLemmas.{there_at}
use Rattle.mi_multi.proofs.multi.MultiIndex.stamped_ids.Goals as goal

pub stamp-requires-clause-row : goal.stamp-requires-clause-row
stamp-requires-clause-row c =
    let rows = c.args.self.now.plain.rows in let k = c.loop-id.id-index in
    let few : k < length c.args.ids.now = (let l = c.loop-id-test.true in let e = c.loop-id.auto.id-index-end in omega (arith, l, e)) in
    subst (λ (q : List ℕ). IsThere rows (get_or q k 0)) (sym c.requires.ids) (there_at rows k 0 (subst (λ (q : List ℕ). k < length q) c.requires.ids few))
