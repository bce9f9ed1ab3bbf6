-- Each row is there, and its new stamp is above all others.
use Rattle.std.proofs.Common.{◌<◌, ◌∙◌, length, arith}
use Rattle.mi_container.proofs.RestoreLemmas.{long_of}
use Rattle.mi_container.proofs.RaiseLemmas.{raised_so_far, id_there, raised_free, raised_next}
use Rattle.mi_multi.proofs.multi.MultiIndex.raise_rows.Goals.{In-loop-place}
use Rattle.mi_multi.proofs.multi.MultiIndex.raise_rows.Goals as goal

module _ (c : In-loop-place) where
  inside : c.loop-place.place < length c.args.ids.now
  inside = let l = c.loop-place-test.true in let e = c.loop-place.auto.place-end in omega (arith, l, e)

pub restamp_id-requires-clause-row : goal.restamp_id-requires-clause-row
restamp_id-requires-clause-row c =
    let o = (goal.at.restamp_id-requires-clause-row c).In-loop-place in
    id_there c.args.index c.args.ids.now c.args.first c.args.self.now.plain c.requires.there c.loop-place.place (inside o)
    c.loop-place.self.plain c.loop-place.invariant.plain

pub restamp_id-requires-clause-stamped : goal.restamp_id-requires-clause-stamped
restamp_id-requires-clause-stamped c =
    let o = (goal.at.restamp_id-requires-clause-stamped c).In-loop-place in
    (raised_so_far c.args.index c.args.ids.now c.args.first c.args.self.now.plain c.requires.there c.loop-place.place (inside o)
    c.loop-place.self.plain c.loop-place.invariant.plain).stamped
    ∙ c.requires.stamped

pub restamp_id-requires-clause-early : goal.restamp_id-requires-clause-early
restamp_id-requires-clause-early c =
    let o = (goal.at.restamp_id-requires-clause-early c).In-loop-place in
    let same = (raised_so_far c.args.index c.args.ids.now c.args.first c.args.self.now.plain c.requires.there c.loop-place.place (inside o)
    c.loop-place.self.plain c.loop-place.invariant.plain).arrivals in
    let l = inside o in let f = c.requires.early in omega (arith, l, f, same)

pub restamp_id-requires-clause-free : goal.restamp_id-requires-clause-free
restamp_id-requires-clause-free c b ne there =
    let o = (goal.at.restamp_id-requires-clause-free c).In-loop-place in
    raised_free c.args.index c.args.ids.now c.args.first c.args.self.now.plain c.requires.there c.loop-place.place (inside o)
    c.loop-place.self.plain c.loop-place.invariant.plain
    (long_of c.args.self.now.shape c.args.self.now.plain c.keeps_rules.ensures c.args.index c.requires.index) c.requires.low b there

pub loop-place-preserved : goal.loop-place-preserved
loop-place-preserved c =
    let o = (goal.at.loop-place-preserved c).In-loop-place in record {
      plain = raised_next c.args.index c.args.ids.now c.args.first c.args.self.now.plain c.requires.there c.loop-place.place (inside o)
          c.loop-place.self.plain c.loop-place.invariant.plain c.restamp_id.new.self.plain c.restamp_id.ensures.plain;
      within = (let l = inside o in omega (arith, l));
      shape = c.restamp_id.ensures.shape ∙ c.loop-place.invariant.shape;
      secrets = c.restamp_id.ensures.secrets ∙ c.loop-place.invariant.secrets;
    }
