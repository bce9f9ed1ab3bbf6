-- Each row is there, and its new stamp is free.
use Rattle.std.proofs.Common.{◌≡◌, ◌-◌, ◌<◌, ◌∙◌, suc, length, arith}
use Rattle.mi_container.proofs.RestoreLemmas.{same_so_far, id_stays, free_so_far, restamped_next, long_of}
use Rattle.mi_multi.proofs.multi.MultiIndex.restamp_rows.Goals.{In-loop-place}
use Rattle.mi_multi.proofs.multi.MultiIndex.restamp_rows.Goals as goal

module _ (c : In-loop-place) where
  -- the place of the row
  behind : c.loop-place.place ≡ suc (c.loop-place.place - 1)
  behind = let l = c.loop-place-test.true in omega (arith, l)

  inside : c.loop-place.place - 1 < length c.args.ids.now
  inside = let l = c.loop-place-test.true in let most = c.loop-place.auto.place in omega (arith, l, most)

pub restamp_id-requires-clause-row : goal.restamp_id-requires-clause-row
restamp_id-requires-clause-row c =
    let o = (goal.at.restamp_id-requires-clause-row c).In-loop-place in
    id_stays c.args.index c.args.ids.now c.args.self.now.plain c.requires.each (c.loop-place.place - 1) (inside o)
    c.loop-place.place (behind o) c.loop-place.self.plain c.loop-place.invariant.plain

pub restamp_id-requires-clause-stamped : goal.restamp_id-requires-clause-stamped
restamp_id-requires-clause-stamped c =
    let o = (goal.at.restamp_id-requires-clause-stamped c).In-loop-place in
    (same_so_far c.args.index c.args.ids.now c.args.self.now.plain c.requires.each (c.loop-place.place - 1) (inside o)
    c.loop-place.place (behind o) c.loop-place.self.plain c.loop-place.invariant.plain).stamped
    ∙ c.requires.stamped

pub restamp_id-requires-clause-early : goal.restamp_id-requires-clause-early
restamp_id-requires-clause-early c =
    let o = (goal.at.restamp_id-requires-clause-early c).In-loop-place in
    let same = (same_so_far c.args.index c.args.ids.now c.args.self.now.plain c.requires.each (c.loop-place.place - 1) (inside o)
    c.loop-place.place (behind o) c.loop-place.self.plain c.loop-place.invariant.plain).arrivals in
    let l = inside o in let f = c.requires.early in omega (arith, l, f, same)

pub restamp_id-requires-clause-free : goal.restamp_id-requires-clause-free
restamp_id-requires-clause-free c b ne there =
    let o = (goal.at.restamp_id-requires-clause-free c).In-loop-place in
    free_so_far c.args.index c.args.ids.now c.args.self.now.plain c.requires.each (c.loop-place.place - 1) (inside o)
    c.loop-place.place (behind o) c.loop-place.self.plain c.loop-place.invariant.plain
    (long_of c.args.self.now.shape c.args.self.now.plain c.keeps_rules.ensures c.args.index c.requires.index) c.requires.high b there

pub loop-place-preserved : goal.loop-place-preserved
loop-place-preserved c =
    let o = (goal.at.loop-place-preserved c).In-loop-place in record {
      plain = restamped_next c.args.index c.args.ids.now c.args.self.now.plain c.requires.each (c.loop-place.place - 1) (inside o)
          c.loop-place.place (behind o) c.loop-place.self.plain c.loop-place.invariant.plain c.restamp_id.new.self.plain c.restamp_id.ensures.plain;
      shape = c.restamp_id.ensures.shape ∙ c.loop-place.invariant.shape;
      secrets = c.restamp_id.ensures.secrets ∙ c.loop-place.invariant.secrets;
    }
