-- Each structure grows; where memory is refused those behind it stay as they are.
use Rattle.mi_node.specs.Refs.{Ref}
use Rattle.mi_index.specs.Passes.{nothing_asked, grown}
use Rattle.mi_index.proofs.StayLemmas.{growing_local}
use Rattle.mi_index.proofs.LoopLemmas.{begun, within, next_ready, stepped, finished, left_alone}
use Rattle.mi_index.proofs.RoomLemmas.{all_like, nothing_grown, roomy_more}
use Rattle.mi_index.proofs.all.make_room_all.Goals as goal

pub loop-structure-init : goal.loop-structure-init
loop-structure-init c = (λ r. begun nothing_asked grown r c.args.structures.now c.args.p.now c.requires, tt)

pub make_room-requires : goal.make_room-requires
make_room-requires c =
    let q = next_ready (c.loop-structure.invariant.0 (record { name = 0; generation = 0 })) c.structure-item.result c.loop-structure-test.true in
    record { rs = q.rs; stands = q.stands; can = tt }

pub loop-structure-preserved : goal.loop-structure-preserved
loop-structure-preserved c =
    let l = c.loop-structure in (
      λ r. stepped (l.invariant.0 r) c.structure-item.result growing_local c.loop-structure-test.true
          (c.make_room.ensures.step r l.structure-index) c.make_room.ensures.like,
      roomy_more l.structures l.structure-index c.make_room.new.self c.args.n
          (within (l.invariant.0 (record { name = 0; generation = 0 })) c.loop-structure-test.true) l.invariant.1 c.in_ok-make_room.ensures.room,
    )

pub returns-in_err-make_room-clause-pass : goal.returns-in_err-make_room-clause-pass
returns-in_err-make_room-clause-pass c r =
    let l = c.loop-structure in
    let p = stepped (l.invariant.0 r) c.structure-item.result growing_local c.loop-structure-test.true (c.make_room.ensures.step r l.structure-index)
    c.make_room.ensures.like in
    (left_alone p (all_like _) (nothing_grown r _ _ _)).1

pub returns-in_err-make_room-clause-like : goal.returns-in_err-make_room-clause-like
returns-in_err-make_room-clause-like c =
    let l = c.loop-structure in let r : Ref = record { name = 0; generation = 0 } in
    let p = stepped (l.invariant.0 r) c.structure-item.result growing_local c.loop-structure-test.true (c.make_room.ensures.step r l.structure-index)
    c.make_room.ensures.like in
    (left_alone p (all_like _) (nothing_grown r _ _ _)).0

pub returns-clause-pass : goal.returns-clause-pass
returns-clause-pass c r = (finished (c.loop-structure.invariant.0 r) growing_local c.loop-structure-test.false).1

pub returns-clause-like : goal.returns-clause-like
returns-clause-like c = (finished (c.loop-structure.invariant.0 (record { name = 0; generation = 0 })) growing_local c.loop-structure-test.false).0
