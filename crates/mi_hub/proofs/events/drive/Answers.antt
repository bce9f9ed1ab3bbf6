-- The events so far are done and their replies written; the first that isn't done whole ends it.
use Rattle.std.proofs.Common.{◌++◌, ◌∙◌}
use Rattle.std.proofs.KnownBytes.{Appends-trans}
use Rattle.mi_hub.proofs.DriveLemmas.{run_next, stopped_here}
use Rattle.mi_hub.proofs.events.drive.Goals as goal

pub returns-in-Err-clause-fault : goal.returns-in-Err-clause-fault
returns-in-Err-clause-fault g c =
    let so_far = c.loop-i.invariant in
    let last = c.in-Err.ensures.fault in (
      so_far.out ++ last.0,
      Appends-trans _ _ _ _ _ so_far.written last.1,
      stopped_here c.args.events.now c.loop-i.i c.index-events-i.result c.loop-i-test.true
          c.index-events-i.is _ _ _ so_far.out last.0 so_far.run c.in-Err.fault last.2,
    )

pub loop-i-preserved : goal.loop-i-preserved
loop-i-preserved g c =
    let so_far = c.loop-i.invariant in
    let next = c.in_default.ensures.ok in record {
      out = so_far.out ++ next.0;
      written = Appends-trans _ _ _ _ _ so_far.written next.1;
      run = run_next c.args.events.now c.loop-i.i c.index-events-i.result c.loop-i-test.true c.index-events-i.is _ _ _ so_far.out next.0 so_far.run next.2;
      sound = c.in_default.ensures.sound ∙ so_far.sound;
    }
