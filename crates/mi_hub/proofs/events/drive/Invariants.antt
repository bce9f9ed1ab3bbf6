use Rattle.std.proofs.Common.{◌≡◌, ℕ, List, map, take}
use Rattle.mi_hub.specs.Run.{AllDone}
use Rattle.mi_hub.specs.Drive.{event_of}
use Rattle.mi_hub.specs.Watching.{has_failed, Writes}
use Rattle.mi_hub.proofs.events.drive.Given as goal

-- the events so far are done
abbrev pub invariant-loop-i : goal.invariant-loop-i
invariant-loop-i g l = record {
  out : List ℕ;
  written : Writes g.W.Write.contents l.fn.writer l.writer out;
  run : AllDone l.fn.hub (map event_of (take l.i l.events)) out l.hub;
  sound : has_failed l.writer ≡ has_failed l.fn.writer;
}
