use Rattle.std.proofs.Common.{◌≡◌, List, Some}
use Rattle.mi_commands.specs.Holder.{released}
use Rattle.mi_durable.specs.Durable.{holder_conn}
use Rattle.mi_durable.specs.Durable.{hub_of, log_of, IsSettled}
use Rattle.mi_clients.specs.Steps.{Step, Makes, AreUndos, HoldsSome}
use Rattle.mi_clients.proofs.asking.undo_all.Given as goal

-- So many sessions are undone. What the connection's leaving would leave has stayed the same; all has, where it isn't the holder.
abbrev pub invariant-sessions : goal.invariant-sessions
invariant-sessions g l = record {
  attached : (hub_of l.durable).attached ≡ (hub_of l.fn.durable).attached;
  settled : IsSettled g.L.Log.appended g.L.Log.synced l.fn.durable → IsSettled g.L.Log.appended g.L.Log.synced l.durable;
  left : HoldsSome (hub_of l.fn.durable).held.holder
      → (released l.fn.conn (hub_of l.durable).held ≡ released l.fn.conn (hub_of l.fn.durable).held) × HoldsSome (hub_of l.durable).held.holder;
  still : ¬ (holder_conn (hub_of l.fn.durable).held.holder ≡ Some l.fn.conn) → l.durable ≡ l.fn.durable;
  makes_stay : g.L.Log.makes_stay (log_of l.durable) ≡ g.L.Log.makes_stay (log_of l.fn.durable);
  room : g.L.Log.lacks_room (log_of l.durable) ≡ g.L.Log.lacks_room (log_of l.fn.durable);
  segment : g.L.Log.segment (log_of l.durable) ≡ g.L.Log.segment (log_of l.fn.durable);
  steps : List Step;
  own : AreUndos l.fn.conn steps;
  makes : Makes steps (hub_of l.fn.durable) (hub_of l.durable) (g.L.Log.appended (log_of l.fn.durable)) (g.L.Log.appended (log_of l.durable));
}
