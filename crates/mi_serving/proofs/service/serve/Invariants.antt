use Rattle.std.proofs.Common.{◌≡◌, ◌≤◌, true}
use Rattle.mi_log.specs.DeviceLog.{device_of}
use Rattle.mi_replay.specs.Replayed.{replayer}
use Rattle.mi_durable.specs.Durable.{hub_of, log_of, IsSettled}
use Rattle.mi_recovery.specs.Device.{told_of}
use Rattle.mi_serving.specs.Overflow.{WaitsUpTo}
use Rattle.mi_serving.specs.Turns.{GoesOver, AllUpTo}
use Rattle.mi_clients.specs.Clients.{ids, Attends}
use Rattle.mi_serving.proofs.service.serve.Given as goal

-- the list stays what the hub has attached, and all that was done are steps, over one segment or several
abbrev pub invariant-turns : goal.invariant-turns
invariant-turns g l =
    let contents = g.P.File.Device.contents in record {
      attends : Attends (ids l.clients.items) (hub_of l.durable).attached;
      known : AllUpTo l.last l.clients.items;
      own : replayer ≤ l.last;
      waits : WaitsUpTo l.last l.overflow.comer;
      settled : IsSettled (λ l. told_of contents (device_of l)) (λ l. told_of g.P.File.Device.stays (device_of l)) l.durable;
      goes : GoesOver (λ file. g.P.File.JournalFile.is_locked file ≡ true) contents l.fn.rolling.schema.now l.fn.rolling.keeping l.fn.rolling.most
          (hub_of l.fn.durable) (hub_of l.durable) (told_of contents (device_of (log_of l.fn.durable))) (told_of contents (device_of (log_of l.durable)));
    }
