use Rattle.std.proofs.Common.{◌≡◌, ◌-◌, ◌+◌, ◌≤◌, length, take}
use Rattle.std.specs.Io.KnownBytes.{Appends, Keeps}
use Rattle.mi_log.proofs.device_log.write_all.Given as goal

-- the front up to `at` is written
abbrev pub invariant-bytes : goal.invariant-bytes
invariant-bytes g l = record {
  within : l.at ≤ length l.bytes;
  written : Appends (g.D.Device.contents l.fn.device) (g.D.Device.contents l.device) (take l.at l.bytes);
  stays : Keeps (g.D.Device.stays l.fn.device) (g.D.Device.stays l.device);
  makes_stay : g.D.Device.makes_stay l.device ≡ g.D.Device.makes_stay l.fn.device;
  room : g.D.Device.lacks_room l.device ≡ g.D.Device.lacks_room l.fn.device;
  left : g.D.Device.room_left l.fn.device ≤ g.D.Device.room_left l.device + l.at;
}

abbrev pub decreases-bytes : goal.decreases-bytes
decreases-bytes g l = length l.bytes - l.at
