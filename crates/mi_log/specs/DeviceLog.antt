-- What a log over a device shows.
use Rattle.std.specs.Prelude.{ℕ, Bool, Option, is_some, if◌then◌else◌}
use Rattle.mi_log.specs.declared.device_log.DeviceLog.{DeviceLog}

abbrev pub device_of : {D : Type 0} → DeviceLog D → D
device_of l = l.device

-- the number of the segment that it appends to, where it has one
abbrev pub segment_of : {D : Type 0} → DeviceLog D → Option ℕ
segment_of l = l.segment

-- whether a call has failed: what the device said then is kept
abbrev pub is_broken : {D : Type 0} → DeviceLog D → Bool
is_broken l = is_some l.error

-- for how many bytes it has room: as its device does, and for none where a call has failed
abbrev pub room_left : {D : Type 0} → (D → ℕ) → DeviceLog D → ℕ
room_left left l = if is_broken l then 0 else left l.device
