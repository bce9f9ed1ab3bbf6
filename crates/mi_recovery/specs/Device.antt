-- What a service's journal is appended to: nowhere, or a file that is synced or isn't.
use Rattle.std.specs.Prelude.{ℕ, List, Bool, true, false, ◌&&◌, if◌then◌else◌, Option, None, is_some, option_and_then}
use Rattle.std.specs.Option.{option_map_or}
use Rattle.mi_recovery.specs.declared.device.JournalDevice.{JournalDevice}
use Rattle.mi_recovery.specs.declared.device.Keeping.{Keeping}
use Rattle.mi_recovery.specs.declared.device.Keeping.TheVariants.{Synced, Unsynced}

abbrev pub file_of : {F : Type 0} → JournalDevice F → Option F
file_of d = d.file

abbrev pub keeping_of : {F : Type 0} → JournalDevice F → Keeping
keeping_of d = d.keeping

-- what its file has, where there is one and it tells
abbrev pub written_to : {F : Type 0} → (F → Option (List ℕ)) → JournalDevice F → Option (List ℕ)
written_to contents d = option_and_then contents d.file

-- whether a sync is made
abbrev pub is_synced : Keeping → Bool
is_synced Synced = true
is_synced Unsynced = false

-- whether what is appended is made to stay: where there is a file, and it's synced
abbrev pub is_staying : {F : Type 0} → JournalDevice F → Bool
is_staying d = is_some d.file && is_synced d.keeping

-- what it tells of its file's bytes: where they are made to stay what the file tells, and else nothing
abbrev pub told_of : {F : Type 0} → (F → Option (List ℕ)) → JournalDevice F → Option (List ℕ)
told_of contents d = if is_staying d then written_to contents d else None

-- whether its file lacks room, where it has one
abbrev pub lacks_room : {F : Type 0} → (F → Bool) → JournalDevice F → Bool
lacks_room lacks d = option_map_or lacks d.file false

-- for how many bytes its file has room, where it has one; else for as many as can be asked for
abbrev pub room_left : {F : Type 0} → (F → ℕ) → JournalDevice F → ℕ
room_left left d = option_map_or left d.file 18446744073709551615
