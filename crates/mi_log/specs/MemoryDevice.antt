-- What a device in memory shows.
use Rattle.std.specs.Prelude.{ℕ, List, take}
use Rattle.mi_log.specs.declared.memory.MemoryDevice.{MemoryDevice}

abbrev pub written : MemoryDevice → List ℕ
written d = d.bytes.items

-- what was written when it was last synced
abbrev pub kept : MemoryDevice → List ℕ
kept d = take d.staying d.bytes.items

-- how many calls don't fail yet
abbrev pub sound_calls : MemoryDevice → ℕ
sound_calls d = d.calls

-- for how many bytes it has room in all
abbrev pub size_of : MemoryDevice → ℕ
size_of d = d.size
