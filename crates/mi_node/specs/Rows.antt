-- Storage in memory that have no element.
use Rattle.std.specs.Prelude.{◌≡◌, ℕ, false, slice_index_or}
use Rattle.core.specs.Mem.Slots.{slots_filled}
use Rattle.core.specs.declared.slots.Slots.{Slots}

abbrev pub IsEmpty : {E : Type 0} → Slots E → Type 0
IsEmpty a = (k : ℕ) → slice_index_or (slots_filled a) k false ≡ false
