use Rattle.std.proofs.Common.{◌≡◌, ℕ, ◌<◌, false, slice_index_or}
use Rattle.core.specs.Mem.Slots.{slots_filled, slots_ptr, slots_len}
use Rattle.core.specs.Mem.Slots.Ownership.{Filled}
use Rattle.mi_node.proofs.chunk.empty.Given as goal

abbrev pub invariant-loop-i : goal.invariant-loop-i
invariant-loop-i g l = (slots_len l.places ≡ 1024) × Filled (slots_filled l.places) l.i 1024 × (slots_ptr l.places ≡ slots_ptr l.initial.places)
    × ((k : ℕ) → k < l.i → slice_index_or (slots_filled l.places) k false ≡ false)
