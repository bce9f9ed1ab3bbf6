use Rattle.std.proofs.Common.{◌≡◌, ◌+◌, ◌-◌}
use lib.ListN.{drop}
use Rattle.core.specs.Mem.Slots.{slots_items, slots_filled, slots_ptr, slots_len}
use Rattle.core.specs.Mem.Slots.Ownership.{Filled}
use Rattle.mi_node.specs.Slab.{AreFree}
use Rattle.mi_node.proofs.slab_entry.fill.Given as goal

abbrev pub invariant-loop-i : goal.invariant-loop-i
invariant-loop-i g l =
    (slots_len l.places ≡ 1024) × AreFree (l.first + (1024 - l.i)) (drop (1024 - l.i) (slots_items l.places))
    × Filled (slots_filled l.places) (1024 - l.i) 1024 × (slots_ptr l.places ≡ slots_ptr l.initial.places)
