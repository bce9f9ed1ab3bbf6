-- What the places of a pool stand for, and that they are sound.
use Rattle.mi_node.specs.Pool.{Pooled}
use Rattle.mi_node.specs.Seen.{seen, IsSound}
use Rattle.mi_node.specs.Spares.{AreListed}
use Rattle.mi_node.specs.declared.storage.Storage.{Storage}

module _ {T : Type 0} where
  abbrev pub nodes : Storage T → Pooled T
  nodes p = seen p.slots p.columns.items p.slab p.last_freed.marks

  abbrev pub AreSound : Storage T → Type 0
  AreSound p = IsSound p.slots p.columns.items p.slab p.last_freed.marks × AreListed p.slab p.last_freed.marks p.free
