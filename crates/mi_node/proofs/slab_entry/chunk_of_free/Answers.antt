-- What a place with no element has in contracts is a free place; the places of the chunk are free, and numbered from the first on.
use Rattle.std.proofs.Common.{subst, sym}
use Rattle.mi_node.specs.Slab.{AreFree}
use Rattle.mi_node.specs.declared.slab_entry.SlabEntry.TheVariants.{Free}
use Rattle.mi_node.proofs.slab_entry.chunk_of_free.Goals as goal

pub places_of-requires : goal.places_of-requires
places_of-requires g c = record { some = Free (record { name = 0; generation = 0 }) 0 }

pub returns : goal.returns
returns g c = subst (AreFree c.args.first) (sym c.new.ensures) c.fill.ensures.free
