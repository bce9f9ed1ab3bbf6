-- the places in the indexes so far
use Rattle.std.proofs.Common.{◌≡◌, map, take, length}
use Rattle.std.specs.Option.{option_map}
use Rattle.mi_container.specs.Data.{content_of}
use Rattle.mi_container.specs.Inverse.{old_places}
use Rattle.mi_container.specs.Backs.{place_seen}
use Rattle.mi_multi.proofs.multi.MultiIndex.old_places.Given as goal

abbrev pub invariant-loop-index : goal.invariant-loop-index
invariant-loop-index l = (map (option_map place_seen) l.places.items
    ≡ take l.index (old_places 0 l.self.plain.rows l.id (content_of l.self.plain.rows l.id).values
    l.new l.self.plain.orders (content_of l.self.plain.rows l.id).stamps))
    × (length l.places.items ≡ l.index)
