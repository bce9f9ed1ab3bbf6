-- The record that a row had before a put, with its places: as definitions see them, and as the indexes take the places.
use Rattle.std.specs.Prelude.{List, map}
use Rattle.std.specs.Option.{option_map}
use Rattle.std.specs.declared.option.Option.{Option}
use Rattle.mi_value.specs.declared.value.Value.{Value}
use Rattle.mi_node.specs.declared.old_place.OldPlace.{OldPlace as Place}
use Rattle.mi_container.specs.Inverse.{OldPlace, Old}
use Rattle.mi_container.specs.Backs.{place_seen}

abbrev pub to_place : OldPlace → Place
to_place p = record { stamp = p.stamp; back = p.link.back; forth = p.link.forth }

abbrev pub old_seen : List Value → List (Option Place) → Old
old_seen values places = record { values = values; places = map (option_map place_seen) places }
