-- What contracts see of a step and of old places.
--     step_seen      the inverse that a step is, with old places beside it
--     lost_by      the conflict by which a modify lost its row, by its step
use Rattle.std.specs.Prelude.{ℕ, List, [], map}
use Rattle.std.specs.Option.{option_map}
use Rattle.std.specs.declared.option.Option.{Option}
use Rattle.mi_container.specs.declared.inverse.RowRef.{RowRef as Row}
use Rattle.mi_node.specs.declared.old_place.OldPlace.{OldPlace as Place}
use Rattle.mi_container.specs.declared.inverse.Step.{Step}
use Rattle.mi_container.specs.declared.inverse.Step.TheVariants as step
use Rattle.mi_container.specs.Inverse.{RowRef, OldPlace, Inverse, lost_to}
use Rattle.mi_container.specs.Inverse.Inverse.{Inserted, Put, Erased, Relocated, Nothing}

abbrev pub row_seen : Row → RowRef
row_seen r = record { id = r.id; at = r.node }

abbrev pub place_seen : Place → OldPlace
place_seen p = record { stamp = p.stamp; link = record { back = p.back; forth = p.forth } }

abbrev pub places_seen : List (Option Place) → List (Option OldPlace)
places_seen ps = map (option_map place_seen) ps

abbrev pub step_seen : Step → List (Option OldPlace) → Inverse
step_seen (step.Inserted r) ps = Inserted (row_seen r)
step_seen (step.Put r values) ps = Put (row_seen r) (record { values = values; places = ps })
step_seen (step.Erased r why) ps = Erased (row_seen r) why
step_seen (step.Relocated x r before) ps = Relocated x (row_seen r) (option_map row_seen before)
step_seen step.Nothing ps = Nothing

abbrev pub lost_by : Step → Option (ℕ × ℕ)
lost_by s = lost_to (step_seen s [])
