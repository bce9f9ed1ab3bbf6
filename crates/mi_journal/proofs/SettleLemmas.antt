-- What an inverse is settled by does what settling the inverse does, and of another one than a put it is the inverse.
-- Cited by `store::fetch` and `mi_database`.
use Rattle.std.proofs.Common.{◌≡◌, ℕ, Bool, Option, List, refl}
use Rattle.mi_value.specs.declared.value.Value.{Value}
use Rattle.mi_node.specs.Refs.{Ref}
use Rattle.mi_node.specs.declared.old_place.OldPlace.{OldPlace as Place}
use Rattle.mi_container.specs.Data.{Data}
use Rattle.mi_container.specs.Inverse.{Inverse, settled}
use Rattle.mi_container.specs.Inverse.Inverse.{Inserted, Put, Erased, Relocated, Nothing}
use Rattle.mi_container.specs.Fits.{KeptBy}
use Rattle.mi_journal.specs.declared.entry.Entry.{Entry}
use Rattle.mi_journal.specs.declared.entry.Entry.TheVariants as entry
use Rattle.mi_journal.specs.Filled.{filled, records_in, places_in}
use Rattle.mi_journal.specs.Stored.{to_settle}

pub settles_alike : (i : Inverse) (d : Data) → settled (to_settle i) d ≡ settled i d
settles_alike (Inserted r) d = refl
settles_alike (Put r old) d = refl
settles_alike (Erased r why) d = refl
settles_alike (Relocated x r b) d = refl
settles_alike Nothing d = refl

pub kept_alike : (i : Inverse) (d : Data) → KeptBy i d → KeptBy (to_settle i) d
kept_alike (Inserted r) d kept = tt
kept_alike (Put r old) d kept = tt
kept_alike (Erased r why) d kept = kept
kept_alike (Relocated x r b) d kept = tt
kept_alike Nothing d kept = tt

-- an entry that has no record and no places
pub settled_itself : (e : Entry) → ((at : Ref) (id : ℕ) (ms : List Bool) → e ≡ entry.Put at id ms → ⊥)
    → ((rs : List (List Value)) (ps : List (Option Place)) → to_settle (filled e rs ps) ≡ filled e rs ps) × (records_in e ≡ 0) × (places_in e ≡ 0)
settled_itself (entry.Inserted at id) other = ((λ rs ps. refl), refl, refl)
settled_itself (entry.Put at id ms) other = absurd (other at id ms refl)
settled_itself (entry.Erased at id) other = ((λ rs ps. refl), refl, refl)
settled_itself (entry.Lost at id x e) other = ((λ rs ps. refl), refl, refl)
settled_itself (entry.StoodLast x at id) other = ((λ rs ps. refl), refl, refl)
settled_itself (entry.StoodBefore x at id by b) other = ((λ rs ps. refl), refl, refl)
settled_itself entry.Nothing other = ((λ rs ps. refl), refl, refl)
