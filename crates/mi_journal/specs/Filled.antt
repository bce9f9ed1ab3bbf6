-- What the entries of a journal mean, with the old records and the old places of puts beside them, the newest first.
--     filled      the inverse of an entry
--     decoded, decoded_all      those of a session, and of all
--     records_in, places_in, records_of, places_of, records_of_all, places_of_all      how many records and places are theirs
--     IsThere      a place of the ring is one, and not none
use Rattle.std.specs.Prelude.{ℕ, suc, ◌+◌, Bool, true, false, List, [], ◌∷◌, drop, IsSome}
use Rattle.std.specs.Option.{option_map}
use Rattle.std.specs.declared.option.Option.{Option}
use Rattle.std.specs.declared.option.Option.TheVariants.{None, Some}
use Rattle.mi_value.specs.declared.value.Value.{Value}
use Rattle.mi_node.specs.Refs.{Ref}
use Rattle.mi_node.specs.declared.old_place.OldPlace.{OldPlace as Place}
use Rattle.mi_container.specs.Backs.{place_seen}
use Rattle.mi_container.specs.Inverse.{RowRef, OldPlace, Inverse}
use Rattle.mi_container.specs.Inverse.Inverse.{Inserted, Put, Erased, Relocated, Nothing}
use Rattle.mi_journal.specs.declared.entry.Entry.{Entry}
use Rattle.mi_journal.specs.declared.entry.Entry.TheVariants as entry

-- a place of the ring is one, and not none
abbrev pub IsThere : Option Place → Type 0
IsThere p = IsSome p

-- how many indexes are marked
abbrev pub marked : List Bool → ℕ
marked [] = 0
marked (false ∷ ms) = marked ms
marked (true ∷ ms) = suc (marked ms)

-- how many records and places of the rings are an entry's
abbrev pub records_in : Entry → ℕ
records_in (entry.Inserted at id) = 0
records_in (entry.Put at id ms) = 1
records_in (entry.Erased at id) = 0
records_in (entry.Lost at id x e) = 0
records_in (entry.StoodLast x at id) = 0
records_in (entry.StoodBefore x at id by b) = 0
records_in entry.Nothing = 0

abbrev pub places_in : Entry → ℕ
places_in (entry.Inserted at id) = 0
places_in (entry.Put at id ms) = marked ms
places_in (entry.Erased at id) = 0
places_in (entry.Lost at id x e) = 0
places_in (entry.StoodLast x at id) = 0
places_in (entry.StoodBefore x at id by b) = 0
places_in entry.Nothing = 0

-- the first places, in the indexes that are marked
abbrev pub placed : List Bool → List (Option Place) → List (Option OldPlace)
placed [] ps = []
placed (false ∷ ms) ps = None ∷ placed ms ps
placed (true ∷ ms) [] = None ∷ placed ms []
placed (true ∷ ms) (p ∷ ps) = option_map place_seen p ∷ placed ms ps

-- the first record
abbrev pub first_record : List (List Value) → List Value
first_record [] = []
first_record (r ∷ rs) = r

abbrev pub row_at : Ref → ℕ → RowRef
row_at at id = record { id = id; at = at }

-- the inverse of an entry, whose record and places are the first
abbrev pub filled : Entry → List (List Value) → List (Option Place) → Inverse
filled (entry.Inserted at id) rs ps = Inserted (row_at at id)
filled (entry.Put at id ms) rs ps = Put (row_at at id) (record { values = first_record rs; places = placed ms ps })
filled (entry.Erased at id) rs ps = Erased (row_at at id) None
filled (entry.Lost at id x e) rs ps = Erased (row_at at id) (Some (x, e))
filled (entry.StoodLast x at id) rs ps = Relocated x (row_at at id) None
filled (entry.StoodBefore x at id by b) rs ps = Relocated x (row_at at id) (Some (row_at by b))
filled entry.Nothing rs ps = Nothing

-- those of a session
abbrev pub records_of : List (ℕ × Entry) → ℕ
records_of [] = 0
records_of (e ∷ es) = records_in e.1 + records_of es

abbrev pub places_of : List (ℕ × Entry) → ℕ
places_of [] = 0
places_of (e ∷ es) = places_in e.1 + places_of es

abbrev pub decoded : List (ℕ × Entry) → List (List Value) → List (Option Place) → List (ℕ × Inverse)
decoded [] rs ps = []
decoded (e ∷ es) rs ps = (e.0, filled e.1 rs ps) ∷ decoded es (drop (records_in e.1) rs) (drop (places_in e.1) ps)

-- and of all sessions
abbrev pub records_of_all : List (List (ℕ × Entry)) → ℕ
records_of_all [] = 0
records_of_all (es ∷ older) = records_of es + records_of_all older

abbrev pub places_of_all : List (List (ℕ × Entry)) → ℕ
places_of_all [] = 0
places_of_all (es ∷ older) = places_of es + places_of_all older

abbrev pub decoded_all : List (List (ℕ × Entry)) → List (List Value) → List (Option Place) → List (List (ℕ × Inverse))
decoded_all [] rs ps = []
decoded_all (es ∷ older) rs ps = decoded es rs ps ∷ decoded_all older (drop (records_of es) rs) (drop (places_of es) ps)
