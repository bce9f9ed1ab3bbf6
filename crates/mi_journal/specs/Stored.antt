-- What contracts see of the inverses of open sessions.
use Rattle.std.specs.Prelude.{◌≡◌, ℕ, zero, suc, ◌+◌, ◌-◌, ◌<◌, ◌≤◌, ◌/◌, List, [], ◌∷◌, length, min}
use Rattle.std.specs.declared.option.Option.{Option}
use Rattle.std.specs.declared.option.Option.TheVariants.{None, Some}
use Rattle.mi_journal.specs.Noted.{TakesOldest}
use Rattle.mi_container.specs.Inverse.{OldPlace, Inverse}
use Rattle.mi_container.specs.Inverse.Inverse.{Inserted, Put, Erased, Relocated, Nothing}

-- how many entries, old records and old places three rings have memory for, those that are there too
pub record Rings : Type 0 where
  pub entries : ℕ
  pub records : ℕ
  pub places : ℕ

-- the inverses of each open session, the newest session and the newest inverse first; for how many changes and sessions more there is room;
-- how many places a put has at most; and what the rings have memory for
pub record Stored : Type 0 where
  pub sessions : List (List (ℕ × Inverse))
  pub changes : ℕ
  pub starts : ℕ
  pub most : ℕ
  pub rings : Rings

-- how many entries there are in sessions
abbrev pub entries_of_all : {A : Type 0} → List (List A) → ℕ
entries_of_all [] = 0
entries_of_all (es ∷ older) = length es + entries_of_all older

-- for how many changes there is room in three rings
abbrev pub room_in : ℕ → ℕ → ℕ → ℕ → ℕ
room_in zero entries records places = min entries records
room_in (suc most) entries records places = min (min entries records) (places / suc most)

-- how many places are there
abbrev pub place_count : List (Option OldPlace) → ℕ
place_count [] = 0
place_count (None ∷ ps) = place_count ps
place_count (Some p ∷ ps) = suc (place_count ps)

-- an inverse has at most so many places, and the number of a relocation's index is a byte
abbrev pub IsWithin : ℕ → Inverse → Type 0
IsWithin most (Inserted r) = Unit {0}
IsWithin most (Put r old) = place_count old.places ≤ most
IsWithin most (Erased r why) = Unit {0}
IsWithin most (Relocated x r b) = x < 256
IsWithin most Nothing = Unit {0}

-- how many records and old places an inverse takes of the rings
abbrev pub records_taken : Inverse → ℕ
records_taken (Inserted r) = 0
records_taken (Put r old) = 1
records_taken (Erased r why) = 0
records_taken (Relocated x r b) = 0
records_taken Nothing = 0

abbrev pub places_taken : Inverse → ℕ
places_taken (Inserted r) = 0
places_taken (Put r old) = place_count old.places
places_taken (Erased r why) = 0
places_taken (Relocated x r b) = 0
places_taken Nothing = 0

-- how many those of a session take, and of all
abbrev pub taken_of : (Inverse → ℕ) → List (ℕ × Inverse) → ℕ
taken_of f [] = 0
taken_of f (x ∷ xs) = f x.1 + taken_of f xs

abbrev pub taken_of_all : (Inverse → ℕ) → List (List (ℕ × Inverse)) → ℕ
taken_of_all f [] = 0
taken_of_all f (xs ∷ older) = taken_of f xs + taken_of_all f older

-- for how many changes these rings have room, beside what these sessions take of them
abbrev pub room_beside : ℕ → Rings → List (List (ℕ × Inverse)) → ℕ
room_beside most rings sessions =
    room_in most (rings.entries - entries_of_all sessions) (rings.records - taken_of_all records_taken sessions)
    (rings.places - taken_of_all places_taken sessions)

-- what an inverse is settled by: of a put neither the record nor the places are asked for
abbrev pub to_settle : Inverse → Inverse
to_settle (Inserted r) = Inserted r
to_settle (Put r old) = Nothing
to_settle (Erased r why) = Erased r why
to_settle (Relocated x r b) = Relocated x r b
to_settle Nothing = Nothing

-- the oldest inverse of the oldest session leaves, if it has one, and what it is settled by is answered
abbrev pub TakesToSettle : Option (ℕ × Inverse) → List (List (ℕ × Inverse)) → List (List (ℕ × Inverse)) → Type 0
TakesToSettle None old new = TakesOldest {A = ℕ × Inverse} None old new
TakesToSettle (Some x) old new = (i : Inverse) × (x.1 ≡ to_settle i) × TakesOldest (Some (x.0, i)) old new
