-- What the changes of a container say beside their meaning as changes of a table: which change of the data was made, and its inverse.
--     Makes, MakesInsert, MakesModify      the change, which was allowed, and its inverse
--     Laid, Tells, TellsAlone      of which inverse a step speaks, with the places laid down beside it
--     MeetsOn      what is answered and left is what a definition says of the table
--     insert_row_answer, replace_answer, erase_answer, modify_answer      the answers as those of a table
use Rattle.std.specs.Prelude.{◌≡◌, ℕ, Bool, true, List}
use Rattle.std.specs.declared.option.Option.{Option}
use Rattle.std.specs.declared.option.Option.TheVariants.{None, Some}
use Rattle.std.specs.declared.result.Result.{Result}
use Rattle.std.specs.declared.result.Result.TheVariants.{Ok, Err}
use Rattle.mi_value.specs.declared.value.Value.{Value}
use Rattle.mi_value.specs.declared.refusal.Refusal.{Refusal}
use Rattle.mi_value.specs.declared.refusal.Refusal.TheVariants.{Lost}
use Rattle.mi_catalog.specs.Shape.{Shape}
use Rattle.mi_model.specs.Table.{Table}
use Rattle.mi_model.specs.Verdict.{Outcome}
use Rattle.mi_model.specs.DatabaseChange.{Meets}
use Rattle.mi_node.specs.Refs.{Ref}
use Rattle.mi_node.specs.declared.old_place.OldPlace.{OldPlace as Place}
use Rattle.mi_container.specs.Data.{Data, as_table}
use Rattle.mi_container.specs.Inverse.{OldPlace, Inverse}
use Rattle.mi_container.specs.Backs.{places_seen, step_seen, lost_by}
use Rattle.mi_container.specs.declared.inverse.RowRef.{RowRef}
use Rattle.mi_container.specs.declared.inverse.Step.{Step}
use Rattle.mi_container.specs.Run.{Change, changed, inverse_of, Allowed}
use Rattle.mi_container.specs.Run.Change.{Insert, Replace, Erase}

-- one change of the data, which was allowed, and its inverse
pub record Makes (s : Shape) (k : Change) (old : Data) (i : Inverse) (new : Data) : Type 0 where
  pub allowed : Allowed s k old
  pub changed_data : new ≡ changed k old
  pub inverse : i ≡ inverse_of k old

-- a new row, in a node of some reference
abbrev pub MakesInsert : Shape → Option (ℕ × ℕ) → List Value → Data → Inverse → Data → Type 0
MakesInsert s place r old i new = (at : Ref) × Makes s (Insert place at r) old i new

-- another record; or where the modify lost it, the row is gone
abbrev pub MakesModify : Option (ℕ × ℕ) → Shape → ℕ → Data → Inverse → Data → Type 0
MakesModify None s e old i new = (r : List Value) × Makes s (Replace e r) old i new
MakesModify (Some at) s e old i new = Makes s (Erase e (Some at)) old i new

-- some places for which that holds; where they are noted they are those laid down
abbrev pub Laid : Bool → List (Option Place) → (List (Option OldPlace) → Type 0) → Type 0
Laid noted laid P = (ps : List (Option OldPlace)) × (noted ≡ true → ps ≡ places_seen laid) × P ps

-- so of the inverse that a step is, with such places
abbrev pub Tells : Bool → Step → List (Option Place) → (Inverse → Type 0) → Type 0
Tells noted k laid P = Laid noted laid (λ ps. P (step_seen k ps))

-- and of one that takes no places, whatever stands beside it
abbrev pub TellsAlone : Step → (Inverse → Type 0) → Type 0
TellsAlone k P = (ps : List (Option OldPlace)) → P (step_seen k ps)

-- what is answered and left is what a definition says of the table
abbrev pub MeetsOn : {A : Type 0} → (Table → Outcome A) → Result A Refusal → Data → Data → Type 0
MeetsOn outcome answer old new = Meets (outcome (as_table old)) answer (as_table old) (as_table new)

abbrev pub insert_row_answer : {X : Type 0} → Result RowRef (Refusal × X) → Result ℕ Refusal
insert_row_answer (Ok r) = Ok r.id
insert_row_answer (Err e) = Err e.0

abbrev pub replace_answer : {X : Type 0} → Result Step (Refusal × X) → Result (Unit {0}) Refusal
replace_answer (Ok k) = Ok tt
replace_answer (Err e) = Err e.0

-- of an erase, and of a relocation
abbrev pub erase_answer : Result Step Refusal → Result (Unit {0}) Refusal
erase_answer (Ok k) = Ok tt
erase_answer (Err e) = Err e

abbrev pub lost_answer : Option (ℕ × ℕ) → Result (Unit {0}) Refusal
lost_answer None = Ok tt
lost_answer (Some at) = Err (Lost at.0 at.1)

-- a modify that lost its row was no refusal to the container
abbrev pub modify_answer : Result Step Refusal → Result (Unit {0}) Refusal
modify_answer (Ok k) = lost_answer (lost_by k)
modify_answer (Err e) = Err e

-- a refusal that has changed nothing
abbrev pub IsNoLoss : Refusal → Type 0
IsNoLoss (Lost x e) = ⊥
IsNoLoss e = Unit {0}
