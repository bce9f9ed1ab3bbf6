-- What the turns of a service do, one behind another: connection 2 comes and asks in one turn, and goes away in the next.
use Rattle.std.specs.Prelude.{◌≤◌, ℕ, List, [], ◌∷◌, Bool, true, false, Option, None}
use Rattle.std.specs.List.{Contains}
use Rattle.mi_clients.specs.declared.client.Client.{Client}
use Rattle.mi_hub.specs.Run.{HubState}
use Rattle.mi_clients.specs.Steps.{Step, Makes, GivesNone, AsksNone}
use Rattle.mi_clients.specs.Clients.{ids, Joins, Serves, AllOnlyAsk, StayersOnlyAsk, TellsWhatIs}
use Rattle.mi_clients.specs.Status.{IsStatus}
use Rattle.mi_clients.specs.Beside.{Attended, InPlace}
use Rattle.mi_recovery.specs.declared.device.Keeping.{Keeping}
use Rattle.mi_recovery.specs.declared.place.JournalSchema.{JournalSchema as OfSchema}
use Rattle.mi_recovery.specs.Segments.{IsRolled}
use Rattle.mi_serving.specs.declared.link.Link.{Link}
use Rattle.mi_serving.specs.declared.overflow.Overflow.{Overflow}
use Rattle.mi_serving.specs.Overflow.{IsPlaced}
use Rattle.mi_serving.specs.declared.failure.Failure.{Failure}
use Rattle.mi_serving.specs.declared.failure.Failure.TheVariants.{
  SchemaFile,
  Schema,
  JournalFile,
  JournalSchema,
  JournalLine,
  JournalSegment,
  JournalSegmentLine,
  JournalBase,
  JournalSessions,
  JournalLocked,
  MovedType,
  MovedUnique,
  MovedFull,
  MovedTable,
  Journal,
  Output,
  Listen,
  Poll,
  Memory,
  Turns,
}

-- From old, some steps are made, and new is left.
abbrev pub Goes : HubState → HubState → Option (List ℕ) → Option (List ℕ) → Type 0
Goes old new before after = (steps : List Step) × Makes steps old new before after

-- Where a journal went on in its next segment: the hub then, and what is told of the segment before and of the next one.
pub record Seam : Type 0 where
  pub hub : HubState
  pub before : Option ℕ
  pub closed : Option (List ℕ)
  pub next : Option ℕ
  pub begun : Option (List ℕ)

-- From old some steps are made, and new is left; in between the journal went on in further segments, the last of which is named first.
abbrev pub GoesBy : {F : Type 0} → (F → Type 0) → (F → Option (List ℕ)) → OfSchema → Keeping → ℕ → List Seam → HubState → HubState
    → Option (List ℕ) → Option (List ℕ) → Type 0
GoesBy is_locked contents schema keeping most [] old new told after = Goes old new told after
GoesBy is_locked contents schema keeping most (seam ∷ seams) old new told after =
    GoesBy is_locked contents schema keeping most seams old seam.hub told seam.closed
    × IsRolled is_locked contents schema keeping most seam.before seam.closed seam.next seam.begun × Goes seam.hub new seam.begun after

abbrev pub GoesOver : {F : Type 0} → (F → Type 0) → (F → Option (List ℕ)) → OfSchema → Keeping → ℕ → HubState → HubState
    → Option (List ℕ) → Option (List ℕ) → Type 0
GoesOver is_locked contents schema keeping most old new told after =
    (seams : List Seam) × GoesBy is_locked contents schema keeping most seams old new told after

-- no connection of a list has a number above this one
abbrev pub AllUpTo : {S : Type 0} → ℕ → List (Client S) → Type 0
AllUpTo {S} last clients = (c : Client S) → Contains clients c → c.conn ≤ last

-- What a turn does. The list is served by the first steps, as who is there and has come asks. By the others who has waited for a place is
-- admitted, and nobody is asked or given anything. The one beside the list is attended to by the status of what these leave; it makes no step.
pub record IsTurn (schema : List ℕ) (seconds : ℕ) (old new : HubState) (before after stays : Option (List ℕ)) (lacks : Bool) (room : ℕ)
    (segment : Option ℕ) (olds news : List (Client Link)) (waited beside : Overflow) : Type 0 where
  pub first : List Step
  pub comes : List Step
  pub mid : HubState
  pub kept : Option (List ℕ)
  pub clients : List (Client Link)
  pub lacked : Bool
  pub number : Option ℕ
  pub serves : Serves (λ _. None) first olds clients
  pub makes : Makes first old mid before kept
  pub stayers : StayersOnlyAsk first olds clients
  pub tells : TellsWhatIs (λ _. None) schema seconds first old before lacked number olds
  pub admits : Makes comes mid new kept after
  pub none : GivesNone comes
  pub quiet : AsksNone comes
  pub alone : AllOnlyAsk comes (ids clients)
  pub joins : Joins clients news
  pub at : Overflow
  pub placed : IsPlaced waited.comer waited at mid new clients news
  pub attended : InPlace (λ was last. (status : List ℕ) × IsStatus after stays lacks room segment seconds news new status
      × Attended (λ _. None) (λ _. None) status schema was last) at.beside.client beside.beside.client

-- whether a service that serves may end by this failure
abbrev pub ends_serving : Failure → Bool
ends_serving Poll = true
ends_serving Memory = true
ends_serving Journal = true
ends_serving Turns = true
ends_serving SchemaFile = false
ends_serving (Schema fault) = false
ends_serving JournalFile = false
ends_serving JournalSchema = false
ends_serving (JournalLine line) = false
ends_serving (JournalSegment segment) = false
ends_serving (JournalSegmentLine segment line) = false
ends_serving JournalBase = false
ends_serving JournalSessions = false
ends_serving JournalLocked = false
ends_serving MovedType = false
ends_serving (MovedUnique first second) = false
ends_serving MovedFull = false
ends_serving MovedTable = false
ends_serving Output = false
ends_serving Listen = false
