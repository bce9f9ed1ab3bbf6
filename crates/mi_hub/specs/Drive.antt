-- A list of events that is done one after another until one can't be: the calls of the hub, in a row.
use Rattle.std.specs.Prelude.{◌≡◌, ℕ, List, [], ◌++◌, take, slice_get, Some}
use Rattle.mi_hub.specs.Run.{HubState, Event, attach, piece, close, cut, Refused, AllDone, Failed}
use Rattle.mi_hub.specs.declared.events.Event.{Event as Given}
use Rattle.mi_hub.specs.declared.events.Event.TheVariants as given
use Rattle.mi_hub.specs.declared.fault.HubFault.{HubFault}
use Rattle.mi_hub.specs.declared.fault.HubFault.TheVariants.{Write}

-- the event that the code was given
abbrev pub event_of : Given → Event
event_of (given.Attach conn) = attach conn
event_of (given.Piece conn bytes) = piece conn bytes.items
event_of (given.Close conn) = close conn
event_of (given.Cut conn) = cut conn

-- From old, the event isn't done whole: its writer fails, or it is refused, and then nothing is written or changed.
abbrev pub NotDone : HubState → Event → HubFault → List ℕ → HubState → Type 0
NotDone old event Write out new = Failed old event out new
NotDone old event fault out new = Refused old event fault × (out ≡ []) × (new ≡ old)

-- From old, the events before this place are done, and the one that stands there is not; the others are left out.
pub record Stopped (old : HubState) (events : List Event) (at : ℕ) (fault : HubFault) (out : List ℕ) (new : HubState) : Type 0 where
  pub event : Event
  pub there : slice_get events at ≡ Some event
  pub mid : HubState
  pub first : List ℕ
  pub later : List ℕ
  pub run : AllDone old (take at events) first mid
  pub not_done : NotDone mid event fault later new
  pub written : out ≡ first ++ later
