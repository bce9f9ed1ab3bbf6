-- One input served: the hub at its start, and which failure a fault is.
-- Cited by `program::perform`, `program::serve_database`, `program::serve_port` and `serve::serve`.
use Rattle.std.proofs.Common.{◌≡◌, ℕ, Bool, List, [], length, Option, None, Result, Ok, Err, refl, sym, ap, ◌∙◌, subst}
use Rattle.std.specs.Prelude.{⊤, ◌≢◌, OnOk}
use Rattle.mi_value.specs.declared.limits.TheConstants.{MAX_READS}
use Rattle.mi_model.specs.Database.{Database}
use Rattle.mi_hub.specs.Run.{HubState, attach, with_connection, Done}
use Rattle.mi_hub.specs.ConnectionTurn.{ConnectionTurn}
use Rattle.mi_hub.specs.declared.watched.Watched.{Watched}
use Rattle.mi_hub.specs.declared.fault.ServeFault.{ServeFault}
use Rattle.mi_hub.specs.declared.fault.ServeFault.TheVariants as serving
use Rattle.mi_catalog.specs.Shape.{CatalogShape}
use Rattle.mi_program.specs.Source.{IsCatalog}
use Rattle.mi_program.specs.Turns.{with_clients, HaveCome, ByTurns, first_fault}
use Rattle.mi_program.specs.Serving.{empty_hub, come, IsServing, IsUntouched, ServesInput, AllTakeTurns, ServesClients, served_answer}
use Rattle.mi_program.specs.Status.{served_failure}
use Rattle.mi_program.specs.declared.listener.Client.{Client}
use Rattle.mi_program.proofs.TurnLemmas.{ok_accept, ok_memory, ok_turns, read_accept, read_memory, read_turns, write_accept, write_memory, write_turns}
use Rattle.mi_program.specs.declared.failure.Failure.{Failure}
use Rattle.mi_program.specs.declared.failure.Failure.TheVariants.{SchemaFile, Schema, Read, Write, Listen, Accept, Memory, Turns}

pub has_come : (database : Database) (old new : HubState)
    → old ≡ empty_hub database → Done old (attach 1) [] new
    → new ≡ come database
has_come database old new is done = done.3 ∙ ap (with_connection 1) is

-- the fault that a failure of serving is of; of any other failure it says nothing
abbrev fault_in : Failure → ServeFault
fault_in Read = serving.Read
fault_in Write = serving.Write
fault_in Accept = serving.Accept
fault_in Memory = serving.Memory
fault_in Turns = serving.Turns
fault_in SchemaFile = serving.Memory
fault_in (Schema fault) = serving.Memory
fault_in Listen = serving.Memory

fault_back : (fault : ServeFault) → fault_in (served_failure fault) ≡ fault
fault_back serving.Read = refl
fault_back serving.Write = refl
fault_back serving.Accept = refl
fault_back serving.Memory = refl
fault_back serving.Turns = refl

-- a failure of serving is of one fault
pub was : (fault other : ServeFault) → served_failure fault ≡ served_failure other → fault ≡ other
was fault other same = sym (fault_back fault) ∙ (ap fault_in same ∙ fault_back other)

-- what comes of one input, by what serving it answers
pub serves_input : {R W : Type 0} (remaining : R → Option (List ℕ)) (contents : W → Option (List ℕ)) (database : Database)
    (old_reader new_reader : Watched R) (old_writer new_writer : Watched W) (answer : Result ⊤ Failure)
    → OnOk answer (ServesInput remaining contents database old_reader new_reader old_writer new_writer (Ok tt))
    → (answer ≡ Err Read → ServesInput remaining contents database old_reader new_reader old_writer new_writer (Err Read))
    → (answer ≡ Err Turns → ServesInput remaining contents database old_reader new_reader old_writer new_writer (Err Turns))
    → (answer ≡ Err Write → ServesInput remaining contents database old_reader new_reader old_writer new_writer (Err Write))
    → (answer ≡ Err Memory → IsUntouched old_reader new_reader old_writer new_writer)
    → IsServing answer
    → ServesInput remaining contents database old_reader new_reader old_writer new_writer answer
serves_input remaining contents database r s w x (Ok tt) ok read turns write memory other = ok
serves_input remaining contents database r s w x (Err SchemaFile) ok read turns write memory other = other
serves_input remaining contents database r s w x (Err (Schema fault)) ok read turns write memory other = other
serves_input remaining contents database r s w x (Err Read) ok read turns write memory other = read refl
serves_input remaining contents database r s w x (Err Write) ok read turns write memory other = write refl
serves_input remaining contents database r s w x (Err Listen) ok read turns write memory other = other
serves_input remaining contents database r s w x (Err Accept) ok read turns write memory other = other
serves_input remaining contents database r s w x (Err Memory) ok read turns write memory other = memory refl
serves_input remaining contents database r s w x (Err Turns) ok read turns write memory other = turns refl

-- what comes of connections, by what serving them answers
module _ {S : Type 0} (remaining contents : S → Option (List ℕ)) (database : Database) (clients : ℕ) (old new : HubState) (is : old ≡ empty_hub database) where
  turned_by : (answer : Result ⊤ ServeFault) (Noted : List ConnectionTurn → Type 0)
      → (row : List (Client S)) × (turns : List ConnectionTurn) × HaveCome clients row
      × ByTurns remaining contents row (with_clients clients old) turns [] new × (answer ≡ first_fault turns) × Noted turns
      → AllTakeTurns remaining contents database clients answer
  turned_by answer Noted p =
      (p.0, p.1, new, p.2, subst (λ (s : HubState). ByTurns remaining contents p.0 (with_clients clients s) p.1 [] new) is p.3, p.4)

  pub serves_clients : (answer : Result ⊤ ServeFault) (Noted : List ConnectionTurn → Type 0)
      → (answer ≢ Err serving.Accept → answer ≢ Err serving.Memory → answer ≢ Err serving.Turns
      → (row : List (Client S)) × (turns : List ConnectionTurn) × HaveCome clients row
      × ByTurns remaining contents row (with_clients clients old) turns [] new × (answer ≡ first_fault turns) × Noted turns)
      → (answer ≡ Err serving.Turns → (row : List (Client S)) × (turns : List ConnectionTurn) × (left : List (Client S)) × (mid : HubState) × HaveCome clients row
      × ByTurns remaining contents row (with_clients clients old) turns left mid × (length turns ≡ MAX_READS) × Noted turns)
      → ServesClients remaining contents database clients (served_answer answer)
  serves_clients (Ok tt) Noted served turns = turned_by (Ok tt) Noted (served ok_accept ok_memory ok_turns)
  serves_clients (Err serving.Read) Noted served turns = turned_by (Err serving.Read) Noted (served read_accept read_memory read_turns)
  serves_clients (Err serving.Write) Noted served turns = turned_by (Err serving.Write) Noted (served write_accept write_memory write_turns)
  serves_clients (Err serving.Accept) Noted served turns = tt
  serves_clients (Err serving.Memory) Noted served turns = tt
  serves_clients (Err serving.Turns) Noted served turns =
      let p = turns refl in (
        p.0,
        p.1,
        p.2,
        p.3,
        p.4,
        subst (λ (s : HubState). ByTurns remaining contents p.0 (with_clients clients s) p.1 p.2 p.3) is p.5,
        p.6,
      )

-- a schema's file is named where it is said to be
pub same_naming : {F : Type 0} (remaining : F → Option (List ℕ)) (a b : Bool) (r : Result CatalogShape Failure)
    → a ≡ b → IsCatalog remaining a r → IsCatalog remaining b r
same_naming remaining a b r same p = subst (λ (named : Bool). IsCatalog remaining named r) same p
