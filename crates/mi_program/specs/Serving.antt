-- How one input is served, and how connections are: the hub at its start, and what is done, by what serving answers.
use Rattle.std.specs.Prelude.{◌≡◌, ◌⊎◌, ◌≤◌, ⊤, ℕ, List, [], ◌∷◌, ◌++◌, length, true, false, Option, None, Result, Ok, Err}
use Rattle.std.specs.Io.KnownBytes.{IsAtEnd}
use Rattle.mi_value.specs.declared.limits.TheConstants.{MAX_READS, PIECE}
use Rattle.mi_model.specs.Database.{Database}
use Rattle.mi_hub.specs.Run.{HubState, with_connection, piece, close, cut, AllDone, Failed, Unflushed, FaultAtLast}
use Rattle.mi_hub.specs.ConnectionTurn.{ConnectionTurn}
use Rattle.mi_hub.specs.Watching.{watched, has_failed, flush_failed, is_flushed, Reads, Writes}
use Rattle.mi_hub.specs.declared.watched.Watched.{Watched}
use Rattle.mi_hub.specs.declared.fault.ServeFault.{ServeFault}
use Rattle.mi_hub.specs.declared.fault.ServeFault.TheVariants as serving
use Rattle.mi_program.specs.Status.{served_failure}
use Rattle.mi_program.specs.Turns.{with_clients, HaveCome, ByTurns, first_fault}
use Rattle.mi_program.specs.declared.listener.Client.{Client}
use Rattle.mi_program.specs.declared.failure.Failure.{Failure}
use Rattle.mi_program.specs.declared.failure.Failure.TheVariants.{SchemaFile, Schema, Read, Write, Listen, Accept, Memory, Turns}

-- a hub over this database, whose sessions nobody holds, with no connection
abbrev pub empty_hub : Database → HubState
empty_hub database = record { held = record { database = database; holder = None }; attached = [] }

-- connection 1 has come to it
abbrev pub come : Database → HubState
come database = with_connection 1 (empty_hub database)

-- what serving one input may answer
abbrev pub IsServing : Result ⊤ Failure → Type 0
IsServing (Ok done) = Unit {0}
IsServing (Err SchemaFile) = ⊥
IsServing (Err (Schema fault)) = ⊥
IsServing (Err Read) = Unit {0}
IsServing (Err Write) = Unit {0}
IsServing (Err Listen) = ⊥
IsServing (Err Accept) = ⊥
IsServing (Err Memory) = Unit {0}
IsServing (Err Turns) = Unit {0}

-- neither the input nor the output is touched
abbrev pub IsUntouched : {R W : Type 0} → Watched R → Watched R → Watched W → Watched W → Type 0
IsUntouched old_reader new_reader old_writer new_writer = (new_reader ≡ old_reader) × (new_writer ≡ old_writer)

-- An input is served over a database as the bytes of connection 1. Done: all of it is read and answered, and it is closed; the replies are
-- flushed. A read failed, or too many were made: what was read is answered, and it is cut. A write failed at the last piece, or at the close;
-- or the flush behind it, which the writer tells. Memory was wanting for the connection: nothing is read.
abbrev pub ServesInput : {R W : Type 0} → (R → Option (List ℕ)) → (W → Option (List ℕ)) → Database → Watched R → Watched R → Watched W → Watched W
    → Result ⊤ Failure → Type 0
ServesInput remaining contents database old_reader new_reader old_writer new_writer (Ok done) =
    (bytes : List ℕ) × (out : List ℕ) × (new : HubState)
    × Reads remaining old_reader new_reader bytes × IsAtEnd (remaining (watched new_reader))
    × Writes contents old_writer new_writer out × (is_flushed new_writer ≡ true)
    × AllDone (come database) (piece 1 bytes ∷ close 1 ∷ []) out new
ServesInput remaining contents database old_reader new_reader old_writer new_writer (Err Read) =
    (bytes : List ℕ) × (out : List ℕ) × (new : HubState)
    × Reads remaining old_reader new_reader bytes
    × Writes contents old_writer new_writer out
    × AllDone (come database) (piece 1 bytes ∷ cut 1 ∷ []) out new
    × (has_failed new_reader ≡ true)
ServesInput remaining contents database old_reader new_reader old_writer new_writer (Err Turns) =
    (bytes : List ℕ) × (out : List ℕ) × (new : HubState)
    × Reads remaining old_reader new_reader bytes × (MAX_READS ≤ length bytes)
    × Writes contents old_writer new_writer out
    × AllDone (come database) (piece 1 bytes ∷ cut 1 ∷ []) out new
ServesInput remaining contents database old_reader new_reader old_writer new_writer (Err Write) =
    (first : List ℕ) × (last : List ℕ) × (out : List ℕ) × (new : HubState)
    × Reads remaining old_reader new_reader (first ++ last) × (length last ≤ PIECE)
    × Writes contents old_writer new_writer out
    × (FaultAtLast Failed (IsAtEnd (remaining (watched new_reader))) (come database) 1 first last out new
    ⊎ ((has_failed old_writer ≡ false → flush_failed new_writer ≡ true)
    × FaultAtLast Unflushed (IsAtEnd (remaining (watched new_reader))) (come database) 1 first last out new))
    × (has_failed new_writer ≡ true)
ServesInput remaining contents database old_reader new_reader old_writer new_writer (Err Memory) =
    IsUntouched old_reader new_reader old_writer new_writer
ServesInput remaining contents database old_reader new_reader old_writer new_writer (Err Listen) = ⊥
ServesInput remaining contents database old_reader new_reader old_writer new_writer (Err Accept) = ⊥
ServesInput remaining contents database old_reader new_reader old_writer new_writer (Err SchemaFile) = ⊥
ServesInput remaining contents database old_reader new_reader old_writer new_writer (Err (Schema fault)) = ⊥

-- So many clients come to a database and take their turns until no connection is open; this is their first fault, or none.
abbrev pub AllTakeTurns : {S : Type 0} → (S → Option (List ℕ)) → (S → Option (List ℕ)) → Database → ℕ → Result ⊤ ServeFault → Type 0
AllTakeTurns {S} remaining contents database clients fault =
    (row : List (Client S)) × (turns : List ConnectionTurn) × (new : HubState) × HaveCome clients row
    × ByTurns remaining contents row (with_clients clients (empty_hub database)) turns [] new × (fault ≡ first_fault turns)

-- the answer that serving connections is
abbrev pub served_answer : Result ⊤ ServeFault → Result ⊤ Failure
served_answer (Ok done) = Ok tt
served_answer (Err fault) = Err (served_failure fault)

-- Connections are served over a database. Done: all turns were made without a fault. A read or a write failed: that was the first fault, and
-- all the other turns were made. Too many turns were made. Of a port that can't be listened on, a connection that can't be accepted and a want
-- of memory nothing is said here, where nobody has the hub any more: that it has taken no turn then is a clause of `serve_listener`.
abbrev pub ServesClients : {S : Type 0} → (S → Option (List ℕ)) → (S → Option (List ℕ)) → Database → ℕ → Result ⊤ Failure → Type 0
ServesClients remaining contents database clients (Ok done) = AllTakeTurns remaining contents database clients (Ok done)
ServesClients remaining contents database clients (Err Read) = AllTakeTurns remaining contents database clients (Err serving.Read)
ServesClients remaining contents database clients (Err Write) = AllTakeTurns remaining contents database clients (Err serving.Write)
ServesClients {S} remaining contents database clients (Err Turns) =
    (row : List (Client S)) × (turns : List ConnectionTurn) × (left : List (Client S)) × (mid : HubState) × HaveCome clients row
    × ByTurns remaining contents row (with_clients clients (empty_hub database)) turns left mid × (length turns ≡ MAX_READS)
ServesClients remaining contents database clients (Err Listen) = Unit {0}
ServesClients remaining contents database clients (Err Accept) = Unit {0}
ServesClients remaining contents database clients (Err Memory) = Unit {0}
ServesClients remaining contents database clients (Err SchemaFile) = ⊥
ServesClients remaining contents database clients (Err (Schema fault)) = ⊥
