-- What the program has done when it ends, by how it ends; and what it says of that on the third stream.
use Rattle.std.specs.Prelude.{◌≡◌, ◌⊎◌, ⊤, ℕ, List, [], codes, Bool, true, false, Option, Some, None, is_some, IfSome, Result, Ok, Err}
use Rattle.clap.specs.Faults.{fault_of}
use Rattle.clap.specs.Words.{matches_of}
use Rattle.mi_catalog.specs.Shape.{CatalogShape}
use Rattle.mi_model.specs.Database.{Database}
use Rattle.mi_database.specs.LinkedData.{LinkedData, meaning, opened_linked}
use Rattle.mi_hub.specs.Watching.{watched, has_failed, flush_failed, is_flushed, Writes}
use Rattle.mi_hub.specs.declared.watched.Watched.{Watched}
use Rattle.mi_program.specs.Words.{program_options, keeps_rules, AreValues, IsRefusal}
use Rattle.mi_program.specs.Source.{IsCatalog}
use Rattle.mi_program.specs.Status.{status_of, status_of_words, failure_line, words_line}
use Rattle.mi_program.specs.Buffer.{stream_of, waiting, contents_of}
use Rattle.mi_program.specs.Serving.{IsUntouched, ServesInput, ServesClients}
use Rattle.mi_program.specs.declared.buffered.Buffered.{Buffered}
use Rattle.mi_program.specs.declared.words.Options.{Options}
use Rattle.mi_program.specs.declared.words.WordsFault.{WordsFault}
use Rattle.mi_program.specs.declared.failure.Failure.{Failure}
use Rattle.mi_program.specs.declared.failure.Failure.TheVariants.{Write, Memory}

-- The program has done what it was asked, its words give no options, or it has failed.
pub data Ending : Type 0 where
  done : Ending
  refused : WordsFault → Ending
  failed : Failure → Ending

-- the ending of words that give options, by what came of them
abbrev pub ending_of : Result ⊤ Failure → Ending
ending_of (Ok all) = done
ending_of (Err failure) = failed failure

abbrev pub ending_status : Ending → ℕ
ending_status done = 0
ending_status (refused fault) = status_of_words fault
ending_status (failed failure) = status_of failure

-- A line was written to the third stream, or that has failed.
abbrev pub IsTold : {E : Type 0} → (E → Option (List ℕ)) → Watched E → Watched E → List ℕ → Type 0
IsTold contents old new line = (has_failed new ≡ true) ⊎ Writes contents old new line

-- The third stream has the line of an ending; where the parser refused words that is its own text.
abbrev pub IsReported : {E : Type 0} → (E → Option (List ℕ)) → Watched E → Watched E → Ending → Type 0
IsReported contents old new done = new ≡ old
IsReported contents old new (refused fault) = IfSome (words_line fault) (IsTold contents old new)
IsReported contents old new (failed failure) = IsTold contents old new (failure_line failure)

-- The line `ok` was written and flushed, or a write or the flush failed.
abbrev pub Confirms : {W : Type 0} → (W → Option (List ℕ)) → Watched W → Watched W → Result ⊤ Failure → Type 0
Confirms contents old new (Ok all) = Writes contents old new (codes "ok\n") × (is_flushed new ≡ true)
Confirms contents old new (Err failure) = (failure ≡ Write) × (has_failed new ≡ true)

module _ {I O S : Type 0} (remaining : I → Option (List ℕ)) (contents : O → Option (List ℕ)) (given taken : S → Option (List ℕ)) where
  module _ (old_reader new_reader : Watched I) (old_writer new_writer : Watched O) where
    -- the input is served over a database where no port is given, else so many connections to it
    abbrev pub Serves : Database → Option (ℕ × ℕ) → Result ⊤ Failure → Type 0
    Serves database None answer = ServesInput remaining contents database old_reader new_reader old_writer new_writer answer
    Serves database (Some listen) answer =
        ServesClients given taken database listen.1 answer × IsUntouched old_reader new_reader old_writer new_writer

    -- The linked tables of a catalog are opened under some secret and served; or memory for them is wanting.
    abbrev pub ServesTables : CatalogShape → Option (ℕ × ℕ) → Result ⊤ Failure → Type 0
    ServesTables catalog listen answer =
        ((secret : ℕ) × (tables : LinkedData) × (tables ≡ opened_linked tables.changes tables.starts secret catalog) × Serves (meaning tables) listen answer)
        ⊎ ((answer ≡ Err Memory) × IsUntouched old_reader new_reader old_writer new_writer)

    -- What is done with the catalog that was read: it is confirmed, or its tables are served. Where there is none that is the failure.
    abbrev pub UsesCatalog : Result CatalogShape Failure → Bool → Option (ℕ × ℕ) → Result ⊤ Failure → Type 0
    UsesCatalog (Err failure) check listen answer = (answer ≡ Err failure) × IsUntouched old_reader new_reader old_writer new_writer
    UsesCatalog (Ok catalog) true listen answer = (new_reader ≡ old_reader) × Confirms contents old_writer new_writer answer
    UsesCatalog (Ok catalog) false listen answer = ServesTables catalog listen answer

-- What the options say is done: the catalog is read first.
pub record Performs {F I O S : Type 0} (file : F → Option (List ℕ)) (remaining : I → Option (List ℕ)) (contents : O → Option (List ℕ))
    (given taken : S → Option (List ℕ)) (old_reader new_reader : Watched I) (old_writer new_writer : Watched O) (options : Options)
    (answer : Result ⊤ Failure) : Type 0 where
  pub catalog : Result CatalogShape Failure
  pub read : IsCatalog file (is_some options.schema) catalog
  pub used : UsesCatalog remaining contents given taken old_reader new_reader old_writer new_writer catalog options.check options.listen answer

-- The options are those of words that are the program's and keep the rules between options.
pub record IsCalled (words : List (List ℕ)) (options : Options) : Type 0 where
  pub known : fault_of program_options words ≡ []
  pub rules : keeps_rules (matches_of program_options words) ≡ true
  pub values : AreValues options (matches_of program_options words)

-- words that give no options, and why
abbrev pub AreRefused : List (List ℕ) → WordsFault → Type 0
AreRefused words fault = IsRefusal (fault_of program_options words) (matches_of program_options words) fault

-- Room is taken for what waits in a buffer, or memory for it is wanting; the stream behind it and what waits are the same, and nothing is written.
pub record TakesRoom {S : Type 0} (old new : Watched (Buffered S)) : Type 0 where
  pub stream : stream_of (watched new) ≡ stream_of (watched old)
  pub waits : waiting (watched new) ≡ waiting (watched old)
  pub failed : has_failed new ≡ has_failed old
  pub flushes : flush_failed new ≡ flush_failed old
  pub flushed : is_flushed new ≡ is_flushed old

module _ {F I O S : Type 0} (file : F → Option (List ℕ)) (remaining : I → Option (List ℕ)) (contents : O → Option (List ℕ))
    (given taken : S → Option (List ℕ)) where
  -- Room is taken for a buffered output, and then what the options say is done; or memory for the room is wanting.
  abbrev pub PerformsBuffered : Watched I → Watched I → Watched (Buffered O) → Watched (Buffered O) → Options → Result ⊤ Failure → Type 0
  PerformsBuffered old_input new_input old_output new_output options answer = (ready : Watched (Buffered O)) × TakesRoom old_output ready
      × (Performs file remaining (contents_of contents) given taken old_input new_input ready new_output options answer
      ⊎ ((answer ≡ Err Memory) × IsUntouched old_input new_input ready new_output))

  -- What is done by an ending, over an input and an output as they were and are left: what the words say, or nothing where they say none.
  abbrev pub Ends : List (List ℕ) → Watched I → Watched I → Watched (Buffered O) → Watched (Buffered O) → Ending → Type 0
  Ends words old_input new_input old_output new_output (refused fault) = AreRefused words fault × IsUntouched old_input new_input old_output new_output
  Ends words old_input new_input old_output new_output done =
      (options : Options) × IsCalled words options × PerformsBuffered old_input new_input old_output new_output options (Ok tt)
  Ends words old_input new_input old_output new_output (failed failure) =
      (options : Options) × IsCalled words options × PerformsBuffered old_input new_input old_output new_output options (Err failure)
