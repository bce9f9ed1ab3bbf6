-- What the program has done when it ends, and what was written to the third stream part by part.
-- Cited by `program::run`, `program::serve_database` and `program::use_catalog`.
use Rattle.std.proofs.Common.{◌≡◌, ℕ, List, ◌++◌, Bool, true, false, Option, None, Result, Ok, Err, inl, inr, refl, sym, subst}
use Rattle.std.specs.Prelude.{⊤, []}
use Rattle.clap.specs.Faults.{fault_of}
use Rattle.clap.specs.Words.{matches_of}
use Rattle.std.proofs.KnownBytes.{Appends-trans}
use Rattle.mi_hub.specs.Watching.{has_failed}
use Rattle.mi_hub.specs.declared.watched.Watched.{Watched}
use Rattle.mi_catalog.specs.Shape.{CatalogShape}
use Rattle.mi_model.specs.Database.{Database}
use Rattle.mi_program.specs.Serving.{ServesInput}
use Rattle.mi_program.specs.Words.{program_options, keeps_rules, AreValues}
use Rattle.mi_program.specs.Ending.{Confirms, Serves, ServesTables, UsesCatalog}
use Rattle.mi_program.specs.Ending.{IsTold, IsCalled, PerformsBuffered, Ends, ending_of}
use Rattle.mi_program.specs.declared.words.Options.{Options}
use Rattle.mi_program.specs.declared.buffered.Buffered.{Buffered}
use Rattle.mi_program.specs.declared.failure.Failure.{Failure}

-- one part of a line behind another
pub told_more : {E : Type 0} (contents : E → Option (List ℕ)) (a b c : Watched E) (xs ys : List ℕ) → IsTold contents a b xs
    → (has_failed b ≡ true → has_failed c ≡ true) → IsTold contents b c ys → IsTold contents a c (xs ++ ys)
told_more contents a b c xs ys (inl failed) stays more = inl (stays failed)
told_more contents a b c xs ys (inr told) stays (inl failed) = inl failed
told_more contents a b c xs ys (inr told) stays (inr more) = inr (Appends-trans _ _ _ _ _ told more)

-- what is done with a catalog, by whether it is only checked
module _ {I O S : Type 0} (remaining : I → Option (List ℕ)) (contents : O → Option (List ℕ)) (given taken : S → Option (List ℕ))
    (catalog : CatalogShape) (check : Bool) (listen : Option (ℕ × ℕ)) (answer : Result ⊤ Failure) where
  pub confirmed : (reader : Watched I) (old_writer new_writer : Watched O) → check ≡ true → Confirms contents old_writer new_writer answer
      → UsesCatalog remaining contents given taken reader reader old_writer new_writer (Ok catalog) check listen answer
  confirmed reader old_writer new_writer is p =
      subst (λ (b : Bool). UsesCatalog remaining contents given taken reader reader old_writer new_writer (Ok catalog) b listen answer) (sym is) (refl, p)

  pub tables_served : (old_reader new_reader : Watched I) (old_writer new_writer : Watched O) → check ≡ false
      → ServesTables remaining contents given taken old_reader new_reader old_writer new_writer catalog listen answer
      → UsesCatalog remaining contents given taken old_reader new_reader old_writer new_writer (Ok catalog) check listen answer
  tables_served old_reader new_reader old_writer new_writer is p =
      subst (λ (b : Bool). UsesCatalog remaining contents given taken old_reader new_reader old_writer new_writer (Ok catalog) b listen answer) (sym is) p

-- what is done where no port is given
pub input_served : {I O S : Type 0} (remaining : I → Option (List ℕ)) (contents : O → Option (List ℕ)) (given taken : S → Option (List ℕ))
    (database : Database) (listen : Option (ℕ × ℕ)) (answer : Result ⊤ Failure) (old_reader new_reader : Watched I) (old_writer new_writer : Watched O)
    → listen ≡ None → ServesInput remaining contents database old_reader new_reader old_writer new_writer answer
    → Serves remaining contents given taken old_reader new_reader old_writer new_writer database listen answer
input_served remaining contents given taken database listen answer old_reader new_reader old_writer new_writer is p =
    subst (λ (l : Option (ℕ × ℕ)). Serves remaining contents given taken old_reader new_reader old_writer new_writer database l answer) (sym is) p

-- the options that words give are theirs
pub called_by : (words : List (List ℕ)) (options : Options)
    → (fault_of program_options words ≡ []) × (keeps_rules (matches_of program_options words) ≡ true) × AreValues options (matches_of program_options words)
    → IsCalled words options
called_by words options read = record { known = read.0; rules = read.1; values = read.2 }

module _ {F I O S : Type 0} (file : F → Option (List ℕ)) (remaining : I → Option (List ℕ)) (contents : O → Option (List ℕ))
    (given taken : S → Option (List ℕ)) (words : List (List ℕ)) (options : Options) (called : IsCalled words options) where
  -- the ending of words that give options
  pub performed_ends : (old_input new_input : Watched I) (old_output new_output : Watched (Buffered O)) (answer : Result ⊤ Failure)
      → PerformsBuffered file remaining contents given taken old_input new_input old_output new_output options answer
      → Ends file remaining contents given taken words old_input new_input old_output new_output (ending_of answer)
  performed_ends old_input new_input old_output new_output (Ok tt) p = (options, called, p)
  performed_ends old_input new_input old_output new_output (Err failure) p = (options, called, p)
