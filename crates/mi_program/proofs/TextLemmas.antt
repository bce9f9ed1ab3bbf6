-- From the text that was read of a file to what the file is.
-- Cited by `source::catalog_in` and `source::whole_text`.
use Rattle.std.proofs.Common.{◌≡◌, ◌≤◌, ◌+◌, ◌++◌, ◌∙◌, ℕ, List, [], length, Option, Some, None, refl, sym, ap, inl, inr, arith, take, subst}
use Rattle.std.specs.Prelude.{IfSome, option_map, Result, Err, min}
use Rattle.std.proofs.lemmas.List.{length-take, take_all}
use Rattle.mi_value.specs.declared.limits.TheConstants.{MAX_SCHEMA_FILE}
use Rattle.mi_schema.specs.Reading.{catalog_read, IsSchemaAnswer}
use Rattle.mi_catalog.specs.Shape.{CatalogShape}
use Rattle.mi_schema.specs.declared.fault.SchemaFault.{SchemaFault}
use Rattle.mi_program.specs.Source.{IsRead, IsUnread}
use Rattle.mi_program.specs.declared.failure.Failure.{Failure}
use Rattle.mi_program.specs.declared.failure.Failure.TheVariants.{Schema}

-- what is read of a limit and one more byte, and is within the limit, is the whole
pub whole_read : (known : Option (List ℕ)) (limit : ℕ) (got : List ℕ) → IfSome (option_map (take (limit + 1)) known) (λ xs. got ≡ [] ++ xs)
    → length got ≤ limit → IfSome known (λ bytes. (got ≡ bytes) × (length bytes ≤ limit))
whole_read None limit got read fits = tt
whole_read (Some bytes) limit got read fits =
    let shorter : min (limit + 1) (length bytes) ≤ limit = subst (λ n. n ≤ limit) (ap length read ∙ length-take (limit + 1) bytes) fits in
    let bound : length bytes ≤ limit = omega arith in
    (read ∙ take_all (limit + 1) bytes (omega arith), bound)

-- an unread file has any bytes
pub unread : (known : Option (List ℕ)) (answer : Result CatalogShape Failure) (failure : Failure) → answer ≡ Err failure → IsUnread failure
    → IfSome known (λ bytes. IsRead bytes answer)
unread None answer failure is why = tt
unread (Some bytes) answer failure is why = rw is (inl why)

-- a fault of the reading, as the failure that it becomes
pub refused : (bytes : List ℕ) (answer : Result CatalogShape Failure) (fault : SchemaFault) → answer ≡ Err (Schema fault) → length bytes ≤ MAX_SCHEMA_FILE
    → IsSchemaAnswer {A = CatalogShape} (Err fault) (catalog_read bytes) → IsRead bytes answer
refused bytes answer fault is fits (inl memory) = rw is (inl (inr (ap Schema memory)))
refused bytes answer fault is fits (inr read) = rw is (inr (fits, fault, refl, read))

-- the answer to a text that is the whole file
pub whole : (known : Option (List ℕ)) (text : List ℕ) (limit : ℕ) (answer : Result CatalogShape Failure)
    → IfSome known (λ bytes. (text ≡ bytes) × (length bytes ≤ limit))
    → (length text ≤ limit → IsRead text answer) → IfSome known (λ bytes. IsRead bytes answer)
whole None text limit answer is read = tt
whole (Some bytes) text limit answer is read = subst (λ bs. IsRead bs answer) is.0 (read (subst (λ bs. length bs ≤ limit) (sym is.0) is.1))
