-- Lines that name no table are over the first.
-- Cited by `laws::lines_without_a_table` and `mi_commands`.
use Rattle.std.proofs.Common.{refl}
use Rattle.std.specs.Prelude.{Some, None, Result, Ok, Err, IfOk}
use Rattle.mi_value.specs.declared.refusal.Refusal.{Refusal}
use Rattle.mi_catalog.specs.Shape.{schema_at}
use Rattle.mi_request.specs.declared.request.Request.TheVariants as request
use Rattle.mi_protocol.specs.declared.command.Command.{Command}
use Rattle.mi_protocol.specs.declared.command.Command.TheVariants as command
use Rattle.mi_protocol.specs.Binding.{and_then, bound_change, bound_number_look_up, bound_key_look_up}
use Rattle.mi_protocol.specs.FirstTable.{IsOverFirst, NoNameIsTheFirst, OtherTablesAreNotSeen}

-- what is made of what is bound over the first table is over it
over_first : {A : Type 0} (make : A → Command) (bound : Result A Refusal) → ((x : A) → IsOverFirst (make x)) → IfOk (and_then (λ x. Ok (make x)) bound) IsOverFirst
over_first make (Ok x) h = h x
over_first make (Err e) h = tt

pub no_name_is_the_first : NoNameIsTheFirst
no_name_is_the_first c (request.Change (Some name) r) none = absurd (cc)
no_name_is_the_first c (request.Change None r) none = over_first (command.Change 0) (bound_change (schema_at c 0) r) (λ x. refl)
no_name_is_the_first c (request.NumberLookUp (Some name) r) none = absurd (cc)
no_name_is_the_first c (request.NumberLookUp None r) none = over_first (command.NumberLookUp 0) (bound_number_look_up (schema_at c 0) r) (λ x. refl)
no_name_is_the_first c (request.KeyLookUp (Some name) r) none = absurd (cc)
no_name_is_the_first c (request.KeyLookUp None r) none = over_first (command.KeyLookUp 0) (bound_key_look_up (schema_at c 0) r) (λ x. refl)
no_name_is_the_first c (request.Session s) none = tt

pub other_tables_are_not_seen : OtherTablesAreNotSeen
other_tables_are_not_seen c (request.Change (Some name) r) none = absurd (cc)
other_tables_are_not_seen c (request.Change None r) none = refl
other_tables_are_not_seen c (request.NumberLookUp (Some name) r) none = absurd (cc)
other_tables_are_not_seen c (request.NumberLookUp None r) none = refl
other_tables_are_not_seen c (request.KeyLookUp (Some name) r) none = absurd (cc)
other_tables_are_not_seen c (request.KeyLookUp None r) none = refl
other_tables_are_not_seen c (request.Session s) none = refl
