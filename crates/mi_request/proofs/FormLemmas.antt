-- Members of which one is missing ask nothing; the request of members without `table` names no table.
-- Cited by `request` and `mi_commands`.
use Rattle.std.proofs.Common.{◌≡◌, ℕ, List, false, Option, Some, None, IfSome, codes, refl, sym, ap, subst}
use Rattle.std.specs.Option.{option_map}
use Rattle.serde_json.specs.Data.{Members}
use Rattle.serde_json.specs.Find.{get_member, as_str}
use Rattle.mi_request.specs.Json.{option_map₂, if_there}
use Rattle.mi_request.specs.Commands.{Asks, a_change, a_number_look_up, a_key_look_up, of_sessions, asked, names_table, table_in}
use Rattle.mi_request.specs.declared.request.Request.{Request}
use Rattle.mi_request.specs.declared.request.Request.TheVariants as request

-- of two parts the first alone is none
pub none_second : {A B C : Type 0} (f : A → B → C) (a : Option A) → option_map₂ f a None ≡ None
none_second f None = refl
none_second f (Some a) = refl

abbrev NoName : Option Request → Type 0
NoName o = IfSome o (λ r. names_table r ≡ false)

-- of what is over a table
over_none : {A : Type 0} (make : Option (List ℕ) → A → Request) → ((a : A) → names_table (make None a) ≡ false) → (o : Option A)
    → NoName (option_map₂ make (Some None) o)
over_none make h None = tt
over_none make h (Some a) = h a

over_sessions : {A : Type 0} (make : A → Request) → ((a : A) → names_table (make a) ≡ false) → (o : Option A) → NoName (option_map make o)
over_sessions make h None = tt
over_sessions make h (Some a) = h a

module _ (ms : Members) (none : get_member (codes "table") ms ≡ None) where
  no_table : table_in ms ≡ Some None
  no_table = ap (if_there as_str) none

  -- whatever they are asked to be
  pub asked_names : (asks : Asks) → NoName (asked asks ms)
  asked_names (a_change f) = subst (λ t. NoName (option_map₂ request.Change t (f ms))) (sym no_table) (over_none request.Change (λ a. refl) (f ms))
  asked_names (a_number_look_up f) =
      subst (λ t. NoName (option_map₂ request.NumberLookUp t (f ms))) (sym no_table) (over_none request.NumberLookUp (λ a. refl) (f ms))
  asked_names (a_key_look_up f) = subst (λ t. NoName (option_map₂ request.KeyLookUp t (f ms))) (sym no_table) (over_none request.KeyLookUp (λ a. refl) (f ms))
  asked_names (of_sessions f) = over_sessions request.Session (λ a. refl) (f ms)
