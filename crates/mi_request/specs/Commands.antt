-- The table of commands: the members of each, and the change, the look-up by numbers or by keys, or the command over sessions that they are.
use Rattle.std.specs.Prelude.{ℕ, List, [], ◌∷◌, Bool, true, false, ◌&&◌, nat_le, if◌then◌else◌}
use Rattle.std.specs.Prelude.{Option, Some, None, is_some, option_map, option_and_then, codes, bytes_eq}
use Rattle.std.specs.Option.{option_map_or}
use Rattle.serde_json.specs.Data.{Data, null, boolean, number, string, array, object, Items, Members, no_members}
use Rattle.serde_json.specs.Find.{get_member, as_str, as_array, as_bool, as_object}
use Rattle.mi_request.specs.NullaryCommand.{asked_nullary, nullary_named}
use Rattle.mi_request.specs.Json.{has_only, natural, needed, optional, default, option_map₂, option_map₃, option_map₄, option_map₅}
use Rattle.mi_value.specs.declared.limits.TheConstants.{MAX_PAGE, MAX_RESERVED_CHANGES, MAX_RESERVED_SESSIONS}
use Rattle.mi_request.specs.declared.request.CommandName.{CommandName}
use Rattle.mi_request.specs.declared.request.CommandName.TheVariants as name
use Rattle.mi_request.specs.declared.keyed.KeyCommand.{KeyCommand}
use Rattle.mi_request.specs.declared.keyed.KeyCommand.TheVariants as keyed
use Rattle.mi_request.specs.declared.request.ChangeRequest.{ChangeRequest}
use Rattle.mi_request.specs.declared.request.ChangeRequest.TheVariants as change
use Rattle.mi_request.specs.declared.request.Bound.{Bound}
use Rattle.mi_request.specs.declared.request.Bound.TheVariants.{Unbounded, Included, Excluded}
use Rattle.mi_request.specs.declared.request.KeyLookUpRequest.{KeyLookUpRequest}
use Rattle.mi_request.specs.declared.request.KeyLookUpRequest.TheVariants as by_key
use Rattle.mi_request.specs.declared.request.NamedPlace.{NamedPlace}
use Rattle.mi_request.specs.declared.request.NumberLookUpRequest.{NumberLookUpRequest}
use Rattle.mi_request.specs.declared.request.NumberLookUpRequest.TheVariants as by_number
use Rattle.mi_request.specs.declared.request.Request.{Request}
use Rattle.mi_request.specs.declared.request.Request.TheVariants as request
use Rattle.mi_request.specs.declared.request.SessionCommand.{SessionCommand}
use Rattle.mi_request.specs.declared.request.SessionCommand.TheVariants as session

-- the command without members of a name
abbrev pub named_nullary : List ℕ → Option CommandName
named_nullary t = option_map name.NullaryCommand (nullary_named t)

-- the session command with members or reserve of a name, or else the one without members
unfoldable pub step_named : List ℕ → Option CommandName
step_named t =
    if bytes_eq t (codes "commit") then Some name.Commit
    else if bytes_eq t (codes "reserve") then Some name.Reserve
    else named_nullary t

-- the look-up of a table of a name, or else the step
unfoldable pub look_up_named : List ℕ → Option CommandName
look_up_named t =
    if bytes_eq t (codes "get") then Some name.Get
    else if bytes_eq t (codes "find") then Some (name.Keyed keyed.Find)
    else if bytes_eq t (codes "nth") then Some name.Nth
    else if bytes_eq t (codes "count") then Some (name.Keyed keyed.Count)
    else if bytes_eq t (codes "range") then Some name.Range
    else if bytes_eq t (codes "list") then Some name.List
    else if bytes_eq t (codes "rank") then Some name.Rank
    else if bytes_eq t (codes "lower_rank") then Some (name.Keyed keyed.LowerRank)
    else if bytes_eq t (codes "upper_rank") then Some (name.Keyed keyed.UpperRank)
    else if bytes_eq t (codes "size") then Some name.Size
    else step_named t

-- the command of a name
abbrev pub command_named : List ℕ → Option CommandName
command_named t =
    if bytes_eq t (codes "insert") then Some name.Insert
    else if bytes_eq t (codes "replace") then Some name.Replace
    else if bytes_eq t (codes "modify") then Some name.Modify
    else if bytes_eq t (codes "erase") then Some name.Erase
    else if bytes_eq t (codes "erase_key") then Some (name.Keyed keyed.EraseKey)
    else if bytes_eq t (codes "relocate") then Some name.Relocate
    else look_up_named t

abbrev pub make_place : List ℕ → ℕ → NamedPlace
make_place index id = record { index = index; id = id }

-- the place that an object with exactly `index` and `id` names
abbrev pub place_of : Members → Option NamedPlace
place_of ms =
    if has_only (codes "index" ∷ codes "id" ∷ []) ms
    then option_map₂ make_place (needed as_str (codes "index") ms) (needed natural (codes "id") ms)
    else None

-- a place, or null for none
abbrev pub place_or_none : Data → Option (Option NamedPlace)
place_or_none null = Some None
place_or_none (object ms) = option_map Some (place_of ms)
place_or_none (boolean b) = None
place_or_none (number n) = None
place_or_none (string s) = None
place_or_none (array ds) = None

-- a whole number from 0, or null for none
abbrev pub natural_or_null : Data → Option (Option ℕ)
natural_or_null null = Some None
natural_or_null d = option_map Some (natural d)

-- a number of rows, from 1
abbrev pub if_page : ℕ → Option ℕ
if_page n = if nat_le 1 n && nat_le n MAX_PAGE then Some n else None

abbrev pub page : Data → Option ℕ
page d = option_and_then if_page (natural d)

-- a whole number from 0 to a limit
abbrev pub if_up_to : ℕ → ℕ → Option ℕ
if_up_to most n = if nat_le n most then Some n else None

abbrev pub up_to : ℕ → Data → Option ℕ
up_to most d = option_and_then (if_up_to most) (natural d)

-- an end of a range by a key that is in it, or by one that isn't: an array, and not both
abbrev pub one_end : Option Data → Option Data → Option Bound
one_end None None = None
one_end (Some d) None = option_map Included (as_array d)
one_end None (Some d) = option_map Excluded (as_array d)
one_end (Some d) (Some e) = None

-- the end that an object with exactly one of two members names
abbrev pub end_of : List ℕ → List ℕ → Members → Option Bound
end_of with_name without_name ms = if has_only (with_name ∷ without_name ∷ []) ms then one_end (get_member with_name ms) (get_member without_name ms) else None

abbrev pub lower_end : Data → Option Bound
lower_end d = option_and_then (end_of (codes "ge") (codes "gt")) (as_object d)

abbrev pub upper_end : Data → Option Bound
upper_end d = option_and_then (end_of (codes "le") (codes "lt")) (as_object d)

-- what members are: a change of a table, a look-up of one by numbers or by keys, or a command over sessions; or none where a needed one is
-- missing or one is of another kind
pub data Asks : Type 0 where
  a_change : (Members → Option ChangeRequest) → Asks
  a_number_look_up : (Members → Option NumberLookUpRequest) → Asks
  a_key_look_up : (Members → Option KeyLookUpRequest) → Asks
  of_sessions : (Members → Option SessionCommand) → Asks

-- a row of the table: the members that a command may have beside `cmd` and `table`, and what they are
pub record Form : Type 0 where
  pub members : List (List ℕ)
  pub asks : Asks

-- the names with that of the table, which a change and a look-up may have
abbrev pub with_table : Asks → List (List ℕ) → List (List ℕ)
with_table (a_change f) names = codes "table" ∷ names
with_table (a_number_look_up f) names = codes "table" ∷ names
with_table (a_key_look_up f) names = codes "table" ∷ names
with_table (of_sessions f) names = names

-- all members that a command may have beside `cmd`
abbrev pub member_names : Form → List (List ℕ)
member_names form = with_table form.asks form.members

-- members that many commands have
abbrev pub table_in : Members → Option (Option (List ℕ))
table_in ms = optional as_str (codes "table") ms

abbrev pub index_in : Members → Option (List ℕ)
index_in ms = needed as_str (codes "index") ms

abbrev pub id_in : Members → Option ℕ
id_in ms = needed natural (codes "id") ms

abbrev pub key_in : Members → Option Items
key_in ms = needed as_array (codes "key") ms

-- as many rows as may be where none is named
abbrev pub limit_in : Members → Option ℕ
limit_in ms = default MAX_PAGE page (codes "limit") ms

-- the request that members are
abbrev pub asked : Asks → Members → Option Request
asked (a_change f) ms = option_map₂ request.Change (table_in ms) (f ms)
asked (a_number_look_up f) ms = option_map₂ request.NumberLookUp (table_in ms) (f ms)
asked (a_key_look_up f) ms = option_map₂ request.KeyLookUp (table_in ms) (f ms)
asked (of_sessions f) ms = option_map request.Session (f ms)

-- ---- what the members of each command are

abbrev pub insert_in : Members → Option ChangeRequest
insert_in ms = option_map₂ change.Insert (needed as_object (codes "row") ms) (default None place_or_none (codes "before") ms)

abbrev pub replace_in : Members → Option ChangeRequest
replace_in ms = option_map₂ change.Replace (id_in ms) (needed as_object (codes "row") ms)

abbrev pub modify_in : Members → Option ChangeRequest
modify_in ms = option_map₄ change.Modify (id_in ms) (default no_members as_object (codes "set") ms)
    (default no_members as_object (codes "add") ms) (default false as_bool (codes "rollback") ms)

abbrev pub erase_in : Members → Option ChangeRequest
erase_in ms = option_map change.Erase (id_in ms)

abbrev pub relocate_in : Members → Option ChangeRequest
relocate_in ms = option_map₃ change.Relocate (index_in ms) (id_in ms) (default None natural_or_null (codes "before") ms)

abbrev pub get_in : Members → Option NumberLookUpRequest
get_in ms = option_map by_number.Get (id_in ms)

abbrev pub nth_in : Members → Option NumberLookUpRequest
nth_in ms = option_map₂ by_number.Nth (index_in ms) (needed natural (codes "n") ms)

abbrev pub range_in : Members → Option KeyLookUpRequest
range_in ms = option_map₅ by_key.Range (index_in ms) (default Unbounded lower_end (codes "lower") ms)
    (default Unbounded upper_end (codes "upper") ms) (default false as_bool (codes "reverse") ms) (limit_in ms)

abbrev pub list_in : Members → Option NumberLookUpRequest
list_in ms = option_map₃ by_number.List (index_in ms) (optional natural (codes "after") ms) (limit_in ms)

abbrev pub rank_in : Members → Option NumberLookUpRequest
rank_in ms = option_map₂ by_number.Rank (index_in ms) (id_in ms)

abbrev pub commit_in : Members → Option SessionCommand
commit_in ms = option_map session.Commit (needed natural (codes "revision") ms)

abbrev pub reserve_in : Members → Option SessionCommand
reserve_in ms = option_map₂ session.Reserve (needed (up_to MAX_RESERVED_CHANGES) (codes "changes") ms)
    (needed (up_to MAX_RESERVED_SESSIONS) (codes "sessions") ms)

-- what an index and a key are, of the commands over a key
abbrev pub asks_key : KeyCommand → Asks
asks_key keyed.EraseKey = a_change (λ ms. option_map₂ change.EraseKey (index_in ms) (key_in ms))
asks_key keyed.Find = a_key_look_up (λ ms. option_map₂ by_key.Find (index_in ms) (key_in ms))
asks_key keyed.Count = a_key_look_up (λ ms. option_map₂ by_key.Count (index_in ms) (key_in ms))
asks_key keyed.LowerRank = a_key_look_up (λ ms. option_map₂ by_key.LowerRank (index_in ms) (key_in ms))
asks_key keyed.UpperRank = a_key_look_up (λ ms. option_map₂ by_key.UpperRank (index_in ms) (key_in ms))

-- the table of commands
abbrev pub form_of : CommandName → Form
form_of name.Insert = record { members = codes "row" ∷ codes "before" ∷ []; asks = a_change insert_in }
form_of name.Replace = record { members = codes "id" ∷ codes "row" ∷ []; asks = a_change replace_in }
form_of name.Modify = record { members = codes "id" ∷ codes "set" ∷ codes "add" ∷ codes "rollback" ∷ []; asks = a_change modify_in }
form_of name.Erase = record { members = codes "id" ∷ []; asks = a_change erase_in }
form_of (name.Keyed k) = record { members = codes "index" ∷ codes "key" ∷ []; asks = asks_key k }
form_of name.Relocate = record { members = codes "index" ∷ codes "id" ∷ codes "before" ∷ []; asks = a_change relocate_in }
form_of (name.NullaryCommand b) = record { members = []; asks = of_sessions (λ ms. Some (asked_nullary b)) }
form_of name.Commit = record { members = codes "revision" ∷ []; asks = of_sessions commit_in }
form_of name.Reserve = record { members = codes "changes" ∷ codes "sessions" ∷ []; asks = of_sessions reserve_in }
form_of name.Get = record { members = codes "id" ∷ []; asks = a_number_look_up get_in }
form_of name.Nth = record { members = codes "index" ∷ codes "n" ∷ []; asks = a_number_look_up nth_in }
form_of name.Range = record {
  members = codes "index" ∷ codes "lower" ∷ codes "upper" ∷ codes "reverse" ∷ codes "limit" ∷ [];
  asks = a_key_look_up range_in;
}
form_of name.List = record { members = codes "index" ∷ codes "after" ∷ codes "limit" ∷ []; asks = a_number_look_up list_in }
form_of name.Rank = record { members = codes "index" ∷ codes "id" ∷ []; asks = a_number_look_up rank_in }
form_of name.Size = record { members = []; asks = a_number_look_up (λ ms. Some by_number.Size) }

-- a command over sessions that waits while another connection holds some: any but the one that asks the revision
abbrev pub session_keeps_out : SessionCommand → Bool
session_keeps_out session.Revision = false
session_keeps_out other = true

-- a change, a session command or a reserve, which waits while another connection holds sessions: whatever isn't a look-up
abbrev pub keeps_out : Request → Bool
keeps_out (request.Change table c) = true
keeps_out (request.NumberLookUp table l) = false
keeps_out (request.KeyLookUp table l) = false
keeps_out (request.Session s) = session_keeps_out s

-- the member `table` of a request, which those over sessions never have
abbrev pub table_member : Request → Option (Option (List ℕ))
table_member (request.Change table c) = Some table
table_member (request.NumberLookUp table l) = Some table
table_member (request.KeyLookUp table l) = Some table
table_member (request.Session s) = None

-- whether a request names its table
abbrev pub names_table : Request → Bool
names_table r = option_map_or is_some (table_member r) false
