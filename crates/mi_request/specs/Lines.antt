-- The request that a command line is.
use Rattle.std.specs.Prelude.{ℕ, List, ◌∷◌, if◌then◌else◌, Option, Some, None, option_map, option_and_then, Result, Err, codes}
use Rattle.std.specs.Option.{ok_or}
use Rattle.std.specs.Str.{is_utf8}
use Rattle.serde_json.specs.Data.{Data, Members}
use Rattle.serde_json.specs.Find.{as_str, as_object}
use Rattle.serde_json.specs.Read.{read}
use Rattle.mi_value.specs.declared.refusal.Refusal.{Refusal}
use Rattle.mi_value.specs.declared.refusal.Refusal.TheVariants.{Json, Form}
use Rattle.mi_request.specs.Json.{has_only, needed}
use Rattle.mi_request.specs.Commands.{command_named, form_of, member_names, asked}
use Rattle.mi_request.specs.Commands as table
use Rattle.mi_request.specs.declared.request.Request.{Request}

-- the value that bytes are, where they are UTF-8 and JSON
abbrev pub json_of : List ℕ → Option Data
json_of bytes = if is_utf8 bytes then read bytes else None

-- the request that members of this form are; none where there is a member that the form doesn't have
abbrev pub request_by : Members → table.Form → Option Request
request_by ms form = if has_only (codes "cmd" ∷ member_names form) ms then asked form.asks ms else None

-- the form that `cmd` names
abbrev pub form_in : Members → Option table.Form
form_in ms = option_map form_of (option_and_then command_named (needed as_str (codes "cmd") ms))

-- the request that an object is
abbrev pub request_in : Members → Option Request
request_in ms = option_and_then (request_by ms) (form_in ms)

-- the request that a JSON value is
abbrev pub request_of : Data → Option Request
request_of d = option_and_then request_in (as_object d)

abbrev pub request_or_refusal : Option Data → Result Request Refusal
request_or_refusal None = Err Json
request_or_refusal (Some d) = ok_or (request_of d) Form

-- the request that a line is: `json` where its bytes are no JSON, `form` where the value is no command
abbrev pub command_line : List ℕ → Result Request Refusal
command_line bytes = request_or_refusal (json_of bytes)
