-- The lines that the service answers itself, and what is told to them. They never reach the tables.
-- "{\"service\":\"status\"}⏎" and "{\"service\":\"other\"}⏎" are such lines, and " {\"service\":\"status\"}⏎" and "{\"cmd\":\"size\"}⏎" are none.
use Rattle.std.specs.Prelude.{ℕ, ◌-◌, List, [], ◌∷◌, take, drop, length, Bool, true, ◌||◌, ◌&&◌, nat_eq, nat_lt, bytes_eq, codes, if◌then◌else◌}
use Rattle.std.specs.Prelude.{Option, Some, None, is_some, option_and_then}
use Rattle.std.specs.Option.{option_or}
use Rattle.std.specs.List.{starts_with}
use Rattle.std.specs.Char.{is_digit}
use Rattle.std.specs.Str.Parse.{digits_value}
use Rattle.mi_clients.specs.declared.schema_line.SchemaLine.{SchemaLine}

-- whether a line is the service's own: its first bytes decide
abbrev pub is_service : List ℕ → Bool
is_service line = starts_with nat_eq line (codes "{\"service\":\"")

-- whether it asks for the status, and whether for the schema; one carriage return may stand before the newline
abbrev pub asks_status : List ℕ → Bool
asks_status line = bytes_eq line (codes "{\"service\":\"status\"}\n") || bytes_eq line (codes "{\"service\":\"status\"}\r\n")

abbrev pub asks_schema : List ℕ → Bool
asks_schema line = bytes_eq line (codes "{\"service\":\"schema\"}\n") || bytes_eq line (codes "{\"service\":\"schema\"}\r\n")

-- the refusal of a line of the service that asks for nothing it tells
abbrev pub form_line : List ℕ
form_line = codes "{\"error\":\"form\",\"ok\":false}\n"

-- decimal digits, and the number that they are where it has room in 64 bits
abbrev pub all_digits : List ℕ → Bool
all_digits [] = true
all_digits (c ∷ cs) = is_digit c 10 && all_digits cs

abbrev pub number_in : List ℕ → Option ℕ
number_in ds =
    if nat_lt 0 (length ds) && (all_digits ds && nat_lt (digits_value 10 ds) 18446744073709551616) then Some (digits_value 10 ds) else None

-- what stands in front of this ending, where a text has it
abbrev pub in_front : List ℕ → List ℕ → Option (List ℕ)
in_front ending text = if bytes_eq (drop (length text - length ending) text) ending then Some (take (length text - length ending) text) else None

-- the number of the connection that a line asks to end: of "{\"service\":\"end\",\"connection\":7}⏎" 7
abbrev pub ended_in : List ℕ → Option ℕ
ended_in line =
    if bytes_eq (take 30 line) (codes "{\"service\":\"end\",\"connection\":")
    then option_and_then number_in (option_or (in_front (codes "}\n") (drop 30 line)) (in_front (codes "}\r\n") (drop 30 line)))
    else None

-- what is told to a line that asks to end a connection
abbrev pub done_line : List ℕ
done_line = codes "{\"ok\":true}\n"

-- what is told to a line, by the line that tells the status and the one that tells the schema
abbrev pub told_to : List ℕ → List ℕ → List ℕ → List ℕ
told_to status schema line =
    if asks_status line then status else if asks_schema line then schema else if is_some (ended_in line) then done_line else form_line

-- the refusal of another line beside those that have a place
abbrev pub places_line : List ℕ
places_line = codes "{\"error\":\"places\",\"ok\":false}\n"

-- what is told to a line beside them
abbrev pub told_beside : List ℕ → List ℕ → List ℕ → List ℕ
told_beside status schema line = if is_service line then told_to status schema line else places_line

-- the bytes of the line that tells a schema
abbrev pub line_of : SchemaLine → List ℕ
line_of s = s.bytes.items
