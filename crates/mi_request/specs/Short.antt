-- Lines whose members are names and whole numbers, as a compact writer writes them: `cmd` first, and then the members in the order of the
-- table of commands. {"cmd":"rank","index":"balance","id":7} asks a rank.
use Rattle.std.specs.Prelude.{ℕ, ◌^◌, List, [], ◌∷◌, ◌++◌, Bool, true, not, ◌&&◌, ◌||◌, ◌==◌, nat_lt, nat_le, if◌then◌else◌}
use Rattle.std.specs.Prelude.{Option, Some, None, option_map, option_and_then, codes, decimal}
use Rattle.std.specs.List.{list_all}
use Rattle.mi_request.specs.NullaryCommand.{nullary_of, nullary_name}
use Rattle.mi_request.specs.declared.request.ChangeRequest.TheVariants as change
use Rattle.mi_request.specs.declared.request.NumberLookUpRequest.TheVariants as by_number
use Rattle.mi_request.specs.declared.request.Request.{Request}
use Rattle.mi_request.specs.declared.request.Request.TheVariants as request
use Rattle.mi_request.specs.declared.request.SessionCommand.TheVariants as session
use Rattle.mi_request.specs.declared.request.ShortRequest.{ShortRequest}
use Rattle.mi_request.specs.declared.request.ShortRequest.TheVariants as short

-- what a member is: a name of a table or an index, or a whole number; each that must be there, or that may be absent
pub data Word : Type 0 where
  name : List ℕ → Word
  maybe_name : Option (List ℕ) → Word
  whole : ℕ → Word
  maybe_whole : Option ℕ → Word

-- a member's name, and what it is
abbrev pub Member : Type 0
Member = List ℕ × Word

-- a letter from a to z, a digit or _
unfoldable pub is_name_byte : ℕ → Bool
is_name_byte b = (nat_le 97 b && nat_le b 122) || ((nat_le 48 b && nat_le b 57) || (b == 95))

-- any other byte
abbrev pub stops_name : ℕ → Bool
stops_name b = not (is_name_byte b)

-- what a name may have in such a line
abbrev pub are_name_bytes : List ℕ → Bool
are_name_bytes = list_all is_name_byte

-- a whole number from 0 to 2^63 - 1
abbrev pub is_whole : ℕ → Bool
is_whole n = nat_lt n (2 ^ 63)

-- what can stand in such a line
abbrev pub is_word : Word → Bool
is_word (name s) = are_name_bytes s
is_word (maybe_name None) = true
is_word (maybe_name (Some s)) = are_name_bytes s
is_word (whole n) = is_whole n
is_word (maybe_whole None) = true
is_word (maybe_whole (Some n)) = is_whole n

abbrev pub are_words : List Member → Bool
are_words [] = true
are_words (m ∷ ms) = is_word m.1 && are_words ms

-- what stands in front of a name, and of a number
abbrev pub name_front : List ℕ → List ℕ
name_front m = codes ",\"" ++ (m ++ codes "\":\"")

abbrev pub whole_front : List ℕ → List ℕ
whole_front m = codes ",\"" ++ (m ++ codes "\":")

-- a member, and what stands behind it
abbrev pub member_text : List ℕ → Word → List ℕ → List ℕ
member_text m (name s) rest = name_front m ++ (s ++ (34 ∷ rest))
member_text m (maybe_name None) rest = rest
member_text m (maybe_name (Some s)) rest = name_front m ++ (s ++ (34 ∷ rest))
member_text m (whole n) rest = whole_front m ++ (decimal n ++ rest)
member_text m (maybe_whole None) rest = rest
member_text m (maybe_whole (Some n)) rest = whole_front m ++ (decimal n ++ rest)

-- the members behind the command, to the end of the line
abbrev pub members_text : List Member → List ℕ
members_text [] = codes "}"
members_text (m ∷ ms) = member_text m.0 m.1 (members_text ms)

-- a line up to its command
abbrev pub command_front : List ℕ → List ℕ
command_front command = codes "{\"cmd\":\"" ++ (command ++ codes "\"")

-- the line of a command with these members
abbrev pub line_text : List ℕ → List Member → List ℕ
line_text command ms = command_front command ++ members_text ms

-- members that many commands have
abbrev pub table_is : Option (List ℕ) → Member
table_is table = (codes "table", maybe_name table)

abbrev pub index_is : List ℕ → Member
index_is index = (codes "index", name index)

abbrev pub id_is : ℕ → Member
id_is id = (codes "id", whole id)

-- the command and the members of a request that has such a line. Other requests have none
abbrev pub words_of : Request → Option (List ℕ × List Member)
words_of (request.NumberLookUp table (by_number.Get id)) = Some (codes "get", table_is table ∷ id_is id ∷ [])
words_of (request.Change table (change.Erase id)) = Some (codes "erase", table_is table ∷ id_is id ∷ [])
words_of (request.NumberLookUp table by_number.Size) = Some (codes "size", table_is table ∷ [])
words_of (request.NumberLookUp table (by_number.Rank index id)) = Some (codes "rank", table_is table ∷ index_is index ∷ id_is id ∷ [])
words_of (request.NumberLookUp table (by_number.Nth index n)) = Some (codes "nth", table_is table ∷ index_is index ∷ (codes "n", whole n) ∷ [])
words_of (request.Change table (change.Relocate index id before)) =
    Some (codes "relocate", table_is table ∷ index_is index ∷ id_is id ∷ (codes "before", maybe_whole before) ∷ [])
words_of (request.Session (session.Commit revision)) = Some (codes "commit", (codes "revision", whole revision) ∷ [])
words_of (request.Session other) = option_map (λ b. (nullary_name b, [])) (nullary_of other)
words_of other = None

-- the line, where each member can stand in it
abbrev pub written : List ℕ × List Member → Option (List ℕ)
written line = if are_words line.1 then Some (line_text line.0 line.1) else None

-- how a request is written without spaces and without escapes, with `cmd` first
abbrev pub short_line : Request → Option (List ℕ)
short_line r = option_and_then written (words_of r)

-- the request that is read of such a line where it is no change
abbrev pub asked_short : ShortRequest → Request
asked_short (short.NumberLookUp table l) = request.NumberLookUp table l
asked_short (short.Session s) = request.Session s
