-- How the members of a short line are read, from left to right: what is written, and no other line.
use Rattle.std.specs.Prelude.{◌≡◌, ℕ, ◌^◌, List, [], ◌∷◌, take, drop, ◌&&◌, ◌==◌, nat_lt, if◌then◌else◌}
use Rattle.std.specs.Prelude.{Option, Some, None, option_map, option_and_then, codes, decimal, bytes_eq}
use Rattle.std.specs.Char.{is_ascii_digit}
use Rattle.std.specs.List.{prefix_len}
use Rattle.std.specs.Str.Parse.{digits_value}
use Rattle.mi_request.specs.Short.{Word, name, maybe_name, whole, maybe_whole, Member, is_name_byte, name_front, whole_front, command_front, words_of}
use Rattle.mi_request.specs.declared.request.Request.{Request}

-- what stands behind a front
unfoldable pub behind : List ℕ → List ℕ → Option (List ℕ)
behind [] t = Some t
behind (x ∷ xs) [] = None
behind (x ∷ xs) (y ∷ t) = if x == y then behind xs t else None

-- the name up to a quotation mark, and what stands behind that
unfoldable pub name_at : List ℕ → Option (List ℕ × List ℕ)
name_at t = option_map (λ rest. (take (prefix_len is_name_byte t) t, rest)) (behind (34 ∷ []) (drop (prefix_len is_name_byte t) t))

-- the number that a text writes without zeros in front, 0 to 2^63 - 1
unfoldable pub natural_of : List ℕ → Option ℕ
natural_of t = if nat_lt (digits_value 10 t) (2 ^ 63) && bytes_eq (decimal (digits_value 10 t)) t then Some (digits_value 10 t) else None

-- the number that the first digits write, and what stands behind them
unfoldable pub whole_at : List ℕ → Option (ℕ × List ℕ)
whole_at t = option_map (λ n. (n, drop (prefix_len is_ascii_digit t) t)) (natural_of (take (prefix_len is_ascii_digit t) t))

-- a member that must be there: what its value is, and what stands behind it
abbrev pub needed_at : {A : Type 0} → (List ℕ → Option (A × List ℕ)) → List ℕ → List ℕ → Option (A × List ℕ)
needed_at at front t = option_and_then at (behind front t)

-- a member that may be absent
abbrev pub present_or : {A : Type 0} → (List ℕ → Option (A × List ℕ)) → List ℕ → Option (List ℕ) → Option (Option A × List ℕ)
present_or at t None = Some (None, t)
present_or at t (Some rest) = option_map (λ p. (Some p.0, p.1)) (at rest)

abbrev pub maybe_at : {A : Type 0} → (List ℕ → Option (A × List ℕ)) → List ℕ → List ℕ → Option (Option A × List ℕ)
maybe_at at front t = present_or at t (behind front t)

-- what a member is to be
pub data Kind : Type 0 where
  a_name : Kind
  perhaps_name : Kind
  a_whole : Kind
  perhaps_whole : Kind

abbrev pub kind_of : Word → Kind
kind_of (name s) = a_name
kind_of (maybe_name o) = perhaps_name
kind_of (whole n) = a_whole
kind_of (maybe_whole o) = perhaps_whole

-- the names of members and their kinds, whatever they are
abbrev pub Template : Type 0
Template = List (List ℕ × Kind)

abbrev pub template : List Member → Template
template [] = []
template (m ∷ ms) = (m.0, kind_of m.1) ∷ template ms

abbrev pub made : {A : Type 0} → (A → Word) → Option (A × List ℕ) → Option (Word × List ℕ)
made word r = option_map (λ p. (word p.0, p.1)) r

abbrev pub read_member : Kind → List ℕ → List ℕ → Option (Word × List ℕ)
read_member a_name m t = made name (needed_at name_at (name_front m) t)
read_member perhaps_name m t = made maybe_name (maybe_at name_at (name_front m) t)
read_member a_whole m t = made whole (needed_at whole_at (whole_front m) t)
read_member perhaps_whole m t = made maybe_whole (maybe_at whole_at (whole_front m) t)

-- the members of a template, up to the brace that ends the line
abbrev pub read_members : Template → List ℕ → Option (List Member)
read_members [] t = if bytes_eq t (codes "}") then Some [] else None
read_members (h ∷ hs) t = option_and_then (λ p. option_map (λ ms. (h.0, p.0) ∷ ms) (read_members hs p.1)) (read_member h.1 h.0 t)

-- the members behind a command
abbrev pub read_line : List ℕ → Template → List ℕ → Option (List Member)
read_line command hs line = option_and_then (read_members hs) (behind (command_front command) line)

-- the request is the one of the members that are read
abbrev pub IsRead : List ℕ → Template → List ℕ → Option Request → Type 0
IsRead command hs line r = option_map words_of r ≡ option_map (λ ms. Some (command, ms)) (read_line command hs line)
