-- The files of a journal: behind "shop.journal" come "shop.journal.000002" and so on, and beside them "shop.journal.base" stands.
use Rattle.std.specs.Prelude.{ℕ, List, ◌∷◌, ◌++◌, ◌-◌, length, replicate, nat_le, if◌then◌else◌, codes, decimal}

-- at least six digits
abbrev pub six_digits : ℕ → List ℕ
six_digits n = replicate (6 - length (decimal n)) 48 ++ decimal n

-- the path of a segment's file: of the first the journal's own
abbrev pub segment_name : List ℕ → ℕ → List ℕ
segment_name path n = if nat_le n 1 then path else path ++ 46 ∷ six_digits n

-- the path of a journal's base
abbrev pub base_name : List ℕ → List ℕ
base_name path = path ++ codes ".base"

-- the path of a base that isn't whole yet
abbrev pub new_base_name : List ℕ → List ℕ
new_base_name path = path ++ codes ".base.new"

-- the path of a segment that isn't begun yet
abbrev pub next_name : List ℕ → List ℕ
next_name path = path ++ codes ".next"
