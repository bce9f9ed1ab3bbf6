-- How an object is read member by member: what one member is, and what the others are.
use Rattle.std.specs.Prelude.{◌≡◌, ℕ, ◌≤◌, List, [], ◌∷◌, ◌++◌, length, Option, Some, None, codes}
use Rattle.json.specs.Json.{members, read_key, value}
use Rattle.json.specs.Token.{Token}
use Rattle.serde_json.specs.Data.{Data, string, array, object, Members, no_members, member, put}
use Rattle.serde_json.specs.Read.{of_json, of_members, converted}
use Rattle.mi_request.specs.declared.request.Bound.{Bound}
use Rattle.mi_request.specs.declared.request.Bound.TheVariants.{Unbounded, Included, Excluded}

-- behind the members that were found these tokens give the others, and nothing else; all of them are these
abbrev pub IsRest : List Token → Members → Members → Type 0
IsRest ts found all = (n : ℕ) → length ts ≤ n → converted (λ ms. of_members ms found) (members (value 126) n ts) ≡ Some (all, [])

-- a member of this name and this value, and the tokens behind it
abbrev pub IsMember : List Token → List ℕ → Data → List Token → Type 0
IsMember old name d new = (ts : List Token) × (read_key old ≡ Some (Some name, ts)) × (converted of_json (value 126 ts) ≡ Some (d, new))

-- the same of a member that may be absent
abbrev pub IsMaybe : List Token → List ℕ → Option Data → List Token → Type 0
IsMaybe old name None new = new ≡ old
IsMaybe old name (Some d) new = IsMember old name d new

-- the same of the last member, behind which the text ends
abbrev pub IsLast : List Token → List ℕ → Data → Type 0
IsLast old name d = (new : List Token) × IsMember old name d new × (read_key new ≡ Some (None, []))

abbrev pub put_if : List ℕ → Option Data → Members → Members
put_if name None ms = ms
put_if name (Some d) ms = put name d ms

-- what stands in front of the members of a command
abbrev pub command_start : List ℕ → List ℕ
command_start command = codes "{\"cmd\":" ++ (34 ∷ (command ++ (34 ∷ (44 ∷ []))))

-- the member `cmd`, and those of a command over a key behind it
abbrev pub named : List ℕ → Members
named command = member (codes "cmd") (string command) no_members

abbrev pub keyed_members : List ℕ → Option Data → Data → Data → Members
keyed_members command table index key = put (codes "key") key (put (codes "index") index (put_if (codes "table") table (named command)))

-- the object of an end of a range, whose key stands behind one of these two names
abbrev pub end_object : List ℕ → List ℕ → Bound → Data
end_object with_name without_name Unbounded = object no_members
end_object with_name without_name (Included ks) = object (put with_name (array ks) no_members)
end_object with_name without_name (Excluded ks) = object (put without_name (array ks) no_members)

abbrev pub HasKey : Bound → Type 0
HasKey Unbounded = ⊥
HasKey (Included ks) = Unit {0}
HasKey (Excluded ks) = Unit {0}

-- members that may each be absent, the last in front, put to others
abbrev pub put_all : List (List ℕ × Option Data) → Members → Members
put_all [] ms = ms
put_all (x ∷ xs) ms = put_if x.0 x.1 (put_all xs ms)

-- the members of a modify, of a range and of a list
abbrev pub modify_members : Option Data → Data → Option Data → Option Data → Option Data → List (List ℕ × Option Data)
modify_members table id set add rollback =
    (codes "rollback", rollback) ∷ (codes "add", add) ∷ (codes "set", set) ∷ (codes "id", Some id) ∷ (codes "table", table) ∷ []

abbrev pub range_members : Option Data → Data → Option Data → Option Data → Option Data → Option Data → List (List ℕ × Option Data)
range_members table index lower upper reverse limit =
    (codes "limit", limit) ∷ (codes "reverse", reverse) ∷ (codes "upper", upper) ∷ (codes "lower", lower) ∷ (codes "index", Some index) ∷ (codes "table", table) ∷ []

abbrev pub list_members : Option Data → Data → Option Data → Option Data → List (List ℕ × Option Data)
list_members table index after limit = (codes "limit", limit) ∷ (codes "after", after) ∷ (codes "index", Some index) ∷ (codes "table", table) ∷ []
