-- The members of rows in the order in which they are shown, each with the place where it stands.
use Rattle.std.specs.Prelude.{ℕ, List, [], ◌∷◌, drop, Bool, true, false, codes}
use Rattle.std.specs.Ordering.{nat_cmp, match_ordering}
use Rattle.std.specs.Cmp.Lexicographic.{slice_cmp}
use Rattle.serde_json.specs.Data.{Data, null, number, unsigned, Members, no_members, member}
use Rattle.mi_value.specs.declared.value.Value.{Value}
use Rattle.mi_rows.specs.Rows.{value_data}
use Rattle.mi_rows.specs.declared.shown.Member.{Member}
use Rattle.mi_rows.specs.declared.shown.Source.{Source}
use Rattle.mi_rows.specs.declared.shown.Source.TheVariants.{Id, Column}

abbrev pub first_data : List Value → Data
first_data [] = null
first_data (v ∷ vs) = value_data v

-- what stands at a place of the row with this id and these values
abbrev pub source_data : ℕ → List Value → Source → Data
source_data id vs Id = number (unsigned id)
source_data id vs (Column i) = first_data (drop i vs)

-- the members of such a row, in this order
abbrev pub shown_members : ℕ → List Value → List Member → Members
shown_members id vs [] = no_members
shown_members id vs (m ∷ ms) = member m.name.now (source_data id vs m.source) (shown_members id vs ms)

-- the order with a member at the place of its name; one that has the name takes its value
abbrev pub with_member : Member → List Member → List Member
with_member m [] = m ∷ []
with_member m (n ∷ ns) = match_ordering (slice_cmp nat_cmp m.name.now n.name.now) (m ∷ n ∷ ns) (record n { source = m.source } ∷ ns) (n ∷ with_member m ns)

-- the text before the rows of a reply, by whether more follow
abbrev pub rows_front : Bool → List ℕ
rows_front true = codes "{\"more\":true,\"ok\":true,\"rows\":["
rows_front false = codes "{\"more\":false,\"ok\":true,\"rows\":["
