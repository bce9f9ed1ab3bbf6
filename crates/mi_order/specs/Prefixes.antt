-- Tags of keys of several parts. A flag says little: where a key's first part is a flag and it has a second, its tag is two bits of
-- the flag and 62 of the second part's tag. The tag of any other key is that of its first part.
--     PrefixTypes      the types of the columns of the first two parts
--     short_tag      62 bits of a tag
--     pair_tag      of a flag and what follows
--     prefix_tag, prefix_probe      of a record, and of a sought key
--     is_complete_prefix      whether a tag says all of its key
use Rattle.std.specs.Prelude.{ℕ, ◌+◌, ◌-◌, ◌*◌, ◌/◌, ◌^◌, nat_lt, min}
use Rattle.std.specs.Prelude.{Bool, true, false, ◌&&◌, ◌||◌, List, [], ◌∷◌, slice_get}
use Rattle.std.specs.declared.option.Option.{Option}
use Rattle.std.specs.declared.option.Option.TheVariants.{None, Some}
use Rattle.mi_value.specs.declared.value.Value.{Value}
use Rattle.mi_value.specs.declared.value.Value.TheVariants.{Int, Text, Flag}
use Rattle.mi_value.specs.declared.value.ColumnType.{ColumnType}
use Rattle.mi_value.specs.declared.value.ColumnType.TheVariants as column
use Rattle.mi_value.specs.declared.compare.KeyPart.{KeyPart}
use Rattle.mi_order.specs.declared.prefixes.PrefixTypes.{PrefixTypes}
use Rattle.mi_order.specs.Tags.{value_tag, directed_tag, part_tag, probe_tag, is_exact}

-- as many as 62 bits can tell
abbrev pub shorts : ℕ
shorts = 2 ^ 62

-- whole numbers up to 2^61 from 0 are all told apart, and those beyond are alike; of other tags the last two bits are left away
abbrev pub short_tag : ColumnType → ℕ → ℕ
short_tag column.Int t = min (t - (2 ^ 63 - 2 ^ 61)) (shorts - 1)
short_tag column.Text t = t / 4
short_tag column.Flag t = t / 4

-- 1 or 2, turned round where the part descends
abbrev pub flag_rank : Bool → Bool → ℕ
flag_rank false false = 1
flag_rank false true = 2
flag_rank true false = 2
flag_rank true true = 1

-- what follows counts behind a flag alone
abbrev pub pair_tag : Bool → Option Value → ℕ → ℕ
pair_tag descending None t = directed_tag descending 0
pair_tag descending (Some (Int n)) t = directed_tag descending 0
pair_tag descending (Some (Text bs)) t = directed_tag descending 0
pair_tag descending (Some (Flag b)) t = flag_rank descending b * shorts + t

-- the values of a key's first two parts, by the type of the first part's column
abbrev pub two_tag : ColumnType → ColumnType → KeyPart → KeyPart → Option Value → Option Value → ℕ
two_tag column.Int d p q x y = directed_tag p.descending (value_tag column.Int x)
two_tag column.Text d p q x y = directed_tag p.descending (value_tag column.Text x)
two_tag column.Flag d p q x y = pair_tag p.descending x (short_tag d (directed_tag q.descending (value_tag d y)))

-- a record by a part and those behind it
abbrev pub prefix_tag : PrefixTypes → KeyPart → List KeyPart → List Value → ℕ
prefix_tag c p [] r = part_tag c.first p r
prefix_tag c p (q ∷ qs) r = two_tag c.first c.second p q (slice_get r p.column) (slice_get r q.column)

-- of a flag alone, where more parts follow, there is none
abbrev pub first_probe : ColumnType → KeyPart → Value → Option ℕ
first_probe column.Int p v = Some (probe_tag column.Int p v)
first_probe column.Text p v = Some (probe_tag column.Text p v)
first_probe column.Flag p v = None

-- a sought key: a value, and those behind it
abbrev pub prefix_probe : PrefixTypes → KeyPart → List KeyPart → Value → List Value → Option ℕ
prefix_probe c p [] v vs = Some (probe_tag c.first p v)
prefix_probe c p (q ∷ qs) v [] = first_probe c.first p v
prefix_probe c p (q ∷ qs) v (w ∷ vs) = Some (two_tag c.first c.second p q (Some v) (Some w))

-- a flag and a whole number that is neither the least nor the greatest that 62 bits tell
abbrev pub is_complete_pair : ℕ → Bool
is_complete_pair t = (nat_lt shorts t && nat_lt t (2 * shorts - 1)) || (nat_lt (2 * shorts) t && nat_lt t (3 * shorts - 1))

abbrev pub is_exact_two : ColumnType → ColumnType → ℕ → Bool
is_exact_two column.Int d t = false
is_exact_two column.Text d t = false
is_exact_two column.Flag column.Int t = is_complete_pair t
is_exact_two column.Flag column.Text t = false
is_exact_two column.Flag column.Flag t = false

abbrev pub is_complete_prefix : PrefixTypes → KeyPart → List KeyPart → ℕ → Bool
is_complete_prefix c p [] t = is_exact c.first p t
is_complete_prefix c p (q ∷ []) t = is_exact_two c.first c.second t
is_complete_prefix c p (q ∷ r ∷ qs) t = false
