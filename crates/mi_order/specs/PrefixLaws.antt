-- Tags of keys of several parts stand in the order of what they stand for.
use Rattle.std.proofs.Common.{◌≡◌, ℕ, ◌+◌, ◌-◌, ◌*◌, ◌<◌, ◌≤◌, Bool, true, false, inl}
use Rattle.std.proofs.Common.{inr, List, [], ◌∷◌, length, slice_get, refl, ap, sym, ◌∙◌, subst, arith}
use Rattle.std.specs.Prelude.{nat_lt, ◌/◌, ◌&&◌, ◌⊎◌}
use Rattle.std.specs.Cmp.{IsTotalOrder}
use Rattle.std.specs.Ordering.{ordering_then, ordering_reverse}
use Rattle.std.proofs.lemmas.Bool.{and_parts, or_cases, ltb-true, lt-ltb, false≢true}
use Rattle.std.specs.declared.cmp.Ordering.TheVariants.{Less, Equal, Greater}
use Rattle.std.specs.declared.option.Option.{Option}
use Rattle.std.specs.declared.option.Option.TheVariants.{None, Some}
use Rattle.mi_value.specs.declared.value.Value.{Value}
use Rattle.mi_value.specs.declared.value.Value.TheVariants.{Int, Text, Flag}
use Rattle.mi_value.specs.declared.value.ColumnType.{ColumnType}
use Rattle.mi_value.specs.declared.value.ColumnType.TheVariants as column
use Rattle.mi_value.specs.declared.compare.KeyPart.{KeyPart}
use Rattle.mi_value.specs.Order.{compare_missing, directed, compare_key, compare_prefix}
use Rattle.mi_value.proofs.OrderLaws.{directed_total}
use Rattle.mi_order.specs.declared.prefixes.PrefixTypes.{PrefixTypes}
use Rattle.mi_order.specs.Tags.{high, value_tag, directed_tag, part_tag, is_exact, is_exact_value}
use Rattle.mi_order.specs.TagLaws.{turned_below, turned_same, value_high, tags_order_keys, exact_tags_are_keys, tags_order_probes, exact_tags_are_probes}
use Rattle.mi_order.specs.Prefixes.{shorts, short_tag, pair_tag, two_tag, prefix_tag, prefix_probe, first_probe, is_complete_pair, is_exact_two, is_complete_prefix}

-- 62 bits of a tag

quarter_below : (t : ℕ) → t ≤ high → t / 4 < shorts
quarter_below t l = omega arith

quarters : (t s : ℕ) → t / 4 < s / 4 → t < s
quarters t s l = omega arith

short_within : (c : ColumnType) (t : ℕ) → t ≤ high → short_tag c t < shorts
short_within column.Int t l = omega arith
short_within column.Text t l = quarter_below t l
short_within column.Flag t l = quarter_below t l

short_below : (c : ColumnType) (t s : ℕ) → short_tag c t < short_tag c s → t < s
short_below column.Int t s l = omega arith
short_below column.Text t s l = quarters t s l
short_below column.Flag t s l = quarters t s l

-- whole numbers that 62 bits tell apart
short_same : (t s : ℕ) → 0 < short_tag column.Int t → short_tag column.Int t < shorts - 1
    → short_tag column.Int t ≡ short_tag column.Int s → (t ≡ s) × (0 < t) × (t < high)
short_same t s some few same = (omega (arith, same), omega arith, omega arith)

directed_high : (descending : Bool) (t : ℕ) → t ≤ high → directed_tag descending t ≤ high
directed_high false t l = l
directed_high true t l = omega arith

-- A flag and what follows

-- what two values say, of which one comes first, or both are one and what follows decides
abbrev IsBefore : Bool → Option Value → Option Value → ℕ → ℕ → Type 0
IsBefore descending x y a b = (directed descending (compare_missing x y) ≡ Less) ⊎ ((directed descending (compare_missing x y) ≡ Equal) × (a < b))

abbrev no_flag : Option Value → Type 0
no_flag None = Unit {0}
no_flag (Some (Int n)) = Unit {0}
no_flag (Some (Text bs)) = Unit {0}
no_flag (Some (Flag b)) = ⊥

no_flag_tag : (x : Option Value) → no_flag x → value_tag column.Flag x ≡ 0
no_flag_tag None n = refl
no_flag_tag (Some (Int m)) n = refl
no_flag_tag (Some (Text bs)) n = refl
no_flag_tag (Some (Flag b)) n = absurd n

no_flag_pair : (descending : Bool) (x : Option Value) (a : ℕ) → no_flag x → pair_tag descending x a ≡ directed_tag descending 0
no_flag_pair descending None a n = refl
no_flag_pair descending (Some (Int m)) a n = refl
no_flag_pair descending (Some (Text bs)) a n = refl
no_flag_pair descending (Some (Flag b)) a n = absurd n

flags_before : (descending f g : Bool) (a b : ℕ) → a < shorts → b < shorts
    → pair_tag descending (Some (Flag f)) a < pair_tag descending (Some (Flag g)) b → IsBefore descending (Some (Flag f)) (Some (Flag g)) a b
flags_before false false false a b la lb l = inr (refl, omega arith)
flags_before false false true a b la lb l = inl refl
flags_before false true false a b la lb l = absurd (omega arith)
flags_before false true true a b la lb l = inr (refl, omega arith)
flags_before true false false a b la lb l = inr (refl, omega arith)
flags_before true false true a b la lb l = absurd (omega arith)
flags_before true true false a b la lb l = inl refl
flags_before true true true a b la lb l = inr (refl, omega arith)

-- only the one that isn't a flag is least, or greatest where the part descends
none_before : (descending g : Bool) (x : Option Value) (a b : ℕ) → no_flag x → b < shorts
    → pair_tag descending x a < pair_tag descending (Some (Flag g)) b → directed descending (compare_missing x (Some (Flag g))) ≡ Less
none_before false g x a b n lb l = turned_below false column.Flag x (Some (Flag g))
    (subst (λ t. t < value_tag column.Flag (Some (Flag g))) (sym (no_flag_tag x n)) (some_rank g))
  where
    some_rank : (g : Bool) → 0 < value_tag column.Flag (Some (Flag g))
    some_rank false = omega arith
    some_rank true = omega arith
none_before true g x a b n lb l = absurd (too_high g (subst (λ t. t < pair_tag true (Some (Flag g)) b) (no_flag_pair true x a n) l))
  where
    too_high : (g : Bool) → directed_tag true 0 < pair_tag true (Some (Flag g)) b → ⊥
    too_high false h = omega arith
    too_high true h = omega arith

none_behind : (descending f : Bool) (y : Option Value) (a b : ℕ) → no_flag y → a < shorts
    → pair_tag descending (Some (Flag f)) a < pair_tag descending y b → directed descending (compare_missing (Some (Flag f)) y) ≡ Less
none_behind false f y a b n la l = absurd
    (too_low (pair_tag false (Some (Flag f)) a) (subst (λ t. pair_tag false (Some (Flag f)) a < t) (no_flag_pair false y b n) l))
  where
    too_low : (t : ℕ) → t < directed_tag false 0 → ⊥
    too_low t h = omega arith
none_behind true f y a b n la l =
    turned_below true column.Flag (Some (Flag f)) y
    (subst (λ t. directed_tag true (value_tag column.Flag (Some (Flag f))) < directed_tag true t) (sym (no_flag_tag y n)) (some_rank f))
  where
    some_rank : (f : Bool) → directed_tag true (value_tag column.Flag (Some (Flag f))) < directed_tag true 0
    some_rank false = omega arith
    some_rank true = omega arith

none_each : (descending : Bool) (x y : Option Value) (a b : ℕ) → no_flag x → no_flag y → pair_tag descending x a < pair_tag descending y b → ⊥
none_each descending x y a b n m l =
    never (directed_tag descending 0) (subst (λ t. directed_tag descending 0 < t) (no_flag_pair descending y b m)
    (subst (λ t. t < pair_tag descending y b) (no_flag_pair descending x a n) l))
  where
    never : (t : ℕ) → t < t → ⊥
    never t h = omega arith

pair_before : (descending : Bool) (x y : Option Value) (a b : ℕ) → a < shorts → b < shorts
    → pair_tag descending x a < pair_tag descending y b → IsBefore descending x y a b
pair_before d (Some (Flag f)) (Some (Flag g)) a b la lb l = flags_before d f g a b la lb l
pair_before d (Some (Flag f)) None a b la lb l = inl (none_behind d f None a b tt la l)
pair_before d (Some (Flag f)) (Some (Int n)) a b la lb l = inl (none_behind d f (Some (Int n)) a b tt la l)
pair_before d (Some (Flag f)) (Some (Text vs)) a b la lb l = inl (none_behind d f (Some (Text vs)) a b tt la l)
pair_before d None (Some (Flag g)) a b la lb l = inl (none_before d g None a b tt lb l)
pair_before d (Some (Int m)) (Some (Flag g)) a b la lb l = inl (none_before d g (Some (Int m)) a b tt lb l)
pair_before d (Some (Text us)) (Some (Flag g)) a b la lb l = inl (none_before d g (Some (Text us)) a b tt lb l)
pair_before d None None a b la lb l = absurd (none_each d None None a b tt tt l)
pair_before d None (Some (Int n)) a b la lb l = absurd (none_each d None (Some (Int n)) a b tt tt l)
pair_before d None (Some (Text vs)) a b la lb l = absurd (none_each d None (Some (Text vs)) a b tt tt l)
pair_before d (Some (Int m)) None a b la lb l = absurd (none_each d (Some (Int m)) None a b tt tt l)
pair_before d (Some (Int m)) (Some (Int n)) a b la lb l = absurd (none_each d (Some (Int m)) (Some (Int n)) a b tt tt l)
pair_before d (Some (Int m)) (Some (Text vs)) a b la lb l = absurd (none_each d (Some (Int m)) (Some (Text vs)) a b tt tt l)
pair_before d (Some (Text us)) None a b la lb l = absurd (none_each d (Some (Text us)) None a b tt tt l)
pair_before d (Some (Text us)) (Some (Int n)) a b la lb l = absurd (none_each d (Some (Text us)) (Some (Int n)) a b tt tt l)
pair_before d (Some (Text us)) (Some (Text vs)) a b la lb l = absurd (none_each d (Some (Text us)) (Some (Text vs)) a b tt tt l)

-- the same tag

-- an exact tag is between those of one flag
exact_parts : (t : ℕ) → is_complete_pair t ≡ true → ((shorts < t) × (t < 2 * shorts - 1)) ⊎ ((2 * shorts < t) × (t < 3 * shorts - 1))
exact_parts t h =
    elim (or_cases (nat_lt shorts t && nat_lt t (2 * shorts - 1)) (nat_lt (2 * shorts) t && nat_lt t (3 * shorts - 1)) h) [
      | inl one ↦ let both = and_parts _ _ one in inl (ltb-true shorts t both.0, ltb-true t (2 * shorts - 1) both.1)
      | inr two ↦ let both = and_parts _ _ two in inr (ltb-true (2 * shorts) t both.0, ltb-true t (3 * shorts - 1) both.1)
    ]

one_exact : (a : ℕ) → a < shorts → is_complete_pair (1 * shorts + a) ≡ true → (0 < a) × (a < shorts - 1)
one_exact a l h = elim (exact_parts (1 * shorts + a) h) [
  | inl is ↦ let above = is.0 in let below = is.1 in (omega arith, omega arith)
  | inr is ↦ absurd (let above = is.0 in omega arith)
]

two_exact : (a : ℕ) → a < shorts → is_complete_pair (2 * shorts + a) ≡ true → (0 < a) × (a < shorts - 1)
two_exact a l h = elim (exact_parts (2 * shorts + a) h) [
  | inl is ↦ absurd (let below = is.1 in omega arith)
  | inr is ↦ let above = is.0 in let below = is.1 in (omega arith, omega arith)
]

none_is_exact : (descending : Bool) → is_complete_pair (directed_tag descending 0) ≡ true → ⊥
none_is_exact false h = elim (exact_parts 0 h) [ inl is ↦ let above = is.0 in omega arith | inr is ↦ let above = is.0 in omega arith ]
none_is_exact true h = elim (exact_parts (directed_tag true 0) h) [ inl is ↦ let below = is.1 in omega arith | inr is ↦ let below = is.1 in omega arith ]

-- two flags and what follows both
abbrev AreSame : Bool → Option Value → Option Value → ℕ → ℕ → Type 0
AreSame descending x y a b = (directed descending (compare_missing x y) ≡ Equal) × (a ≡ b) × (0 < a) × (a < shorts - 1)

flags_same : (descending f g : Bool) (a b : ℕ) → a < shorts → b < shorts → is_complete_pair (pair_tag descending (Some (Flag f)) a) ≡ true
    → pair_tag descending (Some (Flag f)) a ≡ pair_tag descending (Some (Flag g)) b
    → AreSame descending (Some (Flag f)) (Some (Flag g)) a b
flags_same false false false a b la lb h same = let within = one_exact a la h in (refl, omega (arith, same), within.0, within.1)
flags_same false false true a b la lb h same = absurd (omega (arith, same))
flags_same false true false a b la lb h same = absurd (omega (arith, same))
flags_same false true true a b la lb h same = let within = two_exact a la h in (refl, omega (arith, same), within.0, within.1)
flags_same true false false a b la lb h same = let within = two_exact a la h in (refl, omega (arith, same), within.0, within.1)
flags_same true false true a b la lb h same = absurd (omega (arith, same))
flags_same true true false a b la lb h same = absurd (omega (arith, same))
flags_same true true true a b la lb h same = let within = one_exact a la h in (refl, omega (arith, same), within.0, within.1)

none_exact_pair : (descending : Bool) (x : Option Value) (a : ℕ) → no_flag x → is_complete_pair (pair_tag descending x a) ≡ true → ⊥
none_exact_pair descending x a n h = none_is_exact descending (sym (ap is_complete_pair (no_flag_pair descending x a n)) ∙ h)

pair_same : (descending : Bool) (x y : Option Value) (a b : ℕ) → a < shorts → b < shorts
    → is_complete_pair (pair_tag descending x a) ≡ true → pair_tag descending x a ≡ pair_tag descending y b → AreSame descending x y a b
pair_same d (Some (Flag f)) (Some (Flag g)) a b la lb h same = flags_same d f g a b la lb h same
pair_same d (Some (Flag f)) None a b la lb h same = absurd (none_exact_pair d None b tt (sym (ap is_complete_pair same) ∙ h))
pair_same d (Some (Flag f)) (Some (Int n)) a b la lb h same = absurd (none_exact_pair d (Some (Int n)) b tt (sym (ap is_complete_pair same) ∙ h))
pair_same d (Some (Flag f)) (Some (Text vs)) a b la lb h same = absurd (none_exact_pair d (Some (Text vs)) b tt (sym (ap is_complete_pair same) ∙ h))
pair_same d None y a b la lb h same = absurd (none_exact_pair d None a tt h)
pair_same d (Some (Int m)) y a b la lb h same = absurd (none_exact_pair d (Some (Int m)) a tt h)
pair_same d (Some (Text us)) y a b la lb h same = absurd (none_exact_pair d (Some (Text us)) a tt h)

-- Records

-- what follows a flag in a record, in 62 bits
abbrev past_flag : ColumnType → KeyPart → Option Value → ℕ
past_flag d q y = short_tag d (directed_tag q.descending (value_tag d y))

behind_within : (d : ColumnType) (q : KeyPart) (y : Option Value) → past_flag d q y < shorts
behind_within d q y = short_within d (directed_tag q.descending (value_tag d y)) (directed_high q.descending (value_tag d y) (value_high d y))

two_order : (c d : ColumnType) (p q : KeyPart) (qs : List KeyPart) (r s : List Value)
    → two_tag c d p q (slice_get r p.column) (slice_get r q.column) < two_tag c d p q (slice_get s p.column) (slice_get s q.column)
    → compare_key (p ∷ q ∷ qs) r s ≡ Less
two_order column.Int d p q qs r s l = tags_order_keys column.Int p (q ∷ qs) r s l
two_order column.Text d p q qs r s l = tags_order_keys column.Text p (q ∷ qs) r s l
two_order column.Flag d p q qs r s l =
    elim (pair_before p.descending (slice_get r p.column) (slice_get s p.column) (past_flag d q (slice_get r q.column)) (past_flag d q (slice_get s q.column))
    (behind_within d q (slice_get r q.column)) (behind_within d q (slice_get s q.column)) l) [
      | inl less ↦ ap (λ o. ordering_then o (compare_key (q ∷ qs) r s)) less
      | inr both ↦ ap (λ o. ordering_then o (compare_key (q ∷ qs) r s)) both.0
          ∙ tags_order_keys d q qs r s (short_below d (part_tag d q r) (part_tag d q s) both.1)
    ]

-- of two records the one with the smaller tag is less
pub prefixes_order_keys : (c : PrefixTypes) (p : KeyPart) (ps : List KeyPart) (r s : List Value)
    → prefix_tag c p ps r < prefix_tag c p ps s → compare_key (p ∷ ps) r s ≡ Less
prefixes_order_keys c p [] r s l = tags_order_keys c.first p [] r s l
prefixes_order_keys c p (q ∷ qs) r s l = two_order c.first c.second p q qs r s l

exact_directed : (descending : Bool) (t : ℕ) → 0 < t → t < high → is_exact_value column.Int (directed_tag descending t) ≡ true
exact_directed false t some below = ap (λ b. b && nat_lt t high) (lt-ltb 0 t some) ∙ lt-ltb t high below
exact_directed true t some below = ap (λ b. b && nat_lt (high - t) high) (lt-ltb 0 (high - t) (omega arith)) ∙ lt-ltb (high - t) high (omega arith)

-- whole numbers of one exact tag in 62 bits are one
numbers_same : (descending : Bool) (x y : Option Value) → 0 < short_tag column.Int (directed_tag descending (value_tag column.Int x))
    → short_tag column.Int (directed_tag descending (value_tag column.Int x)) < shorts - 1
    → short_tag column.Int (directed_tag descending (value_tag column.Int x)) ≡ short_tag column.Int (directed_tag descending (value_tag column.Int y))
    → directed descending (compare_missing x y) ≡ Equal
numbers_same descending x y some few same =
    let both = short_same (directed_tag descending (value_tag column.Int x)) (directed_tag descending (value_tag column.Int y)) some few same in
    turned_same descending column.Int x y (exact_directed descending (directed_tag descending (value_tag column.Int x)) both.1 both.2) both.0

two_same : (c d : ColumnType) (p q : KeyPart) (r s : List Value) → is_exact_two c d (two_tag c d p q (slice_get r p.column) (slice_get r q.column)) ≡ true
    → two_tag c d p q (slice_get r p.column) (slice_get r q.column) ≡ two_tag c d p q (slice_get s p.column) (slice_get s q.column)
    → compare_key (p ∷ q ∷ []) r s ≡ Equal
two_same column.Int d p q r s h same = absurd (false≢true h)
two_same column.Text d p q r s h same = absurd (false≢true h)
two_same column.Flag column.Text p q r s h same = absurd (false≢true h)
two_same column.Flag column.Flag p q r s h same = absurd (false≢true h)
two_same column.Flag column.Int p q r s h same =
    let is = pair_same p.descending (slice_get r p.column) (slice_get s p.column)
    (past_flag column.Int q (slice_get r q.column)) (past_flag column.Int q (slice_get s q.column))
    (behind_within column.Int q (slice_get r q.column)) (behind_within column.Int q (slice_get s q.column)) h same in
    ap (λ o. ordering_then o (compare_key (q ∷ []) r s)) is.0
    ∙ ap (λ o. ordering_then o Equal) (numbers_same q.descending (slice_get r q.column) (slice_get s q.column) is.2 is.3 is.1)

-- and two of one exact tag are equal
pub complete_prefixes_are_keys : (c : PrefixTypes) (p : KeyPart) (ps : List KeyPart) (r s : List Value)
    → is_complete_prefix c p ps (prefix_tag c p ps r) ≡ true → prefix_tag c p ps r ≡ prefix_tag c p ps s → compare_key (p ∷ ps) r s ≡ Equal
complete_prefixes_are_keys c p [] r s h same = exact_tags_are_keys c.first p r s h same
complete_prefixes_are_keys c p (q ∷ []) r s h same = two_same c.first c.second p q r s h same
complete_prefixes_are_keys c p (q ∷ z ∷ qs) r s h same = absurd (false≢true h)

-- Sought keys

pub none_some : {A : Type 0} {x : A} → None ≡ Some x → ⊥
none_some h = cc

pub some_is : {A : Type 0} {x y : A} → Some x ≡ Some y → x ≡ y
some_is h = cc

-- a record beside a sought key of this tag
abbrev IsBesideKey : KeyPart → List KeyPart → Value → List Value → ℕ → ℕ → List Value → Type 0
IsBesideKey p ps v vs u t r = (u < t → compare_prefix (p ∷ ps) (v ∷ vs) r ≡ Greater) × (t < u → compare_prefix (p ∷ ps) (v ∷ vs) r ≡ Less)

first_beside : (c : ColumnType) (p : KeyPart) (ps : List KeyPart) (v : Value) (vs : List Value) (t : ℕ) (r : List Value)
    → first_probe c p v ≡ Some t → IsBesideKey p ps v vs (part_tag c p r) t r
first_beside column.Int p ps v vs t r h =
    subst (λ n. IsBesideKey p ps v vs (part_tag column.Int p r) n r) (some_is h) (tags_order_probes column.Int p ps v vs r)
first_beside column.Text p ps v vs t r h =
    subst (λ n. IsBesideKey p ps v vs (part_tag column.Text p r) n r) (some_is h) (tags_order_probes column.Text p ps v vs r)
first_beside column.Flag p ps v vs t r h = absurd (none_some h)

two_beside : (c d : ColumnType) (p q : KeyPart) (qs : List KeyPart) (v w : Value) (vs r : List Value)
    → IsBesideKey p (q ∷ qs) v (w ∷ vs) (two_tag c d p q (slice_get r p.column) (slice_get r q.column)) (two_tag c d p q (Some v) (Some w)) r
two_beside column.Int d p q qs v w vs r = tags_order_probes column.Int p (q ∷ qs) v (w ∷ vs) r
two_beside column.Text d p q qs v w vs r = tags_order_probes column.Text p (q ∷ qs) v (w ∷ vs) r
two_beside column.Flag d p q qs v w vs r =
    let x : Option Value = slice_get r p.column in
    let y : Option Value = slice_get r q.column in
    let o : IsTotalOrder (λ a b. directed p.descending (compare_missing a b)) = directed_total p.descending in
    let rest = compare_prefix (q ∷ qs) (w ∷ vs) r in (
      λ l. elim (pair_before p.descending x (Some v) (past_flag d q y) (past_flag d q (Some w)) (behind_within d q y) (behind_within d q (Some w)) l) [
        | inl less ↦ ap (λ k. ordering_then k rest) (o.antisymm (Some v) x ∙ ap ordering_reverse less)
        | inr both ↦ ap (λ k. ordering_then k rest) (o.antisymm (Some v) x ∙ ap ordering_reverse both.0)
            ∙ (tags_order_probes d q qs w vs r).0 (short_below d (directed_tag q.descending (value_tag d y))
            (directed_tag q.descending (value_tag d (Some w))) both.1)
      ],
      λ l. elim (pair_before p.descending (Some v) x (past_flag d q (Some w)) (past_flag d q y) (behind_within d q (Some w)) (behind_within d q y) l) [
        | inl less ↦ ap (λ k. ordering_then k rest) less
        | inr both ↦ ap (λ k. ordering_then k rest) both.0
            ∙ (tags_order_probes d q qs w vs r).1 (short_below d (directed_tag q.descending (value_tag d (Some w)))
            (directed_tag q.descending (value_tag d y)) both.1)
      ],
    )

-- records of a smaller tag than a sought key's are before it, those of a greater one behind it
pub prefixes_order_probes : (c : PrefixTypes) (p : KeyPart) (ps : List KeyPart) (v : Value) (vs : List Value) (t : ℕ) (r : List Value)
    → prefix_probe c p ps v vs ≡ Some t → IsBesideKey p ps v vs (prefix_tag c p ps r) t r
prefixes_order_probes c p [] v vs t r h =
    subst (λ n. IsBesideKey p [] v vs (part_tag c.first p r) n r) (some_is h) (tags_order_probes c.first p [] v vs r)
prefixes_order_probes c p (q ∷ qs) v [] t r h = alone c.first h
  where
    alone : (f : ColumnType) → first_probe f p v ≡ Some t
        → IsBesideKey p (q ∷ qs) v [] (two_tag f c.second p q (slice_get r p.column) (slice_get r q.column)) t r
    alone column.Int k = first_beside column.Int p (q ∷ qs) v [] t r k
    alone column.Text k = first_beside column.Text p (q ∷ qs) v [] t r k
    alone column.Flag k = absurd (none_some k)
prefixes_order_probes c p (q ∷ qs) v (w ∷ vs) t r h =
    subst (λ n. IsBesideKey p (q ∷ qs) v (w ∷ vs) (prefix_tag c p (q ∷ qs) r) n r) (some_is h) (two_beside c.first c.second p q qs v w vs r)

two_at : (c d : ColumnType) (p q : KeyPart) (v w : Value) (r : List Value) → is_exact_two c d (two_tag c d p q (Some v) (Some w)) ≡ true
    → two_tag c d p q (slice_get r p.column) (slice_get r q.column) ≡ two_tag c d p q (Some v) (Some w) → compare_prefix (p ∷ q ∷ []) (v ∷ w ∷ []) r ≡ Equal
two_at column.Int d p q v w r h same = absurd (false≢true h)
two_at column.Text d p q v w r h same = absurd (false≢true h)
two_at column.Flag column.Text p q v w r h same = absurd (false≢true h)
two_at column.Flag column.Flag p q v w r h same = absurd (false≢true h)
two_at column.Flag column.Int p q v w r h same =
    let is = pair_same p.descending (Some v) (slice_get r p.column) (past_flag column.Int q (Some w)) (past_flag column.Int q (slice_get r q.column))
    (behind_within column.Int q (Some w)) (behind_within column.Int q (slice_get r q.column)) h (sym same) in
    ap (λ o. ordering_then o (compare_prefix (q ∷ []) (w ∷ []) r)) is.0
    ∙ ap (λ o. ordering_then o Equal) (numbers_same q.descending (Some w) (slice_get r q.column) is.2 is.3 is.1)

-- and those of its own tag, where that is exact, are at it
pub complete_prefixes_are_probes : (c : PrefixTypes) (p : KeyPart) (ps : List KeyPart) (v : Value) (vs : List Value) (t : ℕ) (r : List Value)
    → length vs ≤ length ps → prefix_probe c p ps v vs ≡ Some t → is_complete_prefix c p ps t ≡ true
    → prefix_tag c p ps r ≡ t → compare_prefix (p ∷ ps) (v ∷ vs) r ≡ Equal
complete_prefixes_are_probes c p [] v [] t r few h exact same =
    let is = some_is h in exact_tags_are_probes c.first p [] v r (ap (is_exact c.first p) is ∙ exact) (same ∙ sym is)
complete_prefixes_are_probes c p [] v (w ∷ vs) t r few h exact same = absurd (omega arith)
complete_prefixes_are_probes c p (q ∷ []) v [] t r few h exact same = absurd (alone c.first c.second h exact)
  where
    alone : (f d : ColumnType) → first_probe f p v ≡ Some t → is_exact_two f d t ≡ true → ⊥
    alone column.Int d k e = false≢true e
    alone column.Text d k e = false≢true e
    alone column.Flag d k e = none_some k
complete_prefixes_are_probes c p (q ∷ []) v (w ∷ []) t r few h exact same =
    let is = some_is h in two_at c.first c.second p q v w r (ap (is_exact_two c.first c.second) is ∙ exact) (same ∙ sym is)
complete_prefixes_are_probes c p (q ∷ []) v (w ∷ z ∷ vs) t r few h exact same = absurd (omega arith)
complete_prefixes_are_probes c p (q ∷ z ∷ qs) v vs t r few h exact same = absurd (false≢true exact)
