-- Tags stand in the order of what they stand for.
use Rattle.std.proofs.Common.{◌≡◌, ℕ, ◌+◌, ◌-◌, ◌*◌, ◌<◌, ◌≤◌, zero, suc, Bool, true, false, cond}
use Rattle.std.proofs.Common.{inl, inr, List, [], ◌∷◌, slice_get, refl, ap, sym, ◌∙◌, subst, arith}
use Rattle.std.specs.Prelude.{ℤ, pos, negsuc, nat_lt}
use Rattle.std.specs.Cmp.{IsTotalOrder, nat_cmp_is}
use Rattle.std.specs.Cmp.Lexicographic.{slice_cmp}
use Rattle.std.specs.Ordering.{int_cmp, nat_cmp, ordering_then, ordering_reverse}
use Rattle.std.proofs.Math.Nat.{mul-le-mul_left}
use Rattle.std.proofs.lemmas.Bool.{and_parts, ltb-true, ltb-false, lt-ltb, false≢true, cases_lt}
use Rattle.std.specs.declared.cmp.Ordering.{Ordering}
use Rattle.std.specs.declared.cmp.Ordering.TheVariants.{Less, Equal, Greater}
use Rattle.std.specs.declared.option.Option.{Option}
use Rattle.std.specs.declared.option.Option.TheVariants.{None, Some}
use Rattle.mi_value.specs.declared.value.Value.{Value}
use Rattle.mi_value.specs.declared.value.Value.TheVariants.{Int, Text, Flag}
use Rattle.mi_value.specs.declared.value.ColumnType.{ColumnType}
use Rattle.mi_value.specs.declared.value.ColumnType.TheVariants as column
use Rattle.mi_value.specs.Order.{compare_missing, directed, compare_key, compare_prefix}
use Rattle.mi_value.proofs.OrderLaws.{directed_total}
use Rattle.mi_model.proofs.SortLaws.{both_ways}
use Rattle.mi_order.specs.Tags.{high, int_tag, worth, prefix, value_tag, directed_tag, is_exact_value}
use Rattle.mi_order.specs.Tags.{TagsOrderKeys, ExactTagsAreKeys, TagsOrderProbes, ExactTagsAreProbes}

-- Whole numbers

int_high : (n : ℤ) → int_tag n ≤ high
int_high (pos n) = omega arith
int_high (negsuc n) = omega arith

int_below : (m n : ℤ) → int_tag m < int_tag n → int_cmp m n ≡ Less
int_below (pos m) (pos n) l = let less : m < n = omega arith in ap (λ b. cond b Less (cond (nat_lt n m) Greater Equal)) (lt-ltb m n less)
int_below (pos m) (negsuc n) l = absurd (omega arith)
int_below (negsuc m) (pos n) l = refl
int_below (negsuc m) (negsuc n) l = let less : n < m = omega arith in ap (λ b. cond b Less (cond (nat_lt m n) Greater Equal)) (lt-ltb n m less)

int_same : (m n : ℤ) → 0 < int_tag m → int_tag m < high → int_tag m ≡ int_tag n → m ≡ n
int_same (pos m) (pos n) some below same = let is : m ≡ n = omega arith in ap pos is
int_same (pos m) (negsuc n) some below same = absurd (omega arith)
int_same (negsuc m) (pos n) some below same = absurd (omega arith)
int_same (negsuc m) (negsuc n) some below same = let is : m ≡ n = omega arith in ap negsuc is

-- Texts

prefix_within : (n : ℕ) (bs : List ℕ) → prefix n bs < worth n
prefix_within zero bs = omega arith
prefix_within (suc n) [] = let l : prefix n [] < worth n = prefix_within n [] in omega arith
prefix_within (suc n) (b ∷ bs) =
    let l : prefix n bs < worth n = prefix_within n bs in
    both_ways (nat_lt b 256)
    (λ yes.
    let small : b < 256 = ltb-true b 256 yes in
    let more : worth n * (b + 1) ≤ worth n * 256 = mul-le-mul_left (worth n) (let s : b + 1 ≤ 256 = omega arith in s) in
    subst (λ t. cond {A = ℕ} t (b * worth n + prefix n bs) (256 * worth n - 1) < 256 * worth n) (sym yes) (omega arith))
    (λ isnt. subst (λ t. cond {A = ℕ} t (b * worth n + prefix n bs) (256 * worth n - 1) < 256 * worth n) (sym isnt) (omega arith))

-- where both first bytes are bytes
first_below : (x y w a b : ℕ) (o : Ordering) → a < w → b < w → x * w + a < y * w + b → (x ≡ y → a < b → o ≡ Less) → ordering_then (nat_cmp x y) o ≡ Less
first_below x y w a b o la lb l rest =
    elim (cases_lt x y) [
      | inl less ↦ ap (λ q. ordering_then q o) (sym (nat_cmp_is x y Less less))
      | inr more ↦ both_ways (nat_lt y x)
          (λ yes.
          let great : y < x = ltb-true y x yes in
          let far : w * (y + 1) ≤ w * x = mul-le-mul_left w (let s : y + 1 ≤ x = omega arith in s) in
          absurd (omega arith))
          (λ isnt.
          let same : x ≡ y = (let le : x ≤ y = ltb-false y x isnt in omega arith) in
          let tail : a < b = (let here : x * w ≡ y * w = ap (λ n. n * w) same in omega arith) in
          ap (λ q. ordering_then q o) (sym (nat_cmp_is x y Equal same)) ∙ rest same tail)
    ]

prefix_below : (n : ℕ) (xs ys : List ℕ) → prefix n xs < prefix n ys → slice_cmp nat_cmp xs ys ≡ Less
prefix_below zero xs ys l = absurd (omega arith)
prefix_below (suc n) [] [] l = absurd (omega arith)
prefix_below (suc n) [] (y ∷ ys) l = refl
prefix_below (suc n) (x ∷ xs) [] l = absurd (omega arith)
prefix_below (suc n) (x ∷ xs) (y ∷ ys) l =
    let w : ℕ = worth n in
    let la : prefix n xs < w = prefix_within n xs in
    let lb : prefix n ys < w = prefix_within n ys in
    let tag : Bool → ℕ → ℕ → ℕ = λ t z a. cond {A = ℕ} t (z * w + a) (256 * w - 1) in
    both_ways (nat_lt x 256)
    (λ small.
    let left : prefix (suc n) (x ∷ xs) ≡ x * w + prefix n xs = ap (λ t. tag t x (prefix n xs)) small in
    both_ways (nat_lt y 256)
    (λ too.
    let right : prefix (suc n) (y ∷ ys) ≡ y * w + prefix n ys = ap (λ t. tag t y (prefix n ys)) too in
    first_below x y w (prefix n xs) (prefix n ys) (slice_cmp nat_cmp xs ys) la lb (omega arith) (λ same less. prefix_below n xs ys less))
    (λ great.
    let above : x < y = (let a : x < 256 = ltb-true x 256 small in let b : 256 ≤ y = ltb-false y 256 great in omega arith) in
    ap (λ q. ordering_then q (slice_cmp nat_cmp xs ys)) (sym (nat_cmp_is x y Less above))))
    (λ great.
    let left : prefix (suc n) (x ∷ xs) ≡ 256 * w - 1 = ap (λ t. tag t x (prefix n xs)) great in
    let most : prefix (suc n) (y ∷ ys) < 256 * w = prefix_within (suc n) (y ∷ ys) in
    absurd (omega arith))

text_high : (bs : List ℕ) → prefix 8 bs ≤ high
text_high bs = let l : prefix 8 bs < worth 8 = prefix_within 8 bs in omega arith

-- Values

pub value_high : (c : ColumnType) (x : Option Value) → value_tag c x ≤ high
value_high column.Int None = omega arith
value_high column.Text None = omega arith
value_high column.Flag None = omega arith
value_high column.Int (Some (Int n)) = int_high n
value_high column.Int (Some (Text bs)) = omega arith
value_high column.Int (Some (Flag b)) = omega arith
value_high column.Text (Some (Int n)) = omega arith
value_high column.Text (Some (Text bs)) = text_high bs
value_high column.Text (Some (Flag b)) = omega arith
value_high column.Flag (Some (Int n)) = omega arith
value_high column.Flag (Some (Text bs)) = omega arith
value_high column.Flag (Some (Flag false)) = omega arith
value_high column.Flag (Some (Flag true)) = omega arith

none_below : (n : ℕ) → n < 0 → ⊥
none_below n l = omega arith

none_above : (n : ℕ) → n ≤ high → high < n → ⊥
none_above n l m = omega arith

ints_below : (a b : Value) → value_tag column.Int (Some a) < value_tag column.Int (Some b) → compare_missing (Some a) (Some b) ≡ Less
ints_below (Int m) (Int n) l = int_below m n l
ints_below (Int m) (Text bs) l = refl
ints_below (Int m) (Flag b) l = refl
ints_below (Text ts) b l = absurd (none_above _ (value_high column.Int (Some b)) l)
ints_below (Flag f) b l = absurd (none_above _ (value_high column.Int (Some b)) l)

texts_below : (a b : Value) → value_tag column.Text (Some a) < value_tag column.Text (Some b) → compare_missing (Some a) (Some b) ≡ Less
texts_below a (Int n) l = absurd (none_below _ l)
texts_below (Int m) (Text bs) l = refl
texts_below (Int m) (Flag b) l = refl
texts_below (Text ts) (Text bs) l = prefix_below 8 ts bs l
texts_below (Text ts) (Flag b) l = refl
texts_below (Flag f) (Text bs) l = absurd (none_above _ (text_high bs) l)
texts_below (Flag f) (Flag b) l = absurd (omega arith)

flags_below : (a b : Value) → value_tag column.Flag (Some a) < value_tag column.Flag (Some b) → compare_missing (Some a) (Some b) ≡ Less
flags_below a (Int n) l = absurd (none_below _ l)
flags_below a (Text bs) l = absurd (none_below _ l)
flags_below (Int m) (Flag b) l = refl
flags_below (Text ts) (Flag b) l = refl
flags_below (Flag false) (Flag false) l = absurd (omega arith)
flags_below (Flag false) (Flag true) l = refl
flags_below (Flag true) (Flag false) l = absurd (omega arith)
flags_below (Flag true) (Flag true) l = absurd (omega arith)

missing_tag : (c : ColumnType) → value_tag c None ≡ 0
missing_tag column.Int = refl
missing_tag column.Text = refl
missing_tag column.Flag = refl

value_below : (c : ColumnType) (x y : Option Value) → value_tag c x < value_tag c y → compare_missing x y ≡ Less
value_below c x None l = absurd (none_below _ (subst (λ n. value_tag c x < n) (missing_tag c) l))
value_below c None (Some b) l = refl
value_below column.Int (Some a) (Some b) l = ints_below a b l
value_below column.Text (Some a) (Some b) l = texts_below a b l
value_below column.Flag (Some a) (Some b) l = flags_below a b l

-- Exact tags

none_exact : (c : ColumnType) → is_exact_value c 0 ≡ true → ⊥
none_exact column.Int h = false≢true h
none_exact column.Text h = false≢true h
none_exact column.Flag h = false≢true h

high_exact : is_exact_value column.Int high ≡ true → ⊥
high_exact h = false≢true h

ints_equal : (a b : Value) → is_exact_value column.Int (value_tag column.Int (Some a)) ≡ true
    → value_tag column.Int (Some a) ≡ value_tag column.Int (Some b) → a ≡ b
ints_equal (Int m) (Int n) exact same =
    let both = and_parts _ _ exact in ap Int (int_same m n (ltb-true 0 (int_tag m) both.0) (ltb-true (int_tag m) high both.1) same)
ints_equal (Int m) (Text bs) exact same = absurd (high_exact (sym (ap (is_exact_value column.Int) same) ∙ exact))
ints_equal (Int m) (Flag b) exact same = absurd (high_exact (sym (ap (is_exact_value column.Int) same) ∙ exact))
ints_equal (Text ts) b exact same = absurd (high_exact exact)
ints_equal (Flag f) b exact same = absurd (high_exact exact)

flags_equal : (a b : Value) → is_exact_value column.Flag (value_tag column.Flag (Some a)) ≡ true
    → value_tag column.Flag (Some a) ≡ value_tag column.Flag (Some b) → a ≡ b
flags_equal (Int m) b exact same = absurd (none_exact column.Flag exact)
flags_equal (Text ts) b exact same = absurd (none_exact column.Flag exact)
flags_equal (Flag f) (Int n) exact same = absurd (none_exact column.Flag (sym (ap (is_exact_value column.Flag) same) ∙ exact))
flags_equal (Flag f) (Text bs) exact same = absurd (none_exact column.Flag (sym (ap (is_exact_value column.Flag) same) ∙ exact))
flags_equal (Flag false) (Flag false) exact same = refl
flags_equal (Flag false) (Flag true) exact same = absurd (omega (arith, same))
flags_equal (Flag true) (Flag false) exact same = absurd (omega (arith, same))
flags_equal (Flag true) (Flag true) exact same = refl

value_same : (c : ColumnType) (x y : Option Value) → is_exact_value c (value_tag c x) ≡ true → value_tag c x ≡ value_tag c y → x ≡ y
value_same c None y exact same = absurd (none_exact c (sym (ap (is_exact_value c) (missing_tag c)) ∙ exact))
value_same c (Some a) None exact same = absurd (none_exact c (sym (ap (is_exact_value c) (same ∙ missing_tag c)) ∙ exact))
value_same column.Int (Some a) (Some b) exact same = ap Some (ints_equal a b exact same)
value_same column.Text (Some a) (Some b) exact same = absurd (false≢true exact)
value_same column.Flag (Some a) (Some b) exact same = ap Some (flags_equal a b exact same)

-- Turned round where a part descends

pub turned_below : (descending : Bool) (c : ColumnType) (x y : Option Value)
    → directed_tag descending (value_tag c x) < directed_tag descending (value_tag c y) → directed descending (compare_missing x y) ≡ Less
turned_below false c x y l = value_below c x y l
turned_below true c x y l =
    let o : IsTotalOrder compare_missing = directed_total false in
    let less : compare_missing y x ≡ Less = value_below c y x (omega arith) in
    ap ordering_reverse (o.antisymm x y ∙ ap ordering_reverse less)

pub turned_above : (descending : Bool) (c : ColumnType) (x y : Option Value)
    → directed_tag descending (value_tag c y) < directed_tag descending (value_tag c x) → directed descending (compare_missing x y) ≡ Greater
turned_above descending c x y l =
    let o : IsTotalOrder (λ a b. directed descending (compare_missing a b)) = directed_total descending in
    o.antisymm x y ∙ ap ordering_reverse (turned_below descending c y x l)

twice : (descending : Bool) (t : ℕ) → t ≤ high → directed_tag descending (directed_tag descending t) ≡ t
twice false t l = refl
twice true t l = omega arith

pub self_equal : (o : Ordering) → o ≡ ordering_reverse o → o ≡ Equal
self_equal Less h = absurd (cc)
self_equal Equal h = refl
self_equal Greater h = absurd (cc)

pub turned_same : (descending : Bool) (c : ColumnType) (x y : Option Value)
    → is_exact_value c (directed_tag descending (directed_tag descending (value_tag c x))) ≡ true
    → directed_tag descending (value_tag c x) ≡ directed_tag descending (value_tag c y) → directed descending (compare_missing x y) ≡ Equal
turned_same descending c x y exact same =
    let back : directed_tag descending (directed_tag descending (value_tag c x)) ≡ value_tag c x = twice descending (value_tag c x) (value_high c x) in
    let tags : value_tag c x ≡ value_tag c y = sym back ∙ ap (directed_tag descending) same ∙ twice descending (value_tag c y) (value_high c y) in
    let values : x ≡ y = value_same c x y (sym (ap (is_exact_value c) back) ∙ exact) tags in
    let o : IsTotalOrder (λ a b. directed descending (compare_missing a b)) = directed_total descending in
    ap (λ q. directed descending (compare_missing x q)) (sym values) ∙ self_equal (directed descending (compare_missing x x)) (o.antisymm x x)

-- The laws

pub tags_order_keys : TagsOrderKeys
tags_order_keys c p ps r s l = ap (λ o. ordering_then o (compare_key ps r s)) (turned_below p.descending c (slice_get r p.column) (slice_get s p.column) l)

pub exact_tags_are_keys : ExactTagsAreKeys
exact_tags_are_keys c p r s exact same = ap (λ o. ordering_then o Equal) (turned_same p.descending c (slice_get r p.column) (slice_get s p.column) exact same)

pub tags_order_probes : TagsOrderProbes
tags_order_probes c p ps v vs r = (
  λ l. ap (λ o. ordering_then o (compare_prefix ps vs r)) (turned_above p.descending c (Some v) (slice_get r p.column) l),
  λ l. ap (λ o. ordering_then o (compare_prefix ps vs r)) (turned_below p.descending c (Some v) (slice_get r p.column) l),
)

pub exact_tags_are_probes : ExactTagsAreProbes
exact_tags_are_probes c p ps v r exact same = ap (λ o. ordering_then o Equal) (turned_same p.descending c (Some v) (slice_get r p.column) exact (sym same))
