-- Where a number or a flag stands in a record's bytes, and that another one may stand there.
-- Cited by `Record::added`, `Short::with_byte`, `Short::with_number`, `record::behind`, `record::exchange_flag` and 4 more.
use Rattle.std.proofs.Common.{◌≡◌, ◌≤◌, ◌<◌, ◌⊎◌, inl, inr, ◌+◌, ◌++◌, ◌∷◌, [], ℕ, zero, suc, ℤ, List, Some, None, true, false, Bool, length, take, drop, slice_get, append_assoc, length-append, refl, ap, sym, ◌∙◌, arith, subst, if◌then◌else◌}
use Rattle.std.specs.Prelude.{slice_set, nat_lt, ◌==◌, ◌-◌}
use Rattle.std.specs.Option.{option_map}
use Rattle.std.specs.Int.{w32, w64, from_le_bytes, to_le_bytes, cast_unsigned, cast_signed}
use Rattle.std.proofs.Math.Seq.{take-append_seam, take-append-add, set-append_seam}
use Rattle.std.proofs.lemmas.Bool.{ltb-false}
use Rattle.std.proofs.lemmas.List.{drop-drop, take-append-le, length-take-le, length-take, take-append-drop, drop_at, drop-take}
use Rattle.mi_value.specs.declared.value.Value.{Value}
use Rattle.mi_value.specs.declared.value.Value.TheVariants.{Int, Text, Flag}
use Rattle.mi_value.specs.Block.{int_at, text_of_length, text_at, value_at, unpacked, BeginsWith, HasTexts, IsText}
use Rattle.mi_value.specs.Numbers.{ArePassed, IsNumberAt, IsFlagAt, flag_tag}
use Rattle.mi_value.specs.declared.edit.Edit.TheVariants.{Add}
use Rattle.mi_value.specs.Edits.{add_to, edited}
use Rattle.mi_value.proofs.BlockLemmas.{first, int_unpacked}

if_some : {A : Type 0} (b : Bool) (x y : A) → (if b then None else Some x) ≡ Some y → (b ≡ false) × (x ≡ y)
if_some true x y is = absurd (cc)
if_some false x y is = (refl, cc)

int_long : (c : List ℕ) (v : Value) (n : ℕ) → int_at c ≡ Some (v, n) → (n ≡ 8) × (8 ≤ length c)
int_long c v n at =
    let both = if_some (nat_lt (length c) 8) (Int (cast_signed w64 (from_le_bytes w64 (take 8 c))), 8) (v, n) at in
    (sym (ap (λ p. p.1) both.1), ltb-false (length c) 8 both.0)

text_long : (m : ℕ) (c : List ℕ) (v : Value) (n : ℕ) → text_of_length m c ≡ Some (v, n) → (n ≡ 4 + m) × (4 + m ≤ length c)
text_long m c v n at =
    let both = if_some (nat_lt (length c) (4 + m)) (Text (take m (drop 4 c)), 4 + m) (v, n) at in
    (sym (ap (λ p. p.1) both.1), ltb-false (length c) (4 + m) both.0)

-- the first bytes stay, whatever is behind them
takes : (c others : List ℕ) (n i : ℕ) → n ≤ length c → i ≤ n → take i (take n c ++ others) ≡ take i c
takes c others n i long few =
    let within : i ≤ length (take n c) = rw (length-take-le n c long) few in
    take-append-le i (take n c) others within ∙ sym (take-append-le i (take n c) (drop n c) within) ∙ ap (take i) (take-append-drop n c)

as_long : (c others : List ℕ) (n : ℕ) → n ≤ length c → length others ≡ length (drop n c) → length (take n c ++ others) ≡ length c
as_long c others n long same =
    length-append (take n c) others ∙ ap (λ k. length (take n c) + k) same ∙ sym (length-append (take n c) (drop n c)) ∙ ap length (take-append-drop n c)

int_stays : (c others : List ℕ) (v : Value) (n : ℕ) → length others ≡ length (drop n c) → int_at c ≡ Some (v, n) → int_at (take n c ++ others) ≡ Some (v, n)
int_stays c others v n same at =
    let is = int_long c v n at in
    let within : n ≤ length c = rw is.0 is.1 in
    let long = as_long c others n within same in
    ap (λ k. if nat_lt k 8 then None else Some (Int (cast_signed w64 (from_le_bytes w64 (take 8 (take n c ++ others)))), 8)) long
    ∙ ap (λ t. if nat_lt (length c) 8 then None else Some (Int (cast_signed w64 (from_le_bytes w64 t)), 8)) (takes c others n 8 within (omega (arith, is.0)))
    ∙ at

text_stays : (c others : List ℕ) (v : Value) (n : ℕ) → length others ≡ length (drop n c) → text_at c ≡ Some (v, n) → text_at (take n c ++ others) ≡ Some (v, n)
text_stays c others v n same at =
    let m = from_le_bytes w32 (take 4 c) in
    let is = text_long m c v n at in
    let within : n ≤ length c = rw is.0 is.1 in
    let long = as_long c others n within same in
    let behind : take m (drop 4 (take n c ++ others)) ≡ take m (drop 4 c) =
    sym (drop-take 4 m (take n c ++ others)) ∙ ap (drop 4) (takes c others n (4 + m) within (omega (arith, is.0))) ∙ drop-take 4 m c in
    ap (λ t. text_of_length (from_le_bytes w32 t) (take n c ++ others)) (takes c others n 4 within (omega (arith, is.0)))
    ∙ ap (λ k. if nat_lt k (4 + m) then None else Some (Text (take m (drop 4 (take n c ++ others))), 4 + m)) long
    ∙ ap (λ t. if nat_lt (length c) (4 + m) then None else Some (Text t, 4 + m)) behind
    ∙ at

some_is : {A : Type 0} (x y : A) → Some x ≡ Some y → x ≡ y
some_is x y is = cc

stays_by : (p q r s : Bool) (c others : List ℕ) (v : Value) (n : ℕ) → length others ≡ length (drop n c)
    → (if p then int_at c else if q then text_at c else if r then Some (Flag false, 0) else if s then Some (Flag true, 0) else None) ≡ Some (v, n)
    → (if p then int_at (take n c ++ others) else if q then text_at (take n c ++ others)
    else if r then Some (Flag false, 0) else if s then Some (Flag true, 0) else None) ≡ Some (v, n)
stays_by true q r s c others v n same at = int_stays c others v n same at
stays_by false true r s c others v n same at = text_stays c others v n same at
stays_by false false true s c others v n same at = at
stays_by false false false true c others v n same at = at
stays_by false false false false c others v n same at = at

within_by : (p q r s : Bool) (c : List ℕ) (v : Value) (n : ℕ)
    → (if p then int_at c else if q then text_at c else if r then Some (Flag false, 0) else if s then Some (Flag true, 0) else None) ≡ Some (v, n)
    → n ≤ length c
within_by true q r s c v n at = let is = int_long c v n at in omega (arith, is.0, is.1)
within_by false true r s c v n at = let is = text_long (from_le_bytes w32 (take 4 c)) c v n at in omega (arith, is.0, is.1)
within_by false false true s c v n at = omega (arith, ap (λ (p : Value × ℕ). p.1) (some_is (Flag false, 0) (v, n) at))
within_by false false false true c v n at = omega (arith, ap (λ (p : Value × ℕ). p.1) (some_is (Flag true, 0) (v, n) at))
within_by false false false false c v n at = absurd (cc)

-- a value is read of its own bytes alone
value_stays : (tag : ℕ) (c others : List ℕ) (v : Value) (n : ℕ) → length others ≡ length (drop n c) → value_at tag c ≡ Some (v, n)
    → value_at tag (take n c ++ others) ≡ Some (v, n)
value_stays tag c others v n same at = stays_by (tag == 0) (tag == 1) (tag == 2) (tag == 3) c others v n same at

value_within : (tag : ℕ) (c : List ℕ) (v : Value) (n : ℕ) → value_at tag c ≡ Some (v, n) → n ≤ length c
value_within tag c v n at = within_by (tag == 0) (tag == 1) (tag == 2) (tag == 3) c v n at

pub passed_none : (bs : List ℕ) → ArePassed 0 bs bs
passed_none bs = record { front = []; values = []; joined = refl; many = refl; whatever = λ others long. refl }

pub passed_one : (bs content rest : List ℕ) (tag : ℕ) (v : Value) → bs ≡ tag ∷ content → BeginsWith (value_at tag content) content v rest → ArePassed 1 bs rest
passed_one bs content rest tag v is at =
    let n = at.0 in
    let within = value_within tag content v n at.1 in
    record {
      front = tag ∷ take n content;
      values = v ∷ [];
      joined = is ∙ ap (λ c. tag ∷ c) (sym (take-append-drop n content) ∙ ap (λ c. take n content ++ c) (sym at.2));
      many = refl;
      whatever = λ others long.
          first (tag ∷ take n content ++ others) tag (take n content ++ others) others v refl
          (n, value_stays tag content others v n (long ∙ ap length at.2) at.1, sym (drop_at (take n content) others n (length-take-le n content within)));
    }

pub passed_more : (k : ℕ) (bs left rest : List ℕ) → ArePassed k bs left → ArePassed 1 left rest → ArePassed (k + 1) bs rest
passed_more k bs left rest here next =
    record {
      front = here.front ++ next.front;
      values = here.values ++ next.values;
      joined = here.joined ∙ ap (λ c. here.front ++ c) next.joined ∙ sym (append_assoc here.front next.front rest);
      many = length-append here.values next.values ∙ (λ i. here.many i + next.many i);
      whatever = λ others long.
          let whole : length (next.front ++ others) ≡ length left =
          length-append next.front others ∙ ap (λ j. length next.front + j) long ∙ sym (length-append next.front rest) ∙ ap length (sym next.joined) in
          ap unpacked (append_assoc here.front next.front others)
          ∙ here.whatever (next.front ++ others) whole
          ∙ ap (λ vs. here.values ++ vs) (next.whatever others long)
          ∙ sym (append_assoc here.values next.values (unpacked others));
    }

pub passed_all : (k : ℕ) (bs left : List ℕ) (p : ArePassed k bs left) → unpacked bs ≡ p.values ++ unpacked left
passed_all k bs left p = ap unpacked p.joined ∙ p.whatever left refl

texts_behind : (vs ws : List Value) → HasTexts (vs ++ ws) → HasTexts ws
texts_behind [] ws have = have
texts_behind (v ∷ vs) ws have = texts_behind vs ws have.1

-- the texts that are left are texts
pub texts_left : (k : ℕ) (bs left : List ℕ) → ArePassed k bs left → HasTexts (unpacked bs) → HasTexts (unpacked left)
texts_left k bs left p have = texts_behind p.values (unpacked left) (subst HasTexts (passed_all k bs left p) have)

pub left_long : (k : ℕ) (bs left : List ℕ) (p : ArePassed k bs left) → length bs ≡ length p.front + length left
left_long k bs left p = ap length p.joined ∙ length-append p.front left

get_seam : (vs ws : List Value) (v : Value) → slice_get (vs ++ v ∷ ws) (length vs) ≡ Some v
get_seam [] ws v = refl
get_seam (x ∷ vs) ws v = get_seam vs ws v

-- the bytes behind others, in the place of as many
replaced : (bs pre old tail new : List ℕ) (place : ℕ) → bs ≡ pre ++ (old ++ tail) → length pre ≡ place → length old ≡ 8
    → take place bs ++ (new ++ drop (place + 8) bs) ≡ pre ++ (new ++ tail)
replaced bs pre old tail new place is at long =
    let front : take place bs ≡ pre = ap (take place) is ∙ ap (λ i. take i (pre ++ (old ++ tail))) (sym at) ∙ take-append_seam pre (old ++ tail) in
    let whole : bs ≡ (pre ++ old) ++ tail = is ∙ sym (append_assoc pre old tail) in
    let many : length (pre ++ old) ≡ place + 8 = length-append pre old ∙ (λ i. at i + long i) in
    let behind : drop (place + 8) bs ≡ tail = ap (drop (place + 8)) whole ∙ drop_at (pre ++ old) tail (place + 8) many in
    λ i. front i ++ (new ++ behind i)

pub number_there : (bs left content rest : List ℕ) (k tag place : ℕ) (n : ℤ) → ArePassed k bs left → left ≡ tag ∷ content → tag ≡ 0
    → BeginsWith (int_at content) content (Int n) rest → place + length content ≡ length bs → IsNumberAt bs k n place
number_there bs left content rest k tag place n p is int at long =
    let long8 = int_long content (Int n) at.0 at.1 in
    let e : left ≡ 0 ∷ content = is ∙ ap (λ t. t ∷ content) int in
    let whole = left_long k bs left p in
    let values : unpacked bs ≡ p.values ++ (Int n ∷ unpacked rest) =
    passed_all k bs left p ∙ ap (λ vs. p.values ++ vs) (first left 0 content rest (Int n) e at) in
    let here : place ≡ length p.front + 1 = omega (arith, whole, ap length e) in
    let tail = drop 8 content in
    let eights : length (take 8 content) ≡ 8 = length-take-le 8 content long8.1 in
    let split : bs ≡ (p.front ++ 0 ∷ []) ++ (take 8 content ++ tail) =
    p.joined ∙ ap (λ c. p.front ++ c) (e ∙ ap (λ c. 0 ∷ c) (sym (take-append-drop 8 content))) ∙ sym (append_assoc p.front (0 ∷ []) (take 8 content ++ tail)) in
    let front_long : length (p.front ++ 0 ∷ []) ≡ place = length-append p.front (0 ∷ []) ∙ sym here in
    record {
      is = ap (λ vs. slice_get vs k) values ∙ ap (slice_get (p.values ++ (Int n ∷ unpacked rest))) (sym p.many) ∙ get_seam p.values (unpacked rest) (Int n);
      within = omega (arith, whole, ap length e, long8.1, here);
      other = λ m fits.
          let new = to_le_bytes w64 (cast_unsigned w64 m) in
          let others_long : length (0 ∷ new ++ tail) ≡ length left = omega (arith, length-append (take 8 content) tail, ap length (take-append-drop 8 content), eights, ap length e) in
          ap unpacked (replaced bs (p.front ++ 0 ∷ []) (take 8 content) tail new place split front_long eights ∙ append_assoc p.front (0 ∷ []) (new ++ tail))
          ∙ p.whatever (0 ∷ new ++ tail) others_long
          ∙ ap (λ vs. p.values ++ vs) (int_unpacked m tail fits)
          ∙ ap (λ r. p.values ++ (Int m ∷ unpacked r)) (ap (λ j. drop j content) (sym long8.0) ∙ sym at.2)
          ∙ sym (set-append_seam p.values (Int n) (unpacked rest) (Int m))
          ∙ ap (λ j. slice_set (p.values ++ (Int n ∷ unpacked rest)) j (Int m)) p.many
          ∙ ap (λ vs. slice_set vs k (Int m)) (sym values);
    }

take_of_take : (bs : List ℕ) (i j : ℕ) → i ≤ j → take i bs ≡ take i (take j bs)
take_of_take [] zero j few = refl
take_of_take [] (suc i) zero few = refl
take_of_take [] (suc i) (suc j) few = refl
take_of_take (b ∷ bs) zero j few = refl
take_of_take (b ∷ bs) (suc i) zero few = absurd (omega arith)
take_of_take (b ∷ bs) (suc i) (suc j) few = ap (λ l. b ∷ l) (take_of_take bs i j (omega arith))

-- the bytes that there are, of those with another number
pub numbered : (bs new : List ℕ) (len place : ℕ) → place + 8 ≤ length (take len bs) → length new ≡ 8
    → take len (take place bs ++ (new ++ drop 8 (drop place bs))) ≡ take place (take len bs) ++ (new ++ drop (place + 8) (take len bs))
numbered bs new len place within eight =
    let short : place + 8 ≤ len = omega (arith, length-take len bs) in
    let long : place + 8 ≤ length bs = omega (arith, length-take len bs) in
    let more = len - (place + 8) in
    let is : len ≡ (place + 8) + more = omega arith in
    let tail = drop (place + 8) bs in
    let front = take place bs in
    let many : length (front ++ new) ≡ place + 8 = length-append front new ∙ (λ i. length-take-le place bs (omega arith) i + eight i) in
    ap (λ l. take len (front ++ (new ++ l))) (drop-drop 8 place bs)
    ∙ ap (λ l. take len l) (sym (append_assoc front new tail))
    ∙ ap (λ k. take k ((front ++ new) ++ tail)) (is ∙ ap (λ k. k + more) (sym many))
    ∙ take-append-add (front ++ new) tail more
    ∙ append_assoc front new (take more tail)
    ∙ (λ i. take_of_take bs place ((place + 8) + more) (omega arith) i ++ (new ++ sym (drop-take (place + 8) more bs) i))
    ∙ ap (λ k. take place (take k bs) ++ (new ++ drop (place + 8) (take k bs))) (sym is)

-- a record with another value has texts where it had
pub texts_set : (vs : List Value) (i : ℕ) (w : Value) → IsText w → HasTexts vs → HasTexts (slice_set vs i w)
texts_set [] i w is have = tt
texts_set (v ∷ vs) zero w is have = (is, have.1)
texts_set (v ∷ vs) (suc i) w is have = (have.0, texts_set vs i w is have.1)

pub added_none : (r : List Value) (column : ℕ) (n more : ℤ) → slice_get r column ≡ Some (Int n) → None ≡ add_to (Some (Int n)) more → edited (Add column more) r ≡ None
added_none r column n more is none = ap (λ o. option_map (slice_set r column) (add_to o more)) is ∙ ap (option_map (slice_set r column)) (sym none)

pub added_some : (r : List Value) (column : ℕ) (n more sum : ℤ) → slice_get r column ≡ Some (Int n) → Some (Int sum) ≡ add_to (Some (Int n)) more
    → edited (Add column more) r ≡ Some (slice_set r column (Int sum))
added_some r column n more sum is some = ap (λ o. option_map (slice_set r column) (add_to o more)) is ∙ ap (option_map (slice_set r column)) (sym some)

flag_first : (left content : List ℕ) (tag : ℕ) → left ≡ tag ∷ content → (tag ≡ 2) ⊎ (tag ≡ 3) → (b : Bool) × (unpacked left ≡ Flag b ∷ unpacked content)
flag_first left content tag is (inl two) = (false, first left 2 content content (Flag false) (is ∙ ap (λ t. t ∷ content) two) (0, refl, refl))
flag_first left content tag is (inr three) = (true, first left 3 content content (Flag true) (is ∙ ap (λ t. t ∷ content) three) (0, refl, refl))

flag_read : (b : Bool) (content : List ℕ) → unpacked (flag_tag b ∷ content) ≡ Flag b ∷ unpacked content
flag_read false content = refl
flag_read true content = refl

pub flag_there : (bs left content : List ℕ) (k tag place : ℕ) → ArePassed k bs left → left ≡ tag ∷ content → (tag ≡ 2) ⊎ (tag ≡ 3)
    → place + length left ≡ length bs → IsFlagAt bs k place
flag_there bs left content k tag place p is flag long =
    let old = flag_first left content tag is flag in
    let here : length p.front ≡ place = omega (arith, left_long k bs left p) in
    let bytes : bs ≡ p.front ++ (tag ∷ content) = p.joined ∙ ap (λ c. p.front ++ c) is in
    record {
      within = omega (arith, left_long k bs left p, ap length is);
      other = λ b.
          ap (λ l. unpacked (slice_set l place (flag_tag b))) bytes
          ∙ ap (λ i. unpacked (slice_set (p.front ++ (tag ∷ content)) i (flag_tag b))) (sym here)
          ∙ ap unpacked (set-append_seam p.front tag content (flag_tag b))
          ∙ p.whatever (flag_tag b ∷ content) (ap length (sym is))
          ∙ ap (λ vs. p.values ++ vs) (flag_read b content)
          ∙ sym (set-append_seam p.values (Flag old.0) (unpacked content) (Flag b))
          ∙ ap (λ j. slice_set (p.values ++ (Flag old.0 ∷ unpacked content)) j (Flag b)) p.many
          ∙ ap (λ vs. slice_set vs k (Flag b)) (sym (passed_all k bs left p ∙ ap (λ vs. p.values ++ vs) old.1));
    }

pub byte_set : (bs : List ℕ) (len place byte : ℕ) → place < length (take len bs) → take len (slice_set bs place byte) ≡ slice_set (take len bs) place byte
byte_set [] zero place byte within = refl
byte_set [] (suc len) place byte within = refl
byte_set (b ∷ bs) zero place byte within = absurd (omega arith)
byte_set (b ∷ bs) (suc len) zero byte within = refl
byte_set (b ∷ bs) (suc len) (suc place) byte within = ap (λ l. b ∷ l) (byte_set bs len place byte (omega arith))
