-- Bytes that wait, and the lines that they are.
-- Cited by `Input::line`, `Input::pass`, `asking::ask_line`, `asking::ask_lines`, `beside::answer` and 10 more.
use Rattle.std.proofs.Common.{◌≡◌, ℕ, zero, suc, ◌+◌, ◌-◌, ◌<◌, ◌≤◌, List, [], ◌∷◌, ◌++◌, length, take, drop, get_or, Bool, true, false, ◌&&◌, cond, nat_eq, nat_lt}
use Rattle.std.proofs.Common.{Some, None, refl, sym, ap, ◌∙◌, arith, append_assoc, option_to_list}
use Rattle.std.proofs.Math.Seq.{take-append_seam, get_or-append_seam}
use Rattle.std.specs.Prelude.{slice_index}
use Rattle.std.proofs.lemmas.List.{length-append, length-take}
use Rattle.mi_value.specs.declared.limits.TheConstants.{MAX_LINE}
use Rattle.mi_hub.specs.Ended.{ended, put_front}
use Rattle.mi_hub.specs.Lines.{marked, without_return, unless_empty, ended_line, last_line, lines_of, rest_of, lines_from, rest_from}
use Rattle.mi_hub.proofs.LineLemmas.{ended_nil, parts_at, marked-long, from_rests, from_unended, lines_from-nothing, rest_from-nothing, cut_in_two}
use Rattle.mi_hub.proofs.OneLineLemmas.{whole_line}
use Rattle.mi_clients.specs.Input.{after_line, count_on}
use Rattle.mi_hub.specs.OneLine.{IsWholeLine}
use Rattle.mi_clients.specs.Lines.{SameLines, EndsAsClosed}

-- where no newline stands there is none behind any front either
put_front-none : (x : ℕ) (ts : List (List ℕ)) → put_front x ts ≡ [] → ts ≡ []
put_front-none x [] h = refl
put_front-none x (t ∷ ts) h = cc

unended_tail : (x : ℕ) (a : List ℕ) → ended (x ∷ a) ≡ [] → ended a ≡ []
unfolding ended
unended_tail x a h = by_test (nat_eq x 10) h
  where
    by_test : (b : Bool) → cond b ([] ∷ ended a) (put_front x (ended a)) ≡ [] → ended a ≡ []
    by_test true h = cc
    by_test false h = put_front-none x (ended a) h

pub unended_back : (a b : List ℕ) → ended (a ++ b) ≡ [] → ended b ≡ []
unended_back [] b h = h
unended_back (x ∷ a) b h = unended_back a b (unended_tail x (a ++ b) h)

-- bytes without a newline have no lines, and are all a rest
unended_lines : (w : List ℕ) → ended w ≡ [] → (lines_of w ≡ []) × (rest_of w ≡ marked w)
unended_lines w h =
    let none = from_unended (Some []) w h in
    (sym (lines_from-nothing w) ∙ none.0, sym (rest_from-nothing w) ∙ none.1)

-- Behind the beginning of an over-long line it doesn't matter what stands before the next newline.
pub dropped_same : (w dropped kept : List ℕ) → MAX_LINE < length w → ended w ≡ [] → ended dropped ≡ [] → SameLines (w ++ (dropped ++ kept)) (w ++ kept)
dropped_same w dropped kept long h k =
    let rest : rest_of w ≡ None = (unended_lines w h).1 ∙ marked-long w long in
    let all = from_rests w (dropped ++ kept) in
    let less = from_rests w kept in (
      all.0 ∙ ap (λ r. lines_of w ++ lines_from r (dropped ++ kept)) rest ∙ ap (λ ls. lines_of w ++ ls) (same_lines dropped kept k)
          ∙ sym (less.0 ∙ ap (λ r. lines_of w ++ lines_from r kept) rest),
      all.1 ∙ ap (λ r. rest_from r (dropped ++ kept)) rest ∙ same_rest dropped kept k ∙ sym (less.1 ∙ ap (λ r. rest_from r kept) rest),
    )
  where
    same_lines : (d k : List ℕ) → ended d ≡ [] → lines_from None (d ++ k) ≡ lines_from None k
    same_lines d k none =
        let parts = cut_in_two None d k in
        let alone = from_unended None d none in
        parts.0 ∙ ap (λ ls. ls ++ lines_from (rest_from None d) k) alone.0 ∙ ap (λ r. lines_from r k) alone.1

    same_rest : (d k : List ℕ) → ended d ≡ [] → rest_from None (d ++ k) ≡ rest_from None k
    same_rest d k none = (cut_in_two None d k).1 ∙ ap (λ r. rest_from r k) (from_unended None d none).1

-- ---- nothing more comes

last_test : (x : ℕ) → nat_eq x 13 ≡ false → (b : Bool) → (b && nat_eq x 13) ≡ false
last_test x h true = h
last_test x h false = refl

last_byte : (text : List ℕ) (x : ℕ) → slice_index (text ++ x ∷ []) (length (text ++ x ∷ []) - 1) ≡ x
last_byte text x =
    let len : length (text ++ x ∷ []) ≡ length text + 1 = length-append text (x ∷ []) in
    let at : length (text ++ x ∷ []) - 1 ≡ length text = omega (arith, len) in
    ap (λ n. get_or (text ++ x ∷ []) n 0) at ∙ get_or-append_seam text x [] 0

-- a text that doesn't end in a carriage return loses none
kept_whole : (text : List ℕ) (x : ℕ) → nat_eq x 13 ≡ false → without_return (text ++ x ∷ []) ≡ text ++ x ∷ []
kept_whole text x h =
    let w = text ++ x ∷ [] in
    ap (λ b. cond b (take (length w - 1) w) w)
    (ap (λ v. nat_lt 0 (length w) && nat_eq v 13) (last_byte text x) ∙ last_test x h (nat_lt 0 (length w)))

short : (w : List ℕ) → length w ≤ MAX_LINE → marked w ≡ Some w
short w h = let e : nat_lt MAX_LINE (length w) ≡ false = grind (arith, h) in ap (λ b. cond b None (Some w)) e

-- what a newline behind an unended text makes of it
newline_behind : (w : List ℕ) → ended w ≡ [] → ended_line (marked w) ≡ last_line (marked w) → EndsAsClosed w (w ++ 10 ∷ [])
newline_behind w h same =
    let line = whole_line w h in
    let none = unended_lines w h in (
      line.0 ∙ ap option_to_list same ∙ sym (ap (λ ls. ls ++ option_to_list (last_line (rest_of w))) none.0
          ∙ ap (λ r. option_to_list (last_line r)) none.1),
      line.1,
    )

-- an over-long text
pub ends_long : (w : List ℕ) → ended w ≡ [] → MAX_LINE < length w → EndsAsClosed w (w ++ 10 ∷ [])
ends_long w h long = let e = marked-long w long in newline_behind w h (ap ended_line e ∙ sym (ap last_line e))

-- a text that doesn't end in a carriage return
pub ends_plainly : (w text : List ℕ) (x : ℕ) → ended w ≡ [] → w ≡ text ++ x ∷ [] → nat_eq x 13 ≡ false → EndsAsClosed w (w ++ 10 ∷ [])
ends_plainly w text x h is other = newline_behind w h (by_length (nat_lt MAX_LINE (length w)) refl)
  where
    by_length : (b : Bool) → nat_lt MAX_LINE (length w) ≡ b → ended_line (marked w) ≡ last_line (marked w)
    by_length true long = let e : marked w ≡ None = ap (λ b. cond b None (Some w)) long in ap ended_line e ∙ sym (ap last_line e)
    by_length false fits =
        let e : marked w ≡ Some w = ap (λ b. cond b None (Some w)) fits in
        ap ended_line e ∙ ap unless_empty (ap without_return is ∙ kept_whole text x other ∙ sym is) ∙ sym (ap last_line e)

none_before : (x : ℕ) (ts : List (List ℕ)) → put_front x ts ≡ [] → ts ≡ []
none_before x [] h = refl
none_before x (t ∷ ts) h = absurd (front_none h)
  where
    front_none : ◌≡◌ {A = List (List ℕ)} ((x ∷ t) ∷ ts) [] → ⊥
    front_none e = cc

cons_none : (t : List ℕ) (ts : List (List ℕ)) → ◌≡◌ {A = List (List ℕ)} (t ∷ ts) [] → ⊥
cons_none t ts e = cc

return_behind : (x : ℕ) (w : List ℕ) (b : Bool) → nat_eq x 10 ≡ b → ended (x ∷ w) ≡ [] → (ended w ≡ [] → ended (w ++ 13 ∷ []) ≡ [])
    → ended (x ∷ (w ++ 13 ∷ [])) ≡ []
unfolding ended
return_behind x w true is h more = absurd (cons_none [] (ended w) (sym (ap (λ b. cond b ([] ∷ ended w) (put_front x (ended w))) is) ∙ h))
return_behind x w false is h more =
    let none : ended w ≡ [] = none_before x (ended w) (sym (ap (λ b. cond b ([] ∷ ended w) (put_front x (ended w))) is) ∙ h) in
    ap (λ b. cond b ([] ∷ ended (w ++ 13 ∷ [])) (put_front x (ended (w ++ 13 ∷ [])))) is ∙ ap (put_front x) (more none)

-- a carriage return behind a text ends no line
unended_return : (w : List ℕ) → ended w ≡ [] → ended (w ++ 13 ∷ []) ≡ []
unfolding ended
unended_return [] h = refl
unended_return (x ∷ w) h = return_behind x w (nat_eq x 10) refl h (unended_return w)

-- the carriage return at the end of a text is the one that is dropped
return_dropped : (w : List ℕ) → without_return (w ++ 13 ∷ []) ≡ w
return_dropped w =
    let all = w ++ 13 ∷ [] in
    let len : length all ≡ length w + 1 = length-append w (13 ∷ []) in
    let at : length all - 1 ≡ length w = omega (arith, len) in
    let some : nat_lt 0 (length all) ≡ true = grind (arith, len) in
    let test : (nat_lt 0 (length all) && nat_eq (slice_index all (length all - 1)) 13) ≡ true =
    ap (λ b. b && nat_eq (slice_index all (length all - 1)) 13) some ∙ ap (λ v. nat_eq v 13) (last_byte w 13) in
    ap (λ b. cond b (take (length all - 1) all) all) test ∙ ap (λ n. take n all) at ∙ take-append_seam w (13 ∷ [])

-- one more carriage return, which the newline drops
pub ends_with_return : (w : List ℕ) → ended w ≡ [] → length w < MAX_LINE → EndsAsClosed w (w ++ (13 ∷ 10 ∷ []))
ends_with_return w h fits =
    let all = w ++ 13 ∷ [] in
    let len : length all ≡ length w + 1 = length-append w (13 ∷ []) in
    let line = whole_line all (unended_return w h) in
    let none = unended_lines w h in
    let parts : w ++ (13 ∷ 10 ∷ []) ≡ all ++ 10 ∷ [] = sym (append_assoc w (13 ∷ []) (10 ∷ [])) in
    let is : ended_line (marked all) ≡ last_line (marked w) =
    ap ended_line (short all (omega (arith, len, fits))) ∙ ap unless_empty (return_dropped w) ∙ sym (ap last_line (short w (omega (arith, fits)))) in (
      ap lines_of parts ∙ line.0 ∙ ap option_to_list is ∙ sym (ap (λ ls. ls ++ option_to_list (last_line (rest_of w))) none.0
          ∙ ap (λ r. option_to_list (last_line r)) none.1),
      ap rest_of parts ∙ line.1,
    )

-- where nothing waits nothing is asked
ends_empty : EndsAsClosed [] []
ends_empty = let none = unended_lines [] ended_nil in (
  none.0 ∙ sym (ap (λ ls. ls ++ option_to_list (last_line (rest_of []))) none.0
      ∙ ap (λ r. option_to_list (last_line r)) none.1),
  none.1,
)

-- ---- the first line

-- what stands up to and with the first newline
pub line_at : (n m : ℕ) (w : List ℕ) → m ≡ n + 1 → n < length w → nat_eq (get_or w n 0) 10 ≡ true → take m w ≡ take n w ++ 10 ∷ []
line_at n m w is lt e =
    let parts = parts_at n w lt e in
    let front : length (take n w ++ 10 ∷ []) ≡ m = omega (arith, is, lt, length-append (take n w) (10 ∷ []), length-take n w) in
    let all : w ≡ (take n w ++ 10 ∷ []) ++ drop 1 (drop n w) = parts ∙ sym (append_assoc (take n w) (10 ∷ []) (drop 1 (drop n w))) in
    sym (ap (λ k. take k w) front) ∙ ap (take (length (take n w ++ 10 ∷ []))) all ∙ take-append_seam (take n w ++ 10 ∷ []) (drop 1 (drop n w))

-- where nothing waits nothing is asked
pub ends_nothing : (w : List ℕ) → length w ≡ 0 → EndsAsClosed w (w ++ [])
ends_nothing [] h = ends_empty
ends_nothing (x ∷ w) h = absurd (omega (arith, h))

-- ---- where a newline stands, and where none does

pub tail_by : (x : ℕ) (w : List ℕ) (b : Bool) → nat_eq x 10 ≡ b → ended (x ∷ w) ≡ [] → ended w ≡ []
unfolding ended
tail_by x w true is h = absurd (cons_none [] (ended w) (sym (ap (λ b. cond b ([] ∷ ended w) (put_front x (ended w))) is) ∙ h))
tail_by x w false is h = none_before x (ended w) (sym (ap (λ b. cond b ([] ∷ ended w) (put_front x (ended w))) is) ∙ h)

pub first_newline : (x : ℕ) (w : List ℕ) → nat_eq x 10 ≡ true → ended (x ∷ w) ≡ [] → ⊥
unfolding ended
first_newline x w is h = cons_none [] (ended w) (sym (ap (λ b. cond b ([] ∷ ended w) (put_front x (ended w))) is) ∙ h)

-- where a newline stands a text ends
pub some_newline : (n : ℕ) (w : List ℕ) → n < length w → nat_eq (get_or w n 0) 10 ≡ true → ended w ≡ [] → ⊥
some_newline n [] lt e h = absurd (omega arith)
some_newline zero (x ∷ w) lt e h = first_newline x w e h
some_newline (suc n) (x ∷ w) lt e h = some_newline n w (omega arith) e (tail_by x w (nat_eq x 10) refl h)

is_newline : (x : ℕ) → nat_eq x 10 ≡ true → x ≡ 10
is_newline x h = grind arith

-- what stands from a newline on begins with it
pub newline_on : (n : ℕ) (w : List ℕ) → n < length w → nat_eq (get_or w n 0) 10 ≡ true → drop n w ≡ 10 ∷ drop 1 (drop n w)
newline_on n [] lt e = absurd (omega arith)
newline_on zero (x ∷ w) lt e = ap (λ y. y ∷ w) (is_newline x e)
newline_on (suc n) (x ∷ w) lt e = newline_on n w (omega arith) e

-- the end of a text without newlines has none
pub unended_drop : (n : ℕ) (w : List ℕ) → ended w ≡ [] → ended (drop n w) ≡ []
unended_drop zero w h = h
unended_drop (suc n) [] h = h
unended_drop (suc n) (x ∷ w) h = unended_drop n w (tail_by x w (nat_eq x 10) refl h)

-- two lines that begin the same bytes are one
pub same_front : (t u r s : List ℕ) → ended t ≡ [] → ended u ≡ [] → (t ++ 10 ∷ []) ++ r ≡ (u ++ 10 ∷ []) ++ s → t ≡ u
same_front [] [] r s p q e = refl
same_front [] (y ∷ u) r s p q e =
    let head : 10 ≡ y = cc in
    absurd (first_newline y u (sym (ap (λ x. nat_eq x 10) head)) q)
same_front (x ∷ t) [] r s p q e =
    let head : x ≡ 10 = cc in
    absurd (first_newline x t (ap (λ y. nat_eq y 10) head) p)
same_front (x ∷ t) (y ∷ u) r s p q e =
    let head : x ≡ y = cc in
    let tails : (t ++ 10 ∷ []) ++ r ≡ (u ++ 10 ∷ []) ++ s = cc in
    ap (λ z. z ∷ t) head ∙ ap (λ v. y ∷ v) (same_front t u r s (tail_by x t (nat_eq x 10) refl p) (tail_by y u (nat_eq y 10) refl q) tails)

-- ---- lines that are counted

pub count_join : (n : ℕ) (xs ys : List ℕ) → count_on n (xs ++ ys) ≡ count_on (count_on n xs) ys
count_join n [] ys = refl
count_join n (x ∷ xs) ys = count_join (cond (nat_eq x 10) (after_line n) n) xs ys

-- a text has no line, and with its newline one
count_text : (n : ℕ) (t : List ℕ) → ended t ≡ [] → count_on n t ≡ n
count_text n [] h = refl
count_text n (x ∷ t) h = by_test (nat_eq x 10) refl (count_text n t (unended_tail x t h))
  where
    by_test : (b : Bool) → nat_eq x 10 ≡ b → count_on n t ≡ n → count_on n (x ∷ t) ≡ n
    by_test true is later = absurd (first_newline x t is h)
    by_test false is later = ap (λ b. count_on (cond b (after_line n) n) t) is ∙ later

pub count_line : (n : ℕ) (line : List ℕ) → IsWholeLine line → count_on n line ≡ after_line n
count_line n line whole =
    ap (count_on n) whole.1 ∙ count_join n whole.0 (10 ∷ []) ∙ ap (λ m. count_on m (10 ∷ [])) (count_text n whole.0 whole.2)
