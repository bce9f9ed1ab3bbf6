-- How the lines of bytes come together from those of their parts.
-- Cited by `laws::lines_in_pieces`, `line::ended_text`, 5 more, `mi_clients`, `mi_durable`, `mi_recovery` and `mi_replay`.
use Rattle.std.proofs.Common.{◌≡◌, ℕ, zero, suc, ◌<◌, List, [], ◌∷◌, ◌++◌, length, take, drop, get_or, Bool, true, false, cond, nat_lt, nat_eq, Option}
use Rattle.std.proofs.Common.{Some, None, map, option_to_list, refl, sym, ap, ◌∙◌, arith, rules, append_assoc, append-nil, length-append, inl, inr, ◌⊎◌}
use Rattle.std.specs.List.{filter_map, cons_option}
use Rattle.std.proofs.lemmas.List.Elements.{filter_map-append}
use Rattle.std.proofs.lemmas.List.{map-append}
use Rattle.mi_value.specs.declared.limits.TheConstants.{MAX_LINE}
use Rattle.mi_hub.specs.Ended.{put_front, ended, if_none, after_newlines}
use Rattle.mi_commands.specs.Asked.{Asked}
use Rattle.mi_hub.specs.Lines.{marked, ended_line, lines_of, rest_of, extended, behind, lines_from, rest_from}
use Rattle.mi_hub.specs.LineLaws.{StandsFor}

some_is : {A : Type 0} {x : A} {xs : List A} → x ∷ xs ≡ [] → ⊥
some_is h = cc

if_none-some : {A : Type 0} (ts : List (List ℕ)) (x y : A) → (ts ≡ [] → ⊥) → if_none ts x y ≡ y
if_none-some [] x y h = absurd (h refl)
if_none-some (t ∷ ts) x y h = refl

if_none-none : {A : Type 0} (ts : List (List ℕ)) (x y : A) → ts ≡ [] → if_none ts x y ≡ x
if_none-none ts x y h = ap (λ us. if_none us x y) h

none_or : (ts : List (List ℕ)) → (ts ≡ []) ⊎ (ts ≡ [] → ⊥)
none_or [] = inl refl
none_or (t ∷ ts) = inr (λ h. some_is h)

test_of : (b : Bool) → (b ≡ true) ⊎ (b ≡ false)
test_of true = inl refl
test_of false = inr refl

put_front-none : (b : ℕ) (ts : List (List ℕ)) → put_front b ts ≡ [] → ts ≡ []
put_front-none b [] h = refl
put_front-none b (t ∷ ts) h = absurd (some_is h)

put_front-append : (y : ℕ) (ts us : List (List ℕ)) → (ts ≡ [] → ⊥) → put_front y (ts ++ us) ≡ put_front y ts ++ us
put_front-append y [] us k = absurd (k refl)
put_front-append y (t ∷ ts) us k = refl

-- ---- one byte

pub ended_nil : ended [] ≡ []
unfolding ended
ended_nil = refl

after-nil : after_newlines [] ≡ []
unfolding after_newlines
after-nil = refl

ended-newline : (b : ℕ) (bs : List ℕ) → nat_eq b 10 ≡ true → ended (b ∷ bs) ≡ [] ∷ ended bs
unfolding ended
ended-newline b bs h = ap (λ t. cond t ([] ∷ ended bs) (put_front b (ended bs))) h

ended-other : (b : ℕ) (bs : List ℕ) → nat_eq b 10 ≡ false → ended (b ∷ bs) ≡ put_front b (ended bs)
unfolding ended
ended-other b bs h = ap (λ t. cond t ([] ∷ ended bs) (put_front b (ended bs))) h

after-some : (b : ℕ) (bs : List ℕ) → (ended (b ∷ bs) ≡ [] → ⊥) → after_newlines (b ∷ bs) ≡ after_newlines bs
unfolding after_newlines
after-some b bs h = if_none-some (ended (b ∷ bs)) _ _ h

after-none : (b : ℕ) (bs : List ℕ) → ended (b ∷ bs) ≡ [] → after_newlines (b ∷ bs) ≡ b ∷ bs
unfolding after_newlines
after-none b bs h = if_none-none (ended (b ∷ bs)) _ _ h

-- where no newline stands, all is the rest
after-unended : (a : List ℕ) → ended a ≡ [] → after_newlines a ≡ a
after-unended [] h = after-nil
after-unended (b ∷ bs) h = after-none b bs h

some-newline : (x : ℕ) (a : List ℕ) → nat_eq x 10 ≡ true → ended (x ∷ a) ≡ [] → ⊥
some-newline x a is e = some_is (sym (ended-newline x a is) ∙ e)

some-other : (x : ℕ) (a : List ℕ) → nat_eq x 10 ≡ false → (ended a ≡ [] → ⊥) → ended (x ∷ a) ≡ [] → ⊥
some-other x a other some e = some (put_front-none x (ended a) (sym (ended-other x a other) ∙ e))

-- what follows the last newline has none
ended-after : (a : List ℕ) → ended (after_newlines a) ≡ []
ended-after [] = ap ended after-nil ∙ ended_nil
ended-after (x ∷ a) =
    elim (none_or (ended (x ∷ a))) [
      | inl none ↦ ap ended (after-none x a none) ∙ none
      | inr some ↦ ap ended (after-some x a some) ∙ ended-after a
    ]

-- ---- a followed by b

ended-append-none : (a b : List ℕ) → ended a ≡ [] → ended (a ++ b) ≡ ended a ++ ended (after_newlines a ++ b)
ended-append-none a b h = ap (λ t. ended (t ++ b)) (sym (after-unended a h)) ∙ ap (λ ts. ts ++ ended (after_newlines a ++ b)) (sym h)

ended-append : (a b : List ℕ) → ended (a ++ b) ≡ ended a ++ ended (after_newlines a ++ b)
ended-append [] b = ended-append-none [] b ended_nil
ended-append (x ∷ a) b =
    elim (test_of (nat_eq x 10)) [
      | inl is ↦
          ended-newline x (a ++ b) is ∙ ap (λ ts. [] ∷ ts) (ended-append a b)
          ∙ ap (λ t. ([] ∷ ended a) ++ ended (t ++ b)) (sym (after-some x a (some-newline x a is)))
          ∙ ap (λ ts. ts ++ ended (after_newlines (x ∷ a) ++ b)) (sym (ended-newline x a is))
      | inr other ↦ elim (none_or (ended a)) [
        | inl none ↦ ended-append-none (x ∷ a) b (ended-other x a other ∙ ap (put_front x) none)
        | inr some ↦
            ended-other x (a ++ b) other ∙ ap (put_front x) (ended-append a b)
            ∙ put_front-append x (ended a) _ some
            ∙ ap (λ t. put_front x (ended a) ++ ended (t ++ b)) (sym (after-some x a (some-other x a other some)))
            ∙ ap (λ ts. ts ++ ended (after_newlines (x ∷ a) ++ b)) (sym (ended-other x a other))
      ]
    ]

append-none : {A : Type 0} (xs ys : List A) → xs ++ ys ≡ [] → xs ≡ []
append-none [] ys h = refl
append-none (x ∷ xs) ys h = absurd (some_is h)

after-append : (a b : List ℕ) → after_newlines (a ++ b) ≡ after_newlines (after_newlines a ++ b)
after-append [] b = ap (λ t. after_newlines (t ++ b)) (sym after-nil)
after-append (x ∷ a) b =
    elim (none_or (ended (x ∷ a))) [
      | inl none ↦ ap (λ t. after_newlines (t ++ b)) (sym (after-none x a none))
      | inr some ↦
          let more : ended (x ∷ (a ++ b)) ≡ [] → ⊥ = λ e. some (append-none (ended (x ∷ a)) _ (sym (ended-append (x ∷ a) b) ∙ e)) in
          after-some x (a ++ b) more ∙ after-append a b ∙ ap (λ t. after_newlines (t ++ b)) (sym (after-some x a some))
    ]

-- ---- a text with no newline before b

-- x in front of the first text
abbrev pub put_text : List ℕ → List (List ℕ) → List (List ℕ)
put_text x [] = []
put_text x (t ∷ ts) = (x ++ t) ∷ ts

put_front-put_text : (b : ℕ) (x : List ℕ) (ts : List (List ℕ)) → put_front b (put_text x ts) ≡ put_text (b ∷ x) ts
put_front-put_text b x [] = refl
put_front-put_text b x (t ∷ ts) = refl

put_text-nil : (ts : List (List ℕ)) → ts ≡ put_text [] ts
put_text-nil [] = refl
put_text-nil (t ∷ ts) = refl

ended-joined : (x b : List ℕ) → ended x ≡ [] → ended (x ++ b) ≡ put_text x (ended b)
ended-joined [] b h = put_text-nil (ended b)
ended-joined (y ∷ x) b h =
    elim (test_of (nat_eq y 10)) [
      | inl is ↦ absurd (some-newline y x is h)
      | inr other ↦
          ended-other y (x ++ b) other
          ∙ ap (put_front y) (ended-joined x b (put_front-none y (ended x) (sym (ended-other y x other) ∙ h)))
          ∙ put_front-put_text y x (ended b)
    ]

-- two texts with no newline join to one
unended_append : (x y : List ℕ) → ended x ≡ [] → ended y ≡ [] → ended (x ++ y) ≡ []
unended_append x y h k = ended-joined x y h ∙ ap (put_text x) k

-- a text, its newline, and what follows
ended-at : (x b : List ℕ) → ended x ≡ [] → ended (x ++ 10 ∷ b) ≡ x ∷ ended b
ended-at x b h = ended-joined x (10 ∷ b) h ∙ ap (put_text x) (ended-newline 10 b refl) ∙ ap (λ t. t ∷ ended b) (append-nil x)

unended-tail : (z : ℕ) (y : List ℕ) → ended (z ∷ y) ≡ [] → ended y ≡ []
unended-tail z y k = elim (test_of (nat_eq z 10)) [
  | inl is ↦ absurd (some-newline z y is k)
  | inr other ↦ put_front-none z (ended y) (sym (ended-other z y other) ∙ k)
]

put_text-some : (x : List ℕ) (ts : List (List ℕ)) → put_text x ts ≡ [] → ts ≡ []
put_text-some x [] h = refl
put_text-some x (t ∷ ts) h = absurd (some_is h)

-- where a newline follows, a text in front changes nothing of what is left
after-joined : (x b : List ℕ) → ended x ≡ [] → (ended b ≡ [] → ⊥) → after_newlines (x ++ b) ≡ after_newlines b
after-joined [] b h some = refl
after-joined (y ∷ x) b h some =
    after-some y (x ++ b) (λ e. some (put_text-some (y ∷ x) (ended b) (sym (ended-joined (y ∷ x) b h) ∙ e)))
    ∙ after-joined x b (unended-tail y x h) some

pub after-at : (x b : List ℕ) → ended x ≡ [] → after_newlines (x ++ 10 ∷ b) ≡ after_newlines b
after-at x b h = after-joined x (10 ∷ b) h (some-newline 10 b refl) ∙ after-some 10 b (some-newline 10 b refl)

-- ---- where the first newline stands

is_newline : (x : ℕ) → nat_eq x 10 ≡ true → x ≡ 10
is_newline x h = grind arith

no_newline : (x : ℕ) → (nat_eq x 10 ≡ true → ⊥) → nat_eq x 10 ≡ false
no_newline x h = elim (test_of (nat_eq x 10)) [ inl is ↦ absurd (h is) | inr other ↦ other ]

pub unended_take : (n : ℕ) (xs : List ℕ) → ((k : ℕ) → k < n → nat_eq (get_or xs k 0) 10 ≡ true → ⊥) → ended (take n xs) ≡ []
unended_take zero xs h = ended_nil
unended_take (suc n) [] h = ended_nil
unended_take (suc n) (x ∷ xs) h =
    ended-other x (take n xs) (no_newline x (h 0 (omega arith))) ∙ ap (put_front x) (unended_take n xs (λ k lt e. h (suc k) (omega arith) e))

pub unended_all : (xs : List ℕ) → ((k : ℕ) → k < length xs → nat_eq (get_or xs k 0) 10 ≡ true → ⊥) → ended xs ≡ []
unended_all [] h = ended_nil
unended_all (x ∷ xs) h =
    ended-other x xs (no_newline x (h 0 (omega arith))) ∙ ap (put_front x) (unended_all xs (λ k lt e. h (suc k) (omega arith) e))

pub parts_at : (n : ℕ) (xs : List ℕ) → n < length xs → nat_eq (get_or xs n 0) 10 ≡ true → xs ≡ take n xs ++ 10 ∷ drop 1 (drop n xs)
parts_at n [] h e = absurd (omega arith)
parts_at zero (x ∷ xs) h e = ap (λ y. y ∷ xs) (is_newline x e)
parts_at (suc n) (x ∷ xs) h e = ap (λ ys. x ∷ ys) (parts_at n xs (omega arith) e)

-- ---- over-long texts

pub marked-long : (t : List ℕ) → MAX_LINE < length t → marked t ≡ None
marked-long t h = let e : nat_lt MAX_LINE (length t) ≡ true = search (rules, arith) in ap (λ b. cond b None (Some t)) e

long-marked : (t : List ℕ) → marked t ≡ None → MAX_LINE < length t
long-marked t h = elim (test_of (nat_lt MAX_LINE (length t))) [
  | inl is ↦ grind (arith, is)
  | inr other ↦ absurd (none_some (sym h ∙ ap (λ b. cond b None (Some t)) other))
]
  where
    none_some : {u : List ℕ} → None ≡ Some u → ⊥
    none_some k = cc

marked-text : (t u : List ℕ) → marked t ≡ Some u → t ≡ u
marked-text t u h = elim (test_of (nat_lt MAX_LINE (length t))) [
  | inl is ↦ absurd (none_some (sym (ap (λ b. cond b None (Some t)) is) ∙ h))
  | inr other ↦ same (sym (ap (λ b. cond b None (Some t)) other) ∙ h)
]
  where
    none_some : {v : List ℕ} → None ≡ Some v → ⊥
    none_some k = cc

    same : {v w : List ℕ} → Some v ≡ Some w → v ≡ w
    same k = cc

-- texts of one mark have one mark with whatever is added
marked-append : (x y t : List ℕ) → marked x ≡ marked y → marked (x ++ t) ≡ marked (y ++ t)
marked-append x y t h = by_mark (marked x) refl
  where
    by_mark : (m : Option (List ℕ)) → marked x ≡ m → marked (x ++ t) ≡ marked (y ++ t)
    by_mark None e =
        let long_x : MAX_LINE < length x = long-marked x e in
        let long_y : MAX_LINE < length y = long-marked y (sym h ∙ e) in
        marked-long (x ++ t) (omega (arith, length-append x t)) ∙ sym (marked-long (y ++ t) (omega (arith, length-append y t)))
    by_mark (Some u) e = ap (λ v. marked (v ++ t)) (marked-text x u e ∙ sym (marked-text y u (sym h ∙ e)))

-- ---- lines

abbrev kept_line : List ℕ → Option Asked
kept_line t = ended_line (marked t)

first_alike : (x y : List ℕ) (ts : List (List ℕ)) → marked x ≡ marked y → filter_map kept_line (put_text x ts) ≡ filter_map kept_line (put_text y ts)
first_alike x y [] h = refl
first_alike x y (t ∷ ts) h = ap (λ m. cons_option (ended_line m) (filter_map kept_line ts)) (marked-append x y t h)

-- Texts with no newline that have one mark stand for one another.
lines-stand : (x y b : List ℕ) → ended x ≡ [] → ended y ≡ [] → marked x ≡ marked y → lines_of (x ++ b) ≡ lines_of (y ++ b)
lines-stand x y b h k same =
    ap (filter_map kept_line) (ended-joined x b h) ∙ first_alike x y (ended b) same ∙ sym (ap (filter_map kept_line) (ended-joined y b k))

rest-stand : (x y b : List ℕ) → ended x ≡ [] → ended y ≡ [] → marked x ≡ marked y → rest_of (x ++ b) ≡ rest_of (y ++ b)
rest-stand x y b h k same =
    elim (none_or (ended b)) [
      | inl none ↦
          ap marked (after-unended (x ++ b) (unended_append x b h none)) ∙ marked-append x y b same
          ∙ sym (ap marked (after-unended (y ++ b) (unended_append y b k none)))
      | inr some ↦ ap marked (after-joined x b h some) ∙ sym (ap marked (after-joined y b k some))
    ]

lines-append : (a b : List ℕ) → lines_of (a ++ b) ≡ lines_of a ++ lines_of (after_newlines a ++ b)
lines-append a b = ap (filter_map kept_line) (ended-append a b) ∙ filter_map-append kept_line (ended a) (ended (after_newlines a ++ b))

pub in_pieces : (a b x : List ℕ) → StandsFor x (rest_of a) → (lines_of (a ++ b) ≡ lines_of a ++ lines_of (x ++ b)) × (rest_of (a ++ b) ≡ rest_of (x ++ b))
in_pieces a b x h = (
  lines-append a b ∙ ap (λ ls. lines_of a ++ ls) (lines-stand (after_newlines a) x b (ended-after a) h.unended (sym h.mark)),
  ap marked (after-append a b) ∙ rest-stand (after_newlines a) x b (ended-after a) h.unended (sym h.mark),
)

-- ---- from a rest

extended-marked : (x t : List ℕ) → extended (marked x) t ≡ marked (x ++ t)
extended-marked x t = by_mark (marked x) refl
  where
    by_mark : (m : Option (List ℕ)) → marked x ≡ m → extended m t ≡ marked (x ++ t)
    by_mark None e = let long : MAX_LINE < length x = long-marked x e in sym (marked-long (x ++ t) (omega (arith, length-append x t)))
    by_mark (Some u) e = ap (λ v. marked (v ++ t)) (sym (marked-text x u e))

extended-twice : (r : Option (List ℕ)) (a b : List ℕ) → extended (extended r a) b ≡ extended r (a ++ b)
extended-twice None a b = refl
extended-twice (Some t) a b = extended-marked (t ++ a) b ∙ ap marked (append_assoc t a b)

filter_map-map : (ts : List (List ℕ)) → filter_map kept_line ts ≡ filter_map ended_line (map marked ts)
filter_map-map [] = refl
filter_map-map (t ∷ ts) = ap (cons_option (ended_line (marked t))) (filter_map-map ts)

behind-joined : (x : List ℕ) (ts : List (List ℕ)) → filter_map kept_line (put_text x ts) ≡ filter_map ended_line (behind (marked x) ts)
behind-joined x [] = refl
behind-joined x (t ∷ ts) = ap (λ m. cons_option (ended_line m) (filter_map kept_line ts)) (sym (extended-marked x t))
    ∙ ap (cons_option (ended_line (extended (marked x) t))) (filter_map-map ts)

-- nothing before
pub lines_from-nothing : (b : List ℕ) → lines_from (Some []) b ≡ lines_of b
lines_from-nothing b = sym (ap (filter_map kept_line) (put_text-nil (ended b)) ∙ behind-joined [] (ended b))

pub rest_from-nothing : (b : List ℕ) → rest_from (Some []) b ≡ rest_of b
rest_from-nothing b = elim (none_or (ended b)) [
  | inl none ↦ if_none-none (ended b) _ _ none ∙ sym (ap marked (after-unended b none))
  | inr some ↦ if_none-some (ended b) _ _ some
]

pub from_rests : (a b : List ℕ) → (lines_of (a ++ b) ≡ lines_of a ++ lines_from (rest_of a) b) × (rest_of (a ++ b) ≡ rest_from (rest_of a) b)
from_rests a b =
    let x = after_newlines a in (
      lines-append a b ∙ ap (λ ls. lines_of a ++ ls) (ap (filter_map kept_line) (ended-joined x b (ended-after a)) ∙ behind-joined x (ended b)),
      elim (none_or (ended b)) [
        | inl none ↦
            ap marked (after-append a b ∙ after-unended (x ++ b) (unended_append x b (ended-after a) none)) ∙ sym (extended-marked x b)
            ∙ sym (if_none-none (ended b) _ _ none)
        | inr some ↦ ap marked (after-append a b ∙ after-joined x b (ended-after a) some) ∙ sym (if_none-some (ended b) _ _ some)
      ],
    )

-- ---- one piece, cut where a line ends or anywhere

-- no line ends here
pub from_unended : (r : Option (List ℕ)) (b : List ℕ) → ended b ≡ [] → (lines_from r b ≡ []) × (rest_from r b ≡ extended r b)
from_unended r b h = (ap (λ ts. filter_map ended_line (behind r ts)) h, if_none-none (ended b) _ _ h)

-- the first line ends here
pub from_ended : (r : Option (List ℕ)) (front back : List ℕ) → ended front ≡ []
    → (lines_from r (front ++ 10 ∷ back) ≡ option_to_list (ended_line (extended r front)) ++ lines_from (Some []) back)
    × (rest_from r (front ++ 10 ∷ back) ≡ rest_from (Some []) back)
from_ended r front back h = (
  ap (λ ts. filter_map ended_line (behind r ts)) (ended-at front back h)
      ∙ first (ended_line (extended r front)) (filter_map ended_line (map marked (ended back)))
      ∙ ap (λ ls. option_to_list (ended_line (extended r front)) ++ ls) (sym (filter_map-map (ended back)) ∙ sym (lines_from-nothing back)),
  if_none-some (ended (front ++ 10 ∷ back)) _ _ (λ e. some_is (sym (ended-at front back h) ∙ e))
      ∙ ap marked (after-at front back h) ∙ sym (rest_from-nothing back),
)
  where
    first : (o : Option Asked) (ls : List Asked) → cons_option o ls ≡ option_to_list o ++ ls
    first None ls = refl
    first (Some l) ls = refl

behind-append : (r : Option (List ℕ)) (t : List ℕ) (ts us : List (List ℕ))
    → filter_map ended_line (behind r ((t ∷ ts) ++ us)) ≡ filter_map ended_line (behind r (t ∷ ts)) ++ filter_map ended_line (map marked us)
behind-append r t ts us =
    ap (λ ms. filter_map ended_line (extended r t ∷ ms)) (map-append marked ts us) ∙ filter_map-append ended_line (extended r t ∷ map marked ts) (map marked us)

behind-extended : (r : Option (List ℕ)) (a : List ℕ) (ts : List (List ℕ))
    → filter_map ended_line (behind r (put_text a ts)) ≡ filter_map ended_line (behind (extended r a) ts)
behind-extended r a [] = refl
behind-extended r a (t ∷ ts) = ap (λ m. cons_option (ended_line m) (filter_map ended_line (map marked ts))) (sym (extended-twice r a t))

pub cut_in_two : (r : Option (List ℕ)) (a b : List ℕ)
    → (lines_from r (a ++ b) ≡ lines_from r a ++ lines_from (rest_from r a) b) × (rest_from r (a ++ b) ≡ rest_from (rest_from r a) b)
cut_in_two r a b = elim (none_or (ended a)) [ inl none ↦ whole none | inr some ↦ apart (ended a) refl some ]
  where
    whole : ended a ≡ [] → (lines_from r (a ++ b) ≡ lines_from r a ++ lines_from (rest_from r a) b) × (rest_from r (a ++ b) ≡ rest_from (rest_from r a) b)
    whole none =
        let kept = (from_unended r a none).1 in (
          ap (λ ts. filter_map ended_line (behind r ts)) (ended-joined a b none) ∙ behind-extended r a (ended b)
              ∙ ap (λ q. lines_from q b) (sym kept) ∙ ap (λ ls. ls ++ lines_from (rest_from r a) b) (sym (from_unended r a none).0),
          elim (none_or (ended b)) [
            | inl nothing ↦
                (from_unended r (a ++ b) (unended_append a b none nothing)).1 ∙ sym (extended-twice r a b) ∙ ap (λ q. extended q b) (sym kept)
                ∙ sym ((from_unended (rest_from r a) b nothing).1)
            | inr later ↦
                if_none-some (ended (a ++ b)) _ _ (λ e. later (put_text-some a (ended b) (sym (ended-joined a b none) ∙ e)))
                ∙ ap marked (after-joined a b none later) ∙ sym (if_none-some (ended b) _ _ later)
          ],
        )

    apart : (ts : List (List ℕ)) → ended a ≡ ts → (ended a ≡ [] → ⊥)
        → (lines_from r (a ++ b) ≡ lines_from r a ++ lines_from (rest_from r a) b) × (rest_from r (a ++ b) ≡ rest_from (rest_from r a) b)
    apart [] e some = absurd (some e)
    apart (t ∷ ts) e some =
        let kept : rest_from r a ≡ rest_of a = if_none-some (ended a) _ _ some in
        let x = after_newlines a in
        let joined : ended (a ++ b) ≡ (t ∷ ts) ++ put_text x (ended b) = ended-append a b
        ∙ ap (λ us. us ++ ended (x ++ b)) e ∙ ap (λ us. (t ∷ ts) ++ us) (ended-joined x b (ended-after a)) in (
          ap (λ us. filter_map ended_line (behind r us)) joined ∙ behind-append r t ts (put_text x (ended b))
              ∙ ap (λ us. filter_map ended_line (behind r us) ++ filter_map ended_line (map marked (put_text x (ended b)))) (sym e)
              ∙ ap (λ ls. lines_from r a ++ ls) (sym (filter_map-map (put_text x (ended b))) ∙ behind-joined x (ended b) ∙ ap (λ q. lines_from q b) (sym kept)),
          if_none-some (ended (a ++ b)) _ _ (λ f. some_is (sym joined ∙ f)) ∙ (from_rests a b).1 ∙ ap (λ q. rest_from q b) (sym kept),
        )
