-- What is heard of bytes, by where their newlines stand.
-- Cited by `Client::read`, `Input::fill`, `lines::first_line` and `lines::heard_of`.
use Rattle.std.proofs.Common.{◌≡◌, ℕ, zero, suc, ◌<◌, List, [], ◌∷◌, ◌++◌, length, take, get_or, Bool, true, false, ◌&&◌, cond, nat_eq, inl, inr, refl, sym, ap, subst, ◌∙◌}
use Rattle.std.proofs.Common.{arith, append-nil}
use Rattle.mi_hub.specs.Ended.{ended, put_front, if_none}
use Rattle.mi_clients.specs.Heard.{first_line, is_foreign, heard, still_first, is_last}
use Rattle.mi_clients.specs.Lines.{SameLines, IsKept}
use Rattle.mi_clients.specs.Input.{waiting}
use Rattle.mi_clients.specs.Client.{Hears}
use Rattle.mi_clients.specs.declared.client.Client.{Client}
use Rattle.mi_clients.specs.declared.client.Phase.TheVariants.{Open}
use Rattle.mi_clients.specs.declared.input.Input.{Input}
use Rattle.mi_clients.proofs.InputLemmas.{first_newline, tail_by, unended_back}
use Rattle.mi_clients.proofs.ClientsLemmas.{true_false}

not_true : (b : Bool) → (b ≡ true → ⊥) → b ≡ false
not_true true h = absurd (h refl)
not_true false h = refl

-- what stands up to and with the first newline
pub first_at : (n : ℕ) (w : List ℕ) → n < length w → nat_eq (get_or w n 0) 10 ≡ true → ((k : ℕ) → k < n → nat_eq (get_or w k 0) 10 ≡ true → ⊥)
    → first_line w ≡ take (suc n) w
first_at n [] lt is before = absurd (omega arith)
first_at zero (x ∷ w) lt is before = ap (λ b. cond b (x ∷ []) (x ∷ first_line w)) is
first_at (suc n) (x ∷ w) lt is before =
    ap (λ b. cond b (x ∷ []) (x ∷ first_line w)) (not_true (nat_eq x 10) (before 0 (omega arith)))
    ∙ ap (λ t. x ∷ t) (first_at n w (omega arith) is (λ k less. before (suc k) (omega arith)))

first_by : (x : ℕ) (w p : List ℕ) (b : Bool) → nat_eq x 10 ≡ b → ended (x ∷ w) ≡ [] → (ended w ≡ [] → first_line (w ++ p) ≡ w ++ first_line p)
    → first_line (x ∷ (w ++ p)) ≡ x ∷ (w ++ first_line p)
first_by x w p true is h more = absurd (first_newline x w is h)
first_by x w p false is h more = ap (λ b. cond b (x ∷ []) (x ∷ first_line (w ++ p))) is ∙ ap (λ t. x ∷ t) (more (tail_by x w false is h))

-- behind bytes without a newline
pub first_behind : (w p : List ℕ) → ended w ≡ [] → first_line (w ++ p) ≡ w ++ first_line p
first_behind [] p h = refl
first_behind (x ∷ w) p h = first_by x w p (nat_eq x 10) refl h (first_behind w p)

pub first_all : (w : List ℕ) → ended w ≡ [] → first_line w ≡ w
first_all w h = ap first_line (sym (append-nil w)) ∙ first_behind w [] h ∙ append-nil w

join_by : (x : ℕ) (w p : List ℕ) (b : Bool) → nat_eq x 10 ≡ b → ended (x ∷ w) ≡ [] → (ended w ≡ [] → ended (w ++ p) ≡ []) → ended (x ∷ (w ++ p)) ≡ []
unfolding ended
join_by x w p true is h more = absurd (first_newline x w is h)
join_by x w p false is h more =
    ap (λ b. cond b ([] ∷ ended (w ++ p)) (put_front x (ended (w ++ p)))) is ∙ ap (put_front x) (more (tail_by x w false is h))

-- neither part has a newline
unended_join : (w p : List ℕ) → ended w ≡ [] → ended p ≡ [] → ended (w ++ p) ≡ []
unended_join [] p h k = k
unended_join (x ∷ w) p h k = join_by x w p (nat_eq x 10) refl h (λ none. unended_join w p none k)

-- what is heard behind the beginning of a line
pub heard_foreign : (first : Bool) (w p : List ℕ) → ended w ≡ [] → (first && is_foreign (w ++ p)) ≡ true → w ++ first_line p ≡ heard first (w ++ p)
heard_foreign first w p h is = sym (ap (λ b. cond b (first_line (w ++ p)) (w ++ p)) is ∙ first_behind w p h)

-- what is kept of a piece without newlines has none
pub unended_kept : (w p k : List ℕ) → IsKept w p k → ended p ≡ [] → ended k ≡ []
unended_kept w p k (inl long) none = unended_back long.1.0 k (sym (ap ended long.1.1) ∙ none)
unended_kept w p k (inr all) none = ap ended all.1 ∙ none

pub unended_filled : (w p k : List ℕ) → ended w ≡ [] → IsKept w p k → ended p ≡ [] → ended (w ++ k) ≡ []
unended_filled w p k h kept none = unended_join w k h (unended_kept w p k kept none)

-- ---- whether the first line is still to come

cons_none : (t : List ℕ) (ts : List (List ℕ)) → ◌≡◌ {A = List (List ℕ)} (t ∷ ts) [] → ⊥
cons_none t ts e = cc

same_answer : (a b : Bool) → (a ≡ true → b ≡ true) → (b ≡ true → a ≡ true) → a ≡ b
same_answer true b p q = sym (p refl)
same_answer false true p q = q refl
same_answer false false p q = refl

last_says : (ts : List (List ℕ)) (first foreign : Bool) → if_none ts false (first && foreign) ≡ true → (first ≡ true) × (foreign ≡ true) × ¬ (ts ≡ [])
last_says [] first foreign is = absurd (true_false false is refl)
last_says (t ∷ ts) true true is = (refl, refl, cons_none t ts)
last_says (t ∷ ts) true false is = absurd (true_false false is refl)
last_says (t ∷ ts) false foreign is = absurd (true_false false is refl)

last_where : (ts : List (List ℕ)) (first foreign : Bool) → first ≡ true → foreign ≡ true → ¬ (ts ≡ []) → if_none ts false (first && foreign) ≡ true
last_where [] first foreign p q some = absurd (some refl)
last_where (t ∷ ts) first foreign p q some = ap (λ b. b && foreign) p ∙ q

still_says : (ts : List (List ℕ)) (first : Bool) → if_none ts first false ≡ true → (first ≡ true) × (ts ≡ [])
still_says [] first is = (is, refl)
still_says (t ∷ ts) first is = absurd (true_false false is refl)

still_where : (ts : List (List ℕ)) (first : Bool) → first ≡ true → ts ≡ [] → if_none ts first false ≡ true
still_where ts first p none = ap (λ us. if_none us first false) none ∙ p

-- what a piece says of the bytes that it stands behind, in which no newline is
module _ (w p : List ℕ) (h : ended w ≡ []) where
  pub last_is : (first r : Bool) → (r ≡ true → (first ≡ true) × (is_foreign (w ++ p) ≡ true) × ¬ (ended p ≡ []))
      → ((first ≡ true) × (is_foreign (w ++ p) ≡ true) × ¬ (ended p ≡ []) → r ≡ true) → r ≡ is_last first (w ++ p)
  last_is first r says where_so = same_answer r (is_last first (w ++ p))
      (λ is. let all = says is in last_where (ended (w ++ p)) first (is_foreign (w ++ p)) all.0 all.1 (λ none. all.2 (unended_back w p none)))
      (λ is. let all = last_says (ended (w ++ p)) first (is_foreign (w ++ p)) is in
      where_so (all.0, all.1, λ none. all.2 (unended_join w p h none)))

  pub still_is : (first r : Bool) → (r ≡ true → (first ≡ true) × (ended p ≡ [])) → ((first ≡ true) × (ended p ≡ []) → r ≡ true)
      → r ≡ still_first first (w ++ p)
  still_is first r says where_so = same_answer r (still_first first (w ++ p))
      (λ is. let all = says is in still_where (ended (w ++ p)) first all.0 (unended_join w p h all.1))
      (λ is. let all = still_says (ended (w ++ p)) first is in where_so (all.0, unended_back w p all.1))

  -- of bytes without a newline all is heard
  pub heard_unended : (first : Bool) (q : List ℕ) → ended p ≡ [] → w ++ q ≡ heard first (w ++ p) → ended q ≡ []
  heard_unended first q none is = unended_back w q (ap ended (is ∙ by_test (first && is_foreign (w ++ p))) ∙ unended_join w p h none)
    where
      by_test : (b : Bool) → cond b (first_line (w ++ p)) (w ++ p) ≡ w ++ p
      by_test true = first_all (w ++ p) (unended_join w p h none)
      by_test false = refl

-- ---- where nothing has come

if_none_same : (ts : List (List ℕ)) → if_none ts false false ≡ false
if_none_same [] = refl
if_none_same (t ∷ ts) = refl

nothing_heard : (first : Bool) (w : List ℕ) → (first ≡ true → ended w ≡ [])
    → (heard first w ≡ w) × (first ≡ still_first first w) × (is_last first w ≡ true → ⊥)
nothing_heard true w unended =
    let none = unended refl in (
      by_test (is_foreign w),
      sym (ap (λ ts. if_none ts true false) none),
      λ is. true_false (is_last true w) is (ap (λ ts. if_none ts false (is_foreign w)) none),
    )
  where
    by_test : (b : Bool) → cond b (first_line w) w ≡ w
    by_test true = first_all w (unended refl)
    by_test false = refl
nothing_heard false w unended = (refl, sym (if_none_same (ended w)), λ is. true_false (is_last false w) is (if_none_same (ended w)))

module _ {S : Type 0} where
  -- where nothing comes all is as it was
  pub hears_none : (c d : Client S) → d.input ≡ c.input → Hears (waiting c.input ++ []) [] c d
  hears_none c d same =
      let all = nothing_heard c.input.is_first (waiting c.input) c.input.first in
      subst (λ w. SameLines (heard c.input.is_first w) (waiting d.input) × (d.input.is_first ≡ still_first c.input.is_first w)
      × (is_last c.input.is_first w ≡ true → ¬ (d.phase ≡ Open))) (sym (append-nil (waiting c.input))) (
        subst (λ i. SameLines (heard c.input.is_first (waiting c.input)) (waiting i)) (sym same)
            (subst (λ w. SameLines w (waiting c.input)) (sym all.0) (refl, refl)),
        ap (λ (i : Input). i.is_first) same ∙ all.1,
        λ last. absurd (all.2 last),
      )

  -- it had the same input before
  pub hears_from : (a b d : Client S) (piece : List ℕ) → b.input ≡ a.input → Hears (waiting b.input ++ piece) [] b d → Hears (waiting a.input ++ piece) [] a d
  hears_from a b d piece same heard_then =
      subst (λ i. SameLines (heard i.is_first (waiting i ++ piece)) (waiting d.input) × (d.input.is_first ≡ still_first i.is_first (waiting i ++ piece))
      × (is_last i.is_first (waiting i ++ piece) ≡ true → ¬ (d.phase ≡ Open))) same heard_then
