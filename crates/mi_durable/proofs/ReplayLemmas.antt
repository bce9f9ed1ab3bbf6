-- A journal's lines, one after another.
-- Cited by `replaying::replay` and `replaying::replay_next`.
use Rattle.std.proofs.Common.{◌≡◌, ◌≢◌, ℕ, zero, suc, ◌≤◌, ◌+◌, ◌-◌, ◌<◌, List, [], ◌∷◌, ◌++◌, length, take, drop, get_or, Bool, true, false, ◌&&◌, nat_eq, nat_lt}
use Rattle.std.proofs.Common.{Option, Some, None, Result, Err, refl, sym, ap, ◌∙◌, subst, arith, append_assoc, append-nil}
use Rattle.std.proofs.lemmas.List.{drop_all, drop-drop, get_or-take, length-take}
use Rattle.std.proofs.lemmas.List.Elements.{All-get_or}
use Rattle.std.specs.Prelude.{IfSome}
use Rattle.std.specs.Io.{StopsAt}
use Rattle.std.specs.Io.BufRead.{ends_with_byte}
use Rattle.std.specs.Io.KnownBytes.{Consumes}
use Rattle.mi_commands.specs.Asked.{Asked}
use Rattle.mi_commands.specs.Answer.{answer}
use Rattle.mi_commands.specs.Holder.{HeldDatabase}
use Rattle.mi_hub.specs.Ended.{ended, if_none, after_newlines}
use Rattle.mi_hub.specs.Lines.{lines_of, rest_of, lines_from}
use Rattle.mi_hub.proofs.LineLemmas.{lines_from-nothing, from_unended, from_rests, unended_all, parts_at, after-at}
use Rattle.mi_replay.specs.Replayed.{replayer, replayed}
use Rattle.mi_hub.specs.OneLine.{IsWholeLine}
use Rattle.mi_hub.proofs.OneLineLemmas.{whole_line}
use Rattle.mi_durable.specs.declared.replaying.ReplayFault.{ReplayFault}
use Rattle.mi_durable.specs.declared.replaying.ReplayFault.TheVariants.{Damaged}
use Rattle.mi_durable.specs.Replay.{Onward, Passes, HasPassed, IsTorn}

both_true : (a b : Bool) → (a && b) ≡ true → (a ≡ true) × (b ≡ true)
both_true true b h = (refl, h)
both_true false b h = absurd (cc)

last_below : (m : ℕ) → nat_lt 0 m ≡ true → m - 1 < m
last_below m h = grind arith

is_ten : (x : ℕ) → nat_eq x 10 ≡ true → x ≡ 10
is_ten x h = grind arith

-- no newline stands before the last byte
unended_front : (line : List ℕ) → StopsAt line 10 → ended (take (length line - 1) line) ≡ []
unended_front line stops = unended_all (take (length line - 1) line) (λ k lt e.
    All-get_or (λ (x : ℕ). x ≢ 10) (take (length line - 1) line) k 0 lt stops (is_ten (get_or (take (length line - 1) line) k 0) e))

-- what ends with its one newline is a whole line
pub whole_by : (line : List ℕ) → ends_with_byte 10 line ≡ true → StopsAt line 10 → IsWholeLine line
whole_by line h stops =
    let n = length line - 1 in
    let p = both_true (nat_lt 0 (length line)) (nat_eq (get_or line (length line - 1) 0) 10) h in
    let lt : length line - 1 < length line = last_below (length line) p.0 in
    let tail : drop 1 (drop (length line - 1) line) ≡ [] =
    drop-drop 1 (length line - 1) line ∙ drop_all (length line - 1 + 1) line (omega arith) in (
      take (length line - 1) line,
      parts_at (length line - 1) line lt p.1 ∙ ap (λ t. take (length line - 1) line ++ 10 ∷ t) tail,
      unended_front line stops,
    )

-- ---- onward

replayed-append : (xs ys : List Asked) (s : HeldDatabase) → replayed (xs ++ ys) s ≡ replayed ys (replayed xs s)
replayed-append [] ys s = refl
replayed-append (x ∷ xs) ys s = replayed-append xs ys (answer s replayer x).1

-- a line is read and replayed
pub onward_by : (old new : Option (List ℕ)) (line : List ℕ) (s t : HeldDatabase) → Consumes old new line → IsWholeLine line
    → t ≡ replayed (lines_of line) s → Onward old new s t
onward_by None new line s t c whole h = tt
onward_by (Some all) None line s t c whole h = absurd c
onward_by (Some all) (Some left) line s t c whole h =
    let ends : rest_of line ≡ Some [] = ap rest_of whole.1 ∙ (whole_line whole.0 whole.2).1 in
    let lines : lines_of all ≡ lines_of line ++ lines_of left =
    ap lines_of c ∙ (from_rests line left).0 ∙ ap (λ r. lines_of line ++ lines_from r left) ends
    ∙ ap (λ ls. lines_of line ++ ls) (lines_from-nothing left) in
    let bytes : all ≡ whole.0 ++ 10 ∷ left = c ∙ ap (λ l. l ++ left) whole.1 ∙ append_assoc whole.0 (10 ∷ []) left in (
      ap (replayed (lines_of left)) h ∙ sym (replayed-append (lines_of line) (lines_of left) s) ∙ ap (λ ls. replayed ls s) (sym lines),
      sym (ap after_newlines bytes ∙ after-at whole.0 left whole.2),
    )

pub onward_none : (o : Option (List ℕ)) (s : HeldDatabase) → Onward o o s s
onward_none None s = tt
onward_none (Some all) s = (refl, refl)

pub onward_more : (a b c : Option (List ℕ)) (s t u : HeldDatabase) → Onward a b s t → Onward b c t u → Onward a c s u
onward_more None b c s t u p q = tt
onward_more (Some all) None c s t u p q = absurd p
onward_more (Some all) (Some mid) None s t u p q = absurd q
onward_more (Some all) (Some mid) (Some left) s t u p q = (q.0 ∙ p.0, q.1 ∙ p.1)

-- ---- how many lines were read

pub passed_none : (o : Option (List ℕ)) → HasPassed 0 o o
passed_none None = tt
passed_none (Some all) = refl

pub passed_one : (a b : Option (List ℕ)) (line : List ℕ) → Consumes a b line → IsWholeLine line → HasPassed 1 a b
passed_one None b line c whole = tt
passed_one (Some all) None line c whole = absurd c
passed_one (Some all) (Some left) line c whole = (line, left, whole, c, refl)

passes_then : (n : ℕ) (all mid left : List ℕ) → Passes n all mid → Passes 1 mid left → Passes (suc n) all left
passes_then zero all mid left p q = (q.0, q.1, q.2, sym p ∙ q.3, q.4)
passes_then (suc n) all mid left p q = (p.0, p.1, p.2, p.3, passes_then n p.1 mid left p.4 q)

passed_then : (n : ℕ) (a b c : Option (List ℕ)) → HasPassed n a b → HasPassed 1 b c → HasPassed (suc n) a c
passed_then n None b c p q = tt
passed_then n (Some all) None c p q = absurd p
passed_then n (Some all) (Some mid) None p q = absurd q
passed_then n (Some all) (Some mid) (Some left) p q = passes_then n all mid left p q

-- the line of this number is read, of which the first behind the header is the second
pub passed_more : (number : ℕ) (a b c : Option (List ℕ)) → 2 ≤ number → HasPassed (number - 2) a b → HasPassed 1 b c → HasPassed (number - 1) a c
passed_more number a b c first p q =
    let next : suc (number - 2) ≡ number - 1 = omega (arith, first) in subst (λ n. HasPassed n a c) next (passed_then (number - 2) a b c p q)

-- a fault that is passed on is the same
same_err : {T : Type 0} (y z : ReplayFault) → ◌≡◌ {A = Result T ReplayFault} (Err y) (Err z) → y ≡ z
same_err y z h = cc

pub damaged_as : {T : Type 0} (r : Result T ReplayFault) (y e : ReplayFault) (k : ℕ) → r ≡ Err y → y ≡ e → r ≡ Err (Damaged k)
    → ◌≡◌ {A = Result Bool ReplayFault} (Err e) (Err (Damaged k))
damaged_as r y e k h same is = ap Err (sym same ∙ same_err y (Damaged k) (sym h ∙ is))

-- the number of a damaged line is told as it is
pub damaged_same : (n k : ℕ) → ◌≡◌ {A = Result Bool ReplayFault} (Err (Damaged n)) (Err (Damaged k)) → k ≡ n
damaged_same n k h = cc

-- ---- the end

after_unended : (xs : List ℕ) → ended xs ≡ [] → after_newlines xs ≡ xs
unfolding after_newlines
after_unended [] h = refl
after_unended (b ∷ bs) h = ap (λ ts. if_none ts (b ∷ bs) (after_newlines bs)) h

-- no newline stands in bytes that don't end with one, and have none before the last
unended_by : (line : List ℕ) → StopsAt line 10 → ends_with_byte 10 line ≡ false → ended line ≡ []
unended_by line stops h = unended_all line (λ k lt e. by_place k lt e (nat_lt k (length line - 1)) refl)
  where
    some_bytes : (k : ℕ) → k < length line → nat_lt 0 (length line) ≡ true
    some_bytes k lt = grind arith

    by_place : (k : ℕ) → k < length line → nat_eq (get_or line k 0) 10 ≡ true → (b : Bool) → nat_lt k (length line - 1) ≡ b → ⊥
    by_place k lt e true is =
        let below : k < length line - 1 = grind arith in
        let within : k < length (take (length line - 1) line) = omega (arith, length-take (length line - 1) line) in
        All-get_or (λ (x : ℕ). x ≢ 10) (take (length line - 1) line) k 0 within stops
        (get_or-take (length line - 1) line k 0 below ∙ is_ten (get_or line k 0) e)
    by_place k lt e false is =
        let at : k ≡ length line - 1 = grind arith in
        let some : nat_lt 0 (length line) ≡ true = some_bytes k lt in
        let last : nat_eq (get_or line (length line - 1) 0) 10 ≡ true = ap (λ n. nat_eq (get_or line n 0) 10) (sym at) ∙ e in
        let test : (nat_lt 0 (length line) && nat_eq (get_or line (length line - 1) 0) 10) ≡ true =
        ap (λ b. b && nat_eq (get_or line (length line - 1) 0) 10) some ∙ last in
        let bad : true ≡ false = sym test ∙ h in
        absurd (cc)

-- a reader that is at its end has given all that it had left, and no line ends there
pub torn_by : (old new : Option (List ℕ)) (line : List ℕ) → Consumes old new line → IfSome old (λ bytes. new ≡ Some []) → StopsAt line 10
    → ends_with_byte 10 line ≡ false → IfSome old (λ bytes. IsTorn bytes line)
torn_by None new line c h stops other = tt
torn_by (Some xs) new line c h stops other =
    let given : xs ≡ line ++ [] = subst (λ o. Consumes (Some xs) o line) h c in
    let all : xs ≡ line = given ∙ append-nil line in
    let none : ended xs ≡ [] = ap ended all ∙ unended_by line stops other in (
      sym (lines_from-nothing xs) ∙ (from_unended (Some []) xs none).0,
      sym (after_unended xs none ∙ all),
    )

-- at the end of a replay the database is what all lines leave
pub replayed_all : (old new : Option (List ℕ)) (line : List ℕ) (s t : HeldDatabase) → Onward old new s t → IfSome new (λ bytes. IsTorn bytes line)
    → IfSome old (λ bytes. t ≡ replayed (lines_of bytes) s)
replayed_all None new line s t p torn = tt
replayed_all (Some all) None line s t p torn = absurd p
replayed_all (Some all) (Some left) line s t p torn = sym (ap (λ ls. replayed ls t) torn.0) ∙ p.0

pub torn_all : (old new : Option (List ℕ)) (line : List ℕ) (s t : HeldDatabase) → Onward old new s t → IfSome new (λ bytes. IsTorn bytes line)
    → IfSome old (λ bytes. line ≡ after_newlines bytes)
torn_all None new line s t p torn = tt
torn_all (Some all) None line s t p torn = absurd p
torn_all (Some all) (Some left) line s t p torn = torn.1 ∙ p.1
