-- Lines as they stand in bytes: each that is read comes behind those before it.
-- Cited by `noting::note_lines` and `noting::note_next`.
use Rattle.std.proofs.Common.{◌≡◌, ◌⊎◌, ℕ, zero, suc, ◌<◌, ◌≤◌, ◌+◌, ◌-◌, List, [], ◌∷◌, ◌++◌, length, take, drop, get_or, Bool, true, false, ◌&&◌, nat_eq, nat_lt}
use Rattle.std.proofs.Common.{Option, Some, None, refl, sym, ap, ◌∙◌, subst, arith, append_assoc, append-nil}
use Rattle.std.proofs.lemmas.List.{get_or-take, length-take}
use Rattle.std.proofs.lemmas.List.Elements.{All-get_or}
use Rattle.std.specs.Prelude.{◌≢◌, IfSome}
use Rattle.std.specs.Io.{StopsAt}
use Rattle.std.specs.Io.BufRead.{ends_with_byte}
use Rattle.std.specs.Io.KnownBytes.{Consumes}
use Rattle.mi_commands.specs.Asked.{Asked}
use Rattle.mi_hub.specs.Ended.{ended}
use Rattle.mi_hub.specs.Lines.{lines_of}
use Rattle.mi_hub.specs.OneLine.{IsWholeLine}
use Rattle.mi_hub.proofs.LineLemmas.{unended_all}
use Rattle.mi_front.specs.Noted.{Lines, Gives, HasGiven, GivesAll}

-- ---- one line, and the end

-- a whole line was read, and is one that is asked
pub given_one : (a b : Option (List ℕ)) (line : List ℕ) (asked : Asked) → Consumes a b line → IsWholeLine line → lines_of line ≡ asked ∷ []
    → HasGiven a (asked ∷ []) b
given_one None b line asked c whole is = tt
given_one (Some all) None line asked c whole is = absurd c
given_one (Some all) (Some left) line asked c whole is = (line, left, whole, c, is, refl)

is_ten : (x : ℕ) → nat_eq x 10 ≡ true → x ≡ 10
is_ten x h = grind arith

-- no newline stands in bytes that don't end with one, and have none before the last
pub unended_by : (line : List ℕ) → StopsAt line 10 → ends_with_byte 10 line ≡ false → ended line ≡ []
unended_by line stops h = unended_all line (λ k lt e. by_place k lt e (nat_lt k (length line - 1)) refl)
  where
    some_bytes : (k : ℕ) → k < length line → nat_lt 0 (length line) ≡ true
    some_bytes k lt = grind arith

    by_place : (k : ℕ) → k < length line → nat_eq (get_or line k 0) 10 ≡ true → (b : Bool) → nat_lt k (length line - 1) ≡ b → ⊥
    by_place k lt e true is =
        let below : k < length line - 1 = grind arith in
        let within : k < length (take (length line - 1) line) = omega (arith, length-take (length line - 1) line) in
        All-get_or (λ (x : ℕ). x ≢ 10) (take (length line - 1) line) k 0 within stops
        (get_or-take (length line - 1) line k 0 below ∙ is_ten (get_or line k 0) e)
    by_place k lt e false is =
        let at : k ≡ length line - 1 = grind arith in
        let some : nat_lt 0 (length line) ≡ true = some_bytes k lt in
        let last : nat_eq (get_or line (length line - 1) 0) 10 ≡ true = ap (λ n. nat_eq (get_or line n 0) 10) (sym at) ∙ e in
        let test : (nat_lt 0 (length line) && nat_eq (get_or line (length line - 1) 0) 10) ≡ true =
        ap (λ b. b && nat_eq (get_or line (length line - 1) 0) 10) some ∙ last in
        let bad : true ≡ false = sym test ∙ h in
        absurd (cc)

-- a reader that is at its end has given all that it had left
abbrev pub IsLast : Option (List ℕ) → List ℕ → Type 0
IsLast old line = IfSome old (λ bytes. (line ≡ bytes) × (ended bytes ≡ []))

pub last_by : (old new : Option (List ℕ)) (line : List ℕ) → Consumes old new line → IfSome old (λ bytes. new ≡ Some []) → ended line ≡ [] → IsLast old line
last_by None new line c h none = tt
last_by (Some xs) new line c h none =
    let given : xs ≡ line ++ [] = subst (λ o. Consumes (Some xs) o line) h c in
    let all : xs ≡ line = given ∙ append-nil line in
    (sym all, ap ended all ∙ none)

-- ---- lines one behind another

gives_then : (xs ys : Lines) (all mid left : List ℕ) → Gives all xs mid → Gives mid ys left → Gives all (xs ++ ys) left
gives_then [] ys all mid left p q = subst (λ m. Gives m ys left) p q
gives_then (x ∷ xs) ys all mid left p q = (p.0, p.1, p.2, p.3, p.4, gives_then xs ys p.1 mid left p.5 q)

pub given_none : (a : Option (List ℕ)) → HasGiven a [] a
given_none None = tt
given_none (Some all) = refl

pub given_then : (xs ys : Lines) (a b c : Option (List ℕ)) → HasGiven a xs b → HasGiven b ys c → HasGiven a (xs ++ ys) c
given_then xs ys None b c p q = tt
given_then xs ys (Some all) None c p q = absurd p
given_then xs ys (Some all) (Some mid) None p q = absurd q
given_then xs ys (Some all) (Some mid) (Some left) p q = gives_then xs ys all mid left p q

pub given_all : (xs : Lines) (a b : Option (List ℕ)) (last : List ℕ) → HasGiven a xs b → IsLast b last → GivesAll a xs last
given_all xs None b last p q = tt
given_all xs (Some all) None last p q = absurd p
given_all xs (Some all) (Some left) last p q = (subst (Gives all xs) (sym q.0) p, ap ended q.0 ∙ q.1)
