-- The first line of a journal, and what is done before the first connection comes.
-- Cited by `journal_text::text_size`, `opening::continued`, `opening::cut_off`, `opening::read_heading`, `HashLemmas` and 1 more.
use Rattle.std.proofs.Common.{◌≡◌, ◌≤◌, ℕ, List, [], ◌∷◌, ◌++◌, ◌<◌, zero, suc, take, get_or, nat_eq, length, Bool, true, false, cond, ◌==◌, Option, Some, None, option_map, Result, Ok, Err, drop, ◌-◌, ◌+◌, refl, sym, ap, ◌∙◌, subst, append-nil, length-append, arith}
use Rattle.std.proofs.Math.Seq.{take-length}
use Rattle.mi_recovery.specs.JournalFile.{text_of, from_byte, IsCutTo}
use Rattle.std.specs.Prelude.{IfOk, IfSome}
use Rattle.std.specs.Io.KnownBytes.{Consumes, IsAtEnd}
use Rattle.mi_hub.specs.Ended.{ended, if_none, after_newlines}
use Rattle.mi_recovery.specs.Recovery.{IsBeginning}

-- a reader that is at its end has given all that it had, and that is a beginning of the header
pub heading_none : (old new : Option (List ℕ)) (line header : List ℕ) → Consumes old new line → IfSome old (λ bytes. new ≡ Some [])
    → IsBeginning header line → IfSome old (IsBeginning header)
heading_none None new line header c h p = tt
heading_none (Some xs) new line header c h p =
    let given : xs ≡ line ++ [] = subst (λ o. Consumes (Some xs) o line) h c in
    subst (IsBeginning header) (sym (given ∙ append-nil line)) p

-- what stands behind the last newline is no longer than all
pub after_within : (bs : List ℕ) → length (after_newlines bs) ≤ length bs
unfolding after_newlines
after_within [] = omega arith
after_within (b ∷ bs) = go (ended (b ∷ bs)) (after_within bs)
  where
    go : (ts : List (List ℕ)) → length (after_newlines bs) ≤ length bs → length (if_none ts (b ∷ bs) (after_newlines bs)) ≤ length (b ∷ bs)
    go [] within = omega arith
    go (t ∷ ts) within = omega (arith, within)

-- ---- the text of a file

-- a piece without zeros is text
text_join : (piece rest : List ℕ) → ((k : ℕ) → k < length piece → nat_eq (get_or piece k 0) 0 ≡ true → ⊥)
    → text_of (piece ++ rest) ≡ piece ++ text_of rest
text_join [] rest none = refl
text_join (b ∷ bs) rest none = by_head (b == 0) refl (text_join bs rest (λ k lt e. none (suc k) (omega arith) e))
  where
    by_head : (t : Bool) → (b == 0) ≡ t → text_of (bs ++ rest) ≡ bs ++ text_of rest → cond (b == 0) [] (b ∷ text_of (bs ++ rest)) ≡ b ∷ (bs ++ text_of rest)
    by_head true is more = absurd (none 0 (omega arith) is)
    by_head false is more = ap (λ t. cond t [] (b ∷ text_of (bs ++ rest))) is ∙ ap (λ l. b ∷ l) more

-- and up to the first zero
text_stop : (i : ℕ) (piece rest : List ℕ) → i < length piece → ((k : ℕ) → k < i → nat_eq (get_or piece k 0) 0 ≡ true → ⊥)
    → nat_eq (get_or piece i 0) 0 ≡ true → length (text_of (piece ++ rest)) ≡ i
text_stop i [] rest lt none is = absurd (omega arith)
text_stop zero (b ∷ bs) rest lt none is = ap (λ t. length (cond t [] (b ∷ text_of (bs ++ rest)))) is
text_stop (suc i) (b ∷ bs) rest lt none is =
    by_head (b == 0) refl (text_stop i bs rest (omega arith) (λ k less e. none (suc k) (omega arith) e) is)
  where
    by_head : (t : Bool) → (b == 0) ≡ t → length (text_of (bs ++ rest)) ≡ i → length (cond (b == 0) [] (b ∷ text_of (bs ++ rest))) ≡ suc i
    by_head true same more = absurd (none 0 (omega arith) same)
    by_head false same more = ap (λ t. length (cond t [] (b ∷ text_of (bs ++ rest)))) same ∙ omega (arith, more)

-- it stands in front
pub text_front : (bs : List ℕ) (n : ℕ) → n ≤ length (text_of bs) → take n bs ≡ take n (text_of bs)
text_front [] n le = refl
text_front (b ∷ bs) n le = by_head (b == 0) refl n le (text_front bs)
  where
    by_head : (t : Bool) → (b == 0) ≡ t → (n : ℕ) → n ≤ length (cond (b == 0) [] (b ∷ text_of bs))
        → ((m : ℕ) → m ≤ length (text_of bs) → take m bs ≡ take m (text_of bs)) → take n (b ∷ bs) ≡ take n (cond (b == 0) [] (b ∷ text_of bs))
    by_head t same zero le more = refl
    by_head true same (suc n) le more = absurd (omega (arith, le, ap (λ t. length (cond t [] (b ∷ text_of bs))) same))
    by_head false same (suc n) le more =
        let len = ap (λ t. length (cond t [] (b ∷ text_of bs))) same in
        ap (λ l. b ∷ l) (more n (omega (arith, le, len))) ∙ sym (ap (λ t. take (suc n) (cond t [] (b ∷ text_of bs))) same)

text_within : (bs : List ℕ) → length (text_of bs) ≤ length bs
text_within [] = omega arith
text_within (b ∷ bs) = by_head (b == 0) refl (text_within bs)
  where
    by_head : (t : Bool) → (b == 0) ≡ t → length (text_of bs) ≤ length bs → length (cond (b == 0) [] (b ∷ text_of bs)) ≤ length (b ∷ bs)
    by_head true same more = omega (arith, ap (λ t. length (cond t [] (b ∷ text_of bs))) same)
    by_head false same more = omega (arith, more, ap (λ t. length (cond t [] (b ∷ text_of bs))) same)

-- and is all where it is as long
pub text_whole : (bs : List ℕ) → length (text_of bs) ≡ length bs → text_of bs ≡ bs
text_whole bs same =
    sym (take-length (text_of bs)) ∙ sym (text_front bs (length (text_of bs)) (omega arith)) ∙ ap (λ n. take n bs) same ∙ take-length bs

-- a file that is cut has the front of its text
pub cut_text : (o new : Option (List ℕ)) (text torn size : ℕ) → IfSome o (λ bytes. text ≡ length (text_of bytes)) → size ≡ text - torn
    → IsCutTo size o new → IfSome o (λ bytes. new ≡ Some (take (text - torn) (text_of bytes)))
cut_text None new text torn size p is cut = tt
cut_text (Some bytes) new text torn size p is cut =
    let le : size ≤ length (text_of bytes) = omega (arith, p, is) in
    cut (omega (arith, le, text_within bytes)) ∙ ap Some (text_front bytes size le ∙ ap (λ n. take n (text_of bytes)) is)

-- a text that is all of its file is a beginning of the header where the file is
pub whole_begins : (o : Option (List ℕ)) (text : ℕ) (header : List ℕ) → IfSome o (λ bytes. text ≡ length (text_of bytes))
    → IfSome o (λ bytes. text ≡ length bytes) → IfSome o (λ bytes. IsBeginning header (text_of bytes)) → IfSome o (IsBeginning header)
whole_begins None text header p q begins = tt
whole_begins (Some bytes) text header p q begins = subst (IsBeginning header) (text_whole bytes (sym p ∙ q)) begins

-- what is read of the text is what is recovered
pub read_text : (o : Option (List ℕ)) (text : ℕ) (P : List ℕ → Type 0) → IfSome o (λ bytes. text ≡ length (text_of bytes))
    → IfSome (option_map (λ bytes. take text bytes) o) P → IfSome o (λ bytes. P (text_of bytes))
read_text None text P p q = tt
read_text (Some bytes) text P p q =
    subst P (text_front bytes text (omega (arith, p)) ∙ ap (λ n. take n (text_of bytes)) p ∙ take-length (text_of bytes)) q

pub weaker : {X E : Type 0} (P Q : X → Type 0) (r : Result X E) → IfOk r P → ((x : X) → P x → Q x) → IfOk r Q
weaker P Q (Ok x) p f = f x p
weaker P Q (Err e) p f = tt

-- ---- how long a text is

-- a look for a zero has come so far
abbrev pub text_far : Option (List ℕ) → ℕ → Type 0
text_far o at = IfSome o (λ bytes. length (text_of bytes) ≡ at + length (text_of (drop at bytes)))

pub far_start : (o : Option (List ℕ)) → text_far o 0
far_start None = tt
far_start (Some bytes) = omega arith

pub far_more : (o : Option (List ℕ)) (at n : ℕ) (piece : List ℕ) → text_far o at → Consumes (from_byte o at) (from_byte o (at + n)) piece
    → length piece ≡ n → ((k : ℕ) → k < length piece → nat_eq (get_or piece k 0) 0 ≡ true → ⊥) → text_far o (at + n)
far_more None at n piece far read len none = tt
far_more (Some bytes) at n piece far read len none =
    let rest = drop (at + n) bytes in
    let one : length (text_of (drop at bytes)) ≡ length piece + length (text_of rest) =
    ap (λ l. length (text_of l)) read ∙ ap length (text_join piece rest none) ∙ length-append piece (text_of rest) in
    omega (arith, far, one, len)

pub far_end : (o : Option (List ℕ)) (at : ℕ) → text_far o at → IsAtEnd (from_byte o at) → IfSome o (λ bytes. at ≡ length (text_of bytes))
far_end None at far end = tt
far_end (Some bytes) at far end =
    let none : length (text_of (drop at bytes)) ≡ 0 = ap (λ l. length (text_of l)) end in
    omega (arith, far, none)

pub far_stop : (o : Option (List ℕ)) (at n i : ℕ) (piece : List ℕ) → text_far o at → Consumes (from_byte o at) (from_byte o (at + n)) piece
    → i < length piece → ((k : ℕ) → k < i → nat_eq (get_or piece k 0) 0 ≡ true → ⊥) → nat_eq (get_or piece i 0) 0 ≡ true
    → IfSome o (λ bytes. at + i ≡ length (text_of bytes))
far_stop None at n i piece far read lt none is = tt
far_stop (Some bytes) at n i piece far read lt none is =
    let one : length (text_of (drop at bytes)) ≡ i =
    ap (λ l. length (text_of l)) read ∙ text_stop i piece (drop (at + n) bytes) lt none is in
    omega (arith, far, one)
