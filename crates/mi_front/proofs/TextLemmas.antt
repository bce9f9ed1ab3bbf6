-- The lines of a text: they are what is asked of it, and those behind a place are the others.
-- Cited by `laws::lines_are_asked`, `texts::note_file`, `texts::note_text`, `ClosedLemmas` and `FrontLemmas`.
use Rattle.std.proofs.Common.{◌≡◌, ℕ, zero, suc, ◌≤◌, ◌+◌, List, [], ◌∷◌, ◌++◌, length, take, drop, Bool, true, false, cond, nat_eq, Option, Some, None, option_map}
use Rattle.std.proofs.Common.{refl, sym, ap, ◌∙◌, subst, arith, append_assoc, append-nil}
use Rattle.std.specs.Prelude.{IfSome}
use Rattle.mi_commands.specs.Asked.{Asked}
use Rattle.mi_commands.specs.Holder.{HeldDatabase}
use Rattle.mi_hub.specs.Ended.{put_front, ended, after_newlines, if_none}
use Rattle.mi_hub.specs.Lines.{lines_of, rest_of, lines_from}
use Rattle.mi_hub.specs.OneLine.{IsWholeLine}
use Rattle.mi_hub.proofs.LineLemmas.{lines_from-nothing, from_unended, from_rests, after-at}
use Rattle.mi_hub.proofs.OneLineLemmas.{whole_line}
use Rattle.mi_replay.specs.Replayed.{replayed}
use Rattle.mi_durable.specs.Replay.{Passes, HasPassed}
use Rattle.mi_recovery.specs.declared.opening.Journaled.{Journaled}
use Rattle.mi_recovery.specs.declared.opening.Journaled.TheVariants.{Nothing, Journal}
use Rattle.mi_recovery.specs.JournalFile.{text_of}
use Rattle.mi_recovery.specs.Recovery.{HasHeader, IsBeginning}
use Rattle.mi_recovery.specs.Segments.{IsAsked}
use Rattle.mi_recovery.proofs.OpeningLemmas.{read_text}
use Rattle.mi_front.specs.Noted.{Lines, Gives, GivesAll}
use Rattle.mi_front.specs.Front.{HasLines, LinesAreAsked}

pub has_lines : (a b c : Option (List ℕ)) (header last : List ℕ) (skip torn : ℕ) (lines : Lines) → HasHeader header a b → HasPassed skip b c
    → GivesAll c lines last → torn ≡ length last → IfSome a (λ bytes. HasLines header skip bytes (Journal torn) lines)
has_lines None b c header last skip torn lines p q given is = tt
has_lines (Some text) None c header last skip torn lines p q given is = absurd p
has_lines (Some text) (Some rest) None header last skip torn lines p q given is = absurd q
has_lines (Some text) (Some rest) (Some left) header last skip torn lines p q given is = (rest, left, last, p, q, given.0, given.1, is)

-- no more than a beginning of the header has none
pub no_lines : (o : Option (List ℕ)) (header : List ℕ) (skip : ℕ) → IfSome o (IsBeginning header) → IfSome o (λ bytes. HasLines header skip bytes Nothing [])
no_lines None header skip begins = tt
no_lines (Some text) header skip begins = (begins, refl)

-- what is read of the text is the text
pub has_text : (o known : Option (List ℕ)) (size : ℕ) (header same : List ℕ) (skip : ℕ) (found : Journaled) (lines : Lines)
    → IfSome o (λ bytes. size ≡ length (text_of bytes)) → known ≡ option_map (λ bytes. take size bytes) o → header ≡ same
    → IfSome known (λ bytes. HasLines header skip bytes found lines) → IfSome o (λ bytes. HasLines same skip (text_of bytes) found lines)
has_text o known size header same skip found lines p is head q =
    read_text o size (λ bytes. HasLines same skip bytes found lines) p
    (subst (λ h. IfSome (option_map (λ bytes. take size bytes) o) (λ bytes. HasLines h skip bytes found lines)) head
    (subst (λ k. IfSome k (λ bytes. HasLines header skip bytes found lines)) is q))

-- ---- what is asked of them

after_unended : (xs : List ℕ) → ended xs ≡ [] → after_newlines xs ≡ xs
unfolding after_newlines
after_unended [] h = refl
after_unended (b ∷ bs) h = ap (λ ts. if_none ts (b ∷ bs) (after_newlines bs)) h

-- all lines of these bytes are those that were given and those of what is left, and the torn bytes are the same
gives_lines : (lines : Lines) (all left : List ℕ) → Gives all lines left
    → (lines_of all ≡ lines ++ lines_of left) × (after_newlines all ≡ after_newlines left)
gives_lines [] all left p = (ap lines_of (sym p), ap after_newlines (sym p))
gives_lines (asked ∷ lines) all left p =
    let more = gives_lines lines p.1 left p.5 in
    let ends : rest_of p.0 ≡ Some [] = ap rest_of p.2.1 ∙ (whole_line p.2.0 p.2.2).1 in
    let cut : lines_of all ≡ lines_of p.0 ++ lines_of p.1 =
    ap lines_of p.3 ∙ (from_rests p.0 p.1).0 ∙ ap (λ r. lines_of p.0 ++ lines_from r p.1) ends ∙ ap (λ ls. lines_of p.0 ++ ls) (lines_from-nothing p.1) in
    let bytes : all ≡ p.2.0 ++ 10 ∷ p.1 = p.3 ∙ ap (λ l. l ++ p.1) p.2.1 ∙ append_assoc p.2.0 (10 ∷ []) p.1 in (
      cut ∙ ap (λ ls. ls ++ lines_of p.1) p.4 ∙ ap (λ ls. asked ∷ ls) more.0,
      ap after_newlines bytes ∙ after-at p.2.0 p.1 p.2.2 ∙ more.1,
    )

-- a byte that is a newline ends a text
never : (b : ℕ) (t : List ℕ) → b ≡ 10 → ended (b ∷ t) ≡ [] → ⊥
unfolding ended
never b t same none = let ends : ended (10 ∷ t) ≡ [] = subst (λ x. ended (x ∷ t) ≡ []) same none in absurd (cc)

front_none : (b : ℕ) (ts : List (List ℕ)) → put_front b ts ≡ [] → ts ≡ []
front_none b [] h = refl
front_none b (t ∷ ts) h = absurd (cc)

unended-tail : (b : ℕ) (t : List ℕ) → ended (b ∷ t) ≡ [] → ended t ≡ []
unfolding ended
unended-tail b t none = by_test (nat_eq b 10) none
  where
    by_test : (same : Bool) → cond same ([] ∷ ended t) (put_front b (ended t)) ≡ [] → ended t ≡ []
    by_test true h = absurd (cc)
    by_test false h = front_none b (ended t) h

-- what stands behind a front and a newline
same_tail : (h x y : List ℕ) → h ++ 10 ∷ x ≡ h ++ 10 ∷ y → x ≡ y
same_tail [] x y e = cc
same_tail (b ∷ h) x y e = same_tail h x y (let same : h ++ 10 ∷ x ≡ h ++ 10 ∷ y = cc in same)

-- no other bytes stand behind so many whole lines
one_rest : (t u x y : List ℕ) → ended t ≡ [] → ended u ≡ [] → t ++ 10 ∷ x ≡ u ++ 10 ∷ y → x ≡ y
one_rest [] [] x y p q e = cc
one_rest [] (b ∷ u) x y p q e = absurd (never b u (let same : 10 ≡ b = cc in sym same) q)
one_rest (a ∷ t) [] x y p q e = absurd (never a t (let same : a ≡ 10 = cc in same) p)
one_rest (a ∷ t) (b ∷ u) x y p q e = one_rest t u x y (unended-tail a t p) (unended-tail b u q) (let same : t ++ 10 ∷ x ≡ u ++ 10 ∷ y = cc in same)

one_passes : (n : ℕ) (all x y : List ℕ) → Passes n all x → Passes n all y → x ≡ y
one_passes zero all x y p q = p ∙ sym q
one_passes (suc n) all x y p q =
    let first : all ≡ p.2.0 ++ 10 ∷ p.1 = p.3 ∙ ap (λ l. l ++ p.1) p.2.1 ∙ append_assoc p.2.0 (10 ∷ []) p.1 in
    let second : all ≡ q.2.0 ++ 10 ∷ q.1 = q.3 ∙ ap (λ l. l ++ q.1) q.2.1 ∙ append_assoc q.2.0 (10 ∷ []) q.1 in
    let same : p.1 ≡ q.1 = one_rest p.2.0 q.2.0 p.1 q.1 p.2.2 q.2.2 (sym first ∙ second) in
    one_passes n p.1 x y p.4 (subst (λ l. Passes n l y) (sym same) q.4)

-- all lines of what is left are those that were given
left_lines : (lines : Lines) (left last : List ℕ) → Gives left lines last → ended last ≡ [] → (lines_of left ≡ lines) × (after_newlines left ≡ last)
left_lines lines left last p none =
    let given = gives_lines lines left last p in
    let no_more : lines_of last ≡ [] = sym (lines_from-nothing last) ∙ (from_unended (Some []) last none).0 in
    (given.0 ∙ ap (λ ls. lines ++ ls) no_more ∙ append-nil lines, given.1 ∙ after_unended last none)

-- they are the lines that are asked of this text
pub lines_asked : (header text : List ℕ) (skip : ℕ) (found : Journaled) (lines : Lines) (old new : HeldDatabase) → HasLines header skip text found lines
    → new ≡ replayed lines old → IsAsked header skip text found old new
lines_asked header text skip Nothing lines old new p leaves = (p.0, leaves ∙ ap (λ ls. replayed ls old) p.1)
lines_asked header text skip (Journal torn) lines old new p leaves =
    let all = left_lines lines p.1 p.2 p.5 p.6 in
    (p.0, p.1, p.3, p.4, (leaves ∙ ap (λ ls. replayed ls old) (sym all.0), p.7 ∙ ap length (sym all.1)))

asked_lines : (header text : List ℕ) (skip : ℕ) (found : Journaled) (lines : Lines) (old new : HeldDatabase) → HasLines header skip text found lines
    → IsAsked header skip text found old new → new ≡ replayed lines old
asked_lines header text skip Nothing lines old new p q = q.1 ∙ ap (λ ls. replayed ls old) (sym p.1)
asked_lines header text skip (Journal torn) lines old new p q =
    let same : p.0 ≡ q.0 = same_tail header p.0 q.0 (sym p.3 ∙ q.2) in
    let left : p.1 ≡ q.1 = one_passes skip p.0 p.1 q.1 p.4 (subst (λ l. Passes skip l q.1) (sym same) q.3) in
    q.4.0 ∙ ap (λ l. replayed (lines_of l) old) (sym left) ∙ ap (λ ls. replayed ls old) (left_lines lines p.1 p.2 p.5 p.6).0

pub lines_are_asked : LinesAreAsked
lines_are_asked header text skip found lines old new has =
    (asked_lines header text skip found lines old new has, lines_asked header text skip found lines old new has)

-- ---- those behind a place

gives_behind : (k : ℕ) (lines : Lines) (all last : List ℕ) → k ≤ length lines → Gives all lines last
    → (left : List ℕ) × Passes k all left × Gives left (drop k lines) last
gives_behind zero lines all last within p = (all, refl, p)
gives_behind (suc k) [] all last within p = absurd (omega arith)
gives_behind (suc k) (asked ∷ lines) all last within p =
    let more = gives_behind k lines p.1 last (omega arith) p.5 in (more.0, (p.0, p.1, p.2, p.3, more.1), more.2)

passes_more : (n k : ℕ) (all mid left : List ℕ) → Passes n all mid → Passes k mid left → Passes (n + k) all left
passes_more zero k all mid left p q = subst (λ j. Passes j all left) nothing (subst (λ m. Passes k m left) p q)
  where
    nothing : k ≡ 0 + k
    nothing = omega arith
passes_more (suc n) k all mid left p q =
    subst (λ j. Passes j all left) next (p.0, p.1, p.2, p.3, passes_more n k p.1 mid left p.4 q)
  where
    next : suc (n + k) ≡ suc n + k
    next = omega arith

pub lines_behind : (k : ℕ) (header text : List ℕ) (skip : ℕ) (found : Journaled) (lines : Lines) → k ≤ length lines → HasLines header skip text found lines
    → HasLines header (skip + k) text found (drop k lines)
lines_behind k header text skip Nothing lines within p = (p.0, ap (drop k) p.1 ∙ none k)
  where
    none : (n : ℕ) → ◌≡◌ {A = Lines} (drop n []) []
    none zero = refl
    none (suc n) = refl
lines_behind k header text skip (Journal torn) lines within p =
    let more = gives_behind k lines p.1 p.2 within p.5 in
    (p.0, more.0, p.2, p.3, passes_more skip k p.0 p.1 more.0 p.4 more.1, more.2, p.6, p.7)
