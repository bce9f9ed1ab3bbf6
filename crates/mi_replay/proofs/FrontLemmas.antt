-- A front of a journal is the journal of a front of the run, but for the undos of a holder that goes away.
-- Cited by `laws::files_grow_by_lines` and `laws::fronts_replay`.
use Rattle.std.proofs.Common.{◌≡◌, ℕ, zero, suc, ◌+◌, ◌-◌, ◌≤◌, ◌<◌, List, [], ◌∷◌, ◌++◌, replicate, Bool, true, false, length}
use Rattle.std.proofs.Common.{refl, sym, ap, ◌∙◌, subst, arith, inl, inr, ◌⊎◌, append_assoc, append-nil, Some, option_to_list}
use Rattle.mi_commands.specs.Asked.{Asked}
use Rattle.mi_commands.specs.Holder.{HeldDatabase, is_busy, held_count, held_by, released}
use Rattle.mi_replay.specs.Acts.{Act, asks, leaves, Acts}
use Rattle.mi_replay.specs.Journal.{undo_line, Keeps, JournalOf}
use Rattle.mi_replay.specs.Replayed.{replayer, replayed, unheld}
use Rattle.mi_replay.specs.ReplayLaws.{FrontOf, FrontsReplay, TornFilesReplay, FilesGrowByLines}
use Rattle.mi_replay.proofs.AnswerLemmas.{Twin, held_by_holder, held_by_other}
use Rattle.mi_replay.proofs.ReplayLemmas.{Behind, twin_run, twin_opens, twin_undos, released_same, same_less, replayed_append}
use Rattle.mi_replay.proofs.JoinLemmas.{journals_join}
use Rattle.mi_hub.specs.Ended.{ended, after_newlines}
use Rattle.mi_hub.specs.Lines.{marked, ended_line, lines_of, rest_of, lines_from, rest_from}
use Rattle.mi_hub.proofs.LineLemmas.{from_rests, from_ended, lines_from-nothing, rest_from-nothing}

-- ---- two ways to cut a list in two

-- the first front is as long as the second or longer, and this is what it has more; or it is shorter, and this is what it lacks
abbrev Longer : {A : Type 0} → List A → List A → List A → List A → Type 0
Longer {A} a b c d = (more : List A) × (a ≡ c ++ more) × (d ≡ more ++ b)

abbrev Shorter : {A : Type 0} → List A → List A → Type 0
Shorter {A} a c = (x : A) × (xs : List A) × (c ≡ a ++ x ∷ xs)

two_cuts : {A : Type 0} (a b c d : List A) → a ++ b ≡ c ++ d → Longer a b c d ⊎ Shorter a c
two_cuts [] b [] d is = inl ([], refl, sym is)
two_cuts [] b (y ∷ c) d is = inr (y, c, refl)
two_cuts (x ∷ a) b [] d is = inl (x ∷ a, refl, sym is)
two_cuts (x ∷ a) b (y ∷ c) d is = elim (two_cuts a b c d (tails is)) [
  | inl p ↦ inl (p.0, ap (λ z. z ∷ a) (heads is) ∙ ap (λ zs. y ∷ zs) p.1, p.2)
  | inr p ↦ inr (p.0, p.1, ap (λ z. z ∷ c) (sym (heads is)) ∙ ap (λ zs. x ∷ zs) p.2)
]
  where
    tails : {A : Type 0} {x y : A} {xs ys : List A} → x ∷ xs ≡ y ∷ ys → xs ≡ ys
    tails h = cc

    heads : {A : Type 0} {x y : A} {xs ys : List A} → x ∷ xs ≡ y ∷ ys → x ≡ y
    heads h = cc

-- a front of equal elements, and not all of them
front_of_equal : {A : Type 0} (n : ℕ) (z x : A) (a xs : List A) → replicate n z ≡ a ++ x ∷ xs → (a ≡ replicate (length a) z) × (length a < n)
front_of_equal zero z x [] xs is = absurd (cc)
front_of_equal zero z x (y ∷ a) xs is = absurd (cc)
front_of_equal (suc n) z x [] xs is = (refl, omega arith)
front_of_equal (suc n) z x (y ∷ a) xs is =
    let rest = front_of_equal n z x a xs (tails is) in (ap (λ w. w ∷ a) (sym (heads is)) ∙ ap (λ ws. z ∷ ws) rest.0, omega arith)
  where
    tails : {A : Type 0} {x y : A} {xs ys : List A} → x ∷ xs ≡ y ∷ ys → xs ≡ ys
    tails h = cc

    heads : {A : Type 0} {x y : A} {xs ys : List A} → x ∷ xs ≡ y ∷ ys → x ≡ y
    heads h = cc

front_of_none : {A : Type 0} (x : A) (a xs : List A) → [] ≡ a ++ x ∷ xs → a ≡ []
front_of_none x [] xs is = refl
front_of_none x (y ∷ a) xs is = absurd (cc)

front_of_one : {A : Type 0} (z x : A) (a xs : List A) → z ∷ [] ≡ a ++ x ∷ xs → a ≡ []
front_of_one z x [] xs is = refl
front_of_one z x (y ∷ a) xs is = absurd (not_nil x a xs (tails is))
  where
    tails : {A : Type 0} {x y : A} {xs ys : List A} → x ∷ xs ≡ y ∷ ys → xs ≡ ys
    tails h = cc

    not_nil : {A : Type 0} (x : A) (a xs : List A) → [] ≡ a ++ x ∷ xs → ⊥
    not_nil x [] xs h = cc
    not_nil x (y ∷ a) xs h = cc

-- ---- the front of the run

-- nothing of the journal is there
none_yet : (old new : HeldDatabase) (acts : List Act) (front rest : List Asked) → JournalOf old acts (front ++ rest) new → front ≡ []
    → FrontOf old acts front rest new
none_yet old new acts front rest p is = record {
  before = [];
  after = acts;
  parts = refl;
  mid = old;
  kept = [];
  journal = (refl, refl);
  left = front ++ rest;
  goes_on = p;
  whole = refl;
  undos = 0;
  lines = is;
  going = inl refl;
}

-- the front ends within what one act keeps
within_act : (act : Act) (acts : List Act) (kept front rest xs : List Asked) (x : Asked) (old mid new : HeldDatabase)
    → JournalOf old (act ∷ acts) (front ++ rest) new → Keeps old act mid kept → kept ≡ front ++ x ∷ xs → FrontOf old (act ∷ acts) front rest new
within_act (asks conn line reply) acts kept front rest xs x old mid new p (inl out) is =
    none_yet old new (asks conn line reply ∷ acts) front rest p (front_of_none x front xs (sym out.0 ∙ is))
within_act (asks conn line reply) acts kept front rest xs x old mid new p (inr put) is =
    none_yet old new (asks conn line reply ∷ acts) front rest p (front_of_one line x front xs (sym put.0 ∙ is))
within_act (leaves conn) acts kept front rest xs x old mid new p keeps is =
    let part = front_of_equal (held_by conn old.holder) undo_line x front xs (sym keeps ∙ is) in record {
      before = [];
      after = leaves conn ∷ acts;
      parts = refl;
      mid = old;
      kept = [];
      journal = (refl, refl);
      left = front ++ rest;
      goes_on = p;
      whole = refl;
      undos = length front;
      lines = part.0;
      going = inr (conn, acts, refl, part.1);
    }

-- one act more before the front
one_before : (act : Act) (acts : List Act) (kept front more rest : List Asked) (old mid new : HeldDatabase) → Acts old act mid → Keeps old act mid kept
    → front ≡ kept ++ more → FrontOf mid acts more rest new → FrontOf old (act ∷ acts) front rest new
one_before act acts kept front more rest old mid new done keeps is at = record {
  before = act ∷ at.before;
  after = at.after;
  parts = ap (λ ls. act ∷ ls) at.parts;
  mid = at.mid;
  kept = kept ++ at.kept;
  journal = (mid, kept, at.kept, done, keeps, at.journal, refl);
  left = at.left;
  goes_on = at.goes_on;
  whole = ap (λ ls. ls ++ rest) is ∙ append_assoc kept more rest ∙ ap (λ ls. kept ++ ls) at.whole ∙ sym (append_assoc kept at.kept at.left);
  undos = at.undos;
  lines = is ∙ ap (λ ls. kept ++ ls) at.lines ∙ sym (append_assoc kept at.kept (replicate at.undos undo_line));
  going = at.going;
}

pub front_of : (acts : List Act) (front rest : List Asked) (old new : HeldDatabase) → JournalOf old acts (front ++ rest) new
    → FrontOf old acts front rest new
front_of [] front rest old new p = none_yet old new [] front rest p (nothing front p.0)
  where
    nothing : (front : List Asked) → front ++ rest ≡ [] → front ≡ []
    nothing [] h = refl
    nothing (x ∷ front) h = absurd (cc)
front_of (act ∷ acts) front rest old new p = elim (two_cuts front rest p.1 p.2 p.6) [
  | inl q ↦ one_before act acts p.1 front q.0 rest old p.0 new p.3 p.4 q.1
      (front_of acts q.0 rest p.0 new (subst (λ ls. JournalOf p.0 acts ls new) q.2 p.5))
  | inr q ↦ within_act act acts p.1 front rest q.1 q.0 old p.0 new p p.4 q.2
]

-- ---- the front asked again

most_undos : (old new : HeldDatabase) (acts : List Act) (front rest : List Asked) (at : FrontOf old acts front rest new) → at.undos ≤ held_count at.mid.holder
most_undos old new acts front rest at = elim at.going [
  | inl none ↦ omega arith
  | inr some ↦ by_busy some.0 some.3 (is_busy at.mid.holder some.0) refl
]
  where
    by_busy : (conn : ℕ) → at.undos < held_by conn at.mid.holder → (b : Bool) → is_busy at.mid.holder conn ≡ b → at.undos ≤ held_count at.mid.holder
    by_busy conn less true busy = let none : held_by conn at.mid.holder ≡ 0 = held_by_other conn at.mid.holder busy in absurd (omega arith)
    by_busy conn less false free = let all : held_by conn at.mid.holder ≡ held_count at.mid.holder = held_by_holder conn at.mid.holder free in omega arith

front_behind : (old t new : HeldDatabase) (acts : List Act) (front rest : List Asked) → Twin old t → (at : FrontOf old acts front rest new)
    → Behind at.undos at.mid (replayed front t)
front_behind old t new acts front rest twin at =
    subst (λ u. Behind at.undos at.mid u) (sym (ap (λ ls. replayed ls t) at.lines ∙ replayed_append at.kept (replicate at.undos undo_line) t))
    (twin_undos at.undos at.mid (replayed at.kept t) (twin_run at.before at.kept old at.mid t at.journal twin) (most_undos old new acts front rest at))

-- so many undos more, and as many again
replicate_more : (k n : ℕ) → replicate k undo_line ++ replicate n undo_line ≡ replicate (k + n) undo_line
replicate_more zero n = ap (λ m. replicate m undo_line) (zero_add n)
  where
    zero_add : (n : ℕ) → n ≡ 0 + n
    zero_add n = omega arith
replicate_more (suc k) n = ap (λ ls. undo_line ∷ ls) (replicate_more k n) ∙ ap (λ m. replicate m undo_line) (suc_add k n)
  where
    suc_add : (k n : ℕ) → suc (k + n) ≡ suc k + n
    suc_add k n = omega arith

-- a front with the undos that it lacks
mended_front : (old t new : HeldDatabase) (acts : List Act) (front rest : List Asked) (at : FrontOf old acts front rest new) → Behind at.undos at.mid t
    → (conn : ℕ) → is_busy at.mid.holder conn ≡ false
    → JournalOf old (at.before ++ leaves conn ∷ []) (front ++ replicate (held_by replayer t.holder) undo_line) (released conn at.mid)
mended_front old t new acts front rest at left conn free =
    let mine = held_by_holder replayer t.holder left.free in
    let theirs = held_by_holder conn at.mid.holder free in
    let most = most_undos old new acts front rest at in
    let count : held_count t.holder ≡ held_count at.mid.holder - at.undos = left.count in
    let total : at.undos + held_by replayer t.holder ≡ held_by conn at.mid.holder = omega arith in
    let leave : JournalOf at.mid (leaves conn ∷ []) (replicate (held_by conn at.mid.holder) undo_line) (released conn at.mid)
    = (released conn at.mid, replicate (held_by conn at.mid.holder) undo_line, [], refl, refl, (refl, refl), sym (append-nil _)) in
    subst (λ ls. JournalOf old (at.before ++ leaves conn ∷ []) ls (released conn at.mid))
    (sym (ap (λ ls. ls ++ replicate (held_by replayer t.holder) undo_line) at.lines
    ∙ append_assoc at.kept (replicate at.undos undo_line) (replicate (held_by replayer t.holder) undo_line)
    ∙ ap (λ ls. at.kept ++ ls) (replicate_more at.undos (held_by replayer t.holder)) ∙ ap (λ n. at.kept ++ replicate n undo_line) total))
    (journals_join old at.mid (released conn at.mid) at.before (leaves conn ∷ []) at.kept _ at.journal leave)

pub fronts_replay : FrontsReplay
fronts_replay d first later lines front rest mid new p q =
    let at = front_of later front rest mid new q in
    let again = replayed (lines ++ front) (unheld d) in
    let twin = twin_run first lines (unheld d) mid (unheld d) p (twin_opens d) in
    let left : Behind at.undos at.mid again = subst (λ u. Behind at.undos at.mid u) (sym (replayed_append lines front (unheld d)))
    (front_behind mid (replayed lines (unheld d)) new later front rest twin at) in record {
      at = at;
      same = same_less at.undos at.mid again left;
      ended = λ conn free. released_same at.undos at.mid again conn left (most_undos mid new later front rest at) free;
      mended = λ conn free. journals_join (unheld d) mid (released conn at.mid) first (at.before ++ leaves conn ∷ []) lines
          (front ++ replicate (held_by replayer again.holder) undo_line) p (mended_front mid again new later front rest at left conn free);
    }

pub torn_files_replay : TornFilesReplay
torn_files_replay d first later mid new whole part lost ends p q = (
  (from_rests whole part).0 ∙ ap (λ ls. lines_of whole ++ ls) (ap (λ r. lines_from r part) ends ∙ lines_from-nothing part),
  lines_from (rest_of part) lost,
  fronts_replay d first later (lines_of whole) (lines_of part) (lines_from (rest_of part) lost) mid new p
      (subst (λ ls. JournalOf mid later ls new) (from_rests part lost).0 q),
)

pub files_grow_by_lines : FilesGrowByLines
unfolding ended after_newlines
files_grow_by_lines whole bytes ends unended =
    let grown = from_rests whole (bytes ++ 10 ∷ []) in
    let line = from_ended (Some []) bytes [] unended in (
      grown.0 ∙ ap (λ r. lines_of whole ++ lines_from r (bytes ++ 10 ∷ [])) ends
          ∙ ap (λ ls. lines_of whole ++ ls) (line.0 ∙ ap (λ ls. option_to_list (ended_line (marked bytes)) ++ ls) (lines_from-nothing [])
          ∙ append-nil (option_to_list (ended_line (marked bytes)))),
      grown.1 ∙ ap (λ r. rest_from r (bytes ++ 10 ∷ [])) ends ∙ line.1 ∙ rest_from-nothing [],
    )
