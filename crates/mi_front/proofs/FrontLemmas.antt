-- What was asked of each segment and noted, one segment behind another, and where the base stands among its lines.
-- Cited by `front::ask_front`, `row::note_row` and `row::note_segment`.
use Rattle.std.proofs.Common.{◌≡◌, ℕ, ◌<◌, ◌≤◌, ◌+◌, ◌-◌, List, [], ◌∷◌, ◌++◌, length, drop, Option, Some, None, Result, Ok, Err}
use Rattle.std.proofs.Common.{refl, sym, ap, ◌∙◌, subst, arith, length-append, length-drop}
use Rattle.std.specs.Prelude.{IfOk, IfSome, OnOk}
use Rattle.std.specs.String.{string_bytes}
use Rattle.mi_commands.specs.Holder.{HeldDatabase}
use Rattle.mi_model.specs.Database.{depth}
use Rattle.mi_replay.specs.Replayed.{replayed, unheld}
use Rattle.mi_checkpoint.specs.Settled.{AreTaken, IsReplaying}
use Rattle.mi_checkpoint.specs.OpenStarts.{Starts, StandsAt, IsTold, IsCheckpoint, BaseReplays}
use Rattle.mi_checkpoint.proofs.RunLemmas.{opened_is_replaying}
use Rattle.mi_recovery.specs.declared.asking.Asked.{Asked}
use Rattle.mi_recovery.specs.declared.opening.Journaled.{Journaled}
use Rattle.mi_recovery.specs.declared.opening.Journaled.TheVariants.{Journal}
use Rattle.mi_recovery.specs.declared.place.JournalSchema.{JournalSchema}
use Rattle.mi_recovery.specs.declared.place.Place.{Place}
use Rattle.mi_recovery.specs.declared.place.Position.{Position}
use Rattle.mi_recovery.specs.JournalFile.{text_of}
use Rattle.mi_recovery.specs.Names.{segment_name}
use Rattle.mi_recovery.specs.Segments.{AsksUpTo, IsAsked, IsAskedBehind, IsNext, IsStart}
use Rattle.mi_front.specs.Noted.{Lines, Notes}
use Rattle.mi_front.specs.declared.front.Front.{Front}
use Rattle.mi_front.specs.Front.{HasLines, HasBehind, IsFront, IsNoted, IsFrontPlace, undo_all_line}
use Rattle.mi_front.proofs.TextLemmas.{lines_asked, lines_behind}
use Rattle.mi_front.proofs.UndoneLemmas.{undone_is_base}

-- ---- a segment

-- the lines of a text are what is asked of it, where the text is known
pub asked_by : (o : Option (List ℕ)) (header : List ℕ) (skip : ℕ) (found : Journaled) (lines : Lines) (old new : HeldDatabase) → new ≡ replayed lines old
    → IfSome o (λ bytes. HasLines header skip (text_of bytes) found lines) → IfSome o (λ bytes. IsAsked header skip (text_of bytes) found old new)
asked_by None header skip found lines old new leaves has = tt
asked_by (Some bytes) header skip found lines old new leaves has = lines_asked header (text_of bytes) skip found lines old new has leaves

both : (o : Option (List ℕ)) (P R Q : List ℕ → Type 0) → ((bytes : List ℕ) → R bytes → P bytes) → IfSome o R → IfSome o Q → IfSome o (λ bytes. P bytes × Q bytes)
both None P R Q f p q = tt
both (Some bytes) P R Q f p q = (f bytes p, q)

-- what is noted of a segment in front of another, and where that stands
abbrev pub NotesNext : {F : Type 0} → (List ℕ → F → Type 0) → (F → Option (List ℕ)) → List ℕ → JournalSchema → Place → HeldDatabase → Starts → HeldDatabase
    → Starts → Place → Type 0
NotesNext {F} is_seen contents path schema place old was new now next = (lines : Lines) × Notes old was lines new now
    × (file : F) × is_seen (segment_name path place.number) file × IfSome (contents file) (λ bytes. IsNext schema place (text_of bytes) next
    × HasLines (string_bytes place.header) place.skip (text_of bytes) (Journal 0) lines)

pub next_noted : {F E : Type 0} (is_seen : List ℕ → F → Type 0) (contents : F → Option (List ℕ)) (path : List ℕ) (schema : JournalSchema) (place : Place)
    (file : F) (r : Result Place E) (lines : Lines) (old new : HeldDatabase) (was now : Starts) → is_seen (segment_name path place.number) file
    → Notes old was lines new now
    → IfSome (contents file) (λ bytes. HasLines (string_bytes place.header) place.skip (text_of bytes) (Journal 0) lines)
    → IfOk r (λ next. IfSome (contents file) (λ bytes. (p : Place) → p.number ≡ place.number → IsNext schema p (text_of bytes) next))
    → IfOk r (NotesNext is_seen contents path schema place old was new now)
next_noted is_seen contents path schema place file (Ok next) lines old new was now seen notes has is = (
  lines,
  notes,
  file,
  seen,
  both (contents file) (λ bytes. IsNext schema place (text_of bytes) next) (λ bytes. (p : Place) → p.number ≡ place.number → IsNext schema p (text_of bytes) next)
      (λ bytes. HasLines (string_bytes place.header) place.skip (text_of bytes) (Journal 0) lines) (λ bytes f. f place refl) is has,
)
next_noted is_seen contents path schema place file (Err e) lines old new was now seen notes has is = tt

-- ---- the newest one

module _ {F : Type 0} (is_locked : F → Type 0) (is_seen : List ℕ → F → Type 0) (is_newest : ℕ → Type 0) (contents : F → Option (List ℕ)) (path : List ℕ)
    (schema : JournalSchema) (position : Option Position) where
  -- the segments in front are asked, and then it
  pub row_noted : (start last : Place) (row : List F) (file : F) (name : List ℕ) (number : ℕ) (older newest : Lines) (old mid new : HeldDatabase) (a : Asked F)
      → IsStart schema position start → AsksUpTo is_seen contents path schema start row last old mid → last.number ≡ number → is_newest number
      → is_locked file → name ≡ segment_name path number → a.place ≡ last → a.file ≡ file → is_seen name file
      → IfSome (contents file) (λ bytes. a.text ≡ length (text_of bytes)) → mid ≡ replayed older old → new ≡ replayed newest mid
      → IfSome (contents file) (λ bytes. HasLines (string_bytes last.header) last.skip (text_of bytes) a.found newest)
      → IsNoted is_locked is_seen is_newest contents path schema position old a older newest new
  row_noted start last row file name number older newest old mid new a starts asks num is_last locked named p q seen text in_front leaves has =
      let here : a.place.number ≡ number = ap (λ (l : Place). l.number) p ∙ num in
      let own : IfSome (contents a.file) (λ bytes. HasLines (string_bytes a.place.header) a.place.skip (text_of bytes) a.found newest)
      = subst (λ f. IfSome (contents f) (λ bytes. HasLines (string_bytes a.place.header) a.place.skip (text_of bytes) a.found newest)) (sym q)
      (subst (λ (l : Place). IfSome (contents file) (λ bytes. HasLines (string_bytes l.header) l.skip (text_of bytes) a.found newest)) (sym p) has) in
      record {
        behind = record {
          start = start;
          files = row;
          mid = mid;
          starts = starts;
          asks = subst (λ l. AsksUpTo is_seen contents path schema start row l old mid) (sym p) asks;
          is_last = subst is_newest (sym here) is_last;
          locked = subst is_locked (sym q) locked;
          seen = subst (is_seen (segment_name path a.place.number)) (sym q)
              (subst (λ n. is_seen n file) (named ∙ ap (segment_name path) (sym here)) seen);
          text = subst (λ f. IfSome (contents f) (λ bytes. a.text ≡ length (text_of bytes))) (sym q) text;
          newest = asked_by (contents a.file) (string_bytes a.place.header) a.place.skip a.found newest mid new leaves own;
        };
        in_front = in_front;
        own = own;
      }

-- ---- the place

-- behind the place stand the lines that the base doesn't have
pub behind_place : (contents : Option (List ℕ)) (newest : Place) (found : Journaled) (older own : Lines) (n : ℕ) (place : Option Place)
    → n ≤ length (older ++ own) → IsFrontPlace newest (length older) n place
    → IfSome contents (λ bytes. HasLines (string_bytes newest.header) newest.skip (text_of bytes) found own)
    → HasBehind contents found (drop (n - length older) own) place
behind_place contents newest found older own n None within is has = tt
behind_place None newest found older own n (Some place) within is has = tt
behind_place (Some bytes) newest found older own n (Some place) within is has =
    let long = length-append older own in
    let few : n - length older ≤ length own = omega (arith, within, long, is.0) in
    subst (λ h. HasLines h place.skip (text_of bytes) found (drop (n - length older) own)) (sym is.2)
    (subst (λ k. HasLines (string_bytes newest.header) k (text_of bytes) found (drop (n - length older) own)) (sym is.3)
    (lines_behind (n - length older) (string_bytes newest.header) (text_of bytes) newest.skip found own few has))

-- ---- the front

module _ {F : Type 0} (is_locked : F → Type 0) (is_seen : List ℕ → F → Type 0) (is_newest : ℕ → Type 0) (contents : F → Option (List ℕ)) (path : List ℕ)
    (schema : JournalSchema) (position : Option Position) where
  -- all lines are noted, the place is that of the checkpoint, and what is open is undone
  pub front_noted : (old end new : HeldDatabase) (first last : Starts) (older own : Lines) (front : Front F) (n count : ℕ) → depth old.database ≡ 0
      → old ≡ unheld old.database → ((s : HeldDatabase) → StandsAt s 0 old.database.revision → IsTold s [] first) → first.lines ≡ 0
      → Notes old first (older ++ own) end last → count ≡ first.lines + length older
      → IsNoted is_locked is_seen is_newest contents path schema position old front.asked older own end
      → ((s : HeldDatabase) (lines : Lines) → IsTold s lines last → IsCheckpoint s lines n)
      → ((s : HeldDatabase) (lines : Lines) → IsReplaying s → AreTaken lines s → IsTold s lines last → BaseReplays s lines n)
      → IsFrontPlace front.asked.place count n front.place → front.left ≡ last.lines - n → new ≡ replayed (undo_all_line ∷ []) end
      → IsFront is_locked is_seen is_newest contents path schema position old front new
  front_noted old end new first last older own front n count bare nobody told none notes counted noted stands replays place left undone =
      let lines = older ++ own in
      let is : IsReplaying old = subst IsReplaying (sym nobody) (opened_is_replaying old.database bare) in
      let all : IsTold old (older ++ own) last = notes.told old [] is refl (told old (bare, refl)) in
      let at : IsCheckpoint old (older ++ own) n = stands old (older ++ own) all in
      let again : BaseReplays old (older ++ own) n = replays old (older ++ own) is notes.taken all in
      let here : IsFrontPlace front.asked.place (length older) n front.place =
      subst (λ k. IsFrontPlace front.asked.place k n front.place) (counted ∙ (omega (arith, none))) place in
      record {
        older = older;
        newest = own;
        n = n;
        bare = bare;
        noted = subst (IsNoted is_locked is_seen is_newest contents path schema position old front.asked older own) notes.leaves noted;
        taken = notes.taken;
        at = at;
        base = undone ∙ ap (replayed (undo_all_line ∷ [])) notes.leaves ∙ undone_is_base old (older ++ own) last n is notes.taken all at again;
        replays = again;
        place = here;
        left = left ∙ (let many = notes.count in omega (arith, many, none));
        behind = behind_place (contents front.asked.file) front.asked.place front.asked.found older own n front.place at.within here noted.own;
      }
