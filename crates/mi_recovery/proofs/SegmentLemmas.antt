-- The lines of segments, asked one segment behind another, and the newest that is gone on with.
-- Cited by `asking::ask_row`, `beginning::made`, `going_on::opened_behind`, `segments::ask_file`, `segments::ask_segment` and 2 more.
use Rattle.std.proofs.Common.{◌≡◌, ◌≤◌, ◌<◌, ◌+◌, ◌-◌, ℕ, zero, suc, List, [], ◌∷◌, ◌++◌, length, take, drop, get_or, Bool, true, false, ◌&&◌, nat_eq, nat_lt, ◌≢◌}
use Rattle.std.proofs.Common.{Option, Some, None, option_map, Result, Ok, Err, refl, sym, ap, ◌∙◌, subst, arith, length-append}
use Rattle.std.proofs.lemmas.List.{drop_all, drop-drop}
use Rattle.std.proofs.lemmas.List.Elements.{All-get_or}
use Rattle.std.specs.Prelude.{IfOk, IfSome, OnOk}
use Rattle.std.specs.String.{string_bytes}
use Rattle.std.specs.Io.{StopsAt}
use Rattle.std.specs.Io.BufRead.{ends_with_byte}
use Rattle.std.specs.Io.KnownBytes.{Consumes}
use Rattle.mi_commands.specs.Holder.{HeldDatabase}
use Rattle.mi_hub.specs.Ended.{ended, after_newlines}
use Rattle.mi_hub.proofs.LineLemmas.{unended_all, parts_at}
use Rattle.mi_hub.specs.Lines.{lines_of}
use Rattle.mi_hub.specs.Run.{HubState}
use Rattle.mi_hub.specs.OneLine.{IsWholeLine}
use Rattle.mi_replay.specs.Replayed.{replayed}
use Rattle.mi_durable.specs.Replay.{Passes, HasPassed}
use Rattle.mi_clients.specs.Steps.{Step, Makes, GivesNone}
use Rattle.mi_recovery.specs.declared.asking.Asked.{Asked}
use Rattle.mi_recovery.specs.declared.device.Keeping.{Keeping}
use Rattle.mi_recovery.specs.declared.opening.Journaled.{Journaled}
use Rattle.mi_recovery.specs.declared.opening.Journaled.TheVariants.{Nothing, Journal}
use Rattle.mi_recovery.specs.declared.place.JournalSchema.{JournalSchema}
use Rattle.mi_recovery.specs.declared.place.Place.{Place}
use Rattle.mi_recovery.specs.declared.place.Position.{Position}
use Rattle.mi_recovery.specs.JournalFile.{text_of}
use Rattle.mi_recovery.specs.Names.{segment_name}
use Rattle.mi_recovery.specs.Recovery.{HasHeader, IsFound, IsUndone, Has, kept_bytes}
use Rattle.mi_recovery.specs.Segments.{AsksUpTo, GoesOn, IsAsked, IsAskedBehind, IsNext, IsStart}
use Rattle.mi_recovery.proofs.OpeningLemmas.{after_within, read_text}

-- ---- lines that are passed over

passes_then : (n : ℕ) (all mid left : List ℕ) → Passes n all mid → Passes 1 mid left → Passes (suc n) all left
passes_then zero all mid left p q = (q.0, q.1, q.2, sym p ∙ q.3, q.4)
passes_then (suc n) all mid left p q = (p.0, p.1, p.2, p.3, passes_then n p.1 mid left p.4 q)

pub passed_none : (o : Option (List ℕ)) → HasPassed 0 o o
passed_none None = tt
passed_none (Some all) = refl

-- one line more
pub passed_more : (n m : ℕ) (a b c : Option (List ℕ)) → m ≡ suc n → HasPassed n a b → HasPassed 1 b c → HasPassed m a c
passed_more n m None b c is p q = tt
passed_more n m (Some all) None c is p q = absurd p
passed_more n m (Some all) (Some mid) None is p q = absurd q
passed_more n m (Some all) (Some mid) (Some left) is p q = subst (λ k. Passes k all left) (sym is) (passes_then n all mid left p q)

pub passed_one : (a b : Option (List ℕ)) (line : List ℕ) → Consumes a b line → IsWholeLine line → HasPassed 1 a b
passed_one None b line c whole = tt
passed_one (Some all) None line c whole = absurd c
passed_one (Some all) (Some left) line c whole = (line, left, whole, c, refl)

both_true : (a b : Bool) → (a && b) ≡ true → (a ≡ true) × (b ≡ true)
both_true true b h = (refl, h)
both_true false b h = absurd (cc)

last_below : (m : ℕ) → nat_lt 0 m ≡ true → m - 1 < m
last_below m h = grind arith

is_ten : (x : ℕ) → nat_eq x 10 ≡ true → x ≡ 10
is_ten x h = grind arith

unended_front : (line : List ℕ) → StopsAt line 10 → ended (take (length line - 1) line) ≡ []
unended_front line stops = unended_all (take (length line - 1) line) (λ k lt e.
    All-get_or (λ (x : ℕ). x ≢ 10) (take (length line - 1) line) k 0 lt stops (is_ten (get_or (take (length line - 1) line) k 0) e))

-- what ends with its one newline is a whole line
pub whole_by : (line : List ℕ) → ends_with_byte 10 line ≡ true → StopsAt line 10 → IsWholeLine line
whole_by line h stops =
    let n = length line - 1 in
    let p = both_true (nat_lt 0 (length line)) (nat_eq (get_or line (length line - 1) 0) 10) h in
    let lt : length line - 1 < length line = last_below (length line) p.0 in
    let tail : drop 1 (drop (length line - 1) line) ≡ [] =
    drop-drop 1 (length line - 1) line ∙ drop_all (length line - 1 + 1) line (omega arith) in (
      take (length line - 1) line,
      parts_at (length line - 1) line lt p.1 ∙ ap (λ t. take (length line - 1) line ++ 10 ∷ t) tail,
      unended_front line stops,
    )

passes_within : (n : ℕ) (all left : List ℕ) → Passes n all left → length left ≤ length all
passes_within zero all left p = omega (arith, ap length p)
passes_within (suc n) all left p =
    omega (arith, passes_within n p.1 left p.4, ap length p.3, length-append p.0 p.1)

-- ---- a text that is asked

-- the header, the lines that are passed over, and the others
pub asked_by : (a b c : Option (List ℕ)) (header line : List ℕ) (skip : ℕ) (old new : HeldDatabase) → HasHeader header a b → HasPassed skip b c
    → IfSome c (λ bytes. new ≡ replayed (lines_of bytes) old) → IfSome c (λ bytes. line ≡ after_newlines bytes)
    → IfSome a (λ bytes. IsAsked header skip bytes (Journal (length line)) old new)
asked_by None b c header line skip old new p q held torn = tt
asked_by (Some bytes) None c header line skip old new p q held torn = absurd p
asked_by (Some bytes) (Some rest) None header line skip old new p q held torn = absurd q
asked_by (Some bytes) (Some rest) (Some left) header line skip old new p q held torn = (rest, left, p, q, (held, ap length torn))

asked_found : (header text : List ℕ) (skip : ℕ) (found : Journaled) (old new : HeldDatabase) → IsAsked header skip text found old new
    → IsFound header text found
asked_found header text skip Nothing old new p = p.0
asked_found header text skip (Journal torn) old new p =
    let inner : torn ≤ length p.1 = rw p.4.1 (after_within p.1) in
    let within = passes_within skip p.0 p.1 p.3 in
    rw (p.2, length-append) (omega (arith, inner, within))

-- what is asked of a file's text was found there
pub asked_after : (o : Option (List ℕ)) (header : List ℕ) (skip : ℕ) (found : Journaled) (old new : HeldDatabase)
    → IfSome o (λ bytes. IsAsked header skip (text_of bytes) found old new) → IfSome o (λ bytes. IsFound header (text_of bytes) found)
asked_after None header skip found old new p = tt
asked_after (Some bytes) header skip found old new p = asked_found header (text_of bytes) skip found old new p

-- what is read of the text is what is asked
pub asked_text : (o known : Option (List ℕ)) (text : ℕ) (header same : List ℕ) (skip : ℕ) (found : Journaled) (old new : HeldDatabase)
    → IfSome o (λ bytes. text ≡ length (text_of bytes)) → known ≡ option_map (λ bytes. take text bytes) o → header ≡ same
    → IfSome known (λ bytes. IsAsked header skip bytes found old new) → IfSome o (λ bytes. IsAsked same skip (text_of bytes) found old new)
asked_text o known text header same skip found old new p is head q =
    read_text o text (λ bytes. IsAsked same skip bytes found old new) p
    (subst (λ h. IfSome (option_map (λ bytes. take text bytes) o) (λ bytes. IsAsked h skip bytes found old new)) head
    (subst (λ k. IfSome k (λ bytes. IsAsked header skip bytes found old new)) is q))

-- ---- one segment behind another

-- what two calls say of a file's bytes
next_both : (o : Option (List ℕ)) (P R Q : List ℕ → Type 0) → ((bytes : List ℕ) → R bytes → P bytes) → IfSome o R → IfSome o Q
    → IfSome o (λ bytes. P bytes × Q bytes)
next_both None P R Q f p q = tt
next_both (Some bytes) P R Q f p q = (f bytes p, q)

-- a segment's file was seen, its text is asked, and the place behind it is this
pub next_asked : {F E : Type 0} (is_seen : List ℕ → F → Type 0) (contents : F → Option (List ℕ)) (path : List ℕ) (schema : JournalSchema) (place : Place)
    (file : F) (r : Result Place E) (old new : HeldDatabase) → is_seen (segment_name path place.number) file
    → IfSome (contents file) (λ bytes. IsAsked (string_bytes place.header) place.skip (text_of bytes) (Journal 0) old new)
    → IfOk r (λ next. IfSome (contents file) (λ bytes. (p : Place) → p.number ≡ place.number → IsNext schema p (text_of bytes) next))
    → IfOk r (λ next. (f : F) × is_seen (segment_name path place.number) f × IfSome (contents f) (λ bytes. IsNext schema place (text_of bytes) next
    × IsAsked (string_bytes place.header) place.skip (text_of bytes) (Journal 0) old new))
next_asked is_seen contents path schema place file (Ok next) old new seen asked is = (
  file,
  seen,
  next_both (contents file) (λ bytes. IsNext schema place (text_of bytes) next)
      (λ bytes. (p : Place) → p.number ≡ place.number → IsNext schema p (text_of bytes) next)
      (λ bytes. IsAsked (string_bytes place.header) place.skip (text_of bytes) (Journal 0) old new) (λ bytes f. f place refl) is asked,
)
next_asked is_seen contents path schema place file (Err e) old new seen asked is = tt

-- ---- the newest one

-- the segments in front are asked, and then it
pub asked_row : {F E : Type 0} (is_locked : F → Type 0) (is_seen : List ℕ → F → Type 0) (is_newest : ℕ → Type 0) (contents : F → Option (List ℕ))
    (path : List ℕ) (schema : JournalSchema) (position : Option Position) (start last : Place) (row : List F) (file : F) (name : List ℕ) (number : ℕ)
    (old mid new : HeldDatabase) (r : Result (Asked F) E) → IsStart schema position start
    → AsksUpTo is_seen contents path schema start row last old mid → last.number ≡ number → is_newest number → is_locked file
    → name ≡ segment_name path number → IfOk r (λ a. a.place ≡ last) → IfOk r (λ a. a.file ≡ file) → OnOk r (is_seen name file)
    → IfOk r (λ a. IfSome (contents file) (λ bytes. a.text ≡ length (text_of bytes)))
    → IfOk r (λ a. IfSome (contents file) (λ bytes. IsAsked (string_bytes last.header) last.skip (text_of bytes) a.found mid new))
    → IfOk r (λ a. IsAskedBehind is_locked is_seen is_newest contents path schema position old a new)
asked_row is_locked is_seen is_newest contents path schema position start last row file name number old mid new (Ok a) starts asks num newest locked named
    p q seen text asked =
    let here : a.place.number ≡ number = ap (λ (l : Place). l.number) p ∙ num in record {
      start = start;
      files = row;
      mid = mid;
      starts = starts;
      asks = subst (λ l. AsksUpTo is_seen contents path schema start row l old mid) (sym p) asks;
      is_last = subst is_newest (sym here) newest;
      locked = subst is_locked (sym q) locked;
      seen = subst (is_seen (segment_name path a.place.number)) (sym q)
          (subst (λ n. is_seen n file) (named ∙ ap (segment_name path) (sym here)) seen);
      text = subst (λ f. IfSome (contents f) (λ bytes. a.text ≡ length (text_of bytes))) (sym q) text;
      newest = subst (λ f. IfSome (contents f) (λ bytes. IsAsked (string_bytes a.place.header) a.place.skip (text_of bytes) a.found mid new)) (sym q)
          (subst (λ (l : Place). IfSome (contents file) (λ bytes. IsAsked (string_bytes l.header) l.skip (text_of bytes) a.found mid new)) (sym p) asked);
    }
asked_row is_locked is_seen is_newest contents path schema position start last row file name number old mid new (Err e) starts asks num newest locked named
    p q seen text asked = tt

-- what was asked, kept and undone goes on
pub goes_by : (o : Option (List ℕ)) (header : List ℕ) (found : Journaled) (keeping : Keeping) (old new : HubState) (from told : Option (List ℕ))
    → IfSome o (λ bytes. Has keeping (kept_bytes header (text_of bytes) found) from)
    → ((steps : List Step) × GivesNone steps × Makes steps old new from told) → IsUndone old.held new.held
    → IfSome o (λ bytes. GoesOn header (text_of bytes) found keeping old new told)
goes_by None header found keeping old new from told has makes undone = tt
goes_by (Some bytes) header found keeping old new from told has makes undone =
    record {
      undone = undone;
      steps = makes.0;
      none = makes.1;
      makes = subst (λ f. Makes makes.0 old new f told) has makes.2;
    }

-- a file of no byte has none
pub none_there : (o : Option (List ℕ)) (size : ℕ) → IfSome o (λ bytes. size ≡ length bytes) → size ≡ 0 → IfSome o (λ bytes. bytes ≡ [])
none_there None size is none = tt
none_there (Some []) size is none = refl
none_there (Some (b ∷ bs)) size is none = absurd (omega (arith, is, none))
