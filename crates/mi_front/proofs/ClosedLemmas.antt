-- The lines of the segments that were noted, one segment behind another, and where the base stands among them.
-- Cited by `NotedRow::place_behind`, `front::ask_closed`, `row::note_closed`, `row::note_row` and `row::note_segments`.
use Rattle.std.proofs.Common.{◌≡◌, ℕ, zero, suc, ◌<◌, ◌≤◌, ◌+◌, ◌-◌, ◌⊎◌, List, [], ◌∷◌, ◌++◌, length, take, drop, Option, Some, None, Result, Ok, Err, inl, inr}
use Rattle.std.proofs.Common.{refl, sym, ap, ◌∙◌, subst, arith, append_assoc, length-append}
use Rattle.std.proofs.lemmas.List.{take-append-drop, drop-append-le}
use Rattle.std.proofs.lemmas.List.Elements.{All-append}
use Rattle.std.proofs.Math.Seq.{drop-append-add}
use Rattle.std.specs.List.{All}
use Rattle.std.specs.Prelude.{IfOk, IfSome, OnOk, slice_index_or}
use Rattle.std.specs.String.{string_bytes}
use Rattle.mi_commands.specs.Holder.{HeldDatabase}
use Rattle.mi_model.specs.Database.{depth}
use Rattle.mi_replay.specs.Replayed.{replayed, unheld, IsSame}
use Rattle.mi_checkpoint.specs.Settled.{based, AreTaken, IsReplaying}
use Rattle.mi_checkpoint.specs.OpenStarts.{Starts, StandsAt, IsTold, IsCheckpoint, BaseReplays, base_at}
use Rattle.mi_checkpoint.proofs.RunLemmas.{opened_is_replaying, lines_keep_replaying, replayed_append, bases_replay, bases_stay}
use Rattle.mi_checkpoint.proofs.TakenLemmas.{taken_behind}
use Rattle.mi_recovery.specs.declared.opening.Journaled.TheVariants.{Journal}
use Rattle.mi_recovery.specs.declared.place.JournalSchema.{JournalSchema}
use Rattle.mi_recovery.specs.declared.place.Place.{Place}
use Rattle.mi_recovery.specs.declared.place.Position.{Position}
use Rattle.mi_recovery.specs.JournalFile.{text_of}
use Rattle.mi_recovery.specs.Names.{segment_name}
use Rattle.mi_recovery.specs.Segments.{AsksUpTo, IsAsked, IsNext, IsStart}
use Rattle.mi_front.specs.declared.row.NotedSegment.{NotedSegment}
use Rattle.mi_front.specs.Noted.{Lines, Notes}
use Rattle.mi_front.specs.Front.{HasLines, undo_all_line}
use Rattle.mi_front.specs.Closed.{HasLinesUpTo, IsPlaceIn, Reaches, ReplaysOn, IsClosedFront}
use Rattle.mi_front.proofs.TextLemmas.{lines_asked, lines_behind}
use Rattle.mi_front.proofs.UndoneLemmas.{undone_is_base}

some_map : (o : Option (List ℕ)) (P Q : List ℕ → Type 0) → ((bytes : List ℕ) → P bytes → Q bytes) → IfSome o P → IfSome o Q
some_map None P Q f p = tt
some_map (Some bytes) P Q f p = f bytes p

pub if_ok_map : {X E : Type 0} (P Q : X → Type 0) (r : Result X E) → ((x : X) → P x → Q x) → IfOk r P → IfOk r Q
if_ok_map P Q (Ok x) f p = f x p
if_ok_map P Q (Err e) f p = tt

-- ---- a base, and lines that come later

pub replays_on : (s : HeldDatabase) (lines : Lines) (n : ℕ) → IsReplaying s → IsCheckpoint s lines n → ReplaysOn s lines n (base_at s lines n)
replays_on s lines n is at more taken =
    let here = replayed (take n lines) s in
    let goes : IsReplaying here = lines_keep_replaying s (take n lines) is in
    let all : take n lines ++ (drop n lines ++ more) ≡ lines ++ more =
    sym (append_assoc (take n lines) (drop n lines) more) ∙ ap (λ ls. ls ++ more) (take-append-drop n lines) in
    let rest : AreTaken (drop n lines ++ more) here =
    taken_behind (take n lines) (drop n lines ++ more) s (subst (λ ls. AreTaken ls s) (sym all) taken) in
    let law = bases_replay here (drop n lines ++ more) goes rest (bases_stay here (drop n lines) more goes at.stands) in
    let same : replayed (drop n lines ++ more) here ≡ replayed (lines ++ more) s =
    sym (replayed_append (take n lines) (drop n lines ++ more) s) ∙ ap (λ ls. replayed ls s) all in
    (subst (λ u. IsSame u (replayed (drop n lines ++ more) (based here))) same law.0, law.1)

module _ {F : Type 0} (is_seen : List ℕ → F → Type 0) (contents : F → Option (List ℕ)) (path : List ℕ) (schema : JournalSchema) where
  -- ---- what is asked of them

  pub up_to_asked : (start : Place) (files : List F) (place : Place) (lines : Lines) (old : HeldDatabase)
      → HasLinesUpTo is_seen contents path schema start files place lines → AsksUpTo is_seen contents path schema start files place old (replayed lines old)
  up_to_asked start [] place lines old p = (p.0, ap (λ ls. replayed ls old) p.1)
  up_to_asked start (file ∷ files) place lines old p =
      let front = p.1 in
      let own = p.2 in
      let leaves : replayed lines old ≡ replayed own (replayed front old) = ap (λ ls. replayed ls old) p.4 ∙ replayed_append front own old in (
        p.0,
        replayed front old,
        up_to_asked start files p.0 front old p.3,
        p.5,
        p.6,
        some_map (contents file) (λ bytes. IsNext schema p.0 (text_of bytes) place × HasLines (string_bytes p.0.header) p.0.skip (text_of bytes) (Journal 0) own)
            (λ bytes. IsNext schema p.0 (text_of bytes) place
            × IsAsked (string_bytes p.0.header) p.0.skip (text_of bytes) (Journal 0) (replayed front old) (replayed lines old))
            (λ bytes q. (q.0, lines_asked (string_bytes p.0.header) (text_of bytes) p.0.skip (Journal 0) own (replayed front old) (replayed lines old) q.1 leaves))
            p.7,
      )

  -- ---- a segment more

  -- what was noted reaches to the next segment's place
  reaches_then : (place next : Place) (lines own : Lines) (file : F) (s : NotedSegment) → next.number ≡ place.number + 1
      → is_seen (segment_name path place.number) file
      → IfSome (contents file) (λ bytes. IsNext schema place (text_of bytes) next × HasLines (string_bytes place.header) place.skip (text_of bytes) (Journal 0) own)
      → Reaches is_seen contents path schema place lines s → Reaches is_seen contents path schema next (lines ++ own) s
  reaches_then place next lines own file s number seen text before = record {
    within = (let long = length-append lines own in let inner = before.within in omega (arith, long, inner));
    left = λ n at low high is.
        let few : n ≤ length lines = (let inner = before.within in omega arith) in
        let more = before.left n at low high is in
        (file ∷ more.0, (place, drop n lines, own, more.1, drop-append-le n lines own few, number, seen, text));
  }

  -- and so does the segment itself
  reaches_new : (place next : Place) (lines own : Lines) (file : F) (s : NotedSegment) → next.number ≡ place.number + 1
      → is_seen (segment_name path place.number) file
      → IfSome (contents file) (λ bytes. IsNext schema place (text_of bytes) next × HasLines (string_bytes place.header) place.skip (text_of bytes) (Journal 0) own)
      → s.place ≡ place → s.before ≡ length lines → s.behind ≡ length lines + length own → Reaches is_seen contents path schema next (lines ++ own) s
  reaches_new place next lines own file s number seen text same before behind = record {
    within = (let long = length-append lines own in omega (arith, long, behind));
    left = λ n at low high is.
        let k = n - s.before in
        let few : k ≤ length own = omega (arith, low, high, before, behind) in
        let there : length lines + k ≡ n = omega (arith, low, before) in
        let here : at.number ≡ place.number = is.0 ∙ ap (λ (p : Place). p.number) same in
        let head : string_bytes at.header ≡ string_bytes place.header = is.1 ∙ ap (λ (p : Place). string_bytes p.header) same in
        let skip : at.skip ≡ place.skip + k = is.2 ∙ ap (λ (p : Place). p.skip + k) same in
        let rest : drop n (lines ++ own) ≡ drop k own = ap (λ m. drop m (lines ++ own)) (sym there) ∙ drop-append-add lines own k in
        let next_number : next.number ≡ at.number + 1 = number ∙ ap (λ m. m + 1) (sym here) in (
          file ∷ [],
          (
            at,
            [],
            drop k own,
            (refl, refl),
            rest,
            next_number,
            subst (λ m. is_seen (segment_name path m) file) (sym here) seen,
            some_map (contents file) (λ bytes. IsNext schema place (text_of bytes) next × HasLines (string_bytes place.header) place.skip (text_of bytes) (Journal 0) own)
                (λ bytes. IsNext schema at (text_of bytes) next × HasLines (string_bytes at.header) at.skip (text_of bytes) (Journal 0) (drop k own))
                (λ bytes q. (
                  (next_number, q.0.1, q.0.2),
                  subst (λ h. HasLines h at.skip (text_of bytes) (Journal 0) (drop k own)) (sym head)
                      (subst (λ m. HasLines (string_bytes place.header) m (text_of bytes) (Journal 0) (drop k own)) (sym skip)
                      (lines_behind k (string_bytes place.header) (text_of bytes) place.skip (Journal 0) own few q.1)),
                )) text,
          ),
        );
  }

  pub all_reach : (place next : Place) (lines own : Lines) (file : F) (segments : List NotedSegment) (s : NotedSegment) → next.number ≡ place.number + 1
      → is_seen (segment_name path place.number) file
      → IfSome (contents file) (λ bytes. IsNext schema place (text_of bytes) next × HasLines (string_bytes place.header) place.skip (text_of bytes) (Journal 0) own)
      → s.place ≡ place → s.before ≡ length lines → s.behind ≡ length lines + length own
      → All (λ s. Reaches is_seen contents path schema place lines s) segments
      → All (λ s. Reaches is_seen contents path schema next (lines ++ own) s) (segments ++ s ∷ [])
  all_reach place next lines own file segments s number seen text same before behind all =
      All-append (λ s. Reaches is_seen contents path schema next (lines ++ own) s) segments (s ∷ [])
      (λ k d within. reaches_then place next lines own file (slice_index_or segments k d) number seen text (all k d within))
      (λ k d within. by_place k d within)
    where
      by_place : (k : ℕ) (d : NotedSegment) → k < length (s ∷ []) → Reaches is_seen contents path schema next (lines ++ own) (slice_index_or (s ∷ []) k d)
      by_place zero d within = reaches_new place next lines own file s number seen text same before behind
      by_place (suc k) d within = absurd (omega (arith, within))

  -- ---- the place

  -- where a segment of the row holds the line, or the row ends, the lines that are left stand behind the place
  pub behind_place : (row_next place : Place) (lines : Lines) (n count : ℕ) (segments : List NotedSegment) → count ≡ length lines → n ≤ length lines
      → All (λ s. Reaches is_seen contents path schema row_next lines s) segments
      → ((count ≤ n) × (place ≡ row_next)) ⊎ ((front : List NotedSegment) × (s : NotedSegment) × (later : List NotedSegment)
      × (segments ≡ front ++ s ∷ later) × (s.before ≤ n) × (n < s.behind) × IsPlaceIn s n place)
      → (files : List F) × HasLinesUpTo is_seen contents path schema place files row_next (drop n lines)
  behind_place next place lines n count segments all within reach (inl p) =
      let few : length lines ≤ n = (let less = p.0 in omega (arith, all)) in
      ([], (sym p.1, drop_all n lines few))
    where
      drop_all : (m : ℕ) (ls : Lines) → length ls ≤ m → drop m ls ≡ []
      drop_all zero [] less = refl
      drop_all zero (l ∷ ls) less = absurd (omega (arith, less))
      drop_all (suc m) [] less = refl
      drop_all (suc m) (l ∷ ls) less = drop_all m ls (omega (arith, less))
  behind_place next place lines n count segments all within reach (inr p) =
      let s = p.1 in
      let here : Reaches is_seen contents path schema next lines s = reached p.0 p.2 segments p.3 reach in
      let high : n ≤ s.behind = (let less = p.5 in omega arith) in
      here.left n place p.4 high p.6
    where
      at : (front later : List NotedSegment) (t : NotedSegment) → slice_index_or (front ++ t ∷ later) (length front) t ≡ t
      at [] later t = refl
      at (x ∷ front) later t = at front later t

      reached : (front later : List NotedSegment) (ss : List NotedSegment) → ss ≡ front ++ p.1 ∷ later
          → All (λ s. Reaches is_seen contents path schema next lines s) ss → Reaches is_seen contents path schema next lines p.1
      reached front later ss is all_reach =
          let long = length-append front (p.1 ∷ later) in
          subst (Reaches is_seen contents path schema next lines) (at front later p.1)
          (subst (All (λ s. Reaches is_seen contents path schema next lines s)) is all_reach (length front) p.1 (omega (arith, long)))

  -- ---- the front

  pub closed_front : (position : Option Position) (newest : ℕ) (old end new : HeldDatabase) (first last : Starts) (start next place : Place) (files : List F)
      (lines : Lines) (n : ℕ) → depth old.database ≡ 0 → old ≡ unheld old.database
      → ((s : HeldDatabase) → StandsAt s 0 old.database.revision → IsTold s [] first) → Notes old first lines end last → IsStart schema position start
      → next.number ≡ newest → HasLinesUpTo is_seen contents path schema start files next lines
      → ((s : HeldDatabase) (ls : Lines) → IsTold s ls last → IsCheckpoint s ls n)
      → ((s : HeldDatabase) (ls : Lines) → IsReplaying s → AreTaken ls s → IsTold s ls last → BaseReplays s ls n)
      → (n ≤ length lines → (left : List F) × HasLinesUpTo is_seen contents path schema place left next (drop n lines))
      → new ≡ replayed (undo_all_line ∷ []) end
      → IsClosedFront is_seen contents path schema position newest old place new
  closed_front position newest old end new first last start next place files lines n bare nobody told notes starts number has stands replays behind undone =
      let is : IsReplaying old = subst IsReplaying (sym nobody) (opened_is_replaying old.database bare) in
      let all : IsTold old lines last = notes.told old [] is refl (told old (bare, refl)) in
      let at : IsCheckpoint old lines n = stands old lines all in
      let again : BaseReplays old lines n = replays old lines is notes.taken all in
      let base : new ≡ base_at old lines n =
      undone ∙ ap (replayed (undo_all_line ∷ [])) notes.leaves ∙ undone_is_base old lines last n is notes.taken all at again in
      let rest = behind at.within in
      record {
        start = start;
        next = next;
        files = files;
        left = rest.0;
        lines = lines;
        n = n;
        bare = bare;
        starts = starts;
        number = number;
        asked = has;
        taken = notes.taken;
        at = at;
        base = base;
        replays = subst (ReplaysOn old lines n) (sym base) (replays_on old lines n is at);
        behind = rest.1;
      }
