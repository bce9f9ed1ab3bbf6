-- The events of a hub are acts.
-- Cited by `laws::hubs_replay`.
use Rattle.std.proofs.Common.{◌≡◌, ℕ, suc, List, [], ◌∷◌, ◌++◌, length, take, drop, option_to_list, Some}
use Rattle.std.proofs.Common.{refl, sym, ap, ◌∙◌, subst, inl, inr, append_assoc, append-nil}
use Rattle.std.specs.Option.{option_map_or}
use Rattle.std.proofs.lemmas.Grind.{flat_map-append}
use Rattle.std.proofs.lemmas.List.{take-append-drop}
use Rattle.mi_commands.specs.Asked.{Asked}
use Rattle.mi_commands.specs.Answer.{MayGive}
use Rattle.mi_commands.specs.Holder.{HeldDatabase, released}
use Rattle.mi_hub.specs.Lines.{Rest, lines_from, last_line}
use Rattle.mi_hub.specs.Connections.{rest_at}
use Rattle.mi_hub.specs.Served.{InTurn, CutOff, sent, with_newline}
use Rattle.mi_hub.specs.Run.{HubState, Event, attach, piece, close, cut, Done, Failed, Unflushed}
use Rattle.mi_replay.specs.Acts.{Act, asks, leaves, AllActs}
use Rattle.mi_replay.specs.Replayed.{unheld}
use Rattle.mi_replay.specs.RunActs.{asked_by, lines_in, ActsOfDone, ActsOfUnsent, Happens, HappensBy}
use Rattle.mi_replay.specs.RunActs.{RunsAreActs, HubsReplay, quiet_hub}
use Rattle.mi_replay.proofs.ReplayLemmas.{runs_have_journals, journals_replay}

pub acts_append : (xs ys : List Act) (old mid new : HeldDatabase) → AllActs old xs mid → AllActs mid ys new → AllActs old (xs ++ ys) new
acts_append [] ys old mid new p q = subst (λ s. AllActs s ys new) p q
acts_append (x ∷ xs) ys old mid new p q = (p.0, p.1, acts_append xs ys p.0 mid new p.2 q)

-- ---- lines

module _ (conn : ℕ) where
  lines_acts : (lines : List Asked) (replies : List (List ℕ)) (old new : HeldDatabase)
      → InTurn (MayGive conn) old lines replies new → AllActs old (asked_by conn lines replies) new
  lines_acts [] [] old new p = p
  lines_acts [] (r ∷ replies) old new p = absurd p
  lines_acts (l ∷ lines) [] old new p = absurd p
  lines_acts (l ∷ lines) (r ∷ replies) old new p = (p.0, p.1, lines_acts lines replies p.0 new p.2)

  each_replied : (lines : List Asked) (replies : List (List ℕ)) (old new : HeldDatabase)
      → InTurn (MayGive conn) old lines replies new → length replies ≡ length lines
  each_replied [] [] old new p = refl
  each_replied [] (r ∷ replies) old new p = absurd p
  each_replied (l ∷ lines) [] old new p = absurd p
  each_replied (l ∷ lines) (r ∷ replies) old new p = ap suc (each_replied lines replies p.0 new p.2)

  -- lines behind those that were asked
  dropped_acts : (lines dropped : List Asked) (replies : List (List ℕ)) (old new : HeldDatabase)
      → InTurn (MayGive conn) old lines replies new → asked_by conn (lines ++ dropped) replies ≡ asked_by conn lines replies
  dropped_acts [] [] [] old new p = refl
  dropped_acts [] (d ∷ dropped) [] old new p = refl
  dropped_acts [] dropped (r ∷ replies) old new p = absurd p
  dropped_acts (l ∷ lines) dropped [] old new p = absurd p
  dropped_acts (l ∷ lines) dropped (r ∷ replies) old new p = ap (λ acts. asks conn l r ∷ acts) (dropped_acts lines dropped replies p.0 new p.2)

  -- a connection whose lines were asked leaves
  then_leaves : (acts : List Act) (old mid : HeldDatabase) (new : HeldDatabase) → AllActs old acts mid → new ≡ released conn mid
      → AllActs old (acts ++ leaves conn ∷ []) new
  then_leaves acts old mid new p gone = acts_append acts (leaves conn ∷ []) old mid new p (new, gone, refl)

  -- the writer fails at one of these lines, and the connection leaves
  cut_acts : (lines : List Asked) (out : List ℕ) (old mid new : HeldDatabase) (p : CutOff (MayGive conn) old lines out mid) → new ≡ released conn mid
      → AllActs old (asked_by conn lines (p.replies ++ p.reply ∷ []) ++ leaves conn ∷ []) new
  cut_acts lines out old mid new p gone =
      let asked = p.asked ++ p.line ∷ [] in
      let replies = p.replies ++ p.reply ∷ [] in
      let parts : lines ≡ asked ++ p.dropped = p.parts ∙ sym (append_assoc p.asked (p.line ∷ []) p.dropped) in
      subst (λ acts. AllActs old (acts ++ leaves conn ∷ []) new)
      (sym (ap (λ ls. asked_by conn ls replies) parts ∙ dropped_acts asked p.dropped replies old mid p.in_turn))
      (then_leaves (asked_by conn asked replies) old mid new (lines_acts asked replies old mid p.in_turn) gone)

  cut_written : (lines : List Asked) (out : List ℕ) (old mid : HeldDatabase) (p : CutOff (MayGive conn) old lines out mid)
      → sent (p.replies ++ p.reply ∷ []) ≡ out ++ drop p.front (with_newline p.reply)
  cut_written lines out old mid p =
      flat_map-append with_newline p.replies (p.reply ∷ [])
      ∙ ap (λ t. sent p.replies ++ t) (append-nil (with_newline p.reply) ∙ sym (take-append-drop p.front (with_newline p.reply)))
      ∙ sym (append_assoc (sent p.replies) (take p.front (with_newline p.reply)) (drop p.front (with_newline p.reply)))
      ∙ ap (λ t. t ++ drop p.front (with_newline p.reply)) (sym p.written)

-- ---- events

module _ (old : HubState) where
  piece_lines : (conn : ℕ) (bytes : List ℕ) (r : Rest) → rest_at conn old.attached ≡ Some r → lines_in old (piece conn bytes) ≡ lines_from r bytes
  piece_lines conn bytes r here = ap (λ o. option_map_or (λ s. lines_from s bytes) o []) here

  close_lines : (conn : ℕ) (r : Rest) → rest_at conn old.attached ≡ Some r → lines_in old (close conn) ≡ option_to_list (last_line r)
  close_lines conn r here = ap (λ o. option_map_or (λ s. option_to_list (last_line s)) o []) here

  -- what is said of the lines of a rest is said of those of the event
  done_acts : (event : Event) (out : List ℕ) (new : HubState) → Done old event out new
      → (acts : List Act) × ActsOfDone old event out acts × AllActs old.held acts new.held
  done_acts (attach conn) out new p = (
    [],
    record { replies = []; are = refl; each = refl; written = p.2 },
    ap (λ (s : HubState). s.held) p.3,
  )
  done_acts (piece conn bytes) out new p =
      let lines = piece_lines conn bytes p.0 p.1 in
      let replies = p.2.replies in (
        asked_by conn (lines_in old (piece conn bytes)) replies ++ [],
        record {
          replies = replies;
          are = refl;
          each = each_replied conn (lines_from p.0 bytes) replies old.held new.held p.2.in_turn ∙ ap length (sym lines);
          written = p.2.written;
        },
        subst (λ acts. AllActs old.held acts new.held)
            (ap (λ ls. asked_by conn ls replies) (sym lines) ∙ sym (append-nil (asked_by conn (lines_in old (piece conn bytes)) replies)))
            (lines_acts conn (lines_from p.0 bytes) replies old.held new.held p.2.in_turn),
      )
  done_acts (close conn) out new p =
      let lines = close_lines conn p.0 p.2 in
      let replies = p.3.replies in (
        asked_by conn (lines_in old (close conn)) replies ++ leaves conn ∷ [],
        record {
          replies = replies;
          are = refl;
          each = each_replied conn (option_to_list (last_line p.0)) replies old.held p.1 p.3.in_turn ∙ ap length (sym lines);
          written = p.3.written;
        },
        subst (λ ls. AllActs old.held (asked_by conn ls replies ++ leaves conn ∷ []) new.held) (sym lines)
            (then_leaves conn (asked_by conn (option_to_list (last_line p.0)) replies) old.held p.1 new.held
            (lines_acts conn (option_to_list (last_line p.0)) replies old.held p.1 p.3.in_turn) (ap (λ (s : HubState). s.held) p.4)),
      )
  done_acts (cut conn) out new p = (
    leaves conn ∷ [],
    record { replies = []; are = refl; each = refl; written = p.1 },
    (new.held, ap (λ (s : HubState). s.held) p.2, refl),
  )

  failed_acts : (event : Event) (out : List ℕ) (new : HubState) → Failed old event out new
      → (acts : List Act) × ActsOfUnsent old event out acts × AllActs old.held acts new.held
  failed_acts (attach conn) out new p = absurd p
  failed_acts (piece conn bytes) out new p =
      let lines = piece_lines conn bytes p.0 p.2 in
      let replies = p.3.replies ++ p.3.reply ∷ [] in (
        asked_by conn (lines_in old (piece conn bytes)) replies ++ leaves conn ∷ [],
        record { replies = replies; are = refl; unsent = drop p.3.front (with_newline p.3.reply); written = cut_written conn _ out old.held p.1 p.3 },
        subst (λ ls. AllActs old.held (asked_by conn ls replies ++ leaves conn ∷ []) new.held) (sym lines)
            (cut_acts conn (lines_from p.0 bytes) out old.held p.1 new.held p.3 (ap (λ (s : HubState). s.held) p.4)),
      )
  failed_acts (close conn) out new p =
      let lines = close_lines conn p.0 p.2 in
      let replies = p.3.replies ++ p.3.reply ∷ [] in (
        asked_by conn (lines_in old (close conn)) replies ++ leaves conn ∷ [],
        record { replies = replies; are = refl; unsent = drop p.3.front (with_newline p.3.reply); written = cut_written conn _ out old.held p.1 p.3 },
        subst (λ ls. AllActs old.held (asked_by conn ls replies ++ leaves conn ∷ []) new.held) (sym lines)
            (cut_acts conn (option_to_list (last_line p.0)) out old.held p.1 new.held p.3 (ap (λ (s : HubState). s.held) p.4)),
      )
  failed_acts (cut conn) out new p = absurd p

  unflushed_acts : (event : Event) (out : List ℕ) (new : HubState) → Unflushed old event out new
      → (acts : List Act) × ActsOfUnsent old event out acts × AllActs old.held acts new.held
  unflushed_acts (attach conn) out new p = absurd p
  unflushed_acts (piece conn bytes) out new p =
      let done = done_acts (piece conn bytes) p.1 p.0 p.3 in
      let asked = asked_by conn (lines_in old (piece conn bytes)) done.1.replies in
      let ended = p.4.3 in
      let here : AllActs old.held asked p.0.held
      = subst (λ acts. AllActs old.held acts p.0.held) (done.1.are ∙ append-nil asked) done.2 in (
        asked ++ leaves conn ∷ [],
        record {
          replies = done.1.replies;
          are = refl;
          unsent = [];
          written = sym done.1.written ∙ sym (append-nil p.1)
              ∙ ap (λ t. p.1 ++ t) (sym (p.4.5 ∙ ap (λ t. t ++ p.4.2) ended.1 ∙ p.4.4.0)) ∙ sym p.5 ∙ sym (append-nil out);
        },
        then_leaves conn asked old.held p.0.held new.held here (ap (λ (s : HubState). s.held) (p.4.4.1 ∙ ended.2)),
      )
  unflushed_acts (close conn) out new p =
      let done = done_acts (close conn) out new p in
      (done.0, record { replies = done.1.replies; are = done.1.are; unsent = []; written = sym done.1.written ∙ sym (append-nil out) }, done.2)
  unflushed_acts (cut conn) out new p = absurd p

happens_acts : (event : Event) (out : List ℕ) (old new : HubState) → Happens old event out new
    → (acts : List Act) × HappensBy old event out acts new × AllActs old.held acts new.held
happens_acts event out old new (inl (inl p)) = let q = done_acts old event out new p in (q.0, inl (p, q.1), q.2)
happens_acts event out old new (inl (inr p)) = ([], inr (inl (p.0, p.1, p.3, refl)), ap (λ (s : HubState). s.held) p.3)
happens_acts event out old new (inr (inl p)) = let q = failed_acts old event out new p in (q.0, inr (inr (inl p, q.1)), q.2)
happens_acts event out old new (inr (inr p)) = let q = unflushed_acts old event out new p in (q.0, inr (inr (inr p, q.1)), q.2)

-- ---- runs

pub runs_are_acts : RunsAreActs
runs_are_acts old new [] out p = ([], (refl, p.1), ap (λ (s : HubState). s.held) p.1)
runs_are_acts old new (event ∷ events) out p =
    let first = happens_acts event p.1 old p.0 p.3 in
    let later = runs_are_acts p.0 new events p.2 p.4 in (
      first.0 ++ later.0,
      (p.0, p.1, first.0, later.0, first.1, later.1, refl),
      acts_append first.0 later.0 old.held p.0.held new.held first.2 later.2,
    )

pub hubs_replay : HubsReplay
hubs_replay d new events out p =
    let run = runs_are_acts (quiet_hub d) new events out p in
    let journal = runs_have_journals (unheld d) new.held run.0 run.2 in
    (run.0, journal.0, run.1, journal.1, journals_replay d run.0 journal.0 new.held journal.1)
