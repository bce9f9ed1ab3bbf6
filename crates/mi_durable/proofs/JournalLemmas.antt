-- What a line adds to the journal, and what the journal is then.
-- Cited by `Durable::ask`, `Durable::attach`, `Durable::holds`, `Durable::leave`, `laws::journals_go_on`, 1 more and `mi_clients`.
use Rattle.std.proofs.Common.{◌≡◌, ◌⊎◌, ℕ, List, [], ◌∷◌, ◌++◌, Bool, true, false, Option, Some, None, inl, inr, true≢false}
use Rattle.std.proofs.Common.{refl, sym, ap, ◌∙◌, subst, append-nil, length, get_or, cond, nat_eq, eqb-true, eq-eqb}
use Rattle.std.specs.Prelude.{◌↔◌, if◌then◌else◌, IsTrue, replicate}
use Rattle.std.specs.Option.{option_map_or}
use Rattle.std.specs.Io.KnownBytes.{Appends}
use Rattle.std.proofs.KnownBytes.{Appends-nil}
use Rattle.mi_commands.specs.Asked.{Asked}
use Rattle.mi_commands.specs.Answer.{answer, MayAnswer}
use Rattle.mi_commands.specs.Holder.{HeldDatabase, held_by}
use Rattle.mi_commands.specs.declared.holder.Holder.{Holder}
use Rattle.mi_commands.proofs.ToldLemmas.{answer_given}
use Rattle.mi_hub.specs.Lines.{Rest, lines_of, rest_of, lines_from, rest_from}
use Rattle.mi_hub.specs.Connections.{rest_at, with_rest}
use Rattle.mi_hub.specs.Served.{with_newline, sent}
use Rattle.mi_hub.specs.Run.{HubState, piece, attach, cut, Done}
use Rattle.mi_hub.specs.OneLine.{IsWholeLine, AnswersOne, AsksLine}
use Rattle.mi_hub.proofs.ConnectionLemmas.{rest_at-with_rest, with_rest-same, rest_at-last}
use Rattle.mi_hub.proofs.LineLemmas.{ended_nil, lines_from-nothing, rest_from-nothing, from_unended, from_rests}
use Rattle.mi_hub.proofs.OneLineLemmas.{whole_line}
use Rattle.mi_replay.specs.Acts.{Act, leaves}
use Rattle.mi_replay.specs.Journal.{JournalOf, undo_line}
use Rattle.mi_replay.specs.ReplayLaws.{JournalsJoin}
use Rattle.mi_replay.specs.RunActs.{asked_by, lines_in, ActsOfDone}
use Rattle.mi_replay.specs.Replayed.{replayer, replayed, memory_reply}
use Rattle.mi_replay.proofs.AnswerLemmas.{changed_lines_go_in}
use Rattle.mi_durable.specs.Durable.{holder_conn, is_conn}
use Rattle.mi_durable.specs.Journals.{Journals, Asks, JournalsGoOn}
use Rattle.mi_durable.specs.Replay.{done_reply, IsTaken}

-- ---- lines

no_lines : lines_of [] ≡ []
no_lines = sym (lines_from-nothing []) ∙ (from_unended (Some []) [] ended_nil).0

no_rest : rest_of [] ≡ Some []
no_rest = sym (rest_from-nothing []) ∙ (from_unended (Some []) [] ended_nil).1

-- ---- one line

either_nil : (kept : Bool) → ◌≡◌ {A = List Asked} (if kept then [] else []) []
either_nil true = refl
either_nil false = refl

-- replies to these lines, and a journal of what they did: the one of which is said that it may have changed something is in it
record Noted (conn : ℕ) (lines : List Asked) (out : List ℕ) (changed : Bool) (old new : HeldDatabase) : Type 0 where
  replies : List (List ℕ)
  each : length replies ≡ length lines
  written : out ≡ sent replies
  journal : JournalOf old (asked_by conn lines replies) (if changed then lines else []) new

noted_by : (conn : ℕ) (lines : List Asked) (out : List ℕ) (changed : Bool) (old new : HeldDatabase) → AnswersOne conn old lines out changed new
    → Noted conn lines out changed old new
noted_by conn [] out changed old new p = record { replies = []; each = refl; written = p.0; journal = (either_nil changed, p.2) }
noted_by conn (line ∷ []) out changed old new p = record {
  replies = p.0 ∷ [];
  each = refl;
  written = p.1 ∙ sym (append-nil (with_newline p.0));
  journal = (
    new,
    (if changed then line ∷ [] else []),
    [],
    answer_given conn old new line p.0 changed p.2,
    changed_lines_go_in conn line p.0 changed old new p.2,
    (refl, refl),
    sym (append-nil (if changed then line ∷ [] else [])),
  );
}
noted_by conn (line ∷ other ∷ lines) out changed old new p = absurd p

module _ (conn : ℕ) (line out : List ℕ) (changed : Bool) (old new : HubState) (here : rest_at conn old.attached ≡ Some (Some []))
    (whole : IsWholeLine line) (asks : AsksLine conn line out changed old new) (same : new.attached ≡ old.attached) where
  noted_of : Noted conn (lines_of line) out changed old.held new.held
  noted_of = noted_by conn (lines_of line) out changed old.held new.held asks.answered

  in_it : lines_in old (piece conn line) ≡ lines_of line
  in_it = ap (λ o. option_map_or (λ r. lines_from r line) o []) here ∙ lines_from-nothing line

  abbrev acts_of : List Act
  acts_of = asked_by conn (lines_of line) noted_of.replies

  acts_are : ActsOfDone old (piece conn line) out acts_of
  acts_are = record {
    replies = noted_of.replies;
    are = ap (λ ls. asked_by conn ls noted_of.replies) (sym in_it)
        ∙ sym (append-nil (asked_by conn (lines_in old (piece conn line)) noted_of.replies));
    each = noted_of.each ∙ ap length (sym in_it);
    written = noted_of.written;
  }

  -- what is appended is the line or nothing, and its lines are so
  abbrev appended_by : Bool → List ℕ
  appended_by kept = if kept then line else []

  lines_by : (kept : Bool) → (if kept then lines_of line else []) ≡ lines_of (appended_by kept)
  lines_by true = refl
  lines_by false = sym no_lines

  rest_by : (kept : Bool) → rest_of (appended_by kept) ≡ Some []
  rest_by true = ap rest_of whole.1 ∙ (whole_line whole.0 whole.2).1
  rest_by false = no_rest

  -- the line is put in, or it stays out
  pub asks_by : (before after : Option (List ℕ)) → Appends before after (appended_by changed) → Asks conn line old new before after out
  asks_by before after appended = record {
    done = asks.done;
    still = ap (rest_at conn) same ∙ here;
    acts = acts_of;
    are = acts_are;
    journal = record {
      bytes = appended_by changed;
      whole = rest_by changed;
      journal = subst (λ ls. JournalOf old.held acts_of ls new.held) (lines_by changed) noted_of.journal;
      appended = appended;
    };
    changed = changed;
    answered = asks.answered;
    noted = refl;
  }

alike : (r s : Rest) → ◌≡◌ {A = Option Rest} (Some r) (Some s) → r ≡ s
alike r s h = cc

-- a line that is asked, and leaves its connection no rest again, leaves who is attached
pub asked_attached : (conn : ℕ) (line out : List ℕ) (old new : HubState) → rest_at conn old.attached ≡ Some (Some []) → Done old (piece conn line) out new
    → rest_at conn new.attached ≡ Some (Some []) → new.attached ≡ old.attached
asked_attached conn line out old new here done still =
    let rest = rest_from done.0 line in
    let left : rest_at conn new.attached ≡ Some rest = ap (rest_at conn) done.3 ∙ rest_at-with_rest conn rest (Some []) old.attached here in
    done.3 ∙ ap (λ r. with_rest conn r old.attached) (alike rest (Some []) (sym left ∙ still)) ∙ with_rest-same conn (Some []) old.attached here

-- a connection that has come has sent nothing
pub comes_empty : (conn : ℕ) (old new : HubState) → Done old (attach conn) [] new → rest_at conn new.attached ≡ Some (Some [])
comes_empty conn old new done = ap (λ (s : HubState). rest_at conn s.attached) done.3 ∙ rest_at-last conn (Some []) old.attached done.0

-- a connection that isn't the holder holds none
pub holds_none : (o : Option Holder) (holder : Option ℕ) (conn : ℕ) → holder_conn o ≡ holder → is_conn holder conn ≡ false → held_by conn o ≡ 0
holds_none None holder conn is other = refl
holds_none (Some h) holder conn is other =
    let test : nat_eq h.conn conn ≡ false = ap (λ o. is_conn o conn) is ∙ other in ap (λ b. cond b h.held 0) test

-- a connection is the holder just where the holder has its number
pub holds_just : (o : Option Holder) (holder : Option ℕ) (conn : ℕ) (held : Bool) → holder ≡ holder_conn o → held ≡ is_conn holder conn
    → IsTrue held ↔ (holder_conn o ≡ Some conn)
holds_just None holder conn held is told =
    let test : held ≡ false = told ∙ ap (λ o. is_conn o conn) is in
    ((λ yes. absurd (let both : true ≡ false = sym yes ∙ test in cc)), (λ no. absurd (cc)))
holds_just (Some h) holder conn held is told =
    let test : held ≡ nat_eq h.conn conn = told ∙ ap (λ o. is_conn o conn) is in
    ((λ yes. ap Some (eqb-true h.conn conn (sym test ∙ yes))), (λ same. test ∙ eq-eqb h.conn conn (one_conn h.conn conn same)))
  where
    one_conn : (a b : ℕ) → ◌≡◌ {A = Option ℕ} (Some a) (Some b) → a ≡ b
    one_conn a b e = cc

-- a connection that holds none goes away, and the journal has nothing of that
pub leaves_so : (conn : ℕ) (old new : HubState) (log : Option (List ℕ)) → held_by conn old.held.holder ≡ 0 → Done old (cut conn) [] new
    → Journals old.held new.held log log (leaves conn ∷ [])
leaves_so conn old new log none done = record {
  bytes = [];
  whole = no_rest;
  journal = subst (λ ls. JournalOf old.held (leaves conn ∷ []) ls new.held) (sym no_lines) (
    new.held,
    [],
    [],
    ap (λ (s : HubState). s.held) done.2,
    sym (ap (λ n. replicate n undo_line) none),
    (refl, refl),
    refl,
  );
  appended = Appends-nil log;
}

-- ---- replay

-- no reserve is answered that memory is wanting
done_apart : {A : Type 0} → with_newline done_reply ≡ with_newline memory_reply → A
done_apart both = let apart : true ≡ false = ap (λ t. nat_eq (get_or t 2 0) 111) both in absurd (true≢false apart)

-- a line that a replay takes is answered by the definition
pub replayed_by : (lines : List Asked) (out : List ℕ) (changed : Bool) (s t : HeldDatabase) → AnswersOne replayer s lines out changed t
    → IsTaken changed out → t ≡ replayed lines s
replayed_by [] out changed s t p taken = p.2
replayed_by (line ∷ []) out changed s t p taken = by_answer p.2 taken
  where
    by_answer : MayAnswer replayer s line p.0 changed t → IsTaken changed out → t ≡ (answer s replayer line).1
    by_answer (inl given) taken = given.0.1
    by_answer (inr lacking) (inl said) = absurd (true≢false (sym said ∙ lacking.2))
    by_answer (inr lacking) (inr done) = done_apart (sym done ∙ p.1 ∙ ap with_newline lacking.1.0)
replayed_by (line ∷ other ∷ lines) out changed s t p taken = absurd p

-- ---- the whole journal

grown_by : (file : List ℕ) (after : Option (List ℕ)) (bytes : List ℕ) → Appends (Some file) after bytes → after ≡ Some (file ++ bytes)
grown_by file None bytes h = absurd h
grown_by file (Some all) bytes h = ap Some h

pub journals_go_on : JournalsJoin → JournalsGoOn
journals_go_on join start old new acts more file after whole first added =
    let all = from_rests file added.bytes in
    let lines : lines_of (file ++ added.bytes) ≡ lines_of file ++ lines_of added.bytes =
    all.0 ∙ ap (λ r. lines_of file ++ lines_from r added.bytes) whole ∙ ap (λ ls. lines_of file ++ ls) (lines_from-nothing added.bytes) in (
      file ++ added.bytes,
      grown_by file after added.bytes added.appended,
      all.1 ∙ ap (λ r. rest_from r added.bytes) whole ∙ rest_from-nothing added.bytes ∙ added.whole,
      subst (λ ls. JournalOf start (acts ++ more) ls new) (sym lines)
          (join start old new acts more (lines_of file) (lines_of added.bytes) first added.journal),
    )
