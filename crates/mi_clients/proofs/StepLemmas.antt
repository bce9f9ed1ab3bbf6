-- Steps one behind another, and the steps that calls of a durable hub are.
-- Cited by `asking::ask_line`, `asking::ask_lines`, `asking::disconnect`, `asking::finish`, `asking::undo_all`, 10 more and `mi_serving`.
use Rattle.std.proofs.Common.{◌≡◌, ℕ, List, [], ◌∷◌, ◌++◌, codes, Bool, true, false, not, ◌&&◌, cond, nat_eq, inl, inr, Option, Some, Result, Ok, refl, sym, ap, ◌∙◌, subst, append-nil, append_assoc}
use Rattle.std.specs.Io.KnownBytes.{Appends, Keeps}
use Rattle.std.proofs.KnownBytes.{Appends-nil, Appends-kept, Appends-trans, Keeps-refl}
use Rattle.mi_commands.specs.Holder.{HeldDatabase}
use Rattle.mi_hub.specs.Ended.{ended}
use Rattle.mi_hub.specs.Lines.{lines_of, rest_of, lines_from, rest_from}
use Rattle.mi_hub.specs.Connections.{rest_at}
use Rattle.mi_hub.specs.Run.{HubState, attach, piece, cut, Done}
use Rattle.mi_hub.proofs.LineLemmas.{ended_nil, lines_from-nothing, rest_from-nothing, from_rests, from_unended}
use Rattle.mi_replay.specs.Acts.{Act, leaves}
use Rattle.mi_replay.specs.Journal.{JournalOf}
use Rattle.mi_replay.specs.RunActs.{ActsOfDone}
use Rattle.mi_replay.proofs.JoinLemmas.{journals_join}
use Rattle.mi_durable.specs.Journals.{Journals, Asks, IsWholeLine}
use Rattle.mi_durable.proofs.JournalLemmas.{asked_attached}
use Rattle.mi_durable.specs.Durable.{holder_conn, is_conn}
use Rattle.mi_clients.specs.Input.{count_on}
use Rattle.mi_durable.specs.Room.{IsTurnedAway}
use Rattle.mi_durable.specs.declared.fault.DurableFault.{DurableFault}
use Rattle.mi_durable.specs.declared.durable.Admitted.{Admitted}
use Rattle.mi_durable.specs.declared.durable.Admitted.TheVariants.{Asked, TurnedAway}
use Rattle.mi_model.specs.Database.{depth}
use Rattle.mi_clients.specs.ServiceLines.{is_service}
use Rattle.mi_clients.proofs.ClientsLemmas.{same_test}
use Rattle.mi_clients.specs.Steps.{Step, comes, asks, denies, tells, undoes, goes, undo_bytes, begins_in, StepDone, DoneBy, Makes, IsAskOf, is_denial, since_after, AreAsks, AreUndos}

-- ---- nothing

no_lines : lines_of [] ≡ []
no_lines = sym (lines_from-nothing []) ∙ (from_unended (Some []) [] ended_nil).0

no_rest : rest_of [] ≡ Some []
no_rest = sym (rest_from-nothing []) ∙ (from_unended (Some []) [] ended_nil).1

pub none_more : (a b : Option (List ℕ)) → Keeps a b → Appends a b []
none_more a b kept = Appends-kept a a b [] (Appends-nil a) kept

-- a journal of no acts
journal_none : (s : HeldDatabase) (a b : Option (List ℕ)) → Keeps a b → Journals s s a b []
journal_none s a b kept = record {
  bytes = [];
  whole = no_rest;
  journal = (no_lines, refl);
  appended = none_more a b kept;
}

pub makes_none : (s : HubState) (a b : Option (List ℕ)) → Keeps a b → Makes [] s s a b
makes_none s a b kept = record { acts = []; done = (refl, refl); journal = journal_none s.held a b kept }

-- ---- one behind another

pub done_then : (xs ys : List Step) (does more : List Act) (old mid new : HubState) → DoneBy old xs does mid → DoneBy mid ys more new
    → DoneBy old (xs ++ ys) (does ++ more) new
done_then [] ys does more old mid new p q =
    subst (λ zs. DoneBy old ys (zs ++ more) new) (sym p.0) (subst (λ s. DoneBy s ys more new) p.1 q)
done_then (x ∷ xs) ys does more old mid new p q = (
  p.0,
  p.1,
  p.2 ++ more,
  p.3,
  done_then xs ys p.2 more p.0 mid new p.4 q,
  ap (λ zs. zs ++ more) p.5 ∙ append_assoc p.1 p.2 more,
)

journals_then : (old mid new : HeldDatabase) (a b c : Option (List ℕ)) (does more : List Act) → Journals old mid a b does → Journals mid new b c more
    → Journals old new a c (does ++ more)
journals_then old mid new a b c does more p q =
    let all = from_rests p.bytes q.bytes in
    let lines : lines_of (p.bytes ++ q.bytes) ≡ lines_of p.bytes ++ lines_of q.bytes =
    all.0 ∙ ap (λ r. lines_of p.bytes ++ lines_from r q.bytes) p.whole ∙ ap (λ ls. lines_of p.bytes ++ ls) (lines_from-nothing q.bytes) in record {
      bytes = p.bytes ++ q.bytes;
      whole = all.1 ∙ ap (λ r. rest_from r q.bytes) p.whole ∙ rest_from-nothing q.bytes ∙ q.whole;
      journal = subst (λ ls. JournalOf old (does ++ more) ls new) (sym lines)
          (journals_join old mid new does more (lines_of p.bytes) (lines_of q.bytes) p.journal q.journal);
      appended = Appends-trans a b c p.bytes q.bytes p.appended q.appended;
    }

pub makes_then : (xs ys : List Step) (old mid new : HubState) (a b c : Option (List ℕ)) → Makes xs old mid a b → Makes ys mid new b c
    → Makes (xs ++ ys) old new a c
makes_then xs ys old mid new a b c p q = record {
  acts = p.acts ++ q.acts;
  done = done_then xs ys p.acts q.acts old mid new p.done q.done;
  journal = journals_then old.held mid.held new.held a b c p.acts q.acts p.journal q.journal;
}

-- ---- one step

one_step : (step : Step) (old new : HubState) (acts : List Act) → StepDone old step acts new → DoneBy old (step ∷ []) acts new
one_step step old new acts done = (new, acts, [], done, (refl, refl), sym (append-nil acts))

pub undo_makes : (conn : ℕ) (line out : List ℕ) (old new : HubState) (a b : Option (List ℕ)) → line ≡ undo_bytes
    → holder_conn old.held.holder ≡ Some conn → Asks conn line old new a b out → Makes (undoes conn out ∷ []) old new a b
undo_makes conn line out old new a b is holds p = record {
  acts = p.acts;
  done = one_step (undoes conn out) old new p.acts (
    (
      subst (λ l. Done old (piece conn l) out new) is p.done,
      subst (λ l. ActsOfDone old (piece conn l) out p.acts) is p.are,
    ),
    holds,
  );
  journal = p.journal;
}

-- a line is asked
asks_makes : (conn : ℕ) (line out : List ℕ) (old new : HubState) (a b : Option (List ℕ)) → is_service line ≡ false → Asks conn line old new a b out
    → Makes (asks conn line out (begins_in conn old new) ∷ []) old new a b
asks_makes conn line out old new a b other p = record {
  acts = p.acts;
  done = one_step (asks conn line out (begins_in conn old new)) old new p.acts ((p.done, p.are), other, refl);
  journal = p.journal;
}

-- a line is turned away
denies_makes : (conn : ℕ) (line text : List ℕ) (old new : HubState) (a b : Option (List ℕ)) → is_service line ≡ false
    → IsTurnedAway (depth old.held.database) line text → new ≡ old → b ≡ a → Makes (denies conn line text ∷ []) old new a b
denies_makes conn line text old new a b other away same kept = record {
  acts = [];
  done = one_step (denies conn line text) old new [] (refl, same, other, away);
  journal = subst (λ (s : HubState). Journals old.held s.held a b []) (sym same)
      (subst (λ after. Journals old.held old.held a after []) (sym kept) (journal_none old.held a a (Keeps-refl a)));
}

-- the service tells something to a line of its own
pub tells_makes : (conn : ℕ) (line text : List ℕ) (s : HubState) (a b : Option (List ℕ)) → is_service line ≡ true → ¬ (text ≡ []) → Keeps a b
    → Makes (tells conn line text ∷ []) s s a b
tells_makes conn line text s a b own some kept = record {
  acts = [];
  done = one_step (tells conn line text) s s [] (refl, refl, own, some);
  journal = journal_none s.held a b kept;
}

pub leaves_makes : (conn : ℕ) (old new : HubState) (a b : Option (List ℕ)) → Done old (cut conn) [] new
    → Journals old.held new.held a b (leaves conn ∷ []) → Makes (goes conn ∷ []) old new a b
leaves_makes conn old new a b done journal = record {
  acts = leaves conn ∷ [];
  done = one_step (goes conn) old new (leaves conn ∷ []) (done, record { replies = []; are = refl; each = refl; written = refl });
  journal = journal;
}

pub comes_makes : (conn : ℕ) (old new : HubState) (a b : Option (List ℕ)) → Done old (attach conn) [] new → Keeps a b
    → Makes (comes conn ∷ []) old new a b
comes_makes conn old new a b done kept = record {
  acts = [];
  done = one_step (comes conn) old new [] (done, record { replies = []; are = refl; each = refl; written = refl });
  journal = subst (λ h. Journals old.held h a b []) (sym (ap (λ (s : HubState). s.held) done.3)) (journal_none old.held a b kept);
}

-- ---- who is attached

-- a line that is asked leaves who is attached
pub asks_attached : (conn : ℕ) (line out : List ℕ) (old new : HubState) (a b : Option (List ℕ)) → rest_at conn old.attached ≡ Some (Some [])
    → Asks conn line old new a b out → new.attached ≡ old.attached
asks_attached conn line out old new a b here p = asked_attached conn line out old new here p.done p.still

-- with which line it began to hold sessions
asked_since : (conn : ℕ) (line out : List ℕ) (began : Bool) (n s : ℕ) → ¬ (line ≡ [])
    → since_after conn n s (asks conn line out began ∷ []) ≡ cond began (count_on n line) s
asked_since conn [] out began n s some = absurd (some refl)
asked_since conn (b ∷ bs) out began n s some =
    ap (λ t. cond (t && began) (count_on n (cond t (b ∷ bs) [])) s) (same_test conn)

held_still : (b : Bool) → (not b && b) ≡ false
held_still true = refl
held_still false = refl

kept_since : (conn : ℕ) (old new : HubState) → new ≡ old → begins_in conn old new ≡ false
kept_since conn old new same =
    ap (λ (s : HubState). not (is_conn (holder_conn old.held.holder) conn) && is_conn (holder_conn s.held.holder) conn) same
    ∙ held_still (is_conn (holder_conn old.held.holder) conn)

-- a line that a durable hub was asked is done, or turned away
pub line_step : (conn : ℕ) (line before after : List ℕ) (old new : HubState) (a b : Option (List ℕ)) (lacks : Bool) (r : Admitted)
    → is_service line ≡ false
    → (◌≡◌ {A = Result Admitted DurableFault} (Ok r) (Ok Asked) → (out : List ℕ) × (after ≡ before ++ out) × Asks conn line old new a b out)
    → (◌≡◌ {A = Result Admitted DurableFault} (Ok r) (Ok TurnedAway) → (out : List ℕ) × (after ≡ before ++ out)
    × IsTurnedAway (depth old.held.database) line out × (lacks ≡ true) × (new ≡ old) × (b ≡ a))
    → (out : List ℕ) × (after ≡ before ++ out) × (step : Step) × IsAskOf conn line out step × Makes (step ∷ []) old new a b
    × (is_denial step ≡ true → lacks ≡ true)
    × ((n s : ℕ) → ¬ (line ≡ []) → since_after conn n s (step ∷ []) ≡ cond (begins_in conn old new) (count_on n line) s)
line_step conn line before after old new a b lacks Asked other asked away =
    let p = asked refl in
    let began = begins_in conn old new in
    (p.0, p.1, asks conn line p.0 began, inl (began, refl), asks_makes conn line p.0 old new a b other p.2, λ is. absurd (cc), λ n s some. asked_since conn line p.0 began n s some)
line_step conn line before after old new a b lacks TurnedAway other asked away =
    let p = away refl in
    (p.0, p.1, denies conn line p.0, inr refl, denies_makes conn line p.0 old new a b other p.2 p.4 p.5, λ is. p.3, λ n s some. ap (λ b. cond b (count_on n line) s) (sym (kept_since conn old new p.4)))

-- and leaves who is attached
pub line_attached : (conn : ℕ) (line before after : List ℕ) (old new : HubState) (a b : Option (List ℕ)) (lacks : Bool) (r : Admitted)
    → rest_at conn old.attached ≡ Some (Some [])
    → (◌≡◌ {A = Result Admitted DurableFault} (Ok r) (Ok Asked) → (out : List ℕ) × (after ≡ before ++ out) × Asks conn line old new a b out)
    → (◌≡◌ {A = Result Admitted DurableFault} (Ok r) (Ok TurnedAway) → (out : List ℕ) × (after ≡ before ++ out)
    × IsTurnedAway (depth old.held.database) line out × (lacks ≡ true) × (new ≡ old) × (b ≡ a))
    → new.attached ≡ old.attached
line_attached conn line before after old new a b lacks Asked here asked away =
    let p = asked refl in
    asks_attached conn line p.0 old new a b here p.2
line_attached conn line before after old new a b lacks TurnedAway here asked away = ap (λ (s : HubState). s.attached) (away refl).4

-- ---- lines of one connection

-- one line behind none
one_ask : (conn : ℕ) (taken given line out : List ℕ) → (taken ≡ []) × (given ≡ [])
    → (conn ≡ conn) × (more : List ℕ) × (later : List ℕ) × ((more ≡ []) × (later ≡ [])) × (taken ++ line ≡ line ++ more) × (given ++ out ≡ out ++ later)
one_ask conn taken given line out p = (
  refl,
  [],
  [],
  (refl, refl),
  ap (λ t. t ++ line) p.0 ∙ sym (append-nil line),
  ap (λ t. t ++ out) p.1 ∙ sym (append-nil out),
)

pub asks_more : (conn : ℕ) (steps : List Step) (taken given line out : List ℕ) (step : Step) → IsAskOf conn line out step
    → AreAsks conn steps taken given → AreAsks conn (steps ++ step ∷ []) (taken ++ line) (given ++ out)
asks_more conn [] taken given line out step is p = elim is [
  | inl same ↦ subst (λ s. AreAsks conn (s ∷ []) (taken ++ line) (given ++ out)) (sym same.1) (one_ask conn taken given line out p)
  | inr same ↦ subst (λ s. AreAsks conn (s ∷ []) (taken ++ line) (given ++ out)) (sym same) (one_ask conn taken given line out p)
]
asks_more conn (comes k ∷ steps) taken given line out step is p = absurd p
asks_more conn (asks k l o began ∷ steps) taken given line out step is p = (
  p.0,
  p.1 ++ line,
  p.2 ++ out,
  asks_more conn steps p.1 p.2 line out step is p.3,
  ap (λ t. t ++ line) p.4 ∙ append_assoc l p.1 line,
  ap (λ t. t ++ out) p.5 ∙ append_assoc o p.2 out,
)
asks_more conn (denies k l o ∷ steps) taken given line out step is p = (
  p.0,
  p.1 ++ line,
  p.2 ++ out,
  asks_more conn steps p.1 p.2 line out step is p.3,
  ap (λ t. t ++ line) p.4 ∙ append_assoc l p.1 line,
  ap (λ t. t ++ out) p.5 ∙ append_assoc o p.2 out,
)
asks_more conn (tells k l o ∷ steps) taken given line out step is p = absurd p
asks_more conn (undoes k o ∷ steps) taken given line out step is p = absurd p
asks_more conn (goes k ∷ steps) taken given line out step is p = absurd p

pub undos_more : (conn : ℕ) (steps : List Step) (out : List ℕ) → AreUndos conn steps → AreUndos conn (steps ++ undoes conn out ∷ [])
undos_more conn [] out p = (refl, tt)
undos_more conn (comes k ∷ steps) out p = absurd p
undos_more conn (asks k l o began ∷ steps) out p = absurd p
undos_more conn (denies k l o ∷ steps) out p = absurd p
undos_more conn (tells k l o ∷ steps) out p = absurd p
undos_more conn (undoes k o ∷ steps) out p = (p.0, undos_more conn steps out p.1)
undos_more conn (goes k ∷ steps) out p = absurd p

-- the line that undoes a session is a whole line
pub undo_whole : IsWholeLine undo_bytes
unfolding ended
undo_whole = (codes "{\"cmd\":\"undo\"}", refl, refl)

-- what stays where a journal is left as it is
pub makes_kept : (steps : List Step) (old new later : HubState) (a b c : Option (List ℕ)) → Makes steps old new a b → later ≡ new → Keeps b c
    → Makes steps old later a c
makes_kept steps old new later a b c p is kept = record {
  acts = p.acts;
  done = subst (λ s. DoneBy old steps p.acts s) (sym is) p.done;
  journal = subst (λ (s : HubState). Journals old.held s.held a c p.acts) (sym is) (record {
    bytes = p.journal.bytes;
    whole = p.journal.whole;
    journal = p.journal.journal;
    appended = Appends-kept a b c p.journal.bytes p.journal.appended kept;
  });
}

-- what was asked, and what waits then
pub waits_more : (all taken line w v : List ℕ) → all ≡ taken ++ w → w ≡ line ++ v → all ≡ (taken ++ line) ++ v
waits_more all taken line w v p q = p ∙ ap (λ t. taken ++ t) q ∙ sym (append_assoc taken line v)

-- a line asked by a connection of this number
pub asks_of : (k conn : ℕ) (line out : List ℕ) (step : Step) → k ≡ conn → IsAskOf k line out step → IsAskOf conn line out step
asks_of k conn line out step is p = subst (λ n. IsAskOf n line out step) is p
