-- A holder's sessions are undone one by one: what its leaving would leave stays the same, and is there once it holds none.
-- Cited by `asking::disconnect` and `asking::undo_all`.
use Rattle.std.proofs.Common.{◌≡◌, inl, inr, ℕ, suc, ◌-◌, ◌<◌, List, [], ◌∷◌, Bool, true, false, not, cond, nat_eq, nat_le, codes}
use Rattle.std.proofs.Common.{Option, Some, None, Result, Ok, Err, refl, sym, ap, ◌∙◌, subst, arith}
use Rattle.mi_value.specs.declared.refusal.Refusal.TheVariants.{Busy}
use Rattle.mi_value.specs.declared.refusal.NoSession.{NoSession}
use Rattle.mi_model.specs.Database.{Database, depth, undone, undone_times, undo_step}
use Rattle.mi_request.proofs.ShortLemmas.{short_means}
use Rattle.mi_request.specs.Lines.{command_line}
use Rattle.mi_request.specs.declared.request.Request.TheVariants as request
use Rattle.mi_request.specs.declared.request.SessionCommand.TheVariants as session
use Rattle.mi_protocol.specs.declared.command.Command.TheVariants as command
use Rattle.mi_commands.specs.Answer.{answer, command_answer, command_of, MayGive}
use Rattle.mi_commands.specs.Holder.{HeldDatabase, is_busy, one_less, released}
use Rattle.mi_commands.specs.Performed.{holder_after, or_session}
use Rattle.mi_commands.specs.declared.holder.Holder.{Holder}
use Rattle.mi_hub.specs.Ended.{ended}
use Rattle.mi_hub.specs.Lines.{Rest, lines_of, lines_from}
use Rattle.mi_hub.specs.Connections.{rest_at}
use Rattle.mi_hub.specs.Run.{HubState, piece, cut, Done}
use Rattle.mi_hub.specs.Served.{InTurn}
use Rattle.mi_hub.proofs.LineLemmas.{lines_from-nothing}
use Rattle.mi_replay.specs.Journal.{undo_line}
use Rattle.mi_durable.specs.Durable.{holder_conn}
use Rattle.mi_hub.proofs.OneLineLemmas.{whole_line}
use Rattle.mi_clients.specs.Steps.{undo_bytes, HoldsSome}
use Rattle.mi_clients.proofs.ClientsLemmas.{test_of, is_same}

-- ---- what the line is answered

undo_means : command_line (codes "{\"cmd\":\"undo\"}") ≡ Ok (request.Session session.Undo)
undo_means = short_means (request.Session session.Undo) _ refl

undo_unended : ended (codes "{\"cmd\":\"undo\"}") ≡ []
unfolding ended
undo_unended = refl

-- its bytes are this one line
undo_lines : lines_of undo_bytes ≡ undo_line ∷ []
undo_lines = (whole_line (codes "{\"cmd\":\"undo\"}") undo_unended).0

one_given : (conn : ℕ) (replies : List (List ℕ)) (old new : HeldDatabase) → InTurn (MayGive conn) old (undo_line ∷ []) replies new
    → (reply : List ℕ) × MayGive conn old undo_line reply new
one_given conn [] old new p = absurd p
one_given conn (r ∷ []) old new p = (r, subst (λ s. MayGive conn old undo_line r s) (sym p.2) p.1)
one_given conn (r ∷ q ∷ rs) old new p = absurd p.2

alike : (r s : Rest) → ◌≡◌ {A = Option Rest} (Some r) (Some s) → r ≡ s
alike r s h = cc

undo_given : (conn : ℕ) (out : List ℕ) (old new : HubState) → rest_at conn old.attached ≡ Some (Some []) → Done old (piece conn undo_bytes) out new
    → (reply : List ℕ) × MayGive conn old.held undo_line reply new.held
undo_given conn out old new here done =
    let is : done.0 ≡ Some [] = alike done.0 (Some []) (sym done.1 ∙ here) in
    let fed : lines_from done.0 undo_bytes ≡ undo_line ∷ [] = ap (λ r. lines_from r undo_bytes) is ∙ lines_from-nothing undo_bytes ∙ undo_lines in
    one_given conn done.2.replies old.held new.held (subst (λ ls. InTurn (MayGive conn) old.held ls done.2.replies new.held) fed done.2.in_turn)

-- ---- what it leaves

abbrev on : Database → Option Holder → HeldDatabase
on d o = record { database = d; holder = o }

same_conn : (a b : ℕ) → ◌≡◌ {A = Option ℕ} (Some a) (Some b) → a ≡ b
same_conn a b h = cc

is_equal : (a b : ℕ) → a ≡ b → nat_eq a b ≡ true
is_equal a b h = grind arith

module _ (d : Database) (h : Holder) (conn : ℕ) (mine : nat_eq h.conn conn ≡ true) (some : 0 < h.held) where
  -- what a step left gives back, once the connection goes, what it would have given before
  abbrev Leaves : Database → Option Holder → Type 0
  Leaves e o = (released conn (on e o) ≡ released conn (on d (Some h))) × HoldsSome o

  whole : released conn (on d (Some h)) ≡ on (undone_times h.held d) None
  whole = ap (λ b. on (undone_times (cond b h.held 0) d) (cond b None (Some h))) mine

  abbrev fewer : Option Holder
  fewer = Some (record { conn = h.conn; held = h.held - 1 })

  less_whole : released conn (on (undone d) fewer) ≡ on (undone_times (h.held - 1) (undone d)) None
  less_whole = ap (λ b. on (undone_times (cond b (h.held - 1) 0) (undone d)) (cond b None fewer)) mine

  last_one : nat_le h.held 1 ≡ true → h.held ≡ 1
  last_one e = grind arith

  more_than_one : nat_le h.held 1 ≡ false → 0 < h.held - 1
  more_than_one e = grind arith

  one_and_more : h.held ≡ suc (h.held - 1)
  one_and_more = omega arith

  less_leaves : (b : Bool) → nat_le h.held 1 ≡ b → Leaves (undone d) (cond b None fewer)
  less_leaves true e = (sym (whole ∙ ap (λ n. on (undone_times n d) None) (last_one e)), tt)
  less_leaves false e = (less_whole ∙ sym (whole ∙ ap (λ n. on (undone_times n d) None) one_and_more), more_than_one e)

  -- the step is accepted or refused
  step_leaves : (b : Bool) → let a : Result ℕ NoSession × Database = cond b (Err (record {}), d) (Ok (d.revision - 1), undone d) in
      Leaves a.1 (holder_after (or_session a.0) one_less (Some h))
  step_leaves true = (refl, some)
  step_leaves false = less_leaves (nat_le h.held 1) refl

  free : is_busy (Some h) conn ≡ false
  free = ap not mine

  answer_is : (answer (on d (Some h)) conn undo_line).1 ≡ on (undo_step d).1 (holder_after (or_session (undo_step d).0) one_less (Some h))
  answer_is =
      ap (λ r. (command_answer (on d (Some h)) conn (command_of (on d (Some h)) conn r)).1) undo_means
      ∙ ap (λ b. (command_answer (on d (Some h)) conn (cond b (Err Busy) (Ok (command.Session session.Undo)))).1) free

  answer_leaves : (s : HeldDatabase) → s ≡ (answer (on d (Some h)) conn undo_line).1 → Leaves s.database s.holder
  answer_leaves s is =
      subst (λ (t : HeldDatabase). Leaves t.database t.holder) (sym (is ∙ answer_is)) (step_leaves (nat_eq (depth d) 0))

by_holder : (conn : ℕ) (d : Database) (o : Option Holder) (new : HeldDatabase) → holder_conn o ≡ Some conn → HoldsSome o
    → new ≡ (answer (on d o) conn undo_line).1 → (released conn new ≡ released conn (on d o)) × HoldsSome new.holder
by_holder conn d None new is some left = absurd (cc)
by_holder conn d (Some h) new is some left = answer_leaves d h conn (is_equal h.conn conn (same_conn h.conn conn is)) some new left

-- the holder asks to undo
pub undo_leaves : (conn : ℕ) (reply : List ℕ) (old new : HeldDatabase) → holder_conn old.holder ≡ Some conn → HoldsSome old.holder
    → MayGive conn old undo_line reply new → (released conn new ≡ released conn old) × HoldsSome new.holder
undo_leaves conn reply old new is some (inl given) = by_holder conn old.database old.holder new is some given.1
undo_leaves conn reply old new is some (inr memory) = (
  ap (released conn) memory.1.1,
  subst (λ (s : HeldDatabase). HoldsSome s.holder) (sym memory.1.1) some,
)

-- the same of what the hub had and has
pub asked_leaves : (conn : ℕ) (line out : List ℕ) (start old new : HubState) → line ≡ undo_bytes → rest_at conn old.attached ≡ Some (Some [])
    → holder_conn old.held.holder ≡ Some conn → Done old (piece conn line) out new
    → (released conn old.held ≡ released conn start.held) × HoldsSome old.held.holder
    → (released conn new.held ≡ released conn start.held) × HoldsSome new.held.holder
asked_leaves conn line out start old new is here holds done before =
    let given = undo_given conn out old new here (subst (λ l. Done old (piece conn l) out new) is done) in
    let after = undo_leaves conn given.0 old.held new.held holds before.1 given.1 in
    (after.0 ∙ before.0, after.1)

-- ---- the end

none_by : (conn : ℕ) (d : Database) (o : Option Holder) → ¬ (holder_conn o ≡ Some conn) → released conn (on d o) ≡ on d o
none_by conn d None differs = refl
none_by conn d (Some h) differs = elim (test_of (nat_eq h.conn conn)) [
  | inl is ↦ absurd (differs (ap Some (is_same h.conn conn is)))
  | inr other ↦ ap (λ b. on (undone_times (cond b h.held 0) d) (cond b None (Some h))) other
]

-- one that isn't the holder leaves all as it is
pub none_leaves : (conn : ℕ) (s : HeldDatabase) → ¬ (holder_conn s.holder ≡ Some conn) → released conn s ≡ s
none_leaves conn s differs = none_by conn s.database s.holder differs

-- what is left, by whether the connection is the holder
abbrev left_by : Database → Holder → Bool → HeldDatabase
left_by d h b = on (undone_times (cond b h.held 0) d) (cond b None (Some h))

twice_by : (conn : ℕ) (d : Database) (o : Option Holder) → released conn (released conn (on d o)) ≡ released conn (on d o)
twice_by conn d None = refl
twice_by conn d (Some h) = by_test (nat_eq h.conn conn) refl
  where
    by_test : (b : Bool) → nat_eq h.conn conn ≡ b → released conn (left_by d h b) ≡ left_by d h b
    by_test true is = refl
    by_test false is = ap (left_by d h) is

-- and one that has gone leaves no more
pub leaves_twice : (conn : ℕ) (s : HeldDatabase) → released conn (released conn s) ≡ released conn s
leaves_twice conn s = twice_by conn s.database s.holder

-- a connection goes whose sessions were undone
pub gone_leaves : (conn : ℕ) (start old new : HubState) → old.held ≡ released conn start.held → Done old (cut conn) [] new
    → new.held ≡ released conn start.held
gone_leaves conn start old new is done =
    ap (λ (s : HubState). s.held) done.2 ∙ ap (released conn) is ∙ leaves_twice conn start.held

-- a connection goes that held none
pub gone_same : (conn : ℕ) (old new : HubState) → ¬ (holder_conn old.held.holder ≡ Some conn) → Done old (cut conn) [] new → new.held ≡ old.held
gone_same conn old new differs done = ap (λ (s : HubState). s.held) done.2 ∙ none_leaves conn old.held differs
