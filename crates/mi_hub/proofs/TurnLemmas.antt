-- What a turn was, by what it answered.
-- Cited by `stream::read_turn`, `stream::serve_stream`, `turn::take_turn` and `mi_program`.
use Rattle.std.proofs.Common.{◌≡◌, ◌↔◌, ◌||◌, ◌∙◌, ◌⊎◌, ℕ, ◌<◌, ◌≤◌, List, [], ◌∷◌, ◌++◌, length, take, Bool, true}
use Rattle.std.proofs.Common.{false, Option, Some, None, Result, Ok, Err, OnErr, refl, sym, ap, subst, inl, inr, arith}
use Rattle.std.specs.Io.KnownBytes.{IsAtEnd}
use Rattle.std.proofs.lemmas.List.{length-take}
use Rattle.mi_value.specs.declared.limits.TheConstants.{PIECE}
use Rattle.mi_hub.specs.Run.{HubState, piece, close, cut, Done, Failed, Unflushed, Fault, FaultAtLast}
use Rattle.mi_hub.specs.Watching.{watched, has_failed, flush_failed, Reads}
use Rattle.mi_hub.specs.ConnectionTurn.{ConnectionTurn, fed, ended, unread, unanswered, unended, unflushed, unflushed_end}
use Rattle.mi_hub.specs.ConnectionTurn.{conn_of, outcome, given_in, Made, TellsFlush, Gave}
use Rattle.mi_hub.specs.declared.fault.ServeFault.{ServeFault}
use Rattle.mi_hub.specs.declared.fault.ServeFault.TheVariants.{Read, Write}
use Rattle.mi_hub.specs.declared.watched.Watched.{Watched}
use Rattle.mi_hub.proofs.PieceLemmas.{piece_unsent}

open_isnt_ended : ◌≡◌ {A = Result Bool ServeFault} (Ok true) (Ok false) → ⊥
open_isnt_ended e = cc

ok_isnt_err : (b : Bool) (fault : ServeFault) → ◌≡◌ {A = Result Bool ServeFault} (Ok b) (Err fault) → ⊥
ok_isnt_err b fault e = cc

read_isnt_write : ◌≡◌ {A = Result Bool ServeFault} (Err Read) (Err Write) → ⊥
read_isnt_write e = cc

-- a turn whose read gave bytes or their end has no failed read
pub never_read : (P : Type 0) (r : Result Bool ServeFault) → OnErr r ((r ≡ Err Write) × P) → r ≡ Err Read → ⊥
never_read P (Ok b) w is = ok_isnt_err b Read is
never_read P (Err fault) w is = read_isnt_write (sym is ∙ w.0)

pub not_read : {X : Type 0} (P : Type 0) (r : Result Bool ServeFault) (read : Option X) (x : X)
    → read ≡ Some x → OnErr r ((r ≡ Err Write) × P) → (r ≡ Err Read) ↔ (read ≡ None)
not_read P r read x is w = (λ h. absurd (never_read P r w h), λ n. absurd (some_isnt_none (sym is ∙ n)))
  where
    some_isnt_none : Some x ≡ None → ⊥
    some_isnt_none e = cc

pub or_true : (b : Bool) → (b || true) ≡ true
or_true true = refl
or_true false = refl

-- a piece ends so, or the close at the end
abbrev pub EndsSo : Fault → Type 0 → ℕ → List ℕ → HubState → List ℕ → HubState → Type 0
EndsSo Ends AtEnd conn bytes old out new = Ends old (piece conn bytes) out new ⊎ (AtEnd × (bytes ≡ []) × Ends old (close conn) out new)

-- it does so behind a piece that was done
fault_at : (Ends : Fault) (conn : ℕ) (first last sent more : List ℕ) (old mid new : HubState) (AtEnd : Type 0) → Done old (piece conn first) sent mid
    → EndsSo Ends AtEnd conn last mid more new → FaultAtLast Ends AtEnd old conn first last (sent ++ more) new
fault_at Ends conn first last sent more old mid new AtEnd done (inl at) = inl (piece_unsent Ends (piece conn last) conn first sent more old mid new done at)
fault_at Ends conn first last sent more old mid new AtEnd done (inr end) =
    inr (end.0, end.1, piece_unsent Ends (close conn) conn first sent more old mid new done end.2)

module _ {T : Type 0} (remaining : T → Option (List ℕ)) (before later : Watched T) where
  -- what a read gave was read
  gave_bytes : (bytes : List ℕ) → Gave remaining before later (Some bytes) → Reads remaining before later bytes
  gave_bytes [] gave = gave.0
  gave_bytes (b ∷ bytes) gave = gave

  -- what a read of so many bytes into a buffer gave
  pub gave_read : (bytes buf : List ℕ) (n : ℕ) → bytes ≡ take n buf → n ≤ length buf → 0 < length buf
      → Reads remaining before later (take n buf) × (n ≡ 0 → 0 < length buf → IsAtEnd (remaining (watched later))) → Gave remaining before later (Some bytes)
  gave_read [] buf n is within room got =
      let none : n ≡ 0 = omega (arith, length-take n buf, ap length is) in
      (subst (Reads remaining before later) (sym is) got.0, got.1 none room)
  gave_read (b ∷ bytes) buf n is within room got = subst (Reads remaining before later) (sym is) got.0

  module _ (conn : ℕ) (old new : HubState) (out : List ℕ) where
    -- the connection is open still
    pub was_fed : (turn : ConnectionTurn) → conn_of turn ≡ conn → Ok true ≡ outcome turn → Gave remaining before later (given_in turn) → Made old turn out new
        → (bytes : List ℕ) × (1 ≤ length bytes) × Reads remaining before later bytes × Done old (piece conn bytes) out new
    was_fed (fed k bytes) is answer gave made = (bytes, made.1.0, gave_bytes bytes gave, subst (λ n. Done old (piece n bytes) out new) is made.0)
    was_fed (ended k) is answer gave made = absurd (open_isnt_ended answer)
    was_fed (unread k) is answer gave made = absurd (ok_isnt_err true Read answer)
    was_fed (unanswered k bytes) is answer gave made = absurd (ok_isnt_err true Write answer)
    was_fed (unended k) is answer gave made = absurd (ok_isnt_err true Write answer)
    was_fed (unflushed k bytes) is answer gave made = absurd (ok_isnt_err true Write answer)
    was_fed (unflushed_end k) is answer gave made = absurd (ok_isnt_err true Write answer)

    -- its bytes have ended
    pub was_ended : (turn : ConnectionTurn) → conn_of turn ≡ conn → Ok false ≡ outcome turn → Gave remaining before later (given_in turn) → Made old turn out new
        → Reads remaining before later [] × IsAtEnd (remaining (watched later)) × Done old (close conn) out new
    was_ended (fed k bytes) is answer gave made = absurd (open_isnt_ended (sym answer))
    was_ended (ended k) is answer gave made = (gave.0, gave.1, subst (λ n. Done old (close n) out new) is made)
    was_ended (unread k) is answer gave made = absurd (ok_isnt_err false Read answer)
    was_ended (unanswered k bytes) is answer gave made = absurd (ok_isnt_err false Write answer)
    was_ended (unended k) is answer gave made = absurd (ok_isnt_err false Write answer)
    was_ended (unflushed k bytes) is answer gave made = absurd (ok_isnt_err false Write answer)
    was_ended (unflushed_end k) is answer gave made = absurd (ok_isnt_err false Write answer)

    -- its read failed
    pub was_unread : (turn : ConnectionTurn) → conn_of turn ≡ conn → Err Read ≡ outcome turn → Gave remaining before later (given_in turn) → Made old turn out new
        → Reads remaining before later [] × (has_failed later ≡ true) × (out ≡ []) × Done old (cut conn) [] new
    was_unread (fed k bytes) is answer gave made = absurd (ok_isnt_err true Read (sym answer))
    was_unread (ended k) is answer gave made = absurd (ok_isnt_err false Read (sym answer))
    was_unread (unread k) is answer gave made = (gave.0, gave.1, made.1, subst (λ n. Done old (cut n) [] new) is (made.0, refl, made.2))
    was_unread (unanswered k bytes) is answer gave made = absurd (read_isnt_write answer)
    was_unread (unended k) is answer gave made = absurd (read_isnt_write answer)
    was_unread (unflushed k bytes) is answer gave made = absurd (read_isnt_write answer)
    was_unread (unflushed_end k) is answer gave made = absurd (read_isnt_write answer)

    -- a write of its replies failed, or the flush behind them, which the writer tells
    pub was_unsent : (turn : ConnectionTurn) → conn_of turn ≡ conn → Err Write ≡ outcome turn → Gave remaining before later (given_in turn) → Made old turn out new
        → {W : Type 0} (Was : Type 0) (writer after : Watched W) → TellsFlush turn writer after → (Was → has_failed writer ≡ false)
        → (bytes : List ℕ) × (length bytes ≤ PIECE) × Reads remaining before later bytes
        × (EndsSo Failed (IsAtEnd (remaining (watched later))) conn bytes old out new
        ⊎ ((Was → flush_failed after ≡ true) × EndsSo Unflushed (IsAtEnd (remaining (watched later))) conn bytes old out new))
    was_unsent (fed k bytes) is answer gave made Was writer after told sound = absurd (ok_isnt_err true Write (sym answer))
    was_unsent (ended k) is answer gave made Was writer after told sound = absurd (ok_isnt_err false Write (sym answer))
    was_unsent (unread k) is answer gave made Was writer after told sound = absurd (read_isnt_write (sym answer))
    was_unsent (unanswered k bytes) is answer gave made Was writer after told sound = (
      bytes,
      made.1.1,
      gave_bytes bytes gave,
      inl (inl (subst (λ n. Failed old (piece n bytes) out new) is made.0)),
    )
    was_unsent (unended k) is answer gave made Was writer after told sound =
        ([], omega arith, gave.0, inl (inr (gave.1, refl, subst (λ n. Failed old (close n) out new) is made)))
    was_unsent (unflushed k bytes) is answer gave made Was writer after told sound = (
      bytes,
      made.1.1,
      gave_bytes bytes gave,
      inr (λ was. told (sound was), inl (subst (λ n. Unflushed old (piece n bytes) out new) is made.0)),
    )
    was_unsent (unflushed_end k) is answer gave made Was writer after told sound =
        ([], omega arith, gave.0, inr (λ was. told (sound was), inr (gave.1, refl, subst (λ n. Unflushed old (close n) out new) is made)))

-- one of both comes behind a piece that was done
pub unsent_at : (conn : ℕ) (first last sent more : List ℕ) (old mid new : HubState) (AtEnd Told : Type 0) → Done old (piece conn first) sent mid
    → EndsSo Failed AtEnd conn last mid more new ⊎ (Told × EndsSo Unflushed AtEnd conn last mid more new)
    → FaultAtLast Failed AtEnd old conn first last (sent ++ more) new ⊎ (Told × FaultAtLast Unflushed AtEnd old conn first last (sent ++ more) new)
unsent_at conn first last sent more old mid new AtEnd Told done (inl failed) = inl (fault_at Failed conn first last sent more old mid new AtEnd done failed)
unsent_at conn first last sent more old mid new AtEnd Told done (inr at) =
    inr (at.0, fault_at Unflushed conn first last sent more old mid new AtEnd done at.1)
