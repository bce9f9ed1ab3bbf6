-- Pieces of one connection, one after another, come together to one.
-- Cited by `laws::pieces_cut_in_two`, `stream::serve_stream`, `turn::close_at_end`, `turn::feed_piece`, 4 more and `mi_program`.
use Rattle.std.proofs.Common.{◌≡◌, ◌↔◌, ◌⊎◌, ℕ, List, [], ◌∷◌, ◌++◌, Option, Some, None, IsSome, IfSome, is_some, true, false}
use Rattle.std.proofs.Common.{Result, Ok, Err, OnOk, OnErr, refl, sym, ap, ◌∙◌, subst, append-nil, append_assoc, inl, inr}
use Rattle.mi_hub.specs.declared.fault.HubFault.{HubFault}
use Rattle.mi_hub.specs.declared.fault.HubFault.TheVariants.{NotAttached, AlreadyAttached, TooMany, Memory, Write}
use Rattle.mi_hub.specs.Lines.{Rest, extended, lines_from, rest_from}
use Rattle.mi_hub.specs.Connections.{rest_at, with_rest, others}
use Rattle.mi_commands.specs.Answer.{MayGive}
use Rattle.mi_hub.specs.Served.{Served}
use Rattle.mi_hub.specs.Run.{HubState, Event, piece, close, cut, Done, Refused, DoneOrRefused, OneByOne, Run, AllDone, Unsent, Fault, DoneToFault}
use Rattle.mi_hub.specs.RunLaws.{PiecesCutInTwo}
use Rattle.mi_hub.proofs.LineLemmas.{cut_in_two, from_unended, ended_nil}
use Rattle.mi_hub.proofs.ServedLemmas.{served_none, served_more, served_split}
use Rattle.mi_hub.proofs.ConnectionLemmas.{rest_at-with_rest, with_rest-twice, with_rest-same, others-with_rest}

same_rest : {r s : Rest} → Some r ≡ Some s → r ≡ s
same_rest h = cc

-- the rest after the first piece
rest_then : (conn : ℕ) (r q s : Rest) (old mid : HubState) → rest_at conn old.attached ≡ Some r
    → mid.attached ≡ with_rest conn q old.attached → rest_at conn mid.attached ≡ Some s → s ≡ q
rest_then conn r q s old mid p kept here = same_rest (sym here ∙ ap (rest_at conn) kept ∙ rest_at-with_rest conn q r old.attached p)

piece_none : (conn : ℕ) (r : Rest) (s : HubState) → rest_at conn s.attached ≡ Some r → extended r [] ≡ r → Done s (piece conn []) [] s
piece_none conn r s here fits =
    let none = from_unended r [] ended_nil in (
      r,
      here,
      subst (λ ls. Served (MayGive conn) s.held ls [] s.held) (sym none.0) (served_none (MayGive conn) s.held),
      sym (with_rest-same conn r s.attached here) ∙ ap (λ q. with_rest conn q s.attached) (sym fits ∙ sym none.1),
    )

pub piece_more : (conn : ℕ) (a b out more : List ℕ) (old mid new : HubState) → Done old (piece conn a) out mid
    → Done mid (piece conn b) more new → Done old (piece conn (a ++ b)) (out ++ more) new
piece_more conn a b out more old mid new p q =
    let two = cut_in_two p.0 a b in
    let then = rest_then conn p.0 (rest_from p.0 a) q.0 old mid p.1 p.3 q.1 in (
      p.0,
      p.1,
      subst (λ ls. Served (MayGive conn) old.held ls (out ++ more) new.held)
          (ap (λ r. lines_from p.0 a ++ lines_from r b) then ∙ sym two.0) (served_more (MayGive conn) p.2 q.2),
      q.3 ∙ ap (λ r. with_rest conn (rest_from r b) mid.attached) then ∙ ap (λ cs. with_rest conn (rest_from (rest_from p.0 a) b) cs) p.3
          ∙ with_rest-twice conn _ _ old.attached ∙ ap (λ r. with_rest conn r old.attached) (sym two.1),
    )

piece_split : (conn : ℕ) (a b out : List ℕ) (old new : HubState) → Done old (piece conn (a ++ b)) out new
    → (mid : HubState) × (first : List ℕ) × (later : List ℕ) × Done old (piece conn a) first mid × Done mid (piece conn b) later new × (out ≡ first ++ later)
piece_split conn a b out old new p =
    let two = cut_in_two p.0 a b in
    let parts = served_split (MayGive conn) (lines_from p.0 a) (lines_from (rest_from p.0 a) b)
    (subst (λ ls. Served (MayGive conn) old.held ls out new.held) two.0 p.2) in (
      record { held = parts.0; attached = with_rest conn (rest_from p.0 a) old.attached },
      parts.1,
      parts.2,
      (p.0, p.1, parts.3, refl),
      (
        rest_from p.0 a,
        rest_at-with_rest conn (rest_from p.0 a) p.0 old.attached p.1,
        parts.4,
        p.3 ∙ ap (λ r. with_rest conn r old.attached) two.1 ∙ sym (with_rest-twice conn (rest_from p.0 a) _ old.attached),
      ),
      parts.5,
    )

-- ---- runs of one and of two events

module _ (Makes : HubState → Event → List ℕ → HubState → Type 0) where
  pub one : (e : Event) (old new : HubState) (out : List ℕ) → Makes old e out new → OneByOne Makes old (e ∷ []) out new
  one e old new out p = (new, out, [], p, (refl, refl), sym (append-nil out))

  pub two : (e f : Event) (old mid new : HubState) (first later : List ℕ) → Makes old e first mid
      → Makes mid f later new → OneByOne Makes old (e ∷ f ∷ []) (first ++ later) new
  two e f old mid new first later p q = (mid, first, later, p, one f mid new later q, refl)

  pub run_append : (xs ys : List Event) (old mid new : HubState) (first later : List ℕ) → OneByOne Makes old xs first mid
      → OneByOne Makes mid ys later new → OneByOne Makes old (xs ++ ys) (first ++ later) new
  run_append [] ys old mid new first later p q =
      subst (λ t. OneByOne Makes old ys (t ++ later) new) (sym p.0) (subst (λ s. OneByOne Makes s ys later new) p.1 q)
  run_append (x ∷ xs) ys old mid new first later p q =
      (p.0, p.1, p.2 ++ later, p.3, run_append xs ys p.0 mid new p.2 later p.4 q, ap (λ t. t ++ later) p.5 ∙ append_assoc p.1 p.2 later)

-- ---- a piece in a run, or the same piece cut in two

run_split : (xs ys : List Event) (old new : HubState) (out : List ℕ) → Run old (xs ++ ys) out new
    → (mid : HubState) × (first : List ℕ) × (later : List ℕ) × Run old xs first mid × Run mid ys later new × (out ≡ first ++ later)
run_split [] ys old new out p = (old, [], out, (refl, refl), p, refl)
run_split (x ∷ xs) ys old new out p =
    let q = run_split xs ys p.0 new p.2 p.4 in
    (q.0, p.1 ++ q.1, q.2, (p.0, p.1, q.1, p.3, q.3, refl), q.4, p.5 ∙ ap (λ t. p.1 ++ t) q.5 ∙ sym (append_assoc p.1 q.1 q.2))

-- a piece that is refused is refused in two pieces too
some_none : {A : Type 0} {x : A} → Some x ≡ None → ⊥
some_none h = cc

step_split : (conn : ℕ) (a b out : List ℕ) (old new : HubState) → DoneOrRefused old (piece conn (a ++ b)) out new
    → (mid : HubState) × (first : List ℕ) × (later : List ℕ)
    × DoneOrRefused old (piece conn a) first mid × DoneOrRefused mid (piece conn b) later new × (out ≡ first ++ later)
step_split conn a b out old new (inl p) =
    let q = piece_split conn a b out old new p in (q.0, q.1, q.2, inl q.3, inl q.4, q.5)
step_split conn a b out old new (inr p) =
    (old, [], [], inr (p.0, p.1, refl, refl), inr (p.0, p.1, refl, p.3), p.2)

-- the connection of a piece that is done is attached, so the next piece isn't refused
pub not_refused : (conn : ℕ) (bytes : List ℕ) (r : Rest) (fault : HubFault) (s : HubState)
    → rest_at conn s.attached ≡ Some r → Refused s (piece conn bytes) fault → ⊥
not_refused conn bytes r NotAttached s here refused = some_none (sym here ∙ refused)
not_refused conn bytes r AlreadyAttached s here refused = refused
not_refused conn bytes r TooMany s here refused = refused
not_refused conn bytes r Memory s here refused = refused
not_refused conn bytes r Write s here refused = refused

step_join : (conn : ℕ) (a b out more : List ℕ) (old mid new : HubState) → DoneOrRefused old (piece conn a) out mid
    → DoneOrRefused mid (piece conn b) more new → DoneOrRefused old (piece conn (a ++ b)) (out ++ more) new
step_join conn a b out more old mid new (inl p) (inl q) = inl (piece_more conn a b out more old mid new p q)
step_join conn a b out more old mid new (inl p) (inr q) =
    absurd (not_refused conn b (rest_from p.0 a) q.0 mid (ap (rest_at conn) p.3 ∙ rest_at-with_rest conn (rest_from p.0 a) p.0 old.attached p.1) q.1)
step_join conn a b out more old mid new (inr p) (inl q) =
    absurd (not_refused conn a q.0 p.0 old (ap (λ (s : HubState). rest_at conn s.attached) (sym p.3) ∙ q.1) p.1)
step_join conn a b out more old mid new (inr p) (inr q) =
    inr (p.0, p.1, ap (λ t. t ++ more) p.2 ∙ q.2, q.3 ∙ p.3)

cut_first : (conn : ℕ) (a b : List ℕ) (later : List Event) (old new : HubState) (out : List ℕ)
    → Run old (piece conn (a ++ b) ∷ later) out new → Run old (piece conn a ∷ piece conn b ∷ later) out new
cut_first conn a b later old new out p =
    let parts = step_split conn a b p.1 old p.0 p.3 in
    (parts.0, parts.1, parts.2 ++ p.2, parts.3, (p.0, parts.2, p.2, parts.4, p.4, refl), p.5 ∙ ap (λ t. t ++ p.2) parts.5 ∙ append_assoc parts.1 parts.2 p.2)

join_first : (conn : ℕ) (a b : List ℕ) (later : List Event) (old new : HubState) (out : List ℕ)
    → Run old (piece conn a ∷ piece conn b ∷ later) out new → Run old (piece conn (a ++ b) ∷ later) out new
join_first conn a b later old new out p =
    let q = p.4 in
    (q.0, p.1 ++ q.1, q.2, step_join conn a b p.1 q.1 old p.0 q.0 p.3 q.3, q.4, p.5 ∙ ap (λ t. p.1 ++ t) q.5 ∙ sym (append_assoc p.1 q.1 q.2))

pub pieces_cut_in_two : PiecesCutInTwo
pieces_cut_in_two conn a b before later old new out = (
  λ p. let q = run_split before (piece conn (a ++ b) ∷ later) old new out p in
      subst (λ t. Run old (before ++ piece conn a ∷ piece conn b ∷ later) t new) (sym q.5)
      (run_append DoneOrRefused before (piece conn a ∷ piece conn b ∷ later) old q.0 new q.1 q.2 q.3 (cut_first conn a b later q.0 new q.2 q.4)),
  λ p. let q = run_split before (piece conn a ∷ piece conn b ∷ later) old new out p in
      subst (λ t. Run old (before ++ piece conn (a ++ b) ∷ later) t new) (sym q.5)
      (run_append DoneOrRefused before (piece conn (a ++ b) ∷ later) old q.0 new q.1 q.2 q.3 (join_first conn a b later q.0 new q.2 q.4)),
)

-- a connection that was fed is still attached
pub still_attached : (conn : ℕ) (bytes out : List ℕ) (old mid : HubState) → Done old (piece conn bytes) out mid → IsSome (rest_at conn mid.attached)
still_attached conn bytes out old mid p = ap is_some (ap (rest_at conn) p.3 ∙ rest_at-with_rest conn (rest_from p.0 bytes) p.0 old.attached p.1)

-- nothing was read yet
pub piece_start : (conn : ℕ) (s : HubState) → IsSome (rest_at conn s.attached)
    → IfSome (rest_at conn s.attached) (λ r. extended r [] ≡ r) → Done s (piece conn []) [] s
piece_start conn s = by_rest (rest_at conn s.attached) refl
  where
    by_rest : (o : Option Rest) → rest_at conn s.attached ≡ o → IsSome o → IfSome o (λ r. extended r [] ≡ r) → Done s (piece conn []) [] s
    by_rest None is some fits = absurd (false_true some)
      where
        false_true : is_some {T = Rest} None ≡ true → ⊥
        false_true k = cc
    by_rest (Some r) is some fits = piece_none conn r s is fits

-- a cut of an attached connection is done
pub cut_done : (r : Result (Unit {0}) HubFault) (o : Option Rest) (P Q : Type 0) → OnOk r P
    → ((r ≡ Err NotAttached) ↔ (o ≡ None)) → OnErr r ((r ≡ Err NotAttached) × Q) → IsSome o → P
cut_done (Ok v) o P Q p none refused some = p
cut_done (Err e) o P Q p none refused some = absurd (false_true (sym (ap is_some (none.0 refused.0)) ∙ some))
  where
    false_true : false ≡ true → ⊥
    false_true k = cc

pub same_err : {T E : Type 0} {x y : E} → ◌≡◌ {A = Result T E} (Err x) (Err y) → x ≡ y
same_err h = cc

-- ---- a piece, and what ends the connection

pub piece_close : (conn : ℕ) (bytes first later : List ℕ) (old mid new : HubState) → Done old (piece conn bytes) first mid → Done mid (close conn) later new
    → AllDone old (piece conn bytes ∷ close conn ∷ []) (first ++ later) new
piece_close conn bytes first later old mid new p q = two Done (piece conn bytes) (close conn) old mid new first later p q

pub piece_cut : (conn : ℕ) (bytes first : List ℕ) (old mid new : HubState) → Done old (piece conn bytes) first mid → Done mid (cut conn) [] new
    → AllDone old (piece conn bytes ∷ cut conn ∷ []) first new
piece_cut conn bytes first old mid new p q =
    subst (λ t. AllDone old (piece conn bytes ∷ cut conn ∷ []) t new) (append-nil first) (two Done (piece conn bytes) (cut conn) old mid new first [] p q)

-- the replies of the last event don't go out
pub piece_unsent : (Ends : Fault) (e : Event) (conn : ℕ) (bytes first later : List ℕ) (old mid new : HubState) → Done old (piece conn bytes) first mid
    → Ends mid e later new → DoneToFault Ends old (piece conn bytes ∷ []) e (first ++ later) new
piece_unsent Ends e conn bytes first later old mid new p q = (mid, first, later, one Done (piece conn bytes) old mid first p, q, refl)

-- a connection whose replies don't go out is gone, and the others stay
pub unsent_piece_gone : (conn : ℕ) (bytes out : List ℕ) (old new : HubState) → Unsent old (piece conn bytes) out new → new.attached ≡ others conn old.attached
unsent_piece_gone conn bytes out old new (inl p) = ap (λ (s : HubState). s.attached) p.4
unsent_piece_gone conn bytes out old new (inr p) =
    ap (λ (s : HubState). s.attached) (p.4.4.1 ∙ p.4.3.2) ∙ ap (others conn) p.3.3 ∙ others-with_rest conn (rest_from p.3.0 bytes) old.attached

pub unsent_close_gone : (conn : ℕ) (out : List ℕ) (old new : HubState) → Unsent old (close conn) out new → new.attached ≡ others conn old.attached
unsent_close_gone conn out old new (inl p) = ap (λ (s : HubState). s.attached) p.4
unsent_close_gone conn out old new (inr p) = ap (λ (s : HubState). s.attached) p.4

-- an attached connection is answered no other fault than Write
pub write_of : (X : Type 0) (o : Option Rest) (result : Result (Unit {0}) HubFault) → IsSome o
    → (result ≡ Err NotAttached) ⊎ (result ≡ Err Write) → (result ≡ Err NotAttached → o ≡ None) → (result ≡ Err Write → X) → X
write_of X o result some (inl not) none x = absurd (false_true (sym (ap is_some (none not)) ∙ some))
  where
    false_true : is_some {T = Rest} None ≡ true → ⊥
    false_true k = cc
write_of X o result some (inr write) none x = x write
