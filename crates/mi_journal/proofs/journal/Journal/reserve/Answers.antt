-- no item moves
use Rattle.std.proofs.Common.{◌∙◌, ◌+◌, ◌≤◌, Ok, Err, OnOk, ap, ap₂, sym, subst, length, reverse, arith}
use Rattle.std.specs.declared.result.Result.{Result}
use Rattle.std.specs.List.{sum}
use Rattle.std.specs.VecDeque.{deque_len, deque_capacity}
use Rattle.mi_journal.specs.Noted.{Noted, cut}
use Rattle.mi_journal.proofs.journal.Journal.reserve.Goals as goal

on_ok : {X E : Type 0} (r : Result X E) (P Q : Type 0) → (P → Q) → OnOk r P → OnOk r Q
on_ok (Ok x) P Q f h = f h
on_ok (Err e) P Q f h = tt

pub invariant_of-self : goal.invariant_of-self
invariant_of-self g c = c.self.invariant ∙ sym (ap length c.reserve.ensures.items)

pub returns-in_err-reserve-clause-sessions : goal.returns-in_err-reserve-clause-sessions
returns-in_err-reserve-clause-sessions g c =
    ap (λ q. cut (reverse c.self.inside.counts.items) (reverse q)) c.reserve.ensures.items ∙ ap (λ (v : Noted g.row.T.Denot). v.sessions) c.self.view_is

pub returns-in_err-reserve-clause-changes : goal.returns-in_err-reserve-clause-changes
returns-in_err-reserve-clause-changes g c =
    let was = ap (λ (v : Noted g.row.T.Denot). v.changes) c.self.view_is in omega (arith, was, c.reserve.ensures.len, c.reserve.ensures.capacity)

pub returns-in_err-reserve-clause-starts : goal.returns-in_err-reserve-clause-starts
returns-in_err-reserve-clause-starts g c = let was = ap (λ (v : Noted g.row.T.Denot). v.starts) c.self.view_is in omega (arith, was)

pub invariant_of-self-2 : goal.invariant_of-self-2
invariant_of-self-2 g c =
    ap sum c.reserve-2.ensures.items ∙ c.self.invariant ∙ sym (ap length c.reserve.ensures.items)

pub returns-clause-sessions : goal.returns-clause-sessions
returns-clause-sessions g c =
    ap₂ (λ p q. cut (reverse p) (reverse q)) c.reserve-2.ensures.items c.reserve.ensures.items ∙ ap (λ (v : Noted g.row.T.Denot). v.sessions) c.self.view_is

pub returns-clause-changes : goal.returns-clause-changes
returns-clause-changes g c =
    let was = ap (λ (v : Noted g.row.T.Denot). v.changes) c.self.view_is in omega (arith, was, c.reserve.ensures.len, c.reserve.ensures.capacity)

pub returns-clause-starts : goal.returns-clause-starts
returns-clause-starts g c =
    let was = ap (λ (v : Noted g.row.T.Denot). v.starts) c.self.view_is in omega (arith, was, c.reserve-2.ensures.len, c.reserve-2.ensures.capacity)

pub returns-clause-room : goal.returns-clause-room
returns-clause-room g c =
    let a = c.reserve in
    let b = c.reserve-2 in
    let first : deque_len a.new.self + c.args.changes ≤ deque_capacity a.new.self =
    subst (λ r. OnOk r (deque_len a.new.self + c.args.changes ≤ deque_capacity a.new.self)) c.in_ok-reserve.was a.ensures.ok in
    on_ok b.result _ _ (λ second. (omega (arith, first), omega (arith, second))) b.ensures.ok
