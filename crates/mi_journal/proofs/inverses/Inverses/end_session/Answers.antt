-- the newest session has no entry, so no record and no place is its
use Rattle.std.proofs.Common.{◌∙◌, ℕ, ap, sym, subst, reverse}
use Rattle.mi_container.specs.Inverse.{Inverse}
use Rattle.mi_journal.specs.Noted.{NewestIsEmpty, without_newest}
use Rattle.mi_journal.specs.Filled.{records_of_all, places_of_all, decoded_all}
use Rattle.std.specs.VecDeque.{deque_capacity}
use Rattle.mi_journal.specs.Stored.{Stored}
use Rattle.mi_journal.proofs.DecodedLemmas.{newest_empty, ended}
use Rattle.mi_journal.proofs.MemoryLemmas.{sized, end_keeps}
use Rattle.mi_journal.proofs.inverses.Inverses.end_session.Goals as goal

pub end_session-requires : goal.end_session-requires
end_session-requires c =
    let a = c.self.inside in
    let was = ap (λ (v : Stored). v.sessions) c.self.view_is in
    newest_empty a.entries.sessions (reverse a.records.items) (reverse a.places.items) (subst (NewestIsEmpty {A = ℕ × Inverse}) (sym was) c.requires)

pub invariant_of-self : goal.invariant_of-self
invariant_of-self c =
    let a = c.self.inside in
    let held = c.self.invariant in
    let was = ap (λ (v : Stored). v.sessions) c.self.view_is in
    let e = ended a.entries.sessions (newest_empty a.entries.sessions (reverse a.records.items) (reverse a.places.items)
    (subst (NewestIsEmpty {A = ℕ × Inverse}) (sym was) c.requires)) in (
      held.0 ∙ sym e.records ∙ sym (ap records_of_all c.end_session.ensures.sessions),
      held.1 ∙ sym e.places ∙ sym (ap places_of_all c.end_session.ensures.sessions),
      held.2,
    )

pub returns-clause-sessions : goal.returns-clause-sessions
returns-clause-sessions c =
    let a = c.self.inside in
    let was = ap (λ (v : Stored). v.sessions) c.self.view_is in
    let e = ended a.entries.sessions (newest_empty a.entries.sessions (reverse a.records.items) (reverse a.places.items)
    (subst (NewestIsEmpty {A = ℕ × Inverse}) (sym was) c.requires)) in
    ap (λ q. decoded_all q (reverse a.records.items) (reverse a.places.items)) c.end_session.ensures.sessions
    ∙ e.without (reverse a.records.items) (reverse a.places.items) ∙ ap without_newest was

pub returns-clause-rings : goal.returns-clause-rings
returns-clause-rings c =
    let a = c.self.inside in
    let j = c.end_session in
    let was = ap (λ (v : Stored). v.sessions) c.self.view_is in
    ap (λ n. sized n (deque_capacity a.records) (deque_capacity a.places))
    (end_keeps a.entries.sessions j.new.self.sessions a.entries.changes j.new.self.changes
    (newest_empty a.entries.sessions (reverse a.records.items) (reverse a.places.items) (subst (NewestIsEmpty {A = ℕ × Inverse}) (sym was) c.requires))
    j.ensures.sessions j.ensures.changes)
    ∙ ap (λ (v : Stored). v.rings) c.self.view_is
