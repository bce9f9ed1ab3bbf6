-- the oldest session has no entry, so no record and no place is its
use Rattle.std.proofs.Common.{◌∙◌, ℕ, [], ap, sym, subst, reverse, arith}
use Rattle.mi_container.specs.Inverse.{Inverse}
use Rattle.mi_journal.specs.Noted.{OldestIsEmpty}
use Rattle.mi_journal.specs.Filled.{records_of_all, places_of_all, decoded_all}
use Rattle.std.specs.VecDeque.{deque_capacity}
use Rattle.mi_journal.specs.Stored.{Stored}
use Rattle.mi_journal.proofs.DecodedLemmas.{oldest_empty, decoded_push, records_push, places_push}
use Rattle.mi_journal.proofs.MemoryLemmas.{sized, end_oldest_keeps}
use Rattle.mi_journal.proofs.inverses.Inverses.end_oldest.Goals as goal

pub end_oldest-requires : goal.end_oldest-requires
end_oldest-requires c =
    let a = c.self.inside in
    let was = ap (λ (v : Stored). v.sessions) c.self.view_is in
    oldest_empty a.entries.sessions (reverse a.records.items) (reverse a.places.items) (subst (OldestIsEmpty {A = ℕ × Inverse}) (sym was) c.requires)

pub invariant_of-self : goal.invariant_of-self
invariant_of-self c =
    let held = c.self.invariant in
    let new = c.end_oldest.new.self.sessions in
    let records = held.0 ∙ ap records_of_all c.end_oldest.ensures.sessions ∙ records_push new [] in
    let places = held.1 ∙ ap places_of_all c.end_oldest.ensures.sessions ∙ places_push new [] in
    (omega (arith, records), omega (arith, places), held.2)

pub returns-clause-sessions : goal.returns-clause-sessions
returns-clause-sessions c =
    let a = c.self.inside in
    let was = ap (λ (v : Stored). v.sessions) c.self.view_is in
    sym was ∙ ap (λ q. decoded_all q (reverse a.records.items) (reverse a.places.items)) c.end_oldest.ensures.sessions
    ∙ decoded_push c.end_oldest.new.self.sessions [] (reverse a.records.items) (reverse a.places.items)

pub returns-clause-rings : goal.returns-clause-rings
returns-clause-rings c =
    let a = c.self.inside in
    let j = c.end_oldest in
    ap (λ n. sized n (deque_capacity a.records) (deque_capacity a.places))
    (end_oldest_keeps a.entries.sessions j.new.self.sessions a.entries.changes j.new.self.changes j.ensures.sessions j.ensures.changes)
    ∙ ap (λ (v : Stored). v.rings) c.self.view_is
