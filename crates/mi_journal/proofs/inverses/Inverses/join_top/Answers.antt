-- no record and no place moves
use Rattle.std.proofs.Common.{◌∙◌, ap, sym, reverse}
use Rattle.mi_journal.specs.Noted.{top_joined}
use Rattle.mi_journal.specs.Filled.{records_of_all, places_of_all, decoded_all}
use Rattle.std.specs.VecDeque.{deque_capacity}
use Rattle.mi_journal.specs.Stored.{Stored}
use Rattle.mi_journal.proofs.DecodedLemmas.{joined, joined_records, joined_places}
use Rattle.mi_journal.proofs.MemoryLemmas.{sized, join_keeps}
use Rattle.mi_journal.proofs.inverses.Inverses.join_top.Goals as goal

pub invariant_of-self : goal.invariant_of-self
invariant_of-self c =
    let held = c.self.invariant in
    let ss = c.self.inside.entries.sessions in (
      held.0 ∙ sym (joined_records ss) ∙ sym (ap records_of_all c.join_top.ensures.sessions),
      held.1 ∙ sym (joined_places ss) ∙ sym (ap places_of_all c.join_top.ensures.sessions),
      held.2,
    )

pub returns-clause-sessions : goal.returns-clause-sessions
returns-clause-sessions c =
    let a = c.self.inside in
    let was = ap (λ (v : Stored). top_joined v.sessions) c.self.view_is in
    ap (λ q. decoded_all q (reverse a.records.items) (reverse a.places.items)) c.join_top.ensures.sessions
    ∙ joined a.entries.sessions (reverse a.records.items) (reverse a.places.items) ∙ was

pub returns-clause-rings : goal.returns-clause-rings
returns-clause-rings c =
    let a = c.self.inside in
    let j = c.join_top in
    ap (λ n. sized n (deque_capacity a.records) (deque_capacity a.places))
    (join_keeps a.entries.sessions j.new.self.sessions a.entries.changes j.new.self.changes j.ensures.sessions j.ensures.changes)
    ∙ ap (λ (v : Stored). v.rings) c.self.view_is
