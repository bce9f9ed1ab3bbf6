-- the record and the places of the newest entry are the last of their rings
use Rattle.std.proofs.Common.{◌-◌, ◌∙◌, None, Some, ap, ap₂, sym, reverse, arith}
use Rattle.mi_journal.specs.Noted.{without_entry}
use Rattle.mi_journal.specs.Filled.{records_in, places_in, records_of_all, places_of_all, decoded_all}
use Rattle.std.specs.VecDeque.{deque_len, deque_capacity}
use Rattle.mi_journal.specs.Stored.{Stored}
use Rattle.mi_journal.proofs.DecodedLemmas.{popped}
use Rattle.mi_journal.proofs.RingLemmas.{shorter}
use Rattle.mi_journal.proofs.RoomLemmas.{from_was, room_mono}
use Rattle.mi_journal.proofs.MemoryLemmas.{sized, same_rings, pop_keeps, all_back}
use Rattle.mi_journal.proofs.inverses.Inverses.pop.Goals as goal

pub invariant_of-self : goal.invariant_of-self
invariant_of-self c =
    let a = c.self.inside in
    let held = c.self.invariant in
    let f = c.fetch-step in
    let p = popped a.entries.sessions c.in-Some.table c.in-Some.entry c.in-Some.ensures.entry in (
      shorter a.records.items f.new.records.items (records_in c.in-Some.entry) _ f.ensures.records_rest (held.0 ∙ p.records)
          ∙ sym (ap records_of_all c.in-Some.ensures.sessions),
      shorter a.places.items f.new.places.items (places_in c.in-Some.entry) _ f.ensures.places_rest (held.1 ∙ p.places)
          ∙ sym (ap places_of_all c.in-Some.ensures.sessions),
      all_back a.places.items f.new.places.items (places_in c.in-Some.entry) f.ensures.places_rest held.2,
    )

pub returns-in-Some-clause-sessions : goal.returns-in-Some-clause-sessions
returns-in-Some-clause-sessions c =
    let a = c.self.inside in
    let f = c.fetch-step in
    let p = popped a.entries.sessions c.in-Some.table c.in-Some.entry c.in-Some.ensures.entry in
    ap (λ q. decoded_all q (reverse f.new.records.items) (reverse f.new.places.items)) c.in-Some.ensures.sessions
    ∙ ap₂ (decoded_all (without_entry a.entries.sessions)) f.ensures.records_rest f.ensures.places_rest
    ∙ p.without (reverse a.records.items) (reverse a.places.items)
    ∙ ap (λ (v : Stored). without_entry v.sessions) c.self.view_is

pub returns-in-Some-clause-changes : goal.returns-in-Some-clause-changes
returns-in-Some-clause-changes c =
    let a = c.self.inside in
    let held = c.self.invariant in
    let was = ap (λ (v : Stored). v.changes) c.self.view_is in
    let f = c.fetch-step in
    let p = popped a.entries.sessions c.in-Some.table c.in-Some.entry c.in-Some.ensures.entry in
    let records = shorter a.records.items f.new.records.items (records_in c.in-Some.entry) _ f.ensures.records_rest (held.0 ∙ p.records) in
    let places = shorter a.places.items f.new.places.items (places_in c.in-Some.entry) _ f.ensures.places_rest (held.1 ∙ p.places) in
    from_was was
    (room_mono a.most a.entries.changes c.pop.new.self.changes (deque_capacity a.records - deque_len a.records) (deque_capacity f.new.records - deque_len f.new.records)
    (deque_capacity a.places - deque_len a.places) (deque_capacity f.new.places - deque_len f.new.places) (omega (arith, c.in-Some.ensures.changes))
    (omega (arith, records, held.0, p.records, a.records.ok.0, f.new.records.ok.0, f.ensures.records_capacity))
    (omega (arith, places, held.1, p.places, a.places.ok.0, f.new.places.ok.0, f.ensures.places_capacity)))

pub returns-in-Some-clause-rings : goal.returns-in-Some-clause-rings
returns-in-Some-clause-rings c =
    let a = c.self.inside in
    let j = c.pop in
    let e = c.in-Some.ensures in
    let f = c.fetch-step.ensures in
    same_rings (pop_keeps a.entries.sessions j.new.self.sessions a.entries.changes j.new.self.changes (Some (c.in-Some.table, c.in-Some.entry))
    e.entry e.sessions e.changes) f.records_capacity f.places_capacity
    ∙ ap (λ (v : Stored). v.rings) c.self.view_is

pub returns-in-None-clause-rings : goal.returns-in-None-clause-rings
returns-in-None-clause-rings c =
    let a = c.self.inside in
    let j = c.pop in
    let e = c.in-None.ensures in
    ap (λ n. sized n (deque_capacity a.records) (deque_capacity a.places))
    (pop_keeps a.entries.sessions j.new.self.sessions a.entries.changes j.new.self.changes None e.entry e.sessions e.changes)
    ∙ ap (λ (v : Stored). v.rings) c.self.view_is
