-- the record and the places of the oldest entry are the first of their rings
use Rattle.std.proofs.Common.{◌-◌, ◌∙◌, ℕ, List, [], None, Some, ap, ap₂, sym, subst, reverse, take, length, arith}
use Rattle.std.proofs.lemmas.List.{length-reverse, length-drop}
use Rattle.mi_container.specs.Inverse.{Inverse}
use Rattle.mi_container.specs.Backs.{step_seen}
use Rattle.mi_journal.specs.Noted.{TakesOldest}
use Rattle.mi_journal.specs.Filled.{records_in, places_in, records_of_all, places_of_all, decoded_all}
use Rattle.std.specs.VecDeque.{deque_len, deque_capacity}
use Rattle.mi_journal.specs.Stored.{Stored, TakesToSettle}
use Rattle.mi_journal.proofs.DecodedLemmas.{taken, taken_records, taken_places, none_oldest}
use Rattle.mi_journal.proofs.RingLemmas.{shorter_front, front_off}
use Rattle.mi_journal.proofs.RoomLemmas.{from_was, room_mono}
use Rattle.mi_journal.proofs.MemoryLemmas.{sized, same_rings, take_keeps, all_front}
use Rattle.mi_journal.proofs.inverses.Inverses.take_oldest.Goals as goal

pub invariant_of-self : goal.invariant_of-self
invariant_of-self c =
    let a = c.self.inside in
    let held = c.self.invariant in
    let f = c.fetch_to_settle-step in
    let ss = c.take_oldest.new.self.sessions in (
      shorter_front a.records.items f.new.records.items (records_in c.in-Some.entry) (records_of_all ss) f.ensures.records_rest
          (held.0 ∙ taken_records a.entries.sessions ss c.in-Some.table c.in-Some.entry c.in-Some.ensures.sessions),
      shorter_front a.places.items f.new.places.items (places_in c.in-Some.entry) (places_of_all ss) f.ensures.places_rest
          (held.1 ∙ taken_places a.entries.sessions ss c.in-Some.table c.in-Some.entry c.in-Some.ensures.sessions),
      all_front a.places.items f.new.places.items (places_in c.in-Some.entry) f.ensures.places_rest held.2,
    )

pub returns-in-Some-clause-sessions : goal.returns-in-Some-clause-sessions
returns-in-Some-clause-sessions c =
    let a = c.self.inside in
    let held = c.self.invariant in
    let was = ap (λ (v : Stored). v.sessions) c.self.view_is in
    let f = c.fetch_to_settle-step in
    let ss = c.take_oldest.new.self.sessions in
    let e = c.in-Some.entry in
    let records = shorter_front a.records.items f.new.records.items (records_in e) (records_of_all ss) f.ensures.records_rest
    (held.0 ∙ taken_records a.entries.sessions ss c.in-Some.table e c.in-Some.ensures.sessions) in
    let places = shorter_front a.places.items f.new.places.items (places_in e) (places_of_all ss) f.ensures.places_rest
    (held.1 ∙ taken_places a.entries.sessions ss c.in-Some.table e c.in-Some.ensures.sessions) in
    let rs = reverse f.new.records.items in
    let ps = reverse f.new.places.items in
    subst (λ (q : List (List (ℕ × Inverse))). TakesToSettle (Some (c.in-Some.table, (step_seen c.fetch_to_settle-step.result []))) q (decoded_all ss rs ps))
    (ap₂ (decoded_all a.entries.sessions) (front_off a.records.items f.new.records.items (records_in e) f.ensures.records_rest)
    (front_off a.places.items f.new.places.items (places_in e) f.ensures.places_rest) ∙ was)
    (taken a.entries.sessions ss c.in-Some.table e (step_seen c.fetch_to_settle-step.result []) rs (reverse (take (records_in e) a.records.items))
    ps (reverse (take (places_in e) a.places.items)) c.in-Some.ensures.sessions (λ us vs. f.ensures.is us vs)
    (sym records ∙ sym (length-reverse f.new.records.items)) (sym places ∙ sym (length-reverse f.new.places.items)))

pub returns-in-Some-clause-changes : goal.returns-in-Some-clause-changes
returns-in-Some-clause-changes c =
    let a = c.self.inside in
    let was = ap (λ (v : Stored). v.changes) c.self.view_is in
    let f = c.fetch_to_settle-step in
    let records = ap length f.ensures.records_rest ∙ length-drop (records_in c.in-Some.entry) a.records.items in
    let places = ap length f.ensures.places_rest ∙ length-drop (places_in c.in-Some.entry) a.places.items in
    from_was was
    (room_mono a.most a.entries.changes c.take_oldest.new.self.changes (deque_capacity a.records - deque_len a.records) (deque_capacity f.new.records - deque_len f.new.records)
    (deque_capacity a.places - deque_len a.places) (deque_capacity f.new.places - deque_len f.new.places) (omega (arith, c.in-Some.ensures.changes))
    (omega (arith, records, a.records.ok.0, f.new.records.ok.0, f.ensures.records_capacity))
    (omega (arith, places, a.places.ok.0, f.new.places.ok.0, f.ensures.places_capacity)))

pub returns-in-None-clause-sessions : goal.returns-in-None-clause-sessions
returns-in-None-clause-sessions c =
    let a = c.self.inside in
    let was = ap (λ (v : Stored). v.sessions) c.self.view_is in
    let rs = reverse a.records.items in
    let ps = reverse a.places.items in
    subst (λ (q : List (List (ℕ × Inverse))). TakesOldest {A = ℕ × Inverse} None q (decoded_all c.take_oldest.new.self.sessions rs ps)) was
    (none_oldest a.entries.sessions c.take_oldest.new.self.sessions rs ps c.in-None.ensures.sessions)

pub returns-in-Some-clause-rings : goal.returns-in-Some-clause-rings
returns-in-Some-clause-rings c =
    let a = c.self.inside in
    let j = c.take_oldest in
    let e = c.in-Some.ensures in
    let f = c.fetch_to_settle-step.ensures in
    same_rings (take_keeps a.entries.sessions j.new.self.sessions a.entries.changes j.new.self.changes (Some (c.in-Some.table, c.in-Some.entry))
    e.sessions e.changes) f.records_capacity f.places_capacity
    ∙ ap (λ (v : Stored). v.rings) c.self.view_is

pub returns-in-None-clause-rings : goal.returns-in-None-clause-rings
returns-in-None-clause-rings c =
    let a = c.self.inside in
    let j = c.take_oldest in
    let e = c.in-None.ensures in
    ap (λ n. sized n (deque_capacity a.records) (deque_capacity a.places))
    (take_keeps a.entries.sessions j.new.self.sessions a.entries.changes j.new.self.changes None e.sessions e.changes)
    ∙ ap (λ (v : Stored). v.rings) c.self.view_is
