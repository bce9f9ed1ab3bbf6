-- each ring has room for one change less at most, and memory for as much
use Rattle.std.proofs.Common.{◌-◌, ◌∙◌, ◌<◌, ap, sym, subst, length, reverse, arith}
use Rattle.std.specs.VecDeque.{deque_len, deque_capacity}
use Rattle.mi_journal.specs.Stored.{Stored}
use Rattle.mi_journal.proofs.RoomLemmas.{from_was, room_falls}
use Rattle.mi_journal.proofs.DecodedLemmas.{length-decoded_all}
use Rattle.mi_journal.proofs.MemoryLemmas.{same_rings, note_keeps}
use Rattle.mi_journal.proofs.inverses.Inverses.note.Goals as goal

pub returns-clause-changes : goal.returns-clause-changes
returns-clause-changes c =
    let was = ap (λ (v : Stored). v.changes) c.self.view_is in
    let a = c.self.inside in
    let s = c.store-entry in
    let e = s.ensures in
    let one = c.note.ensures.changes in
    from_was was
    (room_falls a.most a.entries.changes c.note.new.self.changes (deque_capacity a.records - deque_len a.records) (deque_capacity s.new.records - deque_len s.new.records)
    (deque_capacity a.places - deque_len a.places) (deque_capacity s.new.places - deque_len s.new.places) (omega (arith, one)) (omega (arith, e.records_len, e.records_capacity, e.few_records))
    (omega (arith, e.places_len, e.places_capacity, e.few_places)))

pub returns-clause-rings : goal.returns-clause-rings
returns-clause-rings c =
    let a = c.self.inside in
    let j = c.note in
    let e = c.store-entry.ensures in
    let long = sym (ap (λ (v : Stored). length v.sessions) c.self.view_is)
    ∙ length-decoded_all a.entries.sessions (reverse a.records.items) (reverse a.places.items) in
    same_rings (note_keeps a.entries.sessions j.new.self.sessions a.entries.changes j.new.self.changes (c.args.table, c.store-entry.result)
    (subst (λ n. 0 < n) long c.requires.open) j.ensures.sessions j.ensures.changes) e.records_capacity e.places_capacity
    ∙ ap (λ (v : Stored). v.rings) c.self.view_is
