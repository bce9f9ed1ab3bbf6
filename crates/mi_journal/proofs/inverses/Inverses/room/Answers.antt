-- the rings have room for what they have memory for, but for what the sessions take of them
use Rattle.std.proofs.Common.{◌≡◌, subst}
use Rattle.std.specs.VecDeque.{deque_len, deque_capacity}
use Rattle.mi_journal.specs.Stored.{Stored, room_beside}
use Rattle.mi_journal.proofs.MemoryLemmas.{room_is_beside}
use Rattle.mi_journal.proofs.inverses.Inverses.room.Goals as goal

pub returns-then-self-eq0-clause-beside : goal.returns-then-self-eq0-clause-beside
returns-then-self-eq0-clause-beside c =
    let a = c.self.inside in
    subst (λ (v : Stored). v.changes ≡ room_beside v.most v.rings v.sessions) c.self.view_is
    (room_is_beside a.most a.entries.changes (deque_capacity a.records) (deque_capacity a.places) (deque_len a.records) (deque_len a.places)
    a.entries.sessions a.records.items a.places.items a.records.ok.0 a.places.ok.0 c.self.invariant)

pub returns-else-self-eq0-clause-beside : goal.returns-else-self-eq0-clause-beside
returns-else-self-eq0-clause-beside c =
    let a = c.self.inside in
    subst (λ (v : Stored). v.changes ≡ room_beside v.most v.rings v.sessions) c.self.view_is
    (room_is_beside a.most a.entries.changes (deque_capacity a.records) (deque_capacity a.places) (deque_len a.records) (deque_len a.places)
    a.entries.sessions a.records.items a.places.items a.records.ok.0 a.places.ok.0 c.self.invariant)
