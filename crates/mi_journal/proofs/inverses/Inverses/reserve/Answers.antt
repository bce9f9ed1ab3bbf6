-- no ring has room for fewer, and at last each has room for as many as are asked for
use Rattle.std.proofs.Common.{◌-◌, ◌≤◌, ◌*◌, ◌≡◌, Ok, Err, OnOk, ap, subst, arith}
use Rattle.std.specs.declared.result.Result.{Result}
use Rattle.std.specs.VecDeque.{deque_len, deque_capacity}
use Rattle.mi_journal.specs.Stored.{Stored}
use Rattle.mi_journal.proofs.RoomLemmas.{from_was, room_mono, room_over}
use Rattle.mi_journal.proofs.inverses.Inverses.reserve.Goals as goal

on_ok : {X E : Type 0} (r : Result X E) (P Q : Type 0) → (P → Q) → OnOk r P → OnOk r Q
on_ok (Ok x) P Q f h = f h
on_ok (Err e) P Q f h = tt

pub returns-clause-changes : goal.returns-clause-changes
returns-clause-changes c =
    let was = ap (λ (v : Stored). v.changes) c.self.view_is in
    let a = c.self.inside in
    let b = c.reserve-2.ensures in
    let d = c.reserve-3.ensures in
    from_was was
    (room_mono a.most a.entries.changes c.reserve.new.self.changes (deque_capacity a.records - deque_len a.records) (deque_capacity c.reserve-2.new.self - deque_len c.reserve-2.new.self)
    (deque_capacity a.places - deque_len a.places) (deque_capacity c.reserve-3.new.self - deque_len c.reserve-3.new.self) c.reserve.ensures.changes (omega (arith, b.len, b.capacity)) (omega (arith, d.len, d.capacity)))

pub returns-clause-room : goal.returns-clause-room
returns-clause-room c =
    let first = c.in_ok-reserve.ensures.room in
    let second = c.in_ok-reserve-2.ensures.ok in
    let places : c.in-Some.places ≡ c.args.changes * c.self.inside.most = c.in-Some.ensures.1 in
    let d = c.reserve-3 in
    on_ok d.result _ _ (λ third. (
      room_over c.args.changes c.self.inside.most c.reserve.new.self.changes (deque_capacity c.reserve-2.new.self - deque_len c.reserve-2.new.self) (deque_capacity d.new.self - deque_len d.new.self) first.0 (omega (arith, second))
          (subst (λ n. n ≤ deque_capacity d.new.self - deque_len d.new.self) places (omega (arith, third))),
      first.1,
    )) d.ensures.ok
