-- Structures of the same slots and keys have as much room.
use Rattle.std.proofs.Common.{◌≡◌, sym, subst, arith}
use Rattle.std.specs.Vec.{with_items}
use Rattle.std.proofs.lemmas.List.{with_items_is}
use Rattle.mi_index.specs.Pass.{AllRoomy}
use Rattle.mi_index.proofs.InsertLemmas.{roomy_lent}
use Rattle.mi_index.proofs.RoomLemmas.{fewer_all}
use Rattle.mi_index.proofs.structures.Structures.grow.Goals as goal

pub invariant_of-self : goal.invariant_of-self
invariant_of-self c =
    roomy_lent c.self.inside.items _ c.make_room_all.new.structures c.self.inside.room (omega arith) c.as_mut_slice.ensures.value c.make_room_all.ensures.like c.self.invariant

pub returns-clause-room : goal.returns-clause-room
returns-clause-room c =
    let v = c.self.inside.items in let new = c.make_room_all.new.structures in
    let is : (with_items v new).items ≡ new = with_items_is v new (omega arith) in
    subst (λ zs. AllRoomy zs c.args.n) (sym is) (fewer_all new c.args.n c.room_for-room.result c.room_for-room.ensures c.in_ok-make_room_all.ensures.room)
