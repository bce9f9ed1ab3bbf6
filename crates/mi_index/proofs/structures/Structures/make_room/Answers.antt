-- Where there is room for enough, nothing grows.
use Rattle.std.proofs.Common.{subst}
use Rattle.mi_index.specs.Indexed.{Indexed}
use Rattle.mi_index.specs.Pass.{AllRoomy}
use Rattle.mi_index.proofs.RoomLemmas.{fewer_all, all_like, nothing_grown}
use Rattle.mi_index.proofs.structures.Structures.make_room.Goals as goal

pub returns-then-n-self-clause-pass : goal.returns-then-n-self-clause-pass
returns-then-n-self-clause-pass c r = nothing_grown r 0 _ _

pub returns-then-n-self-clause-like : goal.returns-then-n-self-clause-like
returns-then-n-self-clause-like c = all_like _

pub returns-then-n-self-clause-room : goal.returns-then-n-self-clause-room
returns-then-n-self-clause-room c =
    subst (λ (v : Indexed). AllRoomy v.items c.args.n) c.self.view_is
    (fewer_all c.self.inside.items.items c.args.n c.self.inside.room c.if-n-self.true c.self.invariant)
