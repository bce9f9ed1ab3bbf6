-- the structures so far have room, and the pass, as far as it has come
use Rattle.std.proofs.Common.{take}
use Rattle.mi_node.specs.Refs.{Ref}
use Rattle.mi_index.specs.Pass.{AllRoomy}
use Rattle.mi_index.specs.Passes.{nothing_asked, grown}
use Rattle.mi_index.proofs.LoopLemmas.{Passing}
use Rattle.mi_index.proofs.all.make_room_all.Given as goal

abbrev pub invariant-loop-structure : goal.invariant-loop-structure
invariant-loop-structure l =
    ((r : Ref) → Passing nothing_asked grown r l.initial.structures l.initial.p l.structure-index l.structures l.p)
    × AllRoomy (take l.structure-index l.structures) l.n
