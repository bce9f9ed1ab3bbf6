-- A new node has a stamp above all others.
use Rattle.std.proofs.Common.{◌++◌, [], ◌∷◌, refl}
use Rattle.test_storage.proofs.SevenNodeLemmas.{next_of_taken, numbered_more}
use Rattle.test_storage.proofs.tests.chains.rooms.add.Goals as goal

pub insert-requires : goal.insert-requires
insert-requires g c =
    let h = c.requires.numbered in let next = next_of_taken _ c.take-node.ensures.pool c.take-node.ensures.free c.requires.few h.1 in
    (h.0, [], next.chained, next.placed)

pub returns-clause-numbered : goal.returns-clause-numbered
returns-clause-numbered g c =
    let h = c.requires.numbered in let next = next_of_taken _ c.take-node.ensures.pool c.take-node.ensures.free c.requires.few h.1 in (
      h.0 ++ c.take-node.result ∷ [],
      numbered_more _ next (c.insert.ensures.list h.0 [] next.chained next.placed) c.insert.ensures.slot c.insert.ensures.tags refl,
    )
