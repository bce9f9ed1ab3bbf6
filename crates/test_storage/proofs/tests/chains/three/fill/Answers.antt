-- Three nodes of one key come in by rising stamps.
use Rattle.std.proofs.Common.{ℤ, [], ◌∷◌, ◌∙◌, refl, arith}
use Rattle.mi_node.specs.Pool.{Pooled, IsHeld}
use Rattle.mi_node.specs.Refs.{Ref}
use Rattle.mi_chain.specs.Chained.{AreChained}
use Rattle.mi_chain.specs.declared.chains.Chains.{Chains}
use Rattle.test_storage.specs.Numbered.{number_keying}
use Rattle.test_storage.proofs.SevenNodeLemmas.{IsNext, next_of_held, numbered_more}
use Rattle.test_storage.proofs.tests.chains.three.fill.Goals.{After-insert, After-insert-2}
use Rattle.test_storage.proofs.tests.chains.three.fill.Goals as goal

-- a node may go into chains of no node
first_next : {H : Type 0} {c : Chains H} {m : Pooled ℤ} {r : Ref} → AreChained c number_keying m [] → IsHeld m r → IsNext c m r [] 0
first_next list held = next_of_held held tt (omega arith) (record { chained = list; below = tt; count = refl })

-- then the second node may follow the first, and the third is held still
module _ (c : After-insert) where
  one_next : IsNext c.args.chains.now c.args.p.now c.args.one [] 0
  one_next = first_next c.requires.chained c.requires.held.0

  still : (q : Ref) → IsHeld c.args.p.now q → IsHeld c.insert.new.p q
  still q held = (c.insert.ensures.keeps [] [] one_next.chained one_next.placed).refs q.name ∙ held

  two_next : IsNext c.insert.new.self c.insert.new.p c.args.two (c.args.one ∷ []) 1
  two_next = next_of_held (still c.args.two c.requires.held.1) (c.requires.second, tt) (omega arith)
      (numbered_more _ one_next (c.insert.ensures.list [] [] one_next.chained one_next.placed) c.insert.ensures.slot c.insert.ensures.tags refl)

-- then the third node may follow them
module _ (c : After-insert-2) (two : IsNext c.insert.new.self c.insert.new.p c.args.two (c.args.one ∷ []) 1) (held : IsHeld c.insert.new.p c.args.three) where
  three_next : IsNext c.insert-2.new.self c.insert-2.new.p c.args.three (c.args.one ∷ c.args.two ∷ []) 2
  three_next =
      let xs = c.args.one ∷ [] in let keeps = c.insert-2.ensures.keeps xs [] two.chained two.placed in
      next_of_held (keeps.refs c.args.three.name ∙ held) (c.requires.third, (c.requires.last, tt)) (omega arith)
      (numbered_more _ two (c.insert-2.ensures.list xs [] two.chained two.placed) c.insert-2.ensures.slot c.insert-2.ensures.tags refl)

pub insert-requires : goal.insert-requires
insert-requires c = let n = first_next c.requires.chained c.requires.held.0 in ([], [], n.chained, n.placed)

pub insert-requires-2 : goal.insert-requires-2
insert-requires-2 c = let n = two_next (goal.at.insert-requires-2 c).After-insert in (c.args.one ∷ [], [], n.chained, n.placed)

pub insert-requires-3 : goal.insert-requires-3
insert-requires-3 c =
    let o = goal.at.insert-requires-3 c in let i = o.After-insert in
    let n = three_next o.After-insert-2 (two_next i) (still i c.args.three c.requires.held.2) in
    (c.args.one ∷ c.args.two ∷ [], [], n.chained, n.placed)

pub returns-clause-list : goal.returns-clause-list
returns-clause-list c =
    let o = goal.at.returns-clause-list c in let i = o.After-insert in
    let n = three_next o.After-insert-2 (two_next i) (still i c.args.three c.requires.held.2) in
    c.insert-3.ensures.list (c.args.one ∷ c.args.two ∷ []) [] n.chained n.placed
