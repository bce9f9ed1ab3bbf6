-- Two nodes of one key come in, one behind the other.
use Rattle.std.proofs.Common.{◌≡◌, true, [], ◌∷◌, ◌∙◌, arith}
use Rattle.mi_node.specs.declared.link.Tag.{Tag}
use Rattle.mi_node.proofs.EntryLemmas.{same_refl}
use Rattle.mi_chain.specs.Keying.{stamp_at, hash_node}
use Rattle.mi_chain.specs.Chained.{AreChained, IsPlaced}
use Rattle.test_storage.specs.OneKey.{one_keying}
use Rattle.test_storage.proofs.ThreeNodeLemmas.{placed_alone, stamp_set}
use Rattle.test_storage.proofs.tests.chains.fill.Goals.{After-insert}
use Rattle.test_storage.proofs.tests.chains.fill.Goals as goal

module _ (c : After-insert) where
  -- the first node is in
  listed : AreChained c.insert.new.self one_keying c.insert.new.p (c.args.one ∷ [])
  listed = c.insert.ensures.list [] [] c.requires.chained (placed_alone c.requires.held.0)

  -- and the second may follow it, since the first has the stamp 0
  placed : IsPlaced one_keying c.insert.new.p c.insert.new.self.slot c.args.two 1 (c.args.one ∷ []) []
  placed =
      let one = c.args.one in let keeps = c.insert.ensures.keeps [] [] c.requires.chained (placed_alone c.requires.held.0) in
      let tag : Tag = record { key = hash_node one_keying c.args.p.now one; stamp = 0 } in
      let zero : stamp_at c.insert.new.p c.insert.new.self.slot one ≡ 0 = stamp_set c.args.p.now c.insert.new.p c.args.chains.now.slot
      c.insert.new.self.slot one one tag true c.insert.ensures.slot (c.insert.ensures.tags one.name) (same_refl one.name) in record {
        held = keeps.refs c.args.two.name ∙ c.requires.held.1;
        out = (c.requires.names, tt);
        before = ((λ e. omega (arith, zero)), tt);
        after = tt;
        few = omega arith;
      }

pub insert-requires : goal.insert-requires
insert-requires c = ([], [], c.requires.chained, placed_alone c.requires.held.0)

pub insert-requires-2 : goal.insert-requires-2
insert-requires-2 c = let i = (goal.at.insert-requires-2 c).After-insert in (c.args.one ∷ [], [], listed i, placed i)

pub returns-clause-list : goal.returns-clause-list
returns-clause-list c = let i = (goal.at.returns-clause-list c).After-insert in c.insert-2.ensures.list (c.args.one ∷ []) [] (listed i) (placed i)
