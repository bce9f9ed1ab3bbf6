-- All groups stand in the old buckets at first and in the new ones at the end, each whole, so no list changes.
use Rattle.std.proofs.Common.{◌≡◌, ◌<◌, ◌∙◌, List, refl, ap, rules, vec_len, None, replicate}
use Rattle.std.specs.Int.{IsPowerOfTwo}
use Rattle.mi_node.specs.Refs.{Ref}
use Rattle.mi_chain.specs.Chained.{AreChained}
use Rattle.mi_chain.specs.Moves.{AreBetween}
use Rattle.mi_chain.proofs.MoveLemmas.{none_moved}
use Rattle.mi_chain.proofs.chains.Chains.make_room.Given.{Over}
use Rattle.mi_chain.proofs.chains.Chains.make_room.Goals.{After-swap}
use Rattle.mi_chain.proofs.chains.Chains.make_room.Goals as goal

module _ (g : Over) (c : After-swap g) where
  -- the buckets are new and empty, and each group stands in the old ones still
  all_to_move : (rs : List Ref) → AreChained c.args.self.now (g.H.KeyHash.keying c.args.self.now.keys) c.args.p.now rs
      → AreBetween (record c.args.self.now { buckets = c.swap.new.x }) c.swap.new.y.items (vec_len c.swap.new.y)
      (g.H.KeyHash.keying c.args.self.now.keys) c.args.p.now rs
  all_to_move rs h = let l = c.args.self.now in let n = c.in_ok-count.count in
      let some : 0 < n = search rules in
      let power : IsPowerOfTwo n = search rules in
      let items : c.in_ok-old.old.items ≡ replicate n None = search rules in
      none_moved (g.H.KeyHash.keying l.keys) (g.met.H.KeyHash.lawful l.keys) (record l { buckets = c.swap.new.x }) l c.swap.new.y n c.args.p.now rs h refl
      c.swap.ensures.y_after (ap (λ (z : _). z.items) c.swap.ensures.x_after ∙ items) (ap vec_len c.swap.ensures.x_after ∙ c.in_ok-old.ensures.len) some power
      refl

pub move_all-requires : goal.move_all-requires
move_all-requires g c = (c.requires.0, all_to_move g (goal.at.move_all-requires g c).After-swap c.requires.0 c.requires.1)

pub returns-clause-list : goal.returns-clause-list
returns-clause-list g c rs h = c.move_all.ensures.list rs (all_to_move g (goal.at.returns-clause-list g c).After-swap rs h)

pub returns-clause-keeps : goal.returns-clause-keeps
returns-clause-keeps g c rs h = c.move_all.ensures.keeps rs (all_to_move g (goal.at.returns-clause-keeps g c).After-swap rs h)
