-- What was counted, and what comes, are all nodes of the key.
use Rattle.std.proofs.Common.{◌+◌, ◌<◌, List, subst, arith}
use Rattle.mi_node.specs.Refs.{Ref}
use Rattle.mi_chain.specs.Keying.{same_nodes, has_key}
use Rattle.mi_chain.specs.Chained.{AreChained}
use Rattle.mi_chain.proofs.KeyingLemmas.{alike, of_probe}
use Rattle.mi_chain.proofs.FollowLemmas.{follow_start, Following, following, follow_on, follow_end, follow_few}
use Rattle.mi_chain.proofs.chains.Chains.count.Given.{Over}
use Rattle.mi_chain.proofs.chains.Chains.count.Goals.{In-Some}
use Rattle.mi_chain.proofs.chains.Chains.count.Goals as goal

module _ (g : Over) (c : In-Some g) (rs : List Ref) (h : AreChained c.args.self.now (g.H.KeyHash.keying c.args.self.now.keys) c.args.p.now rs) where
  -- where the node stands in the list
  here : Following (has_key (g.H.KeyHash.keying c.args.self.now.keys) c.args.p.now c.args.key) rs c.in-Some.node c.nodes.count
  here = following _ rs c.nodes.next c.nodes.count c.in-Some.node (c.nodes.invariant rs h) c.in-Some.is

module _ (g : Over) (c : In-Some g) where
  few : c.nodes.count + 1 < 4294967296
  few = let rs = c.requires.0 in let h = c.requires.1 in let n = follow_few _ rs c.in-Some.node c.nodes.count (here g c rs h) in let all = h.few in omega arith

pub nodes-init : goal.nodes-init
nodes-init g c rs h = follow_start _ rs c.first_of-next.result (c.first_of-next.ensures rs h)

pub overflow_add-count : goal.overflow_add-count
overflow_add-count g c = let n = few g (goal.at.overflow_add-count g c).In-Some in record { fits = omega arith }

pub next_of-next-requires : goal.next_of-next-requires
next_of-next-requires g c =
    let l = c.args.self.now in let o = here g (goal.at.next_of-next-requires g c).In-Some c.requires.0 c.requires.1 in
    (o.us, o.vs, subst (AreChained l (g.H.KeyHash.keying l.keys) c.args.p.now) o.parts c.requires.1)

pub nodes-smaller : goal.nodes-smaller
nodes-smaller g c = let n = few g (goal.at.nodes-smaller g c).In-Some in omega arith

pub nodes-preserved : goal.nodes-preserved
nodes-preserved g c rs h =
    let l = c.args.self.now in let m = c.args.p.now in let k = g.H.KeyHash.keying l.keys in let w = g.met.H.KeyHash.lawful l.keys in
    let o = here g (goal.at.nodes-preserved g c).In-Some rs h in
    follow_on (same_nodes k m) (alike k m w) (has_key k m c.args.key) (of_probe k m w c.args.key) rs c.in-Some.node c.nodes.count o
    c.next_of-next.result (c.next_of-next.ensures o.us o.vs (subst (AreChained l k m) o.parts h))

pub returns : goal.returns
returns g c rs h = follow_end _ rs c.nodes.next c.nodes.count (c.nodes.invariant rs h) c.in_default.is
