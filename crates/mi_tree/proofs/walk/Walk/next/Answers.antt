-- The next node is the last of the path, and its far side is ahead before what stands below it there.
use Rattle.std.proofs.Common.{◌≡◌, ℕ, List, [], length, None, refl, sym, ap, ◌∙◌, arith}
use Rattle.mi_node.specs.Refs.{Ref, first_of}
use Rattle.mi_tree.specs.Walking.{IsWalk, Enters, ahead, far_of}
use Rattle.mi_tree.proofs.WalkLemmas.{Stepped, popped_none, stepped, walks, walks_none, goes_depth, goes_moved, enters_moved}
use Rattle.mi_tree.proofs.walk.Walk.next.Given.{Over}
use Rattle.mi_tree.proofs.walk.Walk.next.Goals.{In_default, In-Some, After-far-after}
use Rattle.mi_tree.proofs.walk.Walk.next.Goals as goal

module _ (g : Over) (c : In_default g) where
  -- nothing is ahead, and the path is empty
  none : {levels : ℕ} {us : List Ref} (h : IsWalk c.args.self.now c.args.p.now.pool levels us) → (h.xs ≡ []) × (c.pop.new.self.items ≡ [])
  none h = popped_none h.goes.path_is c.pop.ensures.rest c.pop.ensures.value (sym c.flatten.ensures ∙ c.in_default.is)

module _ (g : Over) (c : In-Some g) where
  -- the walk gives a node
  step : {levels : ℕ} {us : List Ref} → IsWalk c.args.self.now c.args.p.now.pool levels us
      → Stepped c.args.p.now.pool c.args.self.now.slot c.args.self.now.direction levels c.pop.new.self.items c.in-Some.node us
  step h = stepped h c.pop.ensures.rest c.pop.ensures.value (sym c.flatten.ensures ∙ c.in-Some.is)

module _ (g : Over) (c : After-far-after g) {levels : ℕ} {us : List Ref}
    (o : Stepped c.args.p.now.pool c.args.self.now.slot c.args.self.now.direction levels c.pop.new.self.items c.in-Some.node us) where
  -- the walk goes down into the subtree after it
  enters : Enters c.link.new.self.pool c.args.self.now.slot c.args.self.now.direction levels c.pop.new.self.items c.far-after.result o.ys o.after
  enters = enters_moved o.enters c.link.ensures.pool refl (c.far-after.ensures ∙ ap (far_of c.args.self.now.direction) c.link.ensures.link)

pub returns-in_default-clause-node : goal.returns-in_default-clause-node
returns-in_default-clause-node g c levels us h =
    let e = none g (goal.at.returns-in_default-clause-node g c).In_default h in
    ap (λ k. first_of (ahead c.args.self.now.direction k) None) (sym e.0) ∙ ap (λ k. first_of k None) h.ahead_is

pub returns-in_default-clause-walk : goal.returns-in_default-clause-walk
returns-in_default-clause-walk g c levels us h =
    let e = none g (goal.at.returns-in_default-clause-walk g c).In_default h in walks_none h e.0 refl e.1

pub returns-in_default-clause-depth : goal.returns-in_default-clause-depth
returns-in_default-clause-depth g c levels us h =
    let e = none g (goal.at.returns-in_default-clause-depth g c).In_default h in let i = ap length e.1 in omega arith

pub link-requires-clause-held : goal.link-requires-clause-held
link-requires-clause-held g c = (step g (goal.at.link-requires-clause-held g c).In-Some c.requires.2).held

pub go_down-requires-clause-way : goal.go_down-requires-clause-way
go_down-requires-clause-way g c =
    let at = goal.at.go_down-requires-clause-way g c in let o = step g at.In-Some c.requires.2 in
    (c.requires.0, o.ys, o.after, enters g at.After-far-after o)

pub returns-clause-node : goal.returns-clause-node
returns-clause-node g c levels us h = ap (λ k. first_of k None) (sym (step g (goal.at.returns-clause-node g c).In-Some h).was)

pub returns-clause-walk : goal.returns-clause-walk
returns-clause-walk g c levels us h =
    let at = goal.at.returns-clause-walk g c in let o = step g at.In-Some h in
    let on = c.go_down.ensures.way levels o.ys o.after (enters g at.After-far-after o) in
    walks h o (c.go_down.ensures.pool ∙ c.link.ensures.pool) refl refl (goes_moved c.link.ensures.pool on.1) on.2

pub returns-clause-depth : goal.returns-clause-depth
returns-clause-depth g c levels us h =
    let at = goal.at.returns-clause-depth g c in let o = step g at.In-Some h in
    let on = c.go_down.ensures.way levels o.ys o.after (enters g at.After-far-after o) in
    goes_depth on.1
