-- To come before nothing is to come last.
use Rattle.std.proofs.Common.{[], ◌∷◌, refl, sym, subst}
use Rattle.mi_node.specs.Pool.{Keeps}
use Rattle.mi_node.specs.Refs.{IsOut}
use Rattle.mi_list.specs.Listed.{IsListed}
use Rattle.mi_list.proofs.ChangeLemmas.{nothing_after}
use Rattle.mi_list.proofs.list.List.push_back.Goals as goal

pub returns-clause-list : goal.returns-clause-list
returns-clause-list g c rs h out =
    c.insert_before.ensures.list rs [] (subst (IsListed c.args.self.now c.args.p.now) (sym (nothing_after rs)) h)
    (subst (IsOut c.args.node.name) (sym (nothing_after rs)) out) refl

pub returns-clause-keeps : goal.returns-clause-keeps
returns-clause-keeps g c rs h out =
    let all = nothing_after rs in
    subst (λ ts. Keeps c.args.p.now c.insert_before.new.p c.args.self.now.slot (c.args.node ∷ ts)) all
    (c.insert_before.ensures.keeps rs [] (subst (IsListed c.args.self.now c.args.p.now) (sym all) h) (subst (IsOut c.args.node.name) (sym all) out) refl)
