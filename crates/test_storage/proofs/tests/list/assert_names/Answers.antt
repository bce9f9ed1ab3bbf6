-- The node that is reached stands in the list, behind those that were passed.
use Rattle.std.proofs.Common.{List as Seq, [], ◌∷◌, ◌++◌, sym, ◌∙◌, subst, append_assoc}
use Rattle.mi_node.specs.Refs.{Ref}
use Rattle.mi_node.proofs.RefLemmas.{first_split}
use Rattle.mi_list.specs.Listed.{IsListed}
use Rattle.test_storage.proofs.tests.list.assert_names.Goals as goal

pub loop-name-init : goal.loop-name-init
loop-name-init g c = ([], c.requires.0, c.requires.1, c.first-at.ensures c.requires.0 c.requires.1)

pub prev-requires : goal.prev-requires
prev-requires g c =
    let i = c.loop-name.invariant in let at = first_split i.1 c.in-Some.node (sym i.3 ∙ c.in-Some.is) in
    (i.0, at.0, subst (λ (ts : Seq Ref). IsListed c.args.list.now c.args.p.now (i.0 ++ ts)) at.1 i.2)

pub next-at-requires : goal.next-at-requires
next-at-requires g c =
    let i = c.loop-name.invariant in let at = first_split i.1 c.in-Some.node (sym i.3 ∙ c.in-Some.is) in
    (i.0, at.0, subst (λ (ts : Seq Ref). IsListed c.args.list.now c.args.p.now (i.0 ++ ts)) at.1 i.2)

pub loop-name-preserved : goal.loop-name-preserved
loop-name-preserved g c =
    let i = c.loop-name.invariant in let x = c.in-Some.node in let at = first_split i.1 x (sym i.3 ∙ c.in-Some.is) in
    let h : IsListed c.args.list.now c.args.p.now (i.0 ++ x ∷ at.0) = subst (λ (ts : Seq Ref). IsListed c.args.list.now c.args.p.now (i.0 ++ ts)) at.1 i.2 in
    (i.0 ++ x ∷ [], at.0, subst (IsListed c.args.list.now c.args.p.now) (sym (append_assoc i.0 (x ∷ []) at.0)) h, c.next-at.ensures i.0 at.0 h)
