-- The two neighbours are joined, and the node's own link isn't set.
use Rattle.std.proofs.Common.{◌≡◌, ◌++◌, Option, None, sym, ap, ◌∙◌, subst}
use Rattle.mi_node.specs.Pool.{IsHeldIf, Keeps}
use Rattle.mi_node.specs.Refs.{Ref, first_of, last_of}
use Rattle.mi_node.specs.declared.link.Link.{Link}
use Rattle.mi_node.specs.Neighbours.{joined}
use Rattle.mi_list.proofs.ChangeLemmas.{knows, Joined, unlinked}
use Rattle.mi_node.proofs.NeighbourLemmas.{keeps_joined}
use Rattle.mi_list.proofs.list.List.unlink.Goals as goal

pub link-link-requires-clause-held : goal.link-link-requires-clause-held
link-link-requires-clause-held g c = (knows c.args.self.now c.args.p.now c.requires.0 c.args.node c.requires.1 c.requires.2).held

pub join-requires-clause-back : goal.join-requires-clause-back
join-requires-clause-back g c =
    subst (λ (l : Link). IsHeldIf c.args.p.now l.back) (sym c.link-link.ensures)
    (knows c.args.self.now c.args.p.now c.requires.0 c.args.node c.requires.1 c.requires.2).back_held

pub join-requires-clause-forth : goal.join-requires-clause-forth
join-requires-clause-forth g c =
    subst (λ (l : Link). IsHeldIf c.args.p.now l.forth) (sym c.link-link.ensures)
    (knows c.args.self.now c.args.p.now c.requires.0 c.args.node c.requires.1 c.requires.2).forth_held

pub returns-clause-list : goal.returns-clause-list
returns-clause-list g c xs ys h =
    let l = c.args.self.now in let m = c.args.p.now in let x = c.args.node in
    let k = c.join.new.self in let n = c.join.new.p in let link = c.link-link.result in
    let on = knows l m xs x ys h in
    let b : link.back ≡ last_of None xs = ap (λ (y : Link). y.back) c.link-link.ensures ∙ on.back_is in
    let f : link.forth ≡ first_of ys None = ap (λ (y : Link). y.forth) c.link-link.ensures ∙ on.forth_is in
    let told : Joined l k m n link.back link.forth link.forth link.back = record {
      pool = c.join.ensures.pool;
      first = c.join.ensures.first;
      last = c.join.ensures.last;
      slot = c.join.ensures.slot;
    } in
    unlinked l k m n xs x ys h (subst (λ (z : Option Ref × Option Ref). Joined l k m n z.0 z.1 z.1 z.0) (λ i. (b i, f i)) told)

pub returns-clause-keeps : goal.returns-clause-keeps
returns-clause-keeps g c xs ys h =
    let l = c.args.self.now in let m = c.args.p.now in let link = c.link-link.result in let on = knows l m xs c.args.node ys h in
    let b : link.back ≡ last_of None xs = ap (λ (y : Link). y.back) c.link-link.ensures ∙ on.back_is in
    let f : link.forth ≡ first_of ys None = ap (λ (y : Link). y.forth) c.link-link.ensures ∙ on.forth_is in
    subst (λ n. Keeps m n l.slot (xs ++ ys)) (sym (c.join.ensures.pool ∙ (λ i. joined m l.slot (b i) (f i) (f i) (b i))))
    (keeps_joined l.slot m xs ys (first_of ys None) (last_of None xs))
