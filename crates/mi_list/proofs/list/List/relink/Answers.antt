-- The neighbours that the link names stand side by side now, so the node comes between them.
use Rattle.std.proofs.Common.{◌≡◌, ◌++◌, Option, Some, None, sym, ap, ◌∙◌, subst}
use Rattle.mi_node.specs.Pool.{IsHeldIf, Keeps}
use Rattle.mi_node.specs.Refs.{Ref, first_of, last_of}
use Rattle.mi_node.specs.declared.link.Link.{Link}
use Rattle.mi_node.specs.Neighbours.{joined}
use Rattle.mi_list.proofs.ChangeLemmas.{ends_held, Joined, relinked}
use Rattle.mi_node.proofs.NeighbourLemmas.{keeps_joined}
use Rattle.mi_list.proofs.list.List.relink.Goals as goal

pub join-requires-clause-back : goal.join-requires-clause-back
join-requires-clause-back g c =
    let m = c.args.p.now in let at = c.requires.2 in
    subst (IsHeldIf m) (sym (ap (λ (y : Link). y.back) c.link-link.ensures ∙ at.back_is)) (ends_held c.args.self.now m c.requires.0 c.requires.1 at.listed).0

pub join-requires-clause-forth : goal.join-requires-clause-forth
join-requires-clause-forth g c =
    let m = c.args.p.now in let at = c.requires.2 in
    subst (IsHeldIf m) (sym (ap (λ (y : Link). y.forth) c.link-link.ensures ∙ at.forth_is)) (ends_held c.args.self.now m c.requires.0 c.requires.1 at.listed).1

pub returns-clause-list : goal.returns-clause-list
returns-clause-list g c xs ys h =
    let l = c.args.self.now in let m = c.args.p.now in let x = c.args.node in let k = c.join.new.self in let n = c.join.new.p in
    let link = c.link-link.result in
    let b : link.back ≡ last_of None xs = ap (λ (y : Link). y.back) c.link-link.ensures ∙ h.back_is in
    let f : link.forth ≡ first_of ys None = ap (λ (y : Link). y.forth) c.link-link.ensures ∙ h.forth_is in
    let told : Joined l k m n link.back (Some x) link.forth (Some x) = record {
      pool = c.join.ensures.pool;
      first = c.join.ensures.first;
      last = c.join.ensures.last;
      slot = c.join.ensures.slot;
    } in
    relinked l k m n xs x ys h (subst (λ (z : Option Ref × Option Ref). Joined l k m n z.0 (Some x) z.1 (Some x)) (λ i. (b i, f i)) told)

pub returns-clause-keeps : goal.returns-clause-keeps
returns-clause-keeps g c xs ys h =
    let l = c.args.self.now in let m = c.args.p.now in let x = c.args.node in let link = c.link-link.result in
    let b : link.back ≡ last_of None xs = ap (λ (y : Link). y.back) c.link-link.ensures ∙ h.back_is in
    let f : link.forth ≡ first_of ys None = ap (λ (y : Link). y.forth) c.link-link.ensures ∙ h.forth_is in
    subst (λ n. Keeps m n l.slot (xs ++ ys)) (sym (c.join.ensures.pool ∙ (λ i. joined m l.slot (b i) (Some x) (f i) (Some x))))
    (keeps_joined l.slot m xs ys (Some x) (Some x))
