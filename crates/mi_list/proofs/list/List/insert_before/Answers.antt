-- The node comes between the one before the place and the one behind it.
use Rattle.std.proofs.Common.{◌<◌, ◌∷◌, ◌++◌, Option, Some, sym, ap, ◌∙◌, subst}
use Rattle.mi_node.specs.Pool.{Pooled, IsHeldIf, Keeps, with_link}
use Rattle.mi_node.specs.Refs.{Ref}
use Rattle.mi_node.specs.declared.link.Link.{Link}
use Rattle.mi_node.proofs.EntryLemmas.{slots-with_link}
use Rattle.mi_node.specs.Neighbours.{joined}
use Rattle.mi_node.proofs.NeighbourLemmas.{held_link}
use Rattle.mi_list.proofs.ChangeLemmas.{ends_held, Joined, placed, relinked, keeps_placed}
use Rattle.mi_list.proofs.list.List.insert_before.Goals as goal

pub join-requires-clause-back : goal.join-requires-clause-back
join-requires-clause-back g c =
    let l = c.args.self.now in let m = c.args.p.now in let at = c.requires.place in
    subst (λ n. IsHeldIf n c.back_at-back.result) (sym c.set_link.ensures)
    (held_link l.slot m c.args.node.name _ c.back_at-back.result
    (subst (IsHeldIf m) (sym (c.back_at-back.ensures at.0 at.1 at.2 at.4)) (ends_held l m at.0 at.1 at.2).0))

pub join-requires-clause-forth : goal.join-requires-clause-forth
join-requires-clause-forth g c =
    let l = c.args.self.now in let m = c.args.p.now in let at = c.requires.place in
    subst (λ n. IsHeldIf n c.args.before) (sym c.set_link.ensures)
    (held_link l.slot m c.args.node.name _ c.args.before (subst (IsHeldIf m) at.4 (ends_held l m at.0 at.1 at.2).1))

pub join-requires-clause-slot : goal.join-requires-clause-slot
join-requires-clause-slot g c =
    subst (λ n. c.args.self.now.slot < n) (sym
    (ap (λ (q : Pooled g.row.T.Denot). q.slots) c.set_link.ensures ∙ slots-with_link c.args.p.now c.args.node.name c.args.self.now.slot _))
    c.requires.place.2.slot_fits

pub returns-clause-list : goal.returns-clause-list
returns-clause-list g c xs ys h out e =
    let l = c.args.self.now in let m = c.args.p.now in let x = c.args.node in let k = c.join.new.self in let n = c.join.new.p in
    let b = c.back_at-back.result in
    let y : Link = record { back = b; forth = c.args.before; size = 0; height = 0; tag = record { key = 0; stamp = 0 } } in
    let is = c.back_at-back.ensures xs ys h e in
    let told : Joined l k c.set_link.new.self n b (Some x) c.args.before (Some x) = record {
      pool = c.join.ensures.pool;
      first = c.join.ensures.first;
      last = c.join.ensures.last;
      slot = c.join.ensures.slot;
    } in
    relinked l k (with_link m x.name l.slot y) n xs x ys (placed l m x y xs ys h out c.requires.held is (sym e))
    (subst (λ (z : Option Ref × Option Ref). Joined l k (with_link m x.name l.slot y) n z.0 (Some x) z.1 (Some x))
    (λ i. (is i, sym e i)) (subst (λ p. Joined l k p n b (Some x) c.args.before (Some x)) c.set_link.ensures told))

pub returns-clause-keeps : goal.returns-clause-keeps
returns-clause-keeps g c xs ys h out e =
    let l = c.args.self.now in let m = c.args.p.now in let x = c.args.node in let b = c.back_at-back.result in
    let y : Link = record { back = b; forth = c.args.before; size = 0; height = 0; tag = record { key = 0; stamp = 0 } } in
    let is = c.back_at-back.ensures xs ys h e in
    subst (λ n. Keeps m n l.slot (x ∷ xs ++ ys))
    (sym (c.join.ensures.pool ∙ (λ i. joined (c.set_link.ensures i) l.slot (is i) (Some x) (sym e i) (Some x)))) (keeps_placed l.slot m x y xs ys)
