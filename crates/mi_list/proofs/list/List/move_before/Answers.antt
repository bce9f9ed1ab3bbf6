-- Taken out and put in before another node; before itself nothing changes.
use Rattle.std.proofs.Common.{◌≡◌, List as Seq, ◌∷◌, ◌++◌, refl, sym, ◌∙◌, subst, true≢false, inl, inr}
use Rattle.mi_node.specs.Pool.{Keeps}
use Rattle.mi_node.specs.Refs.{Ref, IsOut}
use Rattle.mi_node.proofs.KeepingLemmas.{keeps_then}
use Rattle.mi_node.proofs.RefLemmas.{out_right, apart_remove}
use Rattle.mi_list.specs.Listed.{IsListed}
use Rattle.mi_list.proofs.ChangeLemmas.{listed_unique, out_among, named_out, named_itself}
use Rattle.mi_list.proofs.list.List.move_before.Goals as goal

pub returns-then-is_node-clause-list : goal.returns-then-is_node-clause-list
returns-then-is_node-clause-list g c xs ys us vs h same e =
    absurd (named_out c.args.before vs c.args.node.name
    (out_right c.args.node.name us vs (subst (IsOut c.args.node.name) same (apart_remove xs c.args.node ys h.apart).1)) e (c.if-is_node.ensures.0 refl))

pub insert_before-requires-clause-place : goal.insert_before-requires-clause-place
insert_before-requires-clause-place g c =
    let left = c.unlink.ensures.list c.requires.0 c.requires.1 c.requires.2 in elim c.requires.3 [
      | inl e ↦ absurd (true≢false (sym (c.if-is_node.ensures.1 (named_itself c.args.before c.args.node e))))
      | inr z ↦ (z.0, z.1, subst (IsListed c.unlink.new.self c.unlink.new.p) z.2 left.listed, subst (IsOut c.args.node.name) z.2 left.out, z.3)
    ]

pub returns-clause-keeps : goal.returns-clause-keeps
returns-clause-keeps g c xs ys h =
    let l = c.args.self.now in let m = c.args.p.now in let x = c.args.node in let k = c.unlink.new.self in let n = c.unlink.new.p in
    let o = c.insert_before.new.p in
    let left = c.unlink.ensures.list c.requires.0 c.requires.1 c.requires.2 in
    let only : c.requires.0 ++ c.requires.1 ≡ xs ++ ys = listed_unique k n
    (c.requires.0 ++ c.requires.1) (xs ++ ys) left.listed (c.unlink.ensures.list xs ys h).listed in
    elim c.requires.3 [
      | inl e ↦ absurd (true≢false (sym (c.if-is_node.ensures.1 (named_itself c.args.before x e))))
      | inr z ↦
          let put : Keeps n o k.slot (x ∷ z.0 ++ z.1) = c.insert_before.ensures.keeps z.0 z.1
          (subst (IsListed k n) z.2 left.listed) (subst (IsOut x.name) z.2 left.out) z.3 in
          let put_in : Keeps n o l.slot (x ∷ xs ++ ys) = subst (λ (ts : Seq Ref). Keeps n o l.slot (x ∷ ts))
          (sym z.2 ∙ only) (subst (λ s. Keeps n o s (x ∷ z.0 ++ z.1)) c.unlink.ensures.slot put) in
          keeps_then l.slot m n o (xs ++ ys) (x ∷ xs ++ ys) (xs ++ x ∷ ys) (c.unlink.ensures.keeps xs ys h)
          put_in (λ q out. let on = out_among q xs x ys out in (on.1, on.0))
    ]
