-- The link leads back to the node before it in the group, and the first one's to the last.
use Rattle.std.proofs.Common.{◌≡◌, true, false, inl, inr, sym, ap, ◌∙◌, subst}
use Rattle.mi_node.specs.Pool.{IsHeldIf, link_of}
use Rattle.mi_node.specs.declared.link.Link.{Link}
use Rattle.mi_chain.specs.Places.{is_named, forth_of}
use Rattle.mi_chain.proofs.GroupLemmas.{not_both}
use Rattle.mi_chain.proofs.CallLemmas.{held_it, back_held, prev_of_it}
use Rattle.mi_chain.proofs.chains.Chains.prev_of.Goals as goal

pub link-link-requires-clause-held : goal.link-link-requires-clause-held
link-link-requires-clause-held g c = let l = c.args.self.now in
    held_it l (g.H.KeyHash.keying l.keys) (g.met.H.KeyHash.lawful l.keys) c.args.p.now c.requires.0 c.args.node c.requires.1 c.requires.2

pub after-forth-requires-clause-held : goal.after-forth-requires-clause-held
after-forth-requires-clause-held g c = let l = c.args.self.now in
    subst (λ (y : Link). IsHeldIf c.args.p.now y.back) (sym c.link-link.ensures)
    (back_held l (g.H.KeyHash.keying l.keys) (g.met.H.KeyHash.lawful l.keys) c.args.p.now c.requires.0 c.args.node c.requires.1 c.requires.2)

pub returns-then-is_node : goal.returns-then-is_node
returns-then-is_node g c xs ys h = let l = c.args.self.now in let m = c.args.p.now in let k = c.args.node.name in
    let at = c.after-forth.ensures ∙ ap (λ (y : Link). forth_of m l.slot y.back) c.link-link.ensures in
    let t : is_named k (forth_of m l.slot (link_of m k l.slot).back) ≡ true = ap (is_named k) (sym at) ∙ sym c.is_node.ensures ∙ c.if-is_node.true in
    elim (prev_of_it l (g.H.KeyHash.keying l.keys) (g.met.H.KeyHash.lawful l.keys) m xs c.args.node ys h) [
      | inl p ↦ ap (λ (y : Link). y.back) c.link-link.ensures ∙ p.1
      | inr p ↦ absurd (not_both (is_named k (forth_of m l.slot (link_of m k l.slot).back)) t p.0)
    ]

pub returns-else-is_node : goal.returns-else-is_node
returns-else-is_node g c xs ys h = let l = c.args.self.now in let m = c.args.p.now in let k = c.args.node.name in
    let at = c.after-forth.ensures ∙ ap (λ (y : Link). forth_of m l.slot y.back) c.link-link.ensures in
    let f : is_named k (forth_of m l.slot (link_of m k l.slot).back) ≡ false = ap (is_named k) (sym at) ∙ sym c.is_node.ensures ∙ c.if-is_node.false in
    elim (prev_of_it l (g.H.KeyHash.keying l.keys) (g.met.H.KeyHash.lawful l.keys) m xs c.args.node ys h) [
      | inl p ↦ absurd (not_both (is_named k (forth_of m l.slot (link_of m k l.slot).back)) p.0 f)
      | inr p ↦ sym p.1
    ]
