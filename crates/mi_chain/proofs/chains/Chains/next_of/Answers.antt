-- The link leads on to the next node of the group, or to another group, which isn't of this key.
use Rattle.std.proofs.Common.{◌≡◌, true, false, inl, inr, sym, ap, ◌∙◌}
use Rattle.mi_node.specs.declared.link.Link.{Link}
use Rattle.mi_chain.specs.Places.{is_named}
use Rattle.mi_chain.proofs.GroupLemmas.{not_both}
use Rattle.mi_chain.proofs.CallLemmas.{held_it, next_of_it, none_of_it}
use Rattle.mi_chain.proofs.chains.Chains.next_of.Goals as goal

pub link-link-requires-clause-held : goal.link-link-requires-clause-held
link-link-requires-clause-held g c = let l = c.args.self.now in
    held_it l (g.H.KeyHash.keying l.keys) (g.met.H.KeyHash.lawful l.keys) c.args.p.now c.requires.0 c.args.node c.requires.1 c.requires.2

pub link-after-requires-clause-held : goal.link-after-requires-clause-held
link-after-requires-clause-held g c = let l = c.args.self.now in
    (next_of_it l (g.H.KeyHash.keying l.keys) (g.met.H.KeyHash.lawful l.keys) c.args.p.now c.requires.0 c.args.node
    c.requires.1 c.requires.2 c.in-Some.next (sym (ap (λ (y : Link). y.forth) c.link-link.ensures) ∙ c.in-Some.is)).0

pub returns-then-is_node : goal.returns-then-is_node
returns-then-is_node g c xs ys h = let l = c.args.self.now in
    let t : is_named c.args.node.name c.link-after.result.back ≡ true = sym c.is_node.ensures ∙ c.if-is_node.true in
    elim (next_of_it l (g.H.KeyHash.keying l.keys) (g.met.H.KeyHash.lawful l.keys) c.args.p.now xs c.args.node
    ys h c.in-Some.next (sym (ap (λ (y : Link). y.forth) c.link-link.ensures) ∙ c.in-Some.is)).1 [
      | inl p ↦ sym p.1
      | inr p ↦ absurd (not_both (is_named c.args.node.name c.link-after.result.back) t
          (ap (λ (y : Link). is_named c.args.node.name y.back) c.link-after.ensures ∙ p.0))
    ]

pub returns-else-is_node : goal.returns-else-is_node
returns-else-is_node g c xs ys h = let l = c.args.self.now in
    let f : is_named c.args.node.name c.link-after.result.back ≡ false = sym c.is_node.ensures ∙ c.if-is_node.false in
    elim (next_of_it l (g.H.KeyHash.keying l.keys) (g.met.H.KeyHash.lawful l.keys) c.args.p.now xs c.args.node
    ys h c.in-Some.next (sym (ap (λ (y : Link). y.forth) c.link-link.ensures) ∙ c.in-Some.is)).1 [
      | inl p ↦ absurd (not_both (is_named c.args.node.name c.link-after.result.back)
          (ap (λ (y : Link). is_named c.args.node.name y.back) c.link-after.ensures ∙ p.0) f)
      | inr p ↦ sym p.1
    ]

pub returns-in_default : goal.returns-in_default
returns-in_default g c xs ys h = let l = c.args.self.now in
    sym (none_of_it l (g.H.KeyHash.keying l.keys) (g.met.H.KeyHash.lawful l.keys) c.args.p.now xs
    c.args.node ys h (sym (ap (λ (y : Link). y.forth) c.link-link.ensures) ∙ c.in_default.is))
