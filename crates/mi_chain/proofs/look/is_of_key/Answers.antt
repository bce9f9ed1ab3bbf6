-- a node of another hash than the key's hasn't the key
use Rattle.std.proofs.Common.{◌≡◌, sym, ap, ◌∙◌}
use Rattle.mi_node.specs.declared.link.Link.{Link}
use Rattle.mi_chain.specs.Keying.{has_key, hash_node}
use Rattle.mi_chain.proofs.KeyingLemmas.{has_key_is, hash_of_probe}
use Rattle.mi_chain.proofs.GroupLemmas.{no_is_false}
use Rattle.mi_chain.proofs.look.is_of_key.Goals as goal

pub returns-then-link-hash : goal.returns-then-link-hash
returns-then-link-hash g c = let v = c.args in let m = v.p.now in let k = g.H.KeyHash.keying v.keys.now in let w = g.met.H.KeyHash.lawful v.keys.now in
    let tag : c.link.result.tag.key ≡ hash_node k m v.first = ap (λ (l : Link). l.tag.key) c.link.ensures ∙ c.requires.tag in
    sym (no_is_false (has_key k m v.key v.first) (λ e. c.if-link-hash.true (tag ∙ hash_of_probe k m w v.key v.first e ∙ sym c.requires.hash)))

pub returns : goal.returns
returns g c =
    let v = c.args in let k = g.H.KeyHash.keying v.keys.now in c.same_key.ensures ∙ sym (has_key_is k v.p.now v.key v.first c.value.result.now c.value.ensures)
