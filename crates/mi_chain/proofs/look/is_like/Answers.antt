-- nodes of two hashes are of two keys
use Rattle.std.proofs.Common.{◌≡◌, sym, ap, ◌∙◌}
use Rattle.mi_node.specs.declared.link.Link.{Link}
use Rattle.mi_chain.specs.Keying.{same_nodes, hash_node}
use Rattle.mi_chain.proofs.KeyingLemmas.{same_nodes_is, same_hash}
use Rattle.mi_chain.proofs.GroupLemmas.{no_is_false}
use Rattle.mi_chain.proofs.look.is_like.Goals as goal

pub returns-then-link-hash : goal.returns-then-link-hash
returns-then-link-hash g c = let v = c.args in let m = v.p.now in let k = g.H.KeyHash.keying v.keys.now in let w = g.met.H.KeyHash.lawful v.keys.now in
    let tag : c.link.result.tag.key ≡ hash_node k m v.first = ap (λ (l : Link). l.tag.key) c.link.ensures ∙ c.requires.tag in
    sym (no_is_false (same_nodes k m v.node v.first) (λ e. c.if-link-hash.true (tag ∙ sym (same_hash k m w v.node v.first e) ∙ sym c.requires.hash)))

pub returns : goal.returns
returns g c = let v = c.args in let k = g.H.KeyHash.keying v.keys.now in
    c.same.ensures ∙ sym (same_nodes_is k v.p.now v.node v.first c.value.result.now c.value-2.result.now c.value.ensures c.value-2.ensures)
