-- Another content in a node, and the old one put back.
-- Cited by `DataLemmas`, `GroupLemmas`, `InverseLemmas`, `RestampLemmas`, `RestoreLemmas`, 1 more and `mi_multi`.
use Rattle.std.proofs.Common.{◌≡◌, ◌≢◌, ℕ, true, false, cond, List, [], ◌∷◌, refl, ap, sym, ◌∙◌}
use Rattle.std.specs.Prelude.{◌==◌}
use Rattle.std.specs.declared.option.Option.TheVariants.{Some}
use Rattle.mi_model.proofs.SortLaws.{both_ways}
use Rattle.mi_container.specs.Data.{Content, Node, node_of, content_in, content_of}
use Rattle.mi_container.specs.Changes.{with_content}
use Rattle.mi_container.proofs.PairLemmas.{other_id, head_is, head_isnt}

content_here : (e : ℕ) (c : Content) (r : ℕ × Node) (rows : List (ℕ × Node)) → (r.0 == e) ≡ true
    → with_content e c (r ∷ rows) ≡ (r.0, record { at = r.1.at; content = c }) ∷ rows
content_here e c r rows same = ap (λ b. cond b ((r.0, record { at = r.1.at; content = c }) ∷ rows) (r ∷ with_content e c rows)) same

content_on : (e : ℕ) (c : Content) (r : ℕ × Node) (rows : List (ℕ × Node)) → (r.0 == e) ≡ false → with_content e c (r ∷ rows) ≡ r ∷ with_content e c rows
content_on e c r rows other = ap (λ b. cond b ((r.0, record { at = r.1.at; content = c }) ∷ rows) (r ∷ with_content e c rows)) other

-- the old content put back
pub content_back : (e : ℕ) (c : Content) (rows : List (ℕ × Node)) → with_content e (content_of rows e) (with_content e c rows) ≡ rows
content_back e c [] = refl
content_back e c (r ∷ rows) =
    both_ways (r.0 == e)
    (λ yes.
    let old : content_of (r ∷ rows) e ≡ r.1.content = ap content_in (head_is e r rows yes) in
    ap (with_content e (content_of (r ∷ rows) e)) (content_here e c r rows yes)
    ∙ content_here e (content_of (r ∷ rows) e) (r.0, record { at = r.1.at; content = c }) rows yes
    ∙ (λ i. (r.0, record { at = r.1.at; content = old i }) ∷ rows))
    (λ isnt.
    ap (with_content e (content_of (r ∷ rows) e)) (content_on e c r rows isnt)
    ∙ content_on e (content_of (r ∷ rows) e) r (with_content e c rows) isnt
    ∙ ap (λ o. r ∷ with_content e (content_in o) (with_content e c rows)) (head_isnt e r rows isnt)
    ∙ ap (λ q. r ∷ q) (content_back e c rows))

-- the node of e with the other content
pub node_with : (e : ℕ) (c : Content) (rows : List (ℕ × Node)) (n : Node) → node_of rows e ≡ Some n
    → node_of (with_content e c rows) e ≡ Some (record { at = n.at; content = c })
node_with e c [] n is = absurd (cc)
node_with e c (r ∷ rows) n is =
    both_ways (r.0 == e)
    (λ yes.
    let same : Some r.1 ≡ Some n = sym (head_is e r rows yes) ∙ is in
    ap (λ q. node_of q e) (content_here e c r rows yes) ∙ head_is e (r.0, record { at = r.1.at; content = c }) rows yes
    ∙ ap (λ (m : Node). Some (record { at = m.at; content = c })) (let h : r.1 ≡ n = cc in h))
    (λ isnt.
    ap (λ q. node_of q e) (content_on e c r rows isnt) ∙ head_isnt e r (with_content e c rows) isnt ∙ node_with e c rows n (sym (head_isnt e r rows isnt) ∙ is))

-- and of any other id the node as it was
pub node_beside : (a e : ℕ) (c : Content) (rows : List (ℕ × Node)) → a ≢ e → node_of (with_content e c rows) a ≡ node_of rows a
node_beside a e c [] ne = refl
node_beside a e c (r ∷ rows) ne =
    both_ways (r.0 == e)
    (λ yes.
    let other : (r.0 == a) ≡ false = other_id r.0 a e ne yes in
    ap (λ q. node_of q a) (content_here e c r rows yes) ∙ head_isnt a (r.0, record { at = r.1.at; content = c }) rows other ∙ sym (head_isnt a r rows other))
    (λ isnt. ap (λ q. node_of q a) (content_on e c r rows isnt) ∙ ap (cond (r.0 == a) (Some r.1)) (node_beside a e c rows ne))
