-- The values so far are those of the items that were gone over.
use Rattle.std.proofs.Common.{◌≡◌, List, ◌∷◌, ◌++◌, ◌+◌, drop, option_map, refl, sym, ap, ◌∙◌, arith}
use Rattle.std.proofs.lemmas.List.{drop_more}
use Rattle.mi_value.specs.declared.value.Value.{Value}
use Rattle.mi_protocol.specs.Keys.{plain_values}
use Rattle.mi_protocol.proofs.KeyLemmas.{read, read_all, in_front_none, read_step}
use Rattle.mi_protocol.proofs.keys.key_of.Goals as goal

pub items-init : goal.items-init
items-init c =
    let xs = c.items-items.result.now in
    ap (λ (front : List Value). option_map (λ vs. front ++ vs) (read xs)) c.in_ok-values.ensures.items ∙ in_front_none (read xs)
    ∙ read_all xs ∙ ap plain_values c.items-items.ensures

pub items-preserved : goal.items-preserved
items-preserved c =
    let l = c.items in let xs = c.items-items.result.now in let i = l.item-index in let here = c.item-item.result in
    let there : drop i xs ≡ here ∷ drop (i + 1) xs = drop_more xs i here (omega arith) ∙ ap (λ x. x ∷ drop (i + 1) xs) (sym c.item-item.is) in
    read_step _ _ _ _ c.in_ok-push.ensures.items refl c.in_ok-plain_value-2.ensures there l.invariant
