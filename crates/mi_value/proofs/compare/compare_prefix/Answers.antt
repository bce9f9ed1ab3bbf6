-- A value past the last part is greater than what is missing there.
use Rattle.std.proofs.Common.{◌+◌, List, ◌∷◌, drop, get_or, sym, ◌∙◌}
use Rattle.std.proofs.lemmas.List.{at_drop_more, at_drop_all}
use Rattle.mi_value.specs.declared.value.Value.{Value}
use Rattle.mi_value.specs.declared.compare.KeyPart.{KeyPart}
use Rattle.mi_value.specs.Order.{compare_prefix}
use Rattle.mi_value.proofs.compare.compare_prefix.Goals as goal

pub returns-in_default : goal.returns-in_default
returns-in_default c =
    let ps = c.args.parts.now in let vs = c.args.key.now in let r = c.args.row.now in let i = c.loop-i.i in let v = c.index-key-i.result in
    let left = at_drop_more (λ (us : List Value). compare_prefix (drop i ps) us r) vs i v c.loop-i-test.true in
    let none = at_drop_all (λ (qs : List KeyPart). compare_prefix qs (get_or vs i v ∷ drop (i + 1) vs) r) ps i c.in_default.ensures.lookup.3 in
    sym none ∙ (sym left ∙ c.loop-i.invariant)
