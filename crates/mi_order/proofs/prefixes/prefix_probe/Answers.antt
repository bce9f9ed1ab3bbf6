-- A key of one value, where the index has more parts, is told by that value.
use Rattle.std.proofs.Common.{◌≡◌, ◌<◌, List, [], ◌∷◌, length, refl, ◌∙◌, arith, rules}
use Rattle.mi_value.specs.declared.value.Value.{Value}
use Rattle.mi_value.specs.declared.compare.KeyPart.{KeyPart}
use Rattle.mi_order.specs.declared.prefixes.PrefixTypes.{PrefixTypes}
use Rattle.mi_order.specs.Prefixes.{first_probe, prefix_probe}
use Rattle.mi_order.proofs.prefixes.prefix_probe.Goals as goal

alone : (t : PrefixTypes) (p : KeyPart) (ps : List KeyPart) (v : Value) (vs : List Value) → 0 < length ps → length vs ≡ 0
    → first_probe t.first p v ≡ prefix_probe t p ps v vs
alone t p [] v vs some none = absurd (omega arith)
alone t p (q ∷ qs) v [] some none = refl
alone t p (q ∷ qs) v (w ∷ ws) some none = absurd (omega arith)

pub returns-in-len1-up-empty : goal.returns-in-len1-up-empty
returns-in-len1-up-empty c =
    c.first_probe.ensures ∙ alone c.args.types.now c.args.part.now c.args.rest.now c.args.value.now c.args.more.now (search rules) (search rules)
