-- Where an index has parts, the records' keys are compared.
use Rattle.std.proofs.Common.{◌≡◌, false, List, [], ◌∷◌, length, refl, sym, ◌∙◌}
use Rattle.std.specs.Prelude.{◌==◌}
use Rattle.std.proofs.lemmas.Bool.{eqb-false}
use Rattle.mi_value.specs.declared.compare.KeyPart.{KeyPart}
use Rattle.mi_value.specs.Order.{compare_key}
use Rattle.mi_catalog.specs.Key.{Row, compare_rows}
use Rattle.mi_catalog.proofs.key.compare_rows.Goals as goal

by_records : (ps : List KeyPart) (a b : Row) → (length ps == 0) ≡ false → compare_key ps a.1 b.1 ≡ compare_rows ps a b
by_records [] a b h = absurd (eqb-false 0 0 h refl)
by_records (p ∷ ps) a b h = refl

pub returns-else-is_empty : goal.returns-else-is_empty
returns-else-is_empty c =
    c.compare_key.ensures
    ∙ by_records c.args.parts.now (c.args.a, c.args.row.now) (c.args.b, c.args.other.now) (sym c.is_empty.ensures ∙ c.if-is_empty.false)
