-- An index without parts goes by the id.
use Rattle.std.proofs.Common.{◌≡◌, List, subst, sym, ◌∙◌}
use Rattle.mi_value.specs.declared.compare.KeyPart.{KeyPart}
use Rattle.mi_catalog.specs.Key.{compare_to_row}
use Rattle.mi_catalog.proofs.KeyLemmas.{no_parts}
use Rattle.mi_catalog.proofs.key.compare_to_row.Goals as goal

pub returns-then-is_empty : goal.returns-then-is_empty
returns-then-is_empty c =
    subst (λ (ps : List KeyPart). c.compare_id_key.result ≡ compare_to_row ps c.args.key.now (c.args.id, c.args.row.now))
    (sym (no_parts c.args.parts.now (sym c.is_empty.ensures ∙ c.if-is_empty.true))) c.compare_id_key.ensures
