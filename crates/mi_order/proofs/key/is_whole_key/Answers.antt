-- A whole key has a value for each part.
use Rattle.std.proofs.Common.{length, ap, ◌∙◌}
use Rattle.std.proofs.lemmas.Bool.{eq-eqb}
use Rattle.std.specs.Ordering.{is_eq}
use Rattle.mi_order.proofs.key.is_whole_key.Goals as goal

pub returns-then-key-parts : goal.returns-then-key-parts
returns-then-key-parts c =
    rw (eq-eqb (length c.args.key.now) (length c.args.parts.now) c.if-key-parts.true) (c.is_eq.ensures ∙ ap is_eq c.compare_prefix.ensures)
