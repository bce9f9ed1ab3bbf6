-- That each name is among these is asked of the names alone.
use Rattle.std.proofs.Common.{ℕ, List, Bor, ◌∙◌}
use Rattle.mi_schema.proofs.DocumentLaws.{has_no_other-keys}
use Rattle.mi_schema.proofs.document.has_no_other.Goals as goal

pub returns : goal.returns
returns c = c.are_named.ensures ∙ has_no_other-keys (λ (n : Bor (List ℕ)). n.now) c.args.names.now _
