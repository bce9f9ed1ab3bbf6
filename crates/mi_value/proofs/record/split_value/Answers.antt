-- The text of a value that was put there is UTF-8.
use Rattle.std.proofs.Common.{ap, ◌∙◌}
use Rattle.mi_value.specs.Block.{value_at}
use Rattle.mi_value.proofs.record.split_value.Goals as goal

pub from_utf8_unchecked-requires : goal.from_utf8_unchecked-requires
from_utf8_unchecked-requires c = c.requires _ _ (ap (λ t. value_at t c.args.bytes.now) c.in-1.is ∙ c.in_ok-text-in-1.ensures.1)
