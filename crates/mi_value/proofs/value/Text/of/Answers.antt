-- The string has the text's bytes.
use Rattle.mi_value.proofs.value.Text.of.Goals as goal

pub returns : goal.returns
returns c = c.in_ok-from_str.ensures.ok
