-- A text that is plain from its beginning to its end is its own escape.
use Rattle.json.proofs.Printed.Plain.{escape_on_plain}
use Rattle.mi_print.proofs.plain.is_plain_by_8.Goals as goal

pub returns : goal.returns
returns c = escape_on_plain c.plain_by_8.result c.args.text.now c.plain_by_8.ensures
