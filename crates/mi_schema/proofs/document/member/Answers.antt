-- The table's member of a name is the first of that name.
use Rattle.toml.proofs.Views.{table_get}
use Rattle.mi_schema.proofs.document.member.Goals as goal

pub returns : goal.returns
returns c = table_get c.get.result c.args.name.now _ c.get.ensures.value
