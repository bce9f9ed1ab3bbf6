-- The law is proved with the definitions.
use Rattle.mi_reshape.proofs.TableLemmas.{reshaped_is_table}
use Rattle.mi_reshape.proofs.laws.reshaped_is_table.Goals as goal

pub returns : goal.returns
returns c = reshaped_is_table
