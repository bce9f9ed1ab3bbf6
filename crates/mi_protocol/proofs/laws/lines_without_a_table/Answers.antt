-- The law is proved with the definitions, of the first table and of it alone.
use Rattle.mi_protocol.proofs.FirstTableLaws.{no_name_is_the_first, other_tables_are_not_seen}
use Rattle.mi_protocol.proofs.laws.lines_without_a_table.Goals as goal

pub returns : goal.returns
returns c = record { first = no_name_is_the_first; alone = other_tables_are_not_seen }
