-- The law is proved with the definitions.
use Rattle.mi_list.proofs.FrameLemmas.{listed_with_value}
use Rattle.mi_list.proofs.laws.lists_stand_where_swapped.Goals as goal

pub returns : goal.returns
returns g c l m rs x new h = listed_with_value l m x.name new rs h
