-- What a list needs of its pool: the references and the links of its nodes, and no value.
use Rattle.std.specs.Prelude.{List as Seq}
use Rattle.mi_node.specs.Pool.{Pooled, with_value}
use Rattle.mi_node.specs.Refs.{Ref}
use Rattle.mi_list.specs.Listed.{IsListed}
use Rattle.mi_list.specs.declared.list.List.{List}

-- any node's value may be exchanged for any other: the list is of the same nodes in the same order
abbrev pub StandsWhateverIsSwapped : (T : Type 0) → Type 0
StandsWhateverIsSwapped T = (l : List) (m : Pooled T) (rs : Seq Ref) (x : Ref) (new : T) → IsListed l m rs → IsListed l (with_value m x.name new) rs
