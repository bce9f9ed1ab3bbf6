-- What contracts see of the structures of a table: one for each index, in the order of their numbers.
use Rattle.std.specs.Prelude.{List}
use Rattle.mi_index.specs.declared.structure.Structure.{Structure}

pub record Indexed : Type 0 where
  pub items : List Structure
