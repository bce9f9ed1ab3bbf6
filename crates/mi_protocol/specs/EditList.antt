-- The list of the edits of one modify, wherever they lie.
use Rattle.std.specs.Prelude.{List, [], ◌∷◌}
use Rattle.mi_value.specs.declared.edit.Edit.{Edit}
use Rattle.mi_protocol.specs.declared.edits.EditList.{EditList}
use Rattle.mi_protocol.specs.declared.edits.EditList.TheVariants as list

abbrev pub edits_in : EditList → List Edit
edits_in list.None = []
edits_in (list.One e) = e ∷ []
edits_in (list.Many v) = v.items
