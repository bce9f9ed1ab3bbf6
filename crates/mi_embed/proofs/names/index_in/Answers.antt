-- The index of a name is sought where the bytes are a text.
use Rattle.std.proofs.Common.{◌∙◌, sym, ap}
use Rattle.mi_catalog.specs.Shape.{find_index}
use Rattle.mi_embed.proofs.NameLemmas.{text_is_sought, other_names_nothing}
use Rattle.mi_embed.proofs.names.index_in.Goals as goal

pub returns-in-Some : goal.returns-in-Some
returns-in-Some c =
    let find = find_index c.args.schema.now in
    c.find_index.ensures ∙ ap find c.in-Some.ensures.1 ∙ sym (text_is_sought find c.args.name.now c.in-Some.ensures.0)

pub returns-in-None : goal.returns-in-None
returns-in-None c = sym (other_names_nothing (find_index c.args.schema.now) c.args.name.now c.in-None.ensures)
