-- An id that an index shows is there.
use Rattle.mi_plain.proofs.FindLemmas.{shown_there}
use Rattle.mi_plain.proofs.table.PlainTable.nth_row.Goals as goal

pub row_of-requires : goal.row_of-requires
row_of-requires c =
    shown_there c.args.schema.now c.args.self.now c.args.x c.requires.is c.requires.kind c.args.n c.nth-found.result c.nth-found.ensures
