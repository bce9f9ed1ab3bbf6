-- An id of a key is there.
use Rattle.mi_plain.proofs.FindLemmas.{key_there}
use Rattle.mi_plain.proofs.table.PlainTable.find_row.Goals as goal

pub row_of-requires : goal.row_of-requires
row_of-requires c =
    key_there c.args.schema.now c.args.self.now c.args.x c.args.key.now c.requires.is c.requires.within c.find-found.result c.find-found.ensures
