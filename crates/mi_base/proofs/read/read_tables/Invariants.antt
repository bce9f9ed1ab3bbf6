use Rattle.std.proofs.Common.{map}
use Rattle.mi_container.specs.Restore.{image_table}
use Rattle.mi_base.specs.Reader.{reader_of}
use Rattle.mi_base.proofs.BaseLemmas.{ReadSo}
use Rattle.mi_base.proofs.read.read_tables.Given as goal

-- the tables so far
abbrev pub invariant-tables : goal.invariant-tables
invariant-tables g l =
    ReadSo l.catalog.tables (g.R.Read.remaining (reader_of l.fn.lines)) (g.R.Read.remaining (reader_of l.lines))
    l.fn.lines.digest l.lines.digest l.table (map image_table l.images.items)
