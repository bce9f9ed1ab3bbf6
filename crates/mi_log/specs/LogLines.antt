-- What a reader of lines shows.
use Rattle.std.specs.Prelude.{ℕ, List}
use Rattle.mi_log.specs.declared.lines.LogLines.{LogLines}

abbrev pub reader_of : {R : Type 0} → LogLines R → R
reader_of r = r.reader

-- what was read last
abbrev pub line_of : {R : Type 0} → LogLines R → List ℕ
line_of r = r.line.items
