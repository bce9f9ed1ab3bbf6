-- What is seen of a reader of lines, and what reading lines does to it.
--     reader_of, digest_of, line_of      its reader, the digest of the lines that were accepted, and the line that was read last
--     Takes      lines are taken from the reader, where it tells its bytes, and into the digest
use Rattle.std.specs.Prelude.{ℕ, List}
use Rattle.std.specs.declared.option.Option.{Option}
use Rattle.std.specs.Io.KnownBytes.{Consumes}
use Rattle.sha2.specs.declared.Sha256.{Sha256}
use Rattle.serde_json.specs.Data.{Data}
use Rattle.mi_base.specs.declared.lines.BaseLines.{BaseLines}
use Rattle.mi_base.specs.Lines.{lines_text}
use Rattle.mi_base.specs.Writes.{Hashes}

abbrev pub reader_of : {R : Type 0} → BaseLines R → R
reader_of l = l.reader

abbrev pub digest_of : {R : Type 0} → BaseLines R → Sha256
digest_of l = l.digest

abbrev pub line_of : {R : Type 0} → BaseLines R → List ℕ
line_of l = l.line.items

pub record Takes (old new : Option (List ℕ)) (d e : Sha256) (lines : List Data) : Type 0 where
  pub consumed : Consumes old new (lines_text lines)
  pub hashed : Hashes d e (lines_text lines)
