-- Where the bytes of a record lie.
use Rattle.std.specs.Prelude.{ℕ, List, take}
use Rattle.mi_value.specs.declared.bytes.Short.{Short}
use Rattle.mi_value.specs.declared.bytes.Bytes.{Bytes}
use Rattle.mi_value.specs.declared.bytes.Bytes.TheVariants as bytes

-- those of the first places, as many as there are
abbrev pub short_bytes : Short → List ℕ
short_bytes a = take a.length a.bytes

-- in the record itself, or in a block
abbrev pub bytes_in : Bytes → List ℕ
bytes_in (bytes.Short a) = short_bytes a
bytes_in (bytes.Long block) = block.items
