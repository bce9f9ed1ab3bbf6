-- The first line of a journal: {"journal":1,"revision":0,"schema":"5ad0.."}.
use Rattle.std.specs.Prelude.{ℕ, List, ◌++◌, Bool, nat_eq, codes, decimal}
use Rattle.std.specs.List.{starts_with}

-- the header of a journal that opens with this revision, and of the schema with this hash
abbrev pub header_of : ℕ → List ℕ → List ℕ
header_of revision schema = codes "{\"journal\":1,\"revision\":" ++ decimal revision ++ codes ",\"schema\":\"" ++ schema ++ codes "\"}"

-- the header of some journal begins so
abbrev pub is_header : List ℕ → Bool
is_header line = starts_with nat_eq line (codes "{\"journal\":")
