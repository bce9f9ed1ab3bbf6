-- The line that tells a schema: of the text "[t]⏎" it is "{\"ok\":true,\"schema\":\"[t]\\n\"}⏎".
use Rattle.std.specs.Prelude.{ℕ, List, ◌++◌, codes}
use Rattle.json.specs.Print.{quoted}

abbrev pub schema_line : List ℕ → List ℕ
schema_line text = codes "{\"ok\":true,\"schema\":" ++ (quoted text ++ codes "}\n")
