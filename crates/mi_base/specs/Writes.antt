-- What a write of lines does to the writer and to the hasher of all that is written.
--     Hashes      a hasher takes a text in
--     Puts      lines are written and hashed, and each is read as it was
use Rattle.std.specs.Prelude.{ℕ, List, ◌++◌}
use Rattle.std.specs.List.{AllByRecursion}
use Rattle.std.specs.declared.option.Option.{Option}
use Rattle.std.specs.Io.KnownBytes.{Appends}
use Rattle.sha2.specs.Hashers.{Holds256}
use Rattle.sha2.specs.declared.Sha256.{Sha256}
use Rattle.serde_json.specs.Data.{Data}
use Rattle.mi_base.specs.Lines.{lines_text, IsPlain}

abbrev pub Hashes : Sha256 → Sha256 → List ℕ → Type 0
Hashes d e text = (m : List ℕ) → Holds256 d m → Holds256 e (m ++ text)

pub record Puts (old new : Option (List ℕ)) (d e : Sha256) (lines : List Data) : Type 0 where
  pub appended : Appends old new (lines_text lines)
  pub hashed : Hashes d e (lines_text lines)
  pub plain : AllByRecursion IsPlain lines
