-- all turns on what is left
use Rattle.std.proofs.Common.{◌≡◌, drop}
use Rattle.std.specs.List.{list_any}
use Rattle.std.specs.Str.{bytes_eq}
use Rattle.mi_schema.proofs.document.is_named.Given as goal

abbrev pub invariant-loop-n : goal.invariant-loop-n
invariant-loop-n l = list_any (λ n. bytes_eq l.name n.now) (drop l.n-index l.names) ≡ list_any (λ n. bytes_eq l.name n.now) l.names
