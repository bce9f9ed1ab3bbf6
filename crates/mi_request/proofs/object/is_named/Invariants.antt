use Rattle.std.proofs.Common.{◌≡◌, drop}
use Rattle.std.specs.List.{list_any}
use Rattle.std.specs.Str.{bytes_eq}
use Rattle.mi_request.proofs.object.is_named.Given as goal

-- all turns on what is left
abbrev pub invariant-names : goal.invariant-names
invariant-names l = list_any (λ n. bytes_eq l.name n.now) (drop l.n-index l.names) ≡ list_any (λ n. bytes_eq l.name n.now) l.names
