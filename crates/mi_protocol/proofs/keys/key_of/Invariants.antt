use Rattle.std.proofs.Common.{◌≡◌, ◌++◌, drop, option_map}
use Rattle.mi_protocol.specs.Keys.{plain_values}
use Rattle.mi_protocol.proofs.KeyLemmas.{read}
use Rattle.mi_protocol.proofs.keys.key_of.Given as goal

-- the values so far, and those of the items to come, are those of all
abbrev pub invariant-items : goal.invariant-items
invariant-items l = option_map (λ vs. l.values.items ++ vs) (read (drop l.item-index l.items)) ≡ plain_values l.fn.key
