-- A record has fewer values than bytes, so their number has 64 bits.
use Rattle.std.proofs.Common.{ℕ, ◌<◌, ◌^◌, List, length, subst, arith}
use Rattle.mi_value.specs.Bytes.{bytes_in}
use Rattle.mi_value.proofs.BlockLemmas.{within}
use Rattle.mi_value.proofs.record.Record.values.Goals as goal

pub returns-clause-countable : goal.returns-clause-countable
returns-clause-countable c =
    let few : length (bytes_in c.self.inside.bytes) < 2 ^ 64 = subst (λ (bytes : List ℕ). length bytes < 2 ^ 64) c.as_slice.ensures c.as_slice.type_inv.0 in
    rw (← c.self.view_is) (omega (arith, within (bytes_in c.self.inside.bytes), few))
