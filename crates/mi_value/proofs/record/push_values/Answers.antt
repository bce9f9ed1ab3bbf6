-- No value is left at the end.
use Rattle.std.proofs.Common.{◌≡◌, [], map, drop, ap}
use Rattle.std.proofs.Math.ListN.{drop_of_length-le}
use Rattle.mi_value.specs.Lent.{lent}
use Rattle.mi_value.proofs.BlockLemmas.{all_packed}
use Rattle.mi_value.proofs.record.push_values.Goals as goal

pub returns : goal.returns
returns g c =
    let vs = c.args.values.now in let left = map lent (drop c.loop-value.value-index vs) in
    let none : left ≡ [] = ap (map lent) (drop_of_length-le vs c.loop-value-test.false) in
    all_packed (g.S.Sink.held c.loop-value.bytes) (g.S.Sink.held c.args.bytes.now) (map lent vs) left none c.loop-value.invariant.0 c.loop-value.invariant.1
