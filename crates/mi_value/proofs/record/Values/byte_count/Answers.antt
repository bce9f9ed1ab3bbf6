-- The texts lie among the bytes.
use Rattle.std.proofs.Common.{◌≡◌, ap, arith, sym}
use Rattle.mi_value.specs.Block.{texts_length, unpacked}
use Rattle.mi_value.proofs.BlockLemmas.{texts_fit}
use Rattle.mi_value.proofs.record.Values.byte_count.Goals as goal

pub returns : goal.returns
returns c =
    let bytes = c.self.inside.bytes.now in
    let held : texts_length c.args.self.now ≡ texts_length (unpacked bytes) = ap texts_length (sym c.self.view_is) in
    omega (arith, held, texts_fit bytes)
