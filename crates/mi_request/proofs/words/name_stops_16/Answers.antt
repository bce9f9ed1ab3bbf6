-- Each byte is held to the test by its lane.
use Rattle.std.proofs.Common.{arith}
use Rattle.std.proofs.lemmas.Simd.{zip2_splat, zip2_splat_left}
use Rattle.mi_request.specs.Short.{is_name_byte, stops_name}
use Rattle.mi_tokens.proofs.RunLemmas.{hit, below, either, together, masked}
use Rattle.mi_request.proofs.words.name_stops_16.Goals as goal

pub returns : goal.returns
unfolding is_name_byte
returns c =
    let v = c.args.bytes in
    let long = c.fits-bytes.0 in
    let between = together _ _ v (zip2_splat_left below 57 16 v long) (zip2_splat below v 16 95 long) in
    masked _ stops_name v _ (omega arith) c.fits-bytes.1
    (either _ _ v (either _ _ v (either _ _ v (zip2_splat below v 16 48 long) between) (zip2_splat hit v 16 96 long)) (zip2_splat_left below 122 16 v long)) tt
