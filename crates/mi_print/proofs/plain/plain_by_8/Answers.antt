-- The first bytes and the last are all of the text.
use Rattle.std.proofs.Common.{◌-◌, List, ℕ, length, arith, subst}
use Rattle.std.proofs.lemmas.Simd.{length-chunk}
use Rattle.std.specs.Bool.{OnTrue}
use lib.Lanes.{chunk}
use Rattle.json.specs.Written.{PlainBetween}
use Rattle.mi_print.proofs.PlainLemmas.{both_picked, ends_plain}
use Rattle.mi_print.proofs.plain.plain_by_8.Goals as goal

pub returns : goal.returns
returns c =
    let text = c.args.text.now in
    let last = length text - 8 in
    let front = chunk 0 8 text in
    let back = chunk last 8 text in
    let plain = c.are_plain_16.result in
    let picked = both_picked 8 front back (length-chunk 0 8 text (omega (arith, c.requires))) (length-chunk last 8 text (omega (arith, c.requires))) in
    ends_plain plain 8 last text c.requires.0 (omega (arith, c.requires)) (omega (arith, c.requires))
    (subst (λ (lanes : List ℕ). OnTrue plain (PlainBetween lanes 0 16)) picked c.are_plain_16.ensures)
