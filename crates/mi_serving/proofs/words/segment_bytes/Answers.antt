-- The bytes are those of the matches.
use Rattle.std.proofs.Common.{◌≡◌, ◌∙◌, codes, false, sym, arith}
use Rattle.clap.specs.Words.{found_of}
use Rattle.clap.proofs.WalkLemmas.{one_text-rows}
use Rattle.mi_serving.specs.declared.words.TheConstants.{LEAST_SEGMENT, MOST_SEGMENT}
use Rattle.mi_serving.proofs.WordsLemmas.{number_read, number_none}
use Rattle.mi_serving.proofs.words.segment_bytes.Goals as goal

pub returns-in-Some : goal.returns-in-Some
returns-in-Some c =
    number_read 64 LEAST_SEGMENT MOST_SEGMENT _ _ c.in-Some.count (one_text-rows (found_of c.args.matches.now) (codes "segment-bytes"))
    (omega (arith, c.if-count-ge-LEAST_SEGMENT.true)) (omega (arith, c.if-count-le-MOST_SEGMENT.true)) c.in-Some.ensures.none c.in-Some.ensures.value

pub returns-in-None : goal.returns-in-None
returns-in-None c =
    let none : c.contains_id.result ≡ false = grind (arith, c.if-not-contains_id.true) in
    number_none LEAST_SEGMENT MOST_SEGMENT (found_of c.args.matches.now) (codes "segment-bytes") _
    (one_text-rows (found_of c.args.matches.now) (codes "segment-bytes")) (sym c.contains_id.ensures ∙ none)
