-- The length, the words of eight bytes, and what is left, one behind another.
use Rattle.std.proofs.Common.{◌≡◌, ◌*◌, ◌/◌, length, drop, map, fold, w64, ap, sym, ◌∙◌}
use Rattle.std.specs.Int.{from_le_bytes}
use Rattle.std.specs.Simd.{first_chunks}
use Rattle.mi_order.specs.Hashing.{after_word, number_of}
use Rattle.mi_order.proofs.HashLemmas.{over_text}
use Rattle.mi_order.proofs.hashing.after_text.Goals as goal

pub returns : goal.returns
returns c =
    let f = after_word c.args.factor in
    let s = c.args.state in
    let bs = c.args.bytes.now in
    let words = map (from_le_bytes w64) (first_chunks 8 (length bs / 8) bs) in
    let between : c.after_eights-behind.result ≡ fold f (f s (length bs)) words =
    c.after_eights-behind.ensures ∙ ap (λ ws. fold f c.after_word-begun.result (map (from_le_bytes w64) ws)) c.as_chunks.ensures.front
    ∙ ap (λ a. fold f a words) c.after_word-begun.ensures in
    let last : c.number_of.result ≡ number_of (drop (length bs / 8 * 8) bs) = c.number_of.ensures ∙ ap number_of c.as_chunks.ensures.back in
    c.after_word.ensures ∙ ap (λ a. f a c.number_of.result) between ∙ ap (f (fold f (f s (length bs)) words)) last
    ∙ sym (over_text f s (length bs) (number_of (drop (length bs / 8 * 8) bs)) words)
