-- The newline stands in the vector as it was put into its slice.
use Rattle.std.proofs.Common.{◌≡◌, length, take, drop, ap, sym, ◌∙◌, subst, take_at, rules}
use Rattle.mi_protocol.specs.Output.{EndsLine}
use Rattle.mi_protocol.specs.Replies.{reply_text, said}
use Rattle.mi_protocol.proofs.output.long_line.Goals as goal

pub returns-clause-text : goal.returns-clause-text
returns-clause-text c =
    let put = c.end_line.new.buf in
    let whole = take_at put (drop (length put) c.put_long.new.text.items) c.put_long.new.text.len (c.end_line.ensures.len ∙ c.as_mut_slice.ensures.len) in
    let written : take c.in_ok-end.end put ≡ reply_text c.args.catalog.now (said c.args.reply.now) = search rules in
    ap (take c.in_ok-end.end) whole ∙ written

pub returns-clause-line : goal.returns-clause-line
returns-clause-line c =
    let put = c.end_line.new.buf in
    let whole = take_at put (drop (length put) c.put_long.new.text.items) c.put_long.new.text.len (c.end_line.ensures.len ∙ c.as_mut_slice.ensures.len) in
    subst (EndsLine c.in_ok-end.end) (sym whole) c.end_line.ensures.line
