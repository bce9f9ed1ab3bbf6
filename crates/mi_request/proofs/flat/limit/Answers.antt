-- The number is the value behind the name, or there is none.
use Rattle.std.proofs.Common.{None, codes, refl}
use Rattle.json.specs.Print.{escape_byte}
use Rattle.mi_request.proofs.FlatLemmas.{page_found}
use Rattle.mi_request.proofs.flat.limit.Goals as goal

pub returns-then-not-take_key : goal.returns-then-not-take_key
unfolding escape_byte
returns-then-not-take_key c = (None, c.if-not-take_key.ensures (codes "limit") refl refl, refl)

pub returns : goal.returns
unfolding escape_byte
returns c =
    let w = c.in_ok-whole_value.ensures in
    page_found c.if_page.result c.in_ok-whole_value.field-0 w.0 c.args.tokens.now c.whole_value.new.tokens
    (c.take_key.new.self, c.if-not-take_key.ensures (codes "limit") refl refl, w.1) w.2 c.if_page.ensures
