-- The number is the value behind the name, or there is none.
use Rattle.std.proofs.Common.{Some, None, codes, refl, ap, option_map}
use Rattle.json.specs.Print.{escape_byte}
use Rattle.mi_request.proofs.flat.after.Goals as goal

pub returns-then-not-take_key : goal.returns-then-not-take_key
unfolding escape_byte
returns-then-not-take_key c = (None, c.if-not-take_key.ensures (codes "after") refl refl, refl)

pub returns : goal.returns
unfolding escape_byte
returns c =
    let w = c.in_ok-whole_value.ensures in
    (Some w.0, (c.take_key.new.self, c.if-not-take_key.ensures (codes "after") refl refl, w.1), ap (option_map Some) w.2)
