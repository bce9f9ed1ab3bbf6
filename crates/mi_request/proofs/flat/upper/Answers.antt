-- The end is the object behind the name, or there is none.
use Rattle.std.proofs.Common.{None, codes, refl}
use Rattle.json.specs.Print.{escape_byte}
use Rattle.mi_request.proofs.FlatLemmas.{upper_found}
use Rattle.mi_request.proofs.flat.upper.Goals as goal

pub returns-then-not-take_key : goal.returns-then-not-take_key
unfolding escape_byte
returns-then-not-take_key c = (None, c.if-not-take_key.ensures (codes "upper") refl refl, refl)

pub returns : goal.returns
unfolding escape_byte
returns c =
    upper_found c.one_end.result c.args.tokens.now c.take_key.new.self c.one_end.new.tokens
    (c.if-not-take_key.ensures (codes "upper") refl refl) (c.one_end.ensures (codes "le") (codes "lt") refl refl refl refl)
