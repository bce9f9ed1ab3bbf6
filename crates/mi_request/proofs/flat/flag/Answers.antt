-- The truth value is the value behind the name, or there is none.
use Rattle.std.proofs.Common.{None, refl}
use Rattle.mi_request.proofs.FlatLemmas.{bool_found}
use Rattle.mi_request.proofs.flat.flag.Goals as goal

pub returns-then-not-take_key : goal.returns-then-not-take_key
returns-then-not-take_key g c s is plain = (None, c.if-not-take_key.ensures s is plain, refl)

pub returns : goal.returns
returns g c s is plain =
    bool_found c.take_bool.result c.args.tokens.now c.take_key.new.self c.take_bool.new.self s (c.if-not-take_key.ensures s is plain) c.take_bool.ensures
