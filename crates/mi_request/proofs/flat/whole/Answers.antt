-- The number is the value behind the name.
use Rattle.mi_request.proofs.FlatLemmas.{whole_found}
use Rattle.mi_request.proofs.flat.whole.Goals as goal

pub returns : goal.returns
returns g c s is plain =
    whole_found c.whole_value.result c.args.tokens.now c.take_key.new.self c.whole_value.new.tokens s (c.if-not-take_key.ensures s is plain) c.whole_value.ensures
