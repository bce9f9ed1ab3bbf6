-- What can't be listened on was asked for.
use Rattle.std.proofs.Common.{◌≡◌, ◌∙◌, is_some, rules, sym}
use Rattle.mi_serving.proofs.acceptor.Acceptor.open.Goals as goal

pub returns-in-Err-open_path-clause-fails : goal.returns-in-Err-open_path-clause-fails
returns-in-Err-open_path-clause-fails g c =
    let asked : is_some c.as_deref.result ≡ is_some c.args.addresses.now.unix = search rules in
    (c.of_path.ensures.failure, λ _. sym asked ∙ c.in-Err-open_path.ensures.fails)
