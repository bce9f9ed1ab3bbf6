-- Where no line waited none does.
use Rattle.std.proofs.Common.{◌∙◌, sym, ap}
use Rattle.std.proofs.lemmas.List.{drop-drop}
use Rattle.mi_hub.specs.Ended.{ended}
use Rattle.mi_clients.specs.Input.{waiting}
use Rattle.mi_clients.proofs.InputLemmas.{unended_drop}
use Rattle.mi_clients.proofs.input.Input.pass.Goals as goal

pub invariant_of-self-clause-first : goal.invariant_of-self-clause-first
invariant_of-self-clause-first c = λ is.
    let old = c.args.self.now in
    ap ended (sym (drop-drop c.args.count old.asked old.bytes.items)) ∙ unended_drop c.args.count (waiting old) (old.first is)
