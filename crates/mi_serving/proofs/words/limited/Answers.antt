-- Two options more, by the rules that the definitions give them.
use Rattle.std.proofs.Common.{rules, codes, ◌≡◌}
use Rattle.clap.specs.Words.{rule_of}
use Rattle.mi_program.specs.Words.{number_rule}
use Rattle.mi_program.proofs.MatchedLemmas.{stands_more}
use Rattle.mi_serving.specs.Words.{seconds_parser}
use Rattle.mi_serving.proofs.words.limited.Goals as goal

pub returns : goal.returns
returns c =
    let hold_is : rule_of c.number.result ≡ number_rule (codes "hold-seconds") seconds_parser = search rules in
    let idle_is : rule_of c.number-2.result ≡ number_rule (codes "idle-seconds") seconds_parser = search rules in
    λ app has.
    stands_more _ _ _ _ _ c.in_ok-with_idle.ensures
    (stands_more _ _ _ _ _ c.in_ok-with_hold.ensures has hold_is c.number.ensures.plain c.number.ensures.local)
    idle_is c.number-2.ensures.plain c.number-2.ensures.local
