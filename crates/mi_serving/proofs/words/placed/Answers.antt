-- Two options more, by the rules that the definitions give them.
use Rattle.std.proofs.Common.{rules, codes, ◌≡◌}
use Rattle.clap.specs.Words.{rule_of}
use Rattle.mi_program.specs.Words.{option_rule, number_rule}
use Rattle.mi_program.proofs.MatchedLemmas.{stands_more}
use Rattle.mi_serving.specs.Words.{port_parser}
use Rattle.mi_serving.proofs.words.placed.Goals as goal

pub returns : goal.returns
returns c =
    let listen_is : rule_of c.number.result ≡ number_rule (codes "listen") port_parser = search rules in
    let unix_is : rule_of c.option.result ≡ option_rule (codes "unix") = search rules in
    λ app has.
    stands_more _ _ _ _ _ c.in_ok-with_unix.ensures
    (stands_more _ _ _ _ _ c.in_ok-with_listen.ensures has listen_is c.number.ensures.plain c.number.ensures.local)
    unix_is c.option.ensures.plain c.option.ensures.local
