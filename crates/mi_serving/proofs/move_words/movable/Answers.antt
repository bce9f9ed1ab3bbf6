-- Two options more, by the rules that the definitions give them.
use Rattle.std.proofs.Common.{rules, codes, ◌≡◌}
use Rattle.clap.specs.Words.{rule_of}
use Rattle.mi_program.specs.Words.{option_rule}
use Rattle.mi_program.proofs.MatchedLemmas.{stands_more}
use Rattle.mi_serving.proofs.move_words.movable.Goals as goal

pub returns : goal.returns
returns c =
    let path_is : rule_of c.option.result ≡ option_rule (codes "rebase-to") = search rules in
    let schema_is : rule_of c.option-2.result ≡ option_rule (codes "new-schema") = search rules in
    λ app has.
    stands_more _ _ _ _ _ c.in_ok-with_schema.ensures
    (stands_more _ _ _ _ _ c.in_ok-with_path.ensures has path_is c.option.ensures.plain c.option.ensures.local)
    schema_is c.option-2.ensures.plain c.option-2.ensures.local
