-- Three options more, by the rules that the definitions give them.
use Rattle.std.proofs.Common.{rules, codes, ◌≡◌}
use Rattle.clap.specs.Words.{rule_of}
use Rattle.mi_program.specs.Words.{option_rule, number_rule}
use Rattle.mi_program.proofs.MatchedLemmas.{stands_more}
use Rattle.mi_serving.specs.Words.{segment_parser}
use Rattle.mi_serving.proofs.words.kept.Goals as goal

pub returns : goal.returns
returns c =
    let journal_is : rule_of c.option.result ≡ option_rule (codes "journal") = search rules in
    let sync_is : rule_of c.option-2.result ≡ option_rule (codes "sync") = search rules in
    let bytes_is : rule_of c.number.result ≡ number_rule (codes "segment-bytes") segment_parser = search rules in
    λ app has.
    stands_more _ _ _ _ _ c.in_ok-with_bytes.ensures
    (stands_more _ _ _ _ _ c.in_ok-with_sync.ensures
    (stands_more _ _ _ _ _ c.in_ok-with_journal.ensures has journal_is c.option.ensures.plain c.option.ensures.local)
    sync_is c.option-2.ensures.plain c.option-2.ensures.local)
    bytes_is c.number.ensures.plain c.number.ensures.local
