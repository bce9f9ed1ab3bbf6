-- Its options have the rules that the definitions give them.
use Rattle.std.proofs.Common.{rules, codes, subst, sym, ◌≡◌}
use Rattle.std.specs.List.{All}
use Rattle.std.proofs.lemmas.List.Elements.{All-nil}
use Rattle.clap.specs.Built.{IsPlainArg}
use Rattle.clap.specs.Words.{rule_of, new_app}
use Rattle.mi_program.specs.Words.{option_rule, flag_rule, HasOptions}
use Rattle.mi_program.proofs.MatchedLemmas.{stands_more}
use Rattle.mi_serving.proofs.words.command.Goals as goal

pub returns : goal.returns
returns c =
    let schema_is : rule_of c.option.result ≡ option_rule (codes "schema") = search rules in
    let rebase_is : rule_of c.flag.result ≡ flag_rule (codes "rebase") = search rules in
    let start : HasOptions c.new.result (new_app (codes "mi_service")) = record {
      is = c.new.ensures.app;
      plain = (subst (All IsPlainArg) (sym c.new.ensures.empty.0) (All-nil IsPlainArg), c.new.ensures.empty.1);
      local = c.new.ensures.local;
    } in
    c.in_ok-with_limits.ensures _
    (c.in_ok-with_moving.ensures _
    (stands_more _ _ _ _ _ c.in_ok-with_rebase.ensures
    (c.in_ok-with_journal.ensures _
    (c.in_ok-with_places.ensures _
    (stands_more _ _ _ _ _ c.in_ok-with_schema.ensures start schema_is c.option.ensures.plain c.option.ensures.local)))
    rebase_is c.flag.ensures.plain c.flag.ensures.local))
