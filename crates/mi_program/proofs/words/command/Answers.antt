-- Its four options have the rules that the definitions give them.
use Rattle.std.proofs.Common.{rules, codes, subst, sym, ◌≡◌}
use Rattle.std.specs.List.{All}
use Rattle.std.proofs.lemmas.List.Elements.{All-nil}
use Rattle.clap.specs.Built.{IsPlainArg}
use Rattle.clap.specs.Words.{rule_of, new_app}
use Rattle.mi_program.specs.Words.{option_rule, number_rule, flag_rule, port_parser, clients_parser, HasOptions}
use Rattle.mi_program.proofs.MatchedLemmas.{stands_more}
use Rattle.mi_program.proofs.words.command.Goals as goal

pub returns : goal.returns
returns c =
    let schema_is : rule_of c.option.result ≡ option_rule (codes "schema") = search rules in
    let check_is : rule_of c.flag.result ≡ flag_rule (codes "check") = search rules in
    let listen_is : rule_of c.number.result ≡ number_rule (codes "listen") port_parser = search rules in
    let clients_is : rule_of c.number-2.result ≡ number_rule (codes "clients") clients_parser = search rules in
    let start : HasOptions c.new.result (new_app (codes "mi_server")) = record {
      is = c.new.ensures.app;
      plain = (subst (All IsPlainArg) (sym c.new.ensures.empty.0) (All-nil IsPlainArg), c.new.ensures.empty.1);
      local = c.new.ensures.local;
    } in
    stands_more _ _ _ _ _ c.in_ok-with_clients.ensures
    (stands_more _ _ _ _ _ c.in_ok-with_listen.ensures
    (stands_more _ _ _ _ _ c.in_ok-with_check.ensures
    (stands_more _ _ _ _ _ c.in_ok-with_schema.ensures start schema_is c.option.ensures.plain c.option.ensures.local)
    check_is c.flag.ensures.plain c.flag.ensures.local)
    listen_is c.number.ensures.plain c.number.ensures.local)
    clients_is c.number-2.ensures.plain c.number-2.ensures.local
