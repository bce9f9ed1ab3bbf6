-- The values are those of the matches, which keep the rules between options.
use Rattle.std.proofs.Common.{ap, codes, sym, inr, ◌∙◌}
use Rattle.std.proofs.lemmas.Result.{err_from_is_err_and}
use Rattle.clap.specs.Words.{found_of}
use Rattle.clap.proofs.WalkLemmas.{first_value-rows, one_text-rows}
use Rattle.mi_program.specs.Words.{is_set}
use Rattle.mi_program.proofs.ValueLemmas.{flag_read}
use Rattle.mi_program.proofs.NumberLemmas.{listen_read, clients_read, number_there, together}
use Rattle.mi_program.proofs.words.values.Goals as goal

pub returns-clause-ok : goal.returns-clause-ok
returns-clause-ok c =
    let m = c.args.matches.now in
    let check = c.unwrap_or-check.ensures ∙ flag_read _ _ c.get_one.result c.get_one.ensures.none c.get_one.ensures.value
    ∙ ap is_set (one_text-rows (found_of m) (codes "check")) in
    let port = listen_read m c.requires c.get_one-port.result c.get_one-port.ensures.none c.get_one-port.ensures.value in
    let clients = clients_read m c.requires c.get_one-clients.result c.get_one-clients.ensures.none c.get_one-clients.ensures.value in
    let rules = sym (together _ _ _ _ _ _ (number_there _ _ _ _ port) (number_there _ _ _ _ clients) check) ∙ c.in_ok-listen.ensures.ok.0 in (
      rules,
      record {
        schema = c.in_ok-schema.ensures ∙ c.get_str.ensures ∙ first_value-rows (found_of m) (codes "schema");
        check = check;
        listen = (c.get_one-port.result, c.get_one-clients.result, port, clients, c.in_ok-listen.ensures.ok.1);
      },
    )

pub returns-in_err-listen-clause-err : goal.returns-in_err-listen-clause-err
returns-in_err-listen-clause-err c =
    let m = c.args.matches.now in
    let check = c.unwrap_or-check.ensures ∙ flag_read _ _ c.get_one.result c.get_one.ensures.none c.get_one.ensures.value
    ∙ ap is_set (one_text-rows (found_of m) (codes "check")) in
    let port = listen_read m c.requires c.get_one-port.result c.get_one-port.ensures.none c.get_one-port.ensures.value in
    let clients = clients_read m c.requires c.get_one-clients.result c.get_one-clients.ensures.none c.get_one-clients.ensures.value in
    let p = err_from_is_err_and c.from_residual-in_err-listen.result c.from_residual-in_err-listen.ensures.1 in
    let rules = sym (together _ _ _ _ _ _ (number_there _ _ _ _ port) (number_there _ _ _ _ clients) check) ∙ c.in_err-listen.ensures.err.1 in
    rw p.1 (inr (p.2 ∙ c.in_err-listen.ensures.err.0, rules))
