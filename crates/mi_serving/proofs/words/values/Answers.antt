-- The values are those of the matches.
use Rattle.std.proofs.Common.{◌≡◌, ap, codes, ◌∙◌, is_some, rules, subst, true}
use Rattle.clap.specs.Words.{found_of}
use Rattle.clap.proofs.WalkLemmas.{first_value-rows, one_text-rows}
use Rattle.mi_program.specs.Words.{is_set}
use Rattle.mi_program.proofs.ValueLemmas.{flag_read}
use Rattle.mi_serving.specs.Words.{is_task, listens}
use Rattle.mi_serving.proofs.WordsLemmas.{named_by}
use Rattle.mi_serving.proofs.words.values.Goals as goal

pub returns : goal.returns
returns c =
    let m = found_of c.args.matches.now in
    let named : is_some c.as_ref.result ≡ is_some c.in_ok-journal.journal = search rules in
    let moves : c.is_some.result ≡ is_some c.in_ok-moving.moving = search rules in
    record {
      schema = c.in_ok-schema.ensures ∙ c.get_str.ensures ∙ first_value-rows m (codes "schema");
      addresses = c.in_ok-addresses.ensures;
      journal = named_by _ _ _ _ c.in_ok-journal.journal (c.get_str-2.ensures ∙ first_value-rows m (codes "journal"))
          (c.get_str-3.ensures ∙ first_value-rows m (codes "sync")) c.in_ok-journal.ensures.journal;
      segments = (c.in_ok-bytes.bytes, c.in_ok-bytes.ensures, c.in_ok-journal.ensures.bytes);
      limits = c.in_ok-limits.ensures;
      rebase = c.unwrap_or-rebase.ensures ∙ flag_read _ _ c.get_one.result c.get_one.ensures.none c.get_one.ensures.value
          ∙ ap is_set (one_text-rows m (codes "rebase"));
      moving = c.in_ok-moving.ensures;
      task = subst (λ m. is_task c.unwrap_or-rebase.result m (listens c.in_ok-addresses.addresses) (is_some c.in_ok-journal.journal) ≡ true) moves
          (subst (λ s. is_task c.unwrap_or-rebase.result c.is_some.result (listens c.in_ok-addresses.addresses) s ≡ true) named c.in_ok-check_task.ensures);
    }
