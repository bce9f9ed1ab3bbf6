-- The program's command is a simple one.
use Rattle.std.proofs.Common.{◌≡◌, refl, sym, subst, true}
use Rattle.clap.specs.Words.{App, is_simple_and_free}
use Rattle.mi_program.proofs.MatchedLemmas.{command_matched, command_refused}
use Rattle.mi_program.proofs.words.parse.Goals as goal

pub matched-requires : goal.matched-requires
matched-requires g c = subst (λ (app : App). is_simple_and_free app ≡ true) (sym c.in_ok-command.ensures.is) refl

pub returns-clause-ok : goal.returns-clause-ok
returns-clause-ok g c = command_matched _ _ _ _ c.in_ok-command.ensures c.matched.ensures.ok

pub returns-clause-refused : goal.returns-clause-refused
returns-clause-refused g c = command_refused _ _ _ _ c.in_ok-command.ensures c.matched.ensures.refused
