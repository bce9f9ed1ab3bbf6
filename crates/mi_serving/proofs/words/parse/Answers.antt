-- The service's command is a simple one.
use Rattle.std.proofs.Common.{◌≡◌, map, refl, sym, subst, true, IfOk}
use Rattle.clap.specs.Words.{App, found_of, is_simple_and_free, matches_of, rows_of}
use Rattle.mi_serving.proofs.words.parse.Goals as goal

pub matched-requires : goal.matched-requires
matched-requires g c = subst (λ (app : App). is_simple_and_free app ≡ true) (sym c.in_ok-command.ensures.is) refl

pub returns : goal.returns
returns g c =
    subst (λ (app : App). IfOk c.matched.result (λ m. rows_of (found_of m) ≡ matches_of app (map g.S.AsStr.text c.args.words.now)))
    c.in_ok-command.ensures.is c.matched.ensures
