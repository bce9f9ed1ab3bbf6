-- The parser's matches are those of the words.
use Rattle.clap.specs.Words.{app_of}
use Rattle.mi_program.proofs.MatchedLemmas.{simple_of}
use Rattle.mi_serving.proofs.words.matched.Goals as goal

pub returns-in-Ok : goal.returns-in-Ok
returns-in-Ok g c = (c.in-Ok.ensures.matches (simple_of (app_of c.args.command) c.requires)).0
