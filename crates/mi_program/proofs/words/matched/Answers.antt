-- The parser's matches are those of the words, or its error is theirs.
use Rattle.std.specs.Prelude.{map}
use Rattle.clap.specs.Words.{app_of, matches_of}
use Rattle.mi_program.proofs.MatchedLemmas.{simple_of}
use Rattle.mi_program.proofs.words.matched.Goals as goal

pub returns-in-Ok-clause-ok : goal.returns-in-Ok-clause-ok
returns-in-Ok-clause-ok g c =
    (c.in-Ok.ensures.kinds c.requires, (c.in-Ok.ensures.matches (simple_of (app_of c.args.command) c.requires)).0, c.in-Ok.ensures.parsed)

pub returns-in-Err-clause-refused : goal.returns-in-Err-clause-refused
returns-in-Err-clause-refused g c =
    c.parser_fault.ensures _ (matches_of (app_of c.args.command) (map g.S.AsStr.text c.args.words.now)) (c.in-Err.ensures.kinds c.requires)
