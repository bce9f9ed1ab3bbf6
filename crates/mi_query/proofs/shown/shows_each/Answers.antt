-- The rules of a database say it of each of its tables.
use Rattle.mi_query.proofs.ShownLemmas.{each_shown, all_shown}
use Rattle.mi_query.proofs.shown.shows_each.Goals as goal

pub returns-clause-each : goal.returns-clause-each
returns-clause-each g c = each_shown _ c.args.table c.args.index c.keeps_rules.ensures c.requires.table c.requires.index

pub returns-clause-long : goal.returns-clause-long
returns-clause-long g c = all_shown _ c.args.table c.args.index c.keeps_rules.ensures c.requires.table c.requires.index
