-- Where the key stays only the row itself has it.
use Rattle.std.proofs.Common.{sym, ◌∙◌}
use Rattle.mi_multi.proofs.ConflictLemmas.{kept_is_none}
use Rattle.mi_multi.proofs.multi.MultiIndex.rival_of_put.Goals as goal

pub returns-then-not-changed : goal.returns-then-not-changed
returns-then-not-changed c = sym (kept_is_none c.self.inside c.self.invariant c.args.self.now c.self.view_is c.args.index
    c.requires.declared c.requires.there c.args.row.now c.keeps_rules.ensures c.requires.alone c.args.id c.requires.live
    (sym c.if-not-changed.true ∙ c.requires.changed))
