-- there are as many marks as are counted
use Rattle.std.proofs.Common.{◌∙◌, sym, ap, length, arith}
use Rattle.mi_journal.proofs.FlagLemmas.{length-flags}
use Rattle.mi_journal.proofs.marks.Marks.keeps_rules.Goals as goal

pub returns : goal.returns
returns c =
    let a = c.self.inside in
    let long = sym (length-flags a.count a.bits) ∙ ap length c.self.view_is in
    let few = c.self.invariant.0 in
    omega (arith, long, few)
