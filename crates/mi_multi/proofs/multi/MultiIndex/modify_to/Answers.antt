-- Without a conflict the record is set; with one the row stays or is erased.
use Rattle.std.proofs.Common.{◌≢◌, ap, sym, ◌∙◌}
use Rattle.mi_value.specs.declared.limits.TheConstants.{LAST_COUNT}
use Rattle.mi_container.proofs.InvariantLemmas.{there_has}
use Rattle.mi_multi.specs.Seen.{Seen}
use Rattle.mi_multi.proofs.ReplaceLemmas.{put_meets, lost_made}
use Rattle.mi_multi.proofs.multi.MultiIndex.modify_to.Goals as goal

pub put-old-requires-clause-allowed : goal.put-old-requires-clause-allowed
put-old-requires-clause-allowed c = (there_has c.args.self.now.plain c.args.id c.requires.there, sym c.conflict_of_put.ensures ∙ c.in-None.is)

pub returns-in-None-clause-outcome : goal.returns-in-None-clause-outcome
returns-in-None-clause-outcome c =
    let now = c.args.self.now in let new = c.put-old.new.self.plain in
    let unspent : now.plain.arrivals ≢ LAST_COUNT = λ spent. c.if-self-eq-LAST_COUNT.false (ap (λ (w : Seen). w.plain.arrivals) c.self.view_is ∙ spent) in
    put_meets now.shape c.args.id c.args.row c.args.rollback now.plain c.keeps_rules.ensures unspent
    (sym c.conflict_of_put.ensures ∙ c.in-None.is) _ new c.put-old.ensures.made.2

pub returns-in-None-clause-made : goal.returns-in-None-clause-made
returns-in-None-clause-made c =
    let made = c.put-old.ensures.made in (made.0, made.1, (c.args.row, made.2))

pub returns-clause-made : goal.returns-clause-made
returns-clause-made c =
    let now = c.args.self.now in
    lost_made now.shape c.args.id now.plain c.erase_for.new.self.plain _ c.args.noted c.args.laid.now.items
    c.erase_for.result c.erase_for.ensures.made c.erase_for.ensures.lost
