-- The refusals are asked in their order, and else the row is moved.
use Rattle.std.proofs.Common.{[], refl, ap, sym, ◌∙◌, subst}
use Rattle.std.specs.declared.option.Option.TheVariants.{None, Some}
use Rattle.mi_container.specs.Inverse.Inverse.{Nothing}
use Rattle.mi_container.specs.Backs.{step_seen}
use Rattle.mi_container.specs.Makes.{Makes}
use Rattle.mi_container.specs.Run.Change.{Relocate}
use Rattle.mi_multi.proofs.RelocateCallLemmas.{place_there, relocate_answers, stays_made}
use Rattle.mi_multi.proofs.multi.MultiIndex.relocate.Goals as goal

pub returns-in_default-before-clause-outcome : goal.returns-in_default-before-clause-outcome
returns-in_default-before-clause-outcome c =
    let now = c.args.self.now in
    relocate_answers now.shape now.plain c.keeps_rules.ensures c.args.index c.requires
    c.in-Some.row.id c.args.id None c.args.before _ c.move_row.new.self.plain
    c.in-Some.ensures.id (sym c.in_default-before.is) refl (c.move_row.ensures.made [])

pub returns-then-other-row-clause-made : goal.returns-then-other-row-clause-made
returns-then-other-row-clause-made c =
    let now = c.args.self.now in
    let row = c.in-Some.row in
    let other = c.in-Some-live_row.other in
    let live = c.in-Some.ensures.live in
    λ ps. subst (λ b. Makes now.shape (Relocate c.args.index c.args.id b) now.plain Nothing now.plain)
    (ap Some c.in-Some-live_row.ensures.id ∙ sym c.in-Some-before.is)
    (subst (λ e. Makes now.shape (Relocate c.args.index e (Some other.id)) now.plain Nothing now.plain) c.in-Some.ensures.id
    (stays_made now.shape now.plain c.keeps_rules.ensures c.args.index c.requires row.id
    other.id Nothing (live.0, live.1) c.if-other-row.true refl))

pub returns-then-other-row-clause-outcome : goal.returns-then-other-row-clause-outcome
returns-then-other-row-clause-outcome c =
    let now = c.args.self.now in
    let row = c.in-Some.row in
    let other = c.in-Some-live_row.other in
    let live = c.in-Some.ensures.live in
    relocate_answers now.shape now.plain c.keeps_rules.ensures c.args.index c.requires row.id c.args.id (Some other.id) c.args.before Nothing now.plain
    c.in-Some.ensures.id (ap Some c.in-Some-live_row.ensures.id ∙ sym c.in-Some-before.is) (place_there now.plain other.id _ c.in-Some-live_row.ensures.live)
    (stays_made now.shape now.plain c.keeps_rules.ensures c.args.index c.requires row.id
    other.id Nothing (live.0, live.1) c.if-other-row.true refl)

pub returns-clause-outcome : goal.returns-clause-outcome
returns-clause-outcome c =
    let now = c.args.self.now in
    let other = c.in-Some-live_row.other in
    relocate_answers now.shape now.plain c.keeps_rules.ensures c.args.index c.requires c.in-Some.row.id
    c.args.id (Some other.id) c.args.before _ c.move_row-2.new.self.plain
    c.in-Some.ensures.id (ap Some c.in-Some-live_row.ensures.id ∙ sym c.in-Some-before.is)
    (place_there now.plain other.id _ c.in-Some-live_row.ensures.live) (c.move_row-2.ensures.made [])

pub returns-in_default-before-clause-made : goal.returns-in_default-before-clause-made
returns-in_default-before-clause-made c =
    let now = c.args.self.now in
    let new = c.move_row.new.self.plain in
    λ ps. subst (λ b. Makes now.shape (Relocate c.args.index c.args.id b) now.plain (step_seen c.move_row.result ps) new) (sym c.in_default-before.is)
    (subst (λ e. Makes now.shape (Relocate c.args.index e None) now.plain (step_seen c.move_row.result ps) new) c.in-Some.ensures.id (c.move_row.ensures.made ps))

pub returns-clause-made : goal.returns-clause-made
returns-clause-made c =
    let now = c.args.self.now in
    let new = c.move_row-2.new.self.plain in
    let other = c.in-Some-live_row.other in
    λ ps. subst (λ b. Makes now.shape (Relocate c.args.index c.args.id b) now.plain (step_seen c.move_row-2.result ps) new)
    (ap Some c.in-Some-live_row.ensures.id ∙ sym c.in-Some-before.is)
    (subst (λ e. Makes now.shape (Relocate c.args.index e (Some other.id)) now.plain (step_seen c.move_row-2.result ps) new) c.in-Some.ensures.id
    (c.move_row-2.ensures.made ps))
