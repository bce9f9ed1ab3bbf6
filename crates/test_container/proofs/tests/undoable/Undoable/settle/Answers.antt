-- the oldest inverse is settled
use Rattle.std.proofs.Common.{◌∙◌, ap, subst, List, ◌++◌}
use Rattle.std.specs.declared.option.Option.{Option}
use Rattle.std.specs.Option.{option_to_list}
use Rattle.mi_container.specs.Inverse.{Inverse}
use Rattle.test_container.specs.Undone.{CanTakeBack}
use Rattle.test_container.proofs.UndoneLemmas.{oldest_kept, oldest_settled}
use Rattle.test_container.proofs.tests.undoable.Undoable.settle.Goals as goal

pub settle-requires : goal.settle-requires
settle-requires g c =
    let was = c.args.self.now in
    let rest = c.pop_front.new.self.items in
    let parts = c.pop_front.ensures.items ∙ ap (λ (o : Option Inverse). option_to_list o ++ rest) c.in-Some.is in
    let shape = g.C.Container.shape was.rows in
    let plain = g.C.Container.plain was.rows in
    oldest_kept was.schema shape plain c.in-Some.inverse rest c.keeps_rules.ensures
    (subst (λ (is : List Inverse). CanTakeBack was.schema shape plain is) parts c.requires)

pub returns-in-Some : goal.returns-in-Some
returns-in-Some g c =
    let was = c.args.self.now in
    let rest = c.pop_front.new.self.items in
    let parts = c.pop_front.ensures.items ∙ ap (λ (o : Option Inverse). option_to_list o ++ rest) c.in-Some.is in
    let shape = g.C.Container.shape was.rows in
    let plain = g.C.Container.plain was.rows in
    oldest_settled was.schema shape (g.C.Container.shape c.settle.new.rows) plain (g.C.Container.plain c.settle.new.rows) c.in-Some.inverse rest
    c.keeps_rules.ensures c.settle.ensures.shape c.settle.ensures.plain (subst (λ (is : List Inverse). CanTakeBack was.schema shape plain is) parts c.requires)
