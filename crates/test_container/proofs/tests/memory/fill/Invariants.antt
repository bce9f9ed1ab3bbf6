-- the inverses fit
use Rattle.test_container.specs.Undone.{CanTakeBack}
use Rattle.test_container.proofs.tests.memory.fill.Given as goal

abbrev pub invariant-loop-id : goal.invariant-loop-id
invariant-loop-id g l = CanTakeBack l.undoable.schema (g.C.Container.shape l.undoable.rows) (g.C.Container.plain l.undoable.rows) l.undoable.inverses.items
