-- the inverses fit
use Rattle.test_container.specs.Undone.{CanTakeBack}
use Rattle.test_container.proofs.tests.container.fill.Given as goal

abbrev pub invariant-loop-row : goal.invariant-loop-row
invariant-loop-row g l = CanTakeBack l.undoable.schema (g.C.Container.shape l.undoable.rows) (g.C.Container.plain l.undoable.rows) l.undoable.inverses.items
