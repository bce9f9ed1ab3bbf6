-- the inverses fit
use Rattle.test_container.specs.Undone.{CanTakeBack}
use Rattle.test_container.proofs.tests.container.check_moves.Given as goal

abbrev pub invariant-loop-want : goal.invariant-loop-want
invariant-loop-want g l = CanTakeBack l.undoable.schema (g.C.Container.shape l.undoable.rows) (g.C.Container.plain l.undoable.rows) l.undoable.inverses.items
