-- the inverses fit
use Rattle.test_container.specs.Undone.{CanTakeBack}
use Rattle.test_container.proofs.tests.beside.Both.run.Given as goal

abbrev pub invariant-steps : goal.invariant-steps
invariant-steps g l = CanTakeBack l.self.undoable.schema (g.C.Container.shape l.self.undoable.rows) (g.C.Container.plain l.self.undoable.rows) l.self.undoable.inverses.items
