-- A whole key is one that an index is asked by.
use Rattle.mi_container.proofs.KeyLemmas.{whole_asked}
use Rattle.test_container.proofs.tests.undoable.Undoable.count.Goals as goal

pub count-requires-clause-key : goal.count-requires-clause-key
count-requires-clause-key g c = whole_asked _ _ _ c.args.key.now c.want_key.ensures
