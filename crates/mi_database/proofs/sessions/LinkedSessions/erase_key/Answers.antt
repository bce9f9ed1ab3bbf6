-- At first all rows of the key are left. A whole key is one that an index is asked by.
use Rattle.std.proofs.Common.{sym, subst, rules}
use Rattle.mi_catalog.specs.Shape.{Shape}
use Rattle.mi_container.specs.Asked.{LookUpKey}
use Rattle.mi_container.proofs.KeyLemmas.{whole_asked}
use Rattle.mi_database.proofs.sessions.LinkedSessions.erase_key.Goals as goal

pub count-rows-requires-clause-key : goal.count-rows-requires-clause-key
count-rows-requires-clause-key g c =
    subst (λ (s : Shape). LookUpKey s c.args.index c.args.key.now) (sym c.at.ensures.shape) (whole_asked _ _ _ c.args.key.now c.requires.key)

pub loop-init : goal.loop-init
loop-init g c = search rules
