-- What follows a node of the list is a node of the list.
use Rattle.std.proofs.Common.{subst}
use Rattle.mi_chain.specs.Chained.{AreChained}
use Rattle.test_storage.specs.Numbered.{number_keying, IsAmong}
use Rattle.test_storage.proofs.ThreeNodeLemmas.{among_after}
use Rattle.test_storage.proofs.tests.chains.three.next_if.Goals as goal

pub returns-in-Some : goal.returns-in-Some
returns-in-Some c rs h a = let v = c.args in let r = c.in-Some.node in
    let i = subst (λ o. IsAmong o rs) c.in-Some.is a in
    among_after _ rs i.0 r i.1 c.next_of.result i.2 (c.next_of.ensures i.0 i.1 (subst (AreChained v.chains.now number_keying v.p.now) i.2 h))
