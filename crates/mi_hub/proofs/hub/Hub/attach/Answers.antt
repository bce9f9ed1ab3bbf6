-- A connection with no bytes stands behind the others, and none had its number.
use Rattle.std.proofs.Common.{refl, sym, ap, is_some, None}
use Rattle.mi_hub.proofs.RunLemmas.{neither, not_none, found_there}
use Rattle.mi_hub.proofs.HolderLemmas.{pushed_holder}
use Rattle.mi_hub.proofs.hub.Hub.attach.Goals as goal

pub invariant_of-self : goal.invariant_of-self
invariant_of-self g c = rw c.make_labels.ensures (pushed_holder _ _ _ _ _ c.push.ensures.items c.self.invariant)

pub returns-then-is_some-clause-already : goal.returns-then-is_some-clause-already
returns-then-is_some-clause-already g c =
    let there = found_there _ c.args.conn c.args.self.now.attached c.place.ensures (sym c.if-is_some.ensures) (record { id = 0; rest = None }) in
    (λ _. ap is_some there.1, λ _. refl)

pub returns-then-is_some-clause-full : goal.returns-then-is_some-clause-full
returns-then-is_some-clause-full g c =
    let there = found_there _ c.args.conn c.args.self.now.attached c.place.ensures (sym c.if-is_some.ensures) (record { id = 0; rest = None }) in
    neither (λ h. cc) (λ h. not_none there.1 h.0)
