-- Chains grow.
use Rattle.std.proofs.Common.{sym, subst}
use Rattle.mi_index.specs.Pass.{IsStep}
use Rattle.mi_index.specs.Passes.{nothing_asked, grown}
use Rattle.mi_index.specs.declared.structure.Structure.TheVariants.{Hashed}
use Rattle.mi_index.proofs.structure.Structure.make_room.Goals as goal

pub returns-in-Hashed-clause-step : goal.returns-in-Hashed-clause-step
returns-in-Hashed-clause-step c r s =
    subst (λ x. IsStep nothing_asked grown r s x (Hashed c.room_in_chains.new.chains) c.args.p.now c.room_in_chains.new.p)
    (sym c.in-Hashed.is) (c.room_in_chains.ensures.step r s)
