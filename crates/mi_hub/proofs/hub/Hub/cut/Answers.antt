-- Nothing is asked: the connection and what it held are gone.
use Rattle.std.proofs.Common.{refl, ap, ◌∙◌, is_some, None}
use Rattle.mi_commands.specs.Holder.{released}
use Rattle.mi_hub.proofs.RunLemmas.{neither, not_none}
use Rattle.mi_hub.proofs.hub.Hub.cut.Goals as goal

pub returns-clause-ok : goal.returns-clause-ok
returns-clause-ok g c =
    let stands = c.in-Some.ensures in (
      ap is_some (stands.rest (record { id = 0; rest = None })),
      refl,
      c.leave.ensures ∙ ap (λ cs. record { held = released c.args.conn c.args.self.now.held; attached = cs }) stands.removed,
    )

pub returns-clause-not_attached : goal.returns-clause-not_attached
returns-clause-not_attached g c = neither (λ h. cc) (not_none (c.in-Some.ensures.rest (record { id = 0; rest = None })))
