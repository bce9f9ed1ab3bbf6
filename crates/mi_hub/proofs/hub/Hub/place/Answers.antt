-- The place that is found is that of the first connection of the number.
use Rattle.std.proofs.Common.{◌≡◌, None, MatchOption, subst, ap, ◌∙◌}
use Rattle.mi_hub.specs.Connections.{rest_at}
use Rattle.mi_hub.specs.Places.{StandsAt}
use Rattle.mi_hub.specs.Run.{HubState}
use Rattle.mi_hub.proofs.hub.Hub.place.Goals as goal

pub returns : goal.returns
returns g c =
    subst (λ cs. MatchOption c.place_of.result (rest_at c.args.conn cs ≡ None) (λ i. StandsAt c.args.conn i cs))
    (c.as_slice.ensures.value ∙ ap (λ (s : HubState). s.attached) c.self.view_is) c.place_of.ensures
