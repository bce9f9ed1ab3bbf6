-- The connections that are attached are those of the row, so none is at its end.
use Rattle.std.proofs.Common.{◌∙◌, ap}
use Rattle.mi_hub.specs.Run.{HubState}
use Rattle.mi_hub.proofs.PieceLemmas.{cut_done}
use Rattle.mi_program.proofs.TurnLemmas.{client_gone, cut_alone}
use Rattle.mi_program.proofs.listener.cut_all.Goals as goal

pub row-preserved : goal.row-preserved
row-preserved g c = record {
  served = client_gone c.row.row.items c.pop_front.new.self.items c.in-Some.client c.row.hub.attached c.cut.new.self.attached c.row.invariant.served
      c.in-Some.ensures.items
      (λ there. ap (λ (s : HubState). s.attached) (cut_done _ _ _ _ c.cut.ensures.ok c.cut.ensures.not_attached c.cut.ensures.refused there).2);
  held = λ nobody.
      let before = c.row.invariant.held nobody in
      cut_alone c.cut.result c.in-Some.client.conn c.row.hub c.cut.new.self c.cut.ensures.ok c.cut.ensures.refused (ap (λ h. h.holder) before ∙ nobody) ∙ before;
}
