-- A segment more is asked.
use Rattle.std.proofs.Common.{◌∷◌, [], refl, ◌∙◌, arith}
use Rattle.mi_recovery.proofs.segments.ask_segments.Goals as goal

pub segments-init : goal.segments-init
segments-init g c = record {
  row = [];
  asked = (refl, refl);
  within = c.requires.within;
  attached = refl;
}

pub segments-preserved : goal.segments-preserved
segments-preserved g c =
    let before = c.segments.invariant in
    let step = c.in_ok-place.ensures.asked in record {
      row = step.0 ∷ before.row;
      asked = (c.segments.place, c.segments.hub.held, before.asked, c.in_ok-place.ensures.number, step.1, step.2);
      within = omega (arith, c.in_ok-place.ensures.number);
      attached = c.in_ok-place.ensures.attached ∙ before.attached;
    }
