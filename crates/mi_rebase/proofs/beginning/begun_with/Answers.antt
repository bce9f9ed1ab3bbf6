-- Nothing was there; then the base was written, and the segment made.
use Rattle.mi_rebase.proofs.beginning.begun_with.Goals as goal

pub returns : goal.returns
returns g c = record {
  place = c.in_ok-place.place;
  heading = c.in_ok-put_base.ensures.0;
  nothing = c.in_ok-check_nothing.ensures;
  is_first = c.in_ok-place.ensures;
  stands = c.in_ok-put_base.ensures.1;
  is = c.in_ok-put_base.ensures.2;
  segment = c.in_ok-make_segment.ensures;
}
