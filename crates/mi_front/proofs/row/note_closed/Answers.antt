-- The segments behind the start are noted.
use Rattle.mi_front.proofs.ClosedLemmas.{if_ok_map}
use Rattle.mi_front.proofs.row.note_closed.Goals as goal

pub returns-clause-noted : goal.returns-clause-noted
returns-clause-noted g c =
    if_ok_map _ _ c.note_segments.result (λ row p. (c.in_ok-start.start, p.0, p.1, c.in_ok-start.ensures, p.2, p.3, p.4)) c.note_segments.ensures.noted
