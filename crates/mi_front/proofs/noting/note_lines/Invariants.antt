use Rattle.std.proofs.Common.{◌≡◌, ◌-◌, ◌^◌}
use Rattle.mi_log.specs.LogLines.{reader_of}
use Rattle.mi_front.specs.Noted.{Lines, HasGiven, Notes}
use Rattle.mi_front.proofs.noting.note_lines.Given as goal

-- so many lines were given, and each was noted
abbrev pub invariant-lines : goal.invariant-lines
invariant-lines g l = record {
  attached : l.hub.attached ≡ l.fn.hub.attached;
  asked : Lines;
  given : HasGiven (g.R.Read.remaining (reader_of l.fn.lines)) asked (g.R.Read.remaining (reader_of l.lines));
  notes : Notes l.fn.hub.held l.fn.starts asked l.hub.held l.starts;
}

abbrev pub decreases-lines : goal.decreases-lines
decreases-lines g l = 2 ^ 64 - l.starts.lines
