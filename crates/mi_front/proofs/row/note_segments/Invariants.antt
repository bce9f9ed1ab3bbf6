use Rattle.std.proofs.Common.{◌≡◌, ◌≤◌, ◌-◌, List}
use Rattle.std.specs.List.{All}
use Rattle.mi_front.specs.Noted.{Lines, Notes}
use Rattle.mi_front.specs.Closed.{HasLinesUpTo, Reaches}
use Rattle.mi_front.proofs.row.note_segments.Given as goal

-- the segments in front of the next one are asked, and their lines noted
abbrev pub invariant-segments : goal.invariant-segments
invariant-segments g l = record {
  lines : Lines;
  notes : Notes l.fn.hub.held l.fn.starts lines l.hub.held l.starts;
  seen : List g.row.P-File.Denot;
  has : HasLinesUpTo (g.P.JournalFiles.is_seen l.fn.files) g.P.File.Device.contents l.fn.path l.fn.schema l.fn.start seen l.row.next lines;
  reach : All (λ s. Reaches (g.P.JournalFiles.is_seen l.fn.files) g.P.File.Device.contents l.fn.path l.fn.schema l.row.next lines s) l.row.segments.items;
  within : l.row.next.number ≤ l.newest;
  attached : l.hub.attached ≡ l.fn.hub.attached;
}

abbrev pub decreases-segments : goal.decreases-segments
decreases-segments g l = l.newest - l.row.next.number
