use Rattle.std.proofs.Common.{◌≡◌, ◌++◌, List, length}
use Rattle.mi_front.specs.declared.row.NotedSegment.{NotedSegment}
use Rattle.mi_front.proofs.row.NotedRow.place_behind.Given as goal

-- the segments that are left stand in front of the others
abbrev pub invariant-segments : goal.invariant-segments
invariant-segments l = record {
  later : List NotedSegment;
  all : l.fn.self.segments.items ≡ l.segments.items ++ later;
}

abbrev pub decreases-segments : goal.decreases-segments
decreases-segments l = length l.segments.items
