-- The segment that was taken off the row's end has the line.
use Rattle.std.proofs.Common.{◌≡◌, ◌++◌, ◌∷◌, [], ap, ◌∙◌, append_assoc, inr}
use Rattle.mi_front.proofs.ClosedLemmas.{if_ok_map}
use Rattle.mi_front.proofs.row.NotedRow.place_behind.Goals as goal

pub returns-then-holds : goal.returns-then-holds
returns-then-holds c =
    let later = c.segments.invariant.later in
    let rest = c.pop.new.self.items in
    let segment = c.in-Some.segment in
    let within = c.holds.ensures c.if-holds.true in
    let all : c.args.self.segments.items ≡ rest ++ segment ∷ later =
    c.segments.invariant.all ∙ ap (λ xs. xs ++ later) c.in-Some.ensures.items ∙ append_assoc rest (segment ∷ []) later in
    if_ok_map _ _ c.place_behind.result (λ place is. inr (rest, segment, later, all, within.0, within.1, is)) c.place_behind.ensures
