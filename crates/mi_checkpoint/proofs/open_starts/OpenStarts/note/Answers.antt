-- Where the revision rises a session began, and else as many went as it fell by. A line of the replayer moves it so.
use Rattle.std.proofs.Common.{◌<◌, ◌≤◌, ◌-◌, ◌++◌, ◌∷◌, [], length, drop, ap, ap₂, ◌∙◌, subst}
use Rattle.mi_model.specs.Database.{depth}
use Rattle.mi_replay.specs.Replayed.{replayed}
use Rattle.mi_checkpoint.specs.OpenStarts.{Starts, revisions}
use Rattle.mi_checkpoint.proofs.KnownLemmas.{left_of, risen_known, fallen_known}
use Rattle.mi_checkpoint.proofs.ToldLemmas.{told_moves, told_more}
use Rattle.mi_checkpoint.proofs.open_starts.OpenStarts.note.Goals as goal
use Rattle.mi_checkpoint.proofs.open_starts.OpenStarts.note.Goals.{then-revision-self+in_ok-reserve, else-revision-self}

pub returns-clause-knows : goal.returns-clause-knows
returns-clause-knows c = λ rs k is moves.
    let places = ap (λ (o : Starts). o.places) c.self.view_is in
    let lines = ap (λ (o : Starts). o.lines) c.self.view_is in
    let revision = ap (λ (o : Starts). o.revision) c.self.view_is in
    elim c.if-revision-self.branch [
      | then-revision-self+in_ok-reserve w ↦
          risen_known rs k c.args.depth c.args.revision c.args.self.now c.if-revision-self.self-inside.starts.items c.if-revision-self.self-inside.lines
          (subst (λ r. r < c.args.revision) revision w.if-revision-self.true)
          (ap (λ i. i.starts.items) w.self-inside-is ∙ w.push_back_reserved.ensures.items
          ∙ ap₂ (λ q n. q ++ n ∷ []) (w.reserve.ensures.items ∙ places) lines)
          (ap (λ i. i.lines) w.self-inside-is ∙ lines) is moves
      | else-revision-self w ↦
          fallen_known rs k c.args.depth c.args.revision c.args.self.now c.if-revision-self.self-inside.starts.items c.if-revision-self.self-inside.lines
          (subst (λ r. c.args.revision ≤ r) revision w.if-revision-self.false)
          (ap (λ i. i.starts.items) w.self-inside-is ∙ w.end_oldest.ensures
          ∙ ap (λ q. drop (length q - c.args.depth) q) w.end_newest.ensures
          ∙ ap₂ (λ q r. left_of (r - c.args.revision) c.args.depth q) places revision)
          (ap (λ i. i.lines) w.self-inside-is ∙ lines) is moves
    ]

pub returns-clause-told : goal.returns-clause-told
returns-clause-told c = λ s lines line is told stands. told_more s lines line _ c.args.depth c.args.revision stands
    (returns-clause-knows c (revisions lines s) (depth (replayed lines s).database) told
    (told_moves s lines line c.args.self.now c.args.depth c.args.revision is told stands))
