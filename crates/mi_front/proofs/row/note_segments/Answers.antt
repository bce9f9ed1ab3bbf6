-- A segment more is asked, and its lines are noted.
use Rattle.std.proofs.Common.{◌≡◌, ◌+◌, ◌∷◌, ◌++◌, [], refl, sym, subst, ◌∙◌, arith, length}
use Rattle.std.specs.List.{All}
use Rattle.mi_front.specs.Closed.{Reaches}
use Rattle.mi_front.proofs.NotedLemmas.{notes_none, notes_then}
use Rattle.mi_front.proofs.ClosedLemmas.{all_reach}
use Rattle.mi_front.proofs.row.note_segments.Goals as goal

pub segments-init : goal.segments-init
segments-init g c = record {
  lines = [];
  notes = notes_none c.args.hub.now.held c.args.starts.now;
  seen = [];
  has = (refl, refl);
  reach = λ k d within. absurd (omega (arith, within));
  within = c.requires.within;
  attached = refl;
}

pub segments-preserved : goal.segments-preserved
segments-preserved g c =
    let before = c.segments.invariant in
    let step = c.in_ok-note_another.ensures.noted in
    let number = c.in_ok-note_another.ensures.number in
    let count : c.segments.starts.lines ≡ length before.lines = (let all = before.notes.count in let none = c.requires.none in omega arith) in
    let counted : c.note_another.new.starts.lines ≡ length before.lines + length step.0 = (let all = step.1.count in omega arith) in
    let seen = g.P.JournalFiles.is_seen c.args.files.now in
    let contents = g.P.File.Device.contents in record {
      lines = before.lines ++ step.0;
      notes = notes_then c.args.hub.now.held c.segments.hub.held c.note_another.new.hub.held c.args.starts.now c.segments.starts c.note_another.new.starts
          before.lines step.0 before.notes step.1;
      seen = step.2 ∷ before.seen;
      has = (c.segments.row.next, before.lines, step.0, before.has, refl, number, step.3, step.4);
      reach = subst (All (λ s. Reaches seen contents c.args.path.now c.args.schema.now c.note_another.new.row.next (before.lines ++ step.0) s))
          (sym c.in_ok-note_another.ensures.segments)
          (all_reach seen contents c.args.path.now c.args.schema.now c.segments.row.next c.note_another.new.row.next before.lines step.0 step.2
          c.segments.row.segments.items _ number step.3 step.4 refl count counted before.reach);
      within = omega (arith, number);
      attached = c.in_ok-note_another.ensures.attached ∙ before.attached;
    }
