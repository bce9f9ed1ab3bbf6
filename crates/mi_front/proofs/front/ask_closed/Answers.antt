-- All lines are noted, and what is open behind them is undone: the hub is the base at the checkpoint, and the row has its place.
use Rattle.std.proofs.Common.{◌≡◌, ◌∙◌, option_map, sym, ap, subst, arith, length, ◌≤◌}
use Rattle.mi_model.specs.Database.{Database, depth}
use Rattle.mi_commands.specs.Holder.{HeldDatabase}
use Rattle.mi_front.specs.Noted.{Notes}
use Rattle.mi_front.proofs.ClosedLemmas.{closed_front, behind_place}
use Rattle.mi_front.proofs.front.ask_closed.Goals as goal

pub returns-clause-front : goal.returns-clause-front
returns-clause-front g c =
    let same = c.in_ok-attach_replayer.ensures.held in
    let noted = c.in_ok-row.ensures.noted in
    let row = c.in_ok-row.row in
    let seen = g.P.JournalFiles.is_seen c.args.files.now in
    let contents = g.P.File.Device.contents in
    let none = c.new-starts.ensures.lines in
    let number = c.revision.ensures ∙ ap (λ (d : Database). d.revision) c.database.ensures ∙ ap (λ (h : HeldDatabase). h.database.revision) same in
    let count : c.lines.result ≡ length noted.1 = (let all = noted.4.count in let is = c.lines.ensures in omega arith) in
    closed_front seen contents c.args.path.now c.args.schema.now (option_map (λ p. p.now) c.args.position) c.args.newest c.args.hub.now.held
    c.note_closed.new.hub.held c.undo_open.new.hub.held c.new-starts.result c.note_closed.new.starts noted.0 row.next c.in_ok-place.place noted.2 noted.1
    c.settled_lines.result c.in_ok-check_bare.ensures.depth c.in_ok-check_bare.ensures.unheld
    (λ s at. c.new-starts.ensures.told s (at.0, at.1 ∙ sym number))
    (subst (λ (h : HeldDatabase). Notes h c.new-starts.result noted.1 c.note_closed.new.hub.held c.note_closed.new.starts) same noted.4) noted.3
    c.in_ok-row.ensures.number noted.5 c.settled_lines.ensures.place c.settled_lines.ensures.replays
    (λ few. behind_place seen contents c.args.path.now c.args.schema.now row.next c.in_ok-place.place noted.1 c.settled_lines.result c.lines.result
    row.segments.items count few noted.6 c.in_ok-place.ensures) c.in_ok-undo_open.ensures.undone

pub returns-clause-depth : goal.returns-clause-depth
returns-clause-depth g c = ap (λ (h : HeldDatabase). depth h.database) (returns-clause-front g c).base
