-- All lines are noted, and what is open at their end is undone: the hub is the base at the checkpoint.
use Rattle.std.proofs.Common.{◌≡◌, ◌-◌, ◌++◌, ◌∙◌, true, option_map, refl, sym, ap, subst}
use Rattle.mi_model.specs.Database.{Database, depth}
use Rattle.mi_commands.specs.Holder.{HeldDatabase}
use Rattle.mi_front.specs.Noted.{Notes}
use Rattle.mi_front.specs.Front.{IsNoted}
use Rattle.mi_front.proofs.FrontLemmas.{front_noted}
use Rattle.mi_front.proofs.front.ask_front.Goals as goal

pub returns-clause-front : goal.returns-clause-front
returns-clause-front g c =
    let same = c.in_ok-attach_replayer.ensures.held in
    let noted = c.in_ok-noted.ensures.noted in
    let number = c.revision.ensures ∙ ap (λ (d : Database). d.revision) c.database.ensures ∙ ap (λ (h : HeldDatabase). h.database.revision) same in
    front_noted (λ file. g.P.File.JournalFile.is_locked file ≡ true) (g.P.JournalFiles.is_seen c.args.files.now)
    (g.P.JournalFiles.is_newest c.args.files.now c.args.path.now) g.P.File.Device.contents c.args.path.now c.args.schema.now
    (option_map (λ p. p.now) c.args.position) c.args.hub.now.held c.note_row.new.hub.held c.undo_open.new.hub.held c.new-starts.result c.note_row.new.starts
    noted.0 noted.1 (record { asked = c.in_ok-noted.noted.asked; place = c.in_ok-place.place; left = c.saturating_sub.result }) c.settled_lines-lines.result c.in_ok-noted.noted.older
    c.in_ok-check_bare.ensures.depth c.in_ok-check_bare.ensures.unheld (λ s at. c.new-starts.ensures.told s (at.0, at.1 ∙ sym number))
    c.new-starts.ensures.lines
    (subst (λ (h : HeldDatabase). Notes h c.new-starts.result (noted.0 ++ noted.1) c.note_row.new.hub.held c.note_row.new.starts) same noted.2) noted.3
    (subst (λ (h : HeldDatabase). IsNoted (λ file. g.P.File.JournalFile.is_locked file ≡ true) (g.P.JournalFiles.is_seen c.args.files.now)
    (g.P.JournalFiles.is_newest c.args.files.now c.args.path.now) g.P.File.Device.contents c.args.path.now c.args.schema.now
    (option_map (λ p. p.now) c.args.position) h c.in_ok-noted.noted.asked noted.0 noted.1 c.note_row.new.hub.held) same noted.4)
    c.settled_lines-lines.ensures.place c.settled_lines-lines.ensures.replays c.in_ok-place.ensures
    (c.saturating_sub.ensures ∙ ap (λ k. k - c.settled_lines-lines.result) c.lines-count.ensures) c.in_ok-undo_open.ensures.undone

pub returns-clause-depth : goal.returns-clause-depth
returns-clause-depth g c = ap (λ (h : HeldDatabase). depth h.database) (returns-clause-front g c).base
