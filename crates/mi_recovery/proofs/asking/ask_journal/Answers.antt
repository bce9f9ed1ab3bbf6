-- The replayer comes, and changes no table.
use Rattle.std.proofs.Common.{◌≡◌, true, option_map, subst}
use Rattle.std.specs.Prelude.{IfOk}
use Rattle.mi_commands.specs.Holder.{HeldDatabase}
use Rattle.mi_recovery.specs.Segments.{IsAskedBehind}
use Rattle.mi_recovery.proofs.asking.ask_journal.Goals as goal

pub returns-clause-asked : goal.returns-clause-asked
returns-clause-asked g c =
    subst (λ (h : HeldDatabase). IfOk c.ask_row.result (λ asked. IsAskedBehind (λ file. g.P.File.JournalFile.is_locked file ≡ true)
    (g.P.JournalFiles.is_seen c.args.files.now) (g.P.JournalFiles.is_newest c.args.files.now c.args.path.now) g.P.File.Device.contents c.args.path.now
    c.args.schema.now (option_map (λ p. p.now) c.args.position) h asked c.ask_row.new.hub.held)) c.in_ok-attach_replayer.ensures.held c.ask_row.ensures.asked
