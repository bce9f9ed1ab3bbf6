-- What stands behind the row before the move is what takes it back.
use Rattle.std.proofs.Common.{refl, subst}
use Rattle.std.specs.Option.{option_map}
use Rattle.mi_container.specs.Backs.{row_seen}
use Rattle.mi_container.specs.Inverse.Inverse.{Relocated}
use Rattle.mi_container.specs.Makes.{Makes}
use Rattle.mi_container.specs.Run.Change.{Relocate}
use Rattle.mi_multi.proofs.RelocateCallLemmas.{names_same, move_ready, move_kept, move_made}
use Rattle.mi_multi.proofs.multi.MultiIndex.move_row.Goals as goal

pub stand_before-requires-clause-ready : goal.stand_before-requires-clause-ready
stand_before-requires-clause-ready c =
    let now = c.args.self.now in
    move_ready now.shape now.plain c.keeps_rules.ensures c.args.index c.requires.index
    (row_seen c.args.row) c.requires.row (option_map row_seen c.args.before) c.requires.before

pub stand_before-requires-clause-before : goal.stand_before-requires-clause-before
stand_before-requires-clause-before c =
    let now = c.args.self.now in
    move_kept now.shape now.plain c.keeps_rules.ensures c.args.index c.requires.index
    (row_seen c.args.row) c.requires.row (option_map row_seen c.args.before) c.requires.before

pub returns-clause-made : goal.returns-clause-made
returns-clause-made c =
    let now = c.args.self.now in
    let new = c.stand_before.new.self.plain in
    λ ps. subst (λ b. Makes now.shape (Relocate c.args.index c.args.row.id b) now.plain
    (Relocated c.args.index (row_seen c.args.row) (option_map row_seen c.row_behind-behind.result)) new) (names_same c.args.before)
    (move_made now.shape now.plain c.keeps_rules.ensures c.args.index c.requires.index
    (row_seen c.args.row) c.requires.row (option_map row_seen c.args.before) c.requires.before
    _ _ new c.row_behind-behind.ensures refl c.stand_before.ensures.plain)
