-- until the newest session has no entry
use Rattle.std.proofs.Common.{◌∙◌, ap, sym}
use Rattle.std.specs.Option.{is_some}
use Rattle.mi_database.specs.Journal.{Journal}
use Rattle.mi_journal.specs.Noted.{newest_entry}
use Rattle.mi_database.proofs.LoopLemmas.{Unwinding, unwinding_from, unwinding_more, unwinding_done, one_less, none_stays}
use Rattle.mi_database.proofs.linked.Linked.unwind_newest.Goals as goal

pub loop-init : goal.loop-init
loop-init g c = unwinding_from c.args.self.now

pub loop-smaller : goal.loop-smaller
loop-smaller g c = one_less c.loop.self.journal c.unwind_one.new.self.journal c.unwind_one.ensures.journal (sym c.loop-test.true ∙ c.unwind_one.ensures.more)

pub loop-preserved : goal.loop-preserved
loop-preserved g c =
    let e = c.unwind_one.ensures in
    unwinding_more c.args.self.now c.loop.self c.unwind_one.new.self c.loop.invariant e.datas e.journal e.catalog e.secrets e.revision e.changes e.starts

pub returns : goal.returns
returns g c =
    let e = c.unwind_one.ensures in
    let all : Unwinding c.args.self.now c.unwind_one.new.self =
    unwinding_more c.args.self.now c.loop.self c.unwind_one.new.self c.loop.invariant e.datas e.journal e.catalog e.secrets e.revision e.changes e.starts in
    unwinding_done c.args.self.now c.unwind_one.new.self all c.requires
    (none_stays c.loop.self.journal (sym c.loop-test.false ∙ e.more) ∙ sym (ap (λ (j : Journal). is_some (newest_entry j)) e.journal))
