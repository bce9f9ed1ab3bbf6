-- the modify that was just made can be taken back, also where it lost the record
use Rattle.std.proofs.Common.{refl, subst}
use Rattle.mi_container.specs.Data.{IsData}
use Rattle.mi_container.specs.Inverse.{taken_back}
use Rattle.mi_container.specs.Fits.{Ready}
use Rattle.mi_container.specs.Backs.{step_seen, lost_by}
use Rattle.mi_bench.proofs.UndoneLemmas.{modify_back}
use Rattle.mi_bench.proofs.accounts.Accounts.add_and_unwind.Goals as goal

pub unwind-requires-clause-ready : goal.unwind-requires-clause-ready
unwind-requires-clause-ready c =
    let was = c.args.self.now.rows in
    let made = c.in-Ok.ensures.made in
    subst (λ qs. Ready (step_seen c.in-Ok.step qs) c.modify.new.self.plain) (made.1 refl)
    (modify_back was.shape c.modify.new.self.shape (lost_by c.in-Ok.step) c.args.id was.plain _ c.modify.new.self.plain
    c.keeps_rules.ensures c.modify.ensures.shape made.2).0

pub unwind-requires-clause-before : goal.unwind-requires-clause-before
unwind-requires-clause-before c =
    let was = c.args.self.now.rows in
    let made = c.in-Ok.ensures.made in
    subst (λ qs. IsData c.modify.new.self.shape (taken_back (step_seen c.in-Ok.step qs) c.modify.new.self.plain)) (made.1 refl)
    (modify_back was.shape c.modify.new.self.shape (lost_by c.in-Ok.step) c.args.id was.plain _ c.modify.new.self.plain
    c.keeps_rules.ensures c.modify.ensures.shape made.2).1
