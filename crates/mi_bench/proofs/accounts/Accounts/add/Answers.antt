-- the modify that was just made can be settled, also where it lost the record
use Rattle.mi_container.specs.Backs.{lost_by}
use Rattle.mi_container.proofs.StepLemmas.{kept_alone}
use Rattle.mi_bench.proofs.UndoneLemmas.{modify_kept}
use Rattle.mi_bench.proofs.accounts.Accounts.add.Goals as goal

pub settle-requires : goal.settle-requires
settle-requires c =
    let was = c.args.self.now.rows in
    kept_alone c.in-Ok.step c.in-Ok.ensures.made.0 _
    (modify_kept was.shape (lost_by c.in-Ok.step) c.args.id was.plain _ c.modify.new.self.plain c.keeps_rules.ensures c.in-Ok.ensures.made.2)
