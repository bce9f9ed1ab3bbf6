-- One list more, or none where a list doesn't stand.
use Rattle.std.proofs.Common.{map, arith, rules}
use Rattle.mi_base.specs.Base.{list_data}
use Rattle.mi_base.proofs.ReadLemmas.{read_more_by, read_fails, items_push, list_reads, list_fails}
use Rattle.mi_base.proofs.read.read_lists.Goals as goal

pub returns-in_err-read_list-clause-exact : goal.returns-in_err-read_list-clause-exact
returns-in_err-read_list-clause-exact g c =
    read_fails list_data (λ _. Unit {0}) c.args.count _ _ _ _ _ c.lists._list (map (λ x. x.items) c.lists.lists.items) c.in_err-read_list.field-0.0 _
    c.from_residual.result (search rules) (omega arith) c.lists.invariant (list_fails _ _ c.in_err-read_list.ensures.exact)

pub lists-preserved : goal.lists-preserved
lists-preserved g c =
    read_more_by list_data (λ _. Unit {0}) c.args.count _ _ _ _ _ _ c.lists._list (map (λ x. x.items) c.lists.lists.items) c.in_ok-read_list.field-0.items _
    (items_push _ _ _ c.in_ok-put.ensures) (omega arith) c.lists.invariant c.in_ok-read_list.ensures.ok (list_reads _ _ _ c.in_ok-read_list.ensures.exact)
