-- The edits are made of the record in the row's node.
use Rattle.mi_container.specs.Data.{as_table}
use Rattle.mi_multi.proofs.PutCallLemmas.{row_held, row_got}
use Rattle.mi_multi.proofs.ReplaceLemmas.{got_all}
use Rattle.mi_multi.proofs.multi.MultiIndex.edited.Goals as goal

pub value-requires : goal.value-requires
value-requires c =
    row_held c.self.inside c.self.invariant c.args.self.now c.self.view_is c.args.row c.requires

pub returns : goal.returns
returns c =
    let t = as_table c.args.self.now.plain in let r = c.value.result.now.row in
    let got = row_got c.self.inside c.self.invariant c.args.self.now c.self.view_is c.args.row c.requires c.value.result.now c.value.ensures in
    let e = c.apply.ensures in let all = got_all c.args.self.now.shape c.args.row.id c.args.edits.now t r got c.apply.result e.ok e.range e.only in
    record { there = all.there; edited = all.edited; refused = all.refused; loss = all.loss }
