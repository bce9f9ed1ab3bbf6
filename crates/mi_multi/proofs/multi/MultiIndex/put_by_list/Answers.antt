-- Rows that go to the end one after another stand in their order.
use Rattle.std.proofs.Common.{◌<◌, ap, sym, ◌∙◌, subst, length, arith}
use Rattle.mi_model.specs.Table.{list_of}
use Rattle.mi_container.specs.Data.{Data, as_table, order_at}
use Rattle.mi_container.specs.Restore.{SameBut}
use Rattle.mi_container.proofs.RestoreLemmas.{same_moved, moved_list, kinds_long}
use Rattle.mi_multi.proofs.RestoringLemmas.{listed_of}
use Rattle.mi_multi.proofs.multi.MultiIndex.put_by_list.Goals as goal

pub returns-clause-same : goal.returns-clause-same
returns-clause-same c =
    let d = c.args.self.now.plain in let s = c.args.self.now.shape in
    let few : c.args.index < length d.orders = (let k = kinds_long s.indexes d.orders c.keeps_rules.ensures.kinds in let f = c.requires.index in omega (arith, k, f)) in
    subst (SameBut c.args.index d) (sym c.move_rows.ensures.plain) (same_moved c.args.index c.args.ids.now d few)

pub returns-clause-list : goal.returns-clause-list
returns-clause-list c =
    let d = c.args.self.now.plain in let s = c.args.self.now.shape in
    let few : c.args.index < length d.orders = (let k = kinds_long s.indexes d.orders c.keeps_rules.ensures.kinds in let f = c.requires.index in omega (arith, k, f)) in
    let o = listed_of (order_at d.orders c.args.index) c.requires.listed in
    ap (λ (q : Data). list_of (as_table q) c.args.index) c.move_rows.ensures.plain
    ∙ moved_list s c.args.index c.args.ids.now o.0 d c.keeps_rules.ensures few o.1 c.requires.each
