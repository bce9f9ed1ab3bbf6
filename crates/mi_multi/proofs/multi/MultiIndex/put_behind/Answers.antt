-- The rows in front keep rising stamps, and those behind rise above them.
use Rattle.std.proofs.Common.{◌<◌, ◌+◌, ap, sym, ◌∙◌, subst, drop, length, arith}
use Rattle.std.specs.List.{AllByRecursion}
use Rattle.mi_catalog.specs.Shape.{Shape}
use Rattle.mi_model.specs.Table.{list_of}
use Rattle.mi_container.specs.Data.{Data, as_table, IsData}
use Rattle.mi_container.specs.Fits.{IsThere}
use Rattle.mi_container.specs.Restore.{raised_all, Low, SameBut}
use Rattle.mi_container.proofs.RestoreLemmas.{kinds_long, long_of}
use Rattle.mi_container.proofs.RaiseLemmas.{same_raised, low_raised, behind_there, cut_list}
use Rattle.mi_multi.proofs.RestoringLemmas.{long_behind}
use Rattle.mi_multi.proofs.multi.MultiIndex.put_behind.Goals as goal

pub raise_rows-requires-clause-there : goal.raise_rows-requires-clause-there
raise_rows-requires-clause-there c =
    let d = c.args.self.now.plain in let s = c.args.self.now.shape in
    let few : c.args.index < length d.orders = (let k = kinds_long s.indexes d.orders c.keeps_rules.ensures.kinds in let f = c.requires.index in omega (arith, k, f)) in
    subst (AllByRecursion (IsThere d.rows)) (sym c.behind.ensures)
    (behind_there s c.args.index d c.keeps_rules.ensures few c.requires.stamped c.requires.by_ids c.args.list.now c.args.kept c.args.first c.requires.each)

pub raise_rows-requires-clause-early : goal.raise_rows-requires-clause-early
raise_rows-requires-clause-early c =
    let l = ap length c.behind.ensures in let n = long_behind c.args.kept c.args.list.now in let e = c.requires.early in
    omega (arith, l, n, e)

pub raise_rows-requires-clause-few : goal.raise_rows-requires-clause-few
raise_rows-requires-clause-few c =
    let l = ap length c.behind.ensures in let n = long_behind c.args.kept c.args.list.now in let e = c.requires.few in
    omega (arith, l, n, e)

pub returns-clause-same : goal.returns-clause-same
returns-clause-same c =
    let d = c.args.self.now.plain in let s = c.args.self.now.shape in
    let few : c.args.index < length d.orders = (let k = kinds_long s.indexes d.orders c.keeps_rules.ensures.kinds in let f = c.requires.index in omega (arith, k, f)) in
    let there = behind_there s c.args.index d c.keeps_rules.ensures few c.requires.stamped c.requires.by_ids c.args.list.now c.args.kept c.args.first c.requires.each in
    subst (SameBut c.args.index d) (sym (c.raise_rows.ensures.plain ∙ ap (λ q. raised_all c.args.index q c.args.first d) c.behind.ensures))
    (same_raised c.args.index (drop c.args.kept c.args.list.now) c.args.first d there)

pub returns-clause-list : goal.returns-clause-list
returns-clause-list c =
    let d = c.args.self.now.plain in let s = c.args.self.now.shape in let new = c.raise_rows.new.self in
    let few : c.args.index < length d.orders = (let k = kinds_long s.indexes d.orders c.keeps_rules.ensures.kinds in let f = c.requires.index in omega (arith, k, f)) in
    let eq = c.raise_rows.ensures.plain ∙ ap (λ q. raised_all c.args.index q c.args.first d) c.behind.ensures in
    let after = subst (IsData s) eq (subst (λ (q : Shape). IsData q new.plain) c.raise_rows.ensures.shape c.keeps_rules-3.ensures) in
    ap (λ (q : Data). list_of (as_table q) c.args.index) eq
    ∙ cut_list s c.args.index d c.keeps_rules.ensures few c.requires.stamped c.requires.by_ids c.args.list.now c.args.kept c.args.first c.requires.each
    c.requires.up c.requires.low after

pub returns-clause-low : goal.returns-clause-low
returns-clause-low c b here =
    let d = c.args.self.now.plain in let s = c.args.self.now.shape in
    let few : c.args.index < length d.orders = (let k = kinds_long s.indexes d.orders c.keeps_rules.ensures.kinds in let f = c.requires.index in omega (arith, k, f)) in
    let there = behind_there s c.args.index d c.keeps_rules.ensures few c.requires.stamped c.requires.by_ids c.args.list.now c.args.kept c.args.first c.requires.each in
    let eq = c.raise_rows.ensures.plain ∙ ap (λ q. raised_all c.args.index q c.args.first d) c.behind.ensures in
    let n = long_behind c.args.kept c.args.list.now in
    let l = subst (Low c.args.index (c.args.first + length (drop c.args.kept c.args.list.now))) (sym eq)
    (low_raised c.args.index (drop c.args.kept c.args.list.now) c.args.first d there (long_of s d c.keeps_rules.ensures c.args.index few) c.requires.low) b here in
    omega (arith, l, n)
