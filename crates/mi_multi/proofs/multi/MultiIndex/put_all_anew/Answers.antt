-- All get stamps above all others, and then the lowest ones.
use Rattle.std.proofs.Common.{◌<◌, ap, sym, ◌∙◌, subst, length, arith}
use Rattle.mi_catalog.specs.Shape.{Shape}
use Rattle.mi_model.specs.Table.{ListsEach, list_of}
use Rattle.mi_container.specs.Data.{Data, as_table, IsData}
use Rattle.mi_container.specs.Restore.{High, Low, SameBut}
use Rattle.mi_container.proofs.InvariantLemmas.{each_there}
use Rattle.mi_container.proofs.RestoreLemmas.{same_both, same_all, all_low, restamped_list, kinds_long, long_of}
use Rattle.mi_container.proofs.RaiseLemmas.{same_raised, high_raised, there_after}
use Rattle.mi_multi.proofs.multi.MultiIndex.put_all_anew.Goals.{After-keeps_rules-3}
use Rattle.mi_multi.proofs.multi.MultiIndex.put_all_anew.Goals as goal

pub raise_rows-requires-clause-there : goal.raise_rows-requires-clause-there
raise_rows-requires-clause-there c = each_there c.args.self.now.plain c.args.list.now c.requires.each

module _ (c : After-keeps_rules-3) where
  few : c.args.index < length c.args.self.now.plain.orders
  few = let k = kinds_long c.args.self.now.shape.indexes c.args.self.now.plain.orders c.keeps_rules.ensures.kinds in let f = c.requires.index in omega (arith, k, f)

  -- where all have the higher stamps
  same : SameBut c.args.index c.args.self.now.plain c.raise_rows.new.self.plain
  same = subst (SameBut c.args.index c.args.self.now.plain) (sym c.raise_rows.ensures.plain)
      (same_raised c.args.index c.args.list.now (length c.args.list.now) c.args.self.now.plain (each_there c.args.self.now.plain c.args.list.now c.requires.each))

  each : ListsEach (as_table c.raise_rows.new.self.plain) c.args.list.now
  each = there_after c.args.index c.args.self.now.plain c.raise_rows.new.self.plain same c.args.list.now c.requires.each

  few_now : c.args.index < length c.raise_rows.new.self.plain.orders
  few_now = let f = few in let g = same.long in omega (arith, f, g)

pub restamp_rows-requires-clause-index : goal.restamp_rows-requires-clause-index
restamp_rows-requires-clause-index c = few_now ((goal.at.restamp_rows-requires-clause-index c).After-keeps_rules-3)

pub restamp_rows-requires-clause-each : goal.restamp_rows-requires-clause-each
restamp_rows-requires-clause-each c = each ((goal.at.restamp_rows-requires-clause-each c).After-keeps_rules-3)

pub restamp_rows-requires-clause-stamped : goal.restamp_rows-requires-clause-stamped
restamp_rows-requires-clause-stamped c = (same ((goal.at.restamp_rows-requires-clause-stamped c).After-keeps_rules-3)).stamped ∙ c.requires.stamped

pub restamp_rows-requires-clause-high : goal.restamp_rows-requires-clause-high
restamp_rows-requires-clause-high c =
    subst (High c.args.index (length c.args.list.now)) (sym c.raise_rows.ensures.plain)
    (high_raised c.args.index c.args.list.now (length c.args.list.now) c.args.self.now.plain c.requires.each
    (long_of c.args.self.now.shape c.args.self.now.plain c.keeps_rules.ensures c.args.index (few ((goal.at.restamp_rows-requires-clause-high c).After-keeps_rules-3))))

pub restamp_rows-requires-clause-early : goal.restamp_rows-requires-clause-early
restamp_rows-requires-clause-early c =
    let a = (same ((goal.at.restamp_rows-requires-clause-early c).After-keeps_rules-3)).arrivals in let e = c.requires.early in omega (arith, a, e)

pub returns-clause-same : goal.returns-clause-same
returns-clause-same c =
    let o = (goal.at.returns-clause-same c).After-keeps_rules-3 in let d = c.raise_rows.new.self.plain in
    same_both c.args.index c.args.self.now.plain d c.restamp_rows.new.self.plain (same o)
    (subst (SameBut c.args.index d) (sym c.restamp_rows.ensures.plain) (same_all c.args.index c.args.list.now 0 d (each_there d c.args.list.now (each o))))

pub returns-clause-list : goal.returns-clause-list
returns-clause-list c =
    let o = (goal.at.returns-clause-list c).After-keeps_rules-3 in
    let d = c.raise_rows.new.self.plain in let s = c.raise_rows.new.self.shape in let new = c.restamp_rows.new.self in
    let eq = c.restamp_rows.ensures.plain in
    let after = subst (IsData s) eq (subst (λ (q : Shape). IsData q new.plain) c.restamp_rows.ensures.shape c.keeps_rules-4.ensures) in
    ap (λ (q : Data). list_of (as_table q) c.args.index) eq
    ∙ restamped_list s c.args.index c.args.list.now d c.keeps_rules-3.ensures after (few_now o) ((same o).stamped ∙ c.requires.stamped) (each o)

pub returns-clause-low : goal.returns-clause-low
returns-clause-low c =
    let o = (goal.at.returns-clause-low c).After-keeps_rules-3 in
    let d = c.raise_rows.new.self.plain in
    subst (Low c.args.index (length c.args.list.now)) (sym c.restamp_rows.ensures.plain)
    (all_low c.args.index c.args.list.now d (each o) (long_of c.raise_rows.new.self.shape d c.keeps_rules-3.ensures c.args.index (few_now o)))
