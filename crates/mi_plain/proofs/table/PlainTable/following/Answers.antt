-- The id behind it in what the index shows is the next one, in either direction.
use Rattle.std.proofs.Common.{sym, subst, ◌∙◌}
use Rattle.std.specs.Prelude.{IsTrue, IfSome}
use Rattle.mi_model.specs.Table.{has}
use Rattle.mi_model.proofs.WalkLaws.{each_listed, listed, listed_before, next_forth, next_back}
use Rattle.mi_plain.proofs.table.PlainTable.following.Goals as goal

pub returns-then-reverse : goal.returns-then-reverse
returns-then-reverse c =
    let t = c.args.self.now in
    let each = each_listed c.args.schema.now t c.args.x c.requires.is c.requires.kind in
    record {
      next = λ k at. c.before-then-reverse.ensures ∙ next_back t _ each c.args.reverse c.args.id c.if-reverse.true k at;
      there = subst (λ o. IfSome o (λ id. IsTrue (has t id))) (sym c.before-then-reverse.ensures) (listed_before t _ each c.args.id);
    }

pub returns-else-reverse : goal.returns-else-reverse
returns-else-reverse c =
    let t = c.args.self.now in
    let each = each_listed c.args.schema.now t c.args.x c.requires.is c.requires.kind in
    record {
      next = λ k at. c.after.ensures ∙ next_forth t _ each c.args.reverse c.args.id c.if-reverse.false k at;
      there = subst (λ o. IfSome o (λ id. IsTrue (has t id))) (sym c.after.ensures) (listed t _ each _);
    }
