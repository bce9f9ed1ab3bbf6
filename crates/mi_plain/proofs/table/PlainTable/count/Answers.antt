-- Between the ends of a key stand exactly its ids.
use Rattle.std.proofs.Common.{◌≡◌, ◌+◌, ap, sym, ◌∙◌, arith}
use Rattle.mi_model.specs.LookUp as look
use Rattle.mi_plain.proofs.BoundaryLemmas.{listed}
use Rattle.mi_plain.proofs.FindLemmas.{key_shown}
use Rattle.mi_plain.proofs.table.PlainTable.count.Goals as goal

pub count_before-lower-requires-clause-listed : goal.count_before-lower-requires-clause-listed
count_before-lower-requires-clause-listed c = listed c.args.schema.now c.args.self.now c.args.x c.requires.is c.requires.within

pub count_before-upper-requires-clause-listed : goal.count_before-upper-requires-clause-listed
count_before-upper-requires-clause-listed c = listed c.args.schema.now c.args.self.now c.args.x c.requires.is c.requires.within

pub overflow_sub-result : goal.overflow_sub-result
overflow_sub-result c =
    let n = look.count c.args.schema.now c.args.self.now c.args.x c.args.key.now in
    let parts : c.count_before-upper.result ≡ c.count_before-lower.result + n =
    c.count_before-upper.ensures
    ∙ key_shown c.args.schema.now c.args.self.now c.args.x c.requires.is c.index-index.result.now c.index-index.ensures c.args.key.now c.requires.within
    ∙ ap (λ k. k + n) (sym c.count_before-lower.ensures) in
    omega (arith, parts)

pub returns : goal.returns
returns c =
    let n = look.count c.args.schema.now c.args.self.now c.args.x c.args.key.now in
    let parts : c.count_before-upper.result ≡ c.count_before-lower.result + n =
    c.count_before-upper.ensures
    ∙ key_shown c.args.schema.now c.args.self.now c.args.x c.requires.is c.index-index.result.now c.index-index.ensures c.args.key.now c.requires.within
    ∙ ap (λ k. k + n) (sym c.count_before-lower.ensures) in
    omega (arith, parts)
