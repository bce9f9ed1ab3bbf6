-- The next row's id is above those in front of it and below the next one, or the ids don't rise.
use Rattle.std.proofs.Common.{◌∙◌, ◌++◌, ◌∷◌, [], ap, sym, arith}
use Rattle.mi_container.proofs.RestoreLemmas.{next_parts, next_rises, next_after_push}
use Rattle.mi_multi.specs.Seen.{Seen}
use Rattle.mi_multi.proofs.multi.MultiIndex.add_rows.Goals.{then-id-self-via-then-id-self, then-id-self-via-else-id-self+then-next-id}
use Rattle.mi_multi.proofs.multi.MultiIndex.add_rows.Goals as goal

pub returns-then-id-self-clause-fault : goal.returns-then-id-self-clause-fault
returns-then-id-self-clause-fault c up =
    let v = c.rows.invariant in
    let b = next_rises c.args.rows.items v.0 c.rows.rest.items c.pop.new.self.items c.in-Some.id c.in-Some.row v.1 c.in-Some.ensures.items c.args.next up in
    let after = v.3 in
    let below = b.0 in let last = b.1 in
    let same = ap (λ (w : Seen). w.plain.next) c.self.view_is in
    elim c.then-id-self.branch [
      | then-id-self-via-then-id-self w ↦ let l = w.if-id-self.true in absurd (omega (arith, l, below, after, same))
      | then-id-self-via-else-id-self+then-next-id w ↦ let l = w.if-next-id.true in absurd (omega (arith, l, last))
    ]

pub rows-preserved : goal.rows-preserved
rows-preserved c =
    let v = c.rows.invariant in (
      v.0 ++ (c.in-Some.id, c.in-Some.row) ∷ [],
      next_parts c.args.rows.items v.0 c.rows.rest.items c.pop.new.self.items c.in-Some.id c.in-Some.row v.1 c.in-Some.ensures.items,
      c.in_ok-add_row.ensures.added v.0 v.2,
      c.in_ok-add_row.ensures.next ∙ sym (next_after_push 0 v.0 (c.in-Some.id, c.in-Some.row)),
      (let n = c.in_ok-add_row.ensures.next in let l = c.if-next-id.false in omega (arith, n, l)),
      c.add_row.ensures.shape ∙ v.5,
      c.add_row.ensures.secrets ∙ v.6,
    )
