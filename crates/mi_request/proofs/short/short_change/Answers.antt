-- What is read is the request of the line, and a short line of a change is read where its letter says.
use Rattle.std.proofs.Common.{◌∷◌, [], codes, inl, inr, arith}
use Rattle.mi_request.specs.ShortCode.{a_name, perhaps_name, a_whole, perhaps_whole}
use Rattle.mi_request.proofs.ShortLemmas.{told_change}
use Rattle.mi_request.proofs.WordLemmas.{read-lines}
use Rattle.mi_request.proofs.short.short_change.Goals as goal

pub returns-in-108-clause-value : goal.returns-in-108-clause-value
returns-in-108-clause-value c =
    read-lines (codes "relocate") ((codes "table", perhaps_name) ∷ (codes "index", a_name) ∷ (codes "id", a_whole) ∷ (codes "before", perhaps_whole) ∷ [])
    c.args.line.now c.relocate.result c.relocate.ensures

pub returns-in-108-clause-whole : goal.returns-in-108-clause-whole
returns-in-108-clause-whole c t x is =
    let at = c.in-108.is in
    elim (told_change t x c.args.line.now 0 is) [
      | inl p ↦ absurd (omega (arith, at, p.0))
      | inr p ↦ p.1 c.relocate.result c.relocate.ensures
    ]

pub returns-in-97-clause-value : goal.returns-in-97-clause-value
returns-in-97-clause-value c =
    read-lines (codes "erase") ((codes "table", perhaps_name) ∷ (codes "id", a_whole) ∷ []) c.args.line.now c.erase.result c.erase.ensures

pub returns-in-97-clause-whole : goal.returns-in-97-clause-whole
returns-in-97-clause-whole c t x is =
    let at = c.in-97.is in
    elim (told_change t x c.args.line.now 0 is) [
      | inl p ↦ p.1 c.erase.result c.erase.ensures
      | inr p ↦ absurd (omega (arith, at, p.0))
    ]

pub returns-in_default-clause-whole : goal.returns-in_default-clause-whole
returns-in_default-clause-whole c t x is =
    let o = c.in_default.in_default-own.rest in
    elim (told_change t x c.args.line.now 0 is) [
      | inl p ↦ absurd (o.1 p.0)
      | inr p ↦ absurd (o.0.1 p.0)
    ]
