-- The tables of a start are tables.
use Rattle.std.proofs.Common.{◌≡◌, ◌≤◌, List, ◌∷◌, subst, reverse, length, arith}
use Rattle.std.proofs.lemmas.Grind.{common_steps}
use Rattle.std.proofs.lemmas.List.{length-reverse}
use Rattle.mi_model.specs.Table.{Table}
use Rattle.mi_model.specs.Database.{IsDatabase}
use Rattle.mi_model.proofs.InvariantLaws.{zip_length}
use Rattle.mi_plain.proofs.SessionLemmas.{db}
use Rattle.mi_plain.proofs.plain.PlainSessions.undo.Goals as goal

pub invariant_of-self-2 : goal.invariant_of-self-2
invariant_of-self-2 c =
    let items = c.pop.ensures.items in
    let view = c.pop-2.view_is in
    let back : reverse c.self.inside.old.items ≡ c.in-Some.field-0.tables.items ∷ reverse c.pop.new.self.items = grind (arith, common_steps) in
    let was : IsDatabase (db c.self.inside.catalog c.self.inside.tables.items
    (c.in-Some.field-0.tables.items ∷ reverse c.pop.new.self.items) c.self.inside.revision) =
    subst (λ (old : List (List Table)). IsDatabase (db c.self.inside.catalog c.self.inside.tables.items old c.self.inside.revision)) back c.self.invariant.0 in
    let number : length (c.in-Some.field-0.tables.items ∷ reverse c.pop.new.self.items) ≤ c.self.inside.revision = was.numbered in
    let same : length (reverse c.pop.new.self.items) ≡ length c.pop.new.self.items = length-reverse c.pop.new.self.items in
    let last = c.self.invariant.3 in (
      record { tables = was.old.0; old = was.old.1; numbered = (omega (arith, number)) },
      zip_length _ _ was.old.0,
      omega (arith, number, same),
      omega (arith, last),
    )
