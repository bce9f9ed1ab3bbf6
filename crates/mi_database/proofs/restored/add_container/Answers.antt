-- The next table's container stands behind the others.
use Rattle.std.proofs.Common.{rules, arith, ◌≡◌, [], ◌∷◌, ◌++◌, length, vec_len, ap, ◌∙◌}
use Rattle.mi_catalog.specs.Shape.{schema_at}
use Rattle.mi_database.proofs.RestoredLemmas.{container_restored}
use Rattle.mi_database.proofs.restored.add_container.Goals as goal

pub returns-clause-added : goal.returns-clause-added
returns-clause-added g c images made =
    let xs = c.args.made.now.items in let x = c.in_ok-container.container in let q = c.in_ok-container.ensures in
    let len : vec_len c.args.made.now ≡ length xs = search rules in
    let few = c.requires in
    container_restored g.C.Container.shape g.C.Container.plain g.C.Container.secrets c.args.catalog.now c.args.secret images xs made (omega (arith, len, few))
    c.args.image c.in_ok-schema.schema x
    (c.in_ok-schema.ensures ∙ c.table.ensures ∙ ap (schema_at c.args.catalog.now) (c.len.ensures ∙ c.reserve.ensures.len ∙ len)) q.shape c.keeps_rules.ensures q.table q.fit q.kept q.secrets c.push_reserved.new.self.items
    (c.push_reserved.ensures.items ∙ ap (λ q. q ++ x ∷ []) c.reserve.ensures.items)
