-- A container comes behind those that are there, or its table is the one that is wrong.
use Rattle.std.proofs.Common.{rules, ◌≡◌, ◌<◌, [], ◌∷◌, ◌++◌, Some, map, reverse, length, vec_len, ap, sym, ◌∙◌, subst}
use Rattle.std.specs.Prelude.{slice_get}
use Rattle.std.proofs.lemmas.List.{length-map, reverse-reverse}
use Rattle.std.proofs.lemmas.Option.{slice_get_within}
use Rattle.mi_catalog.specs.Shape.{schema_at}
use Rattle.mi_container.specs.Restore.{image_table, IsRestoreFault}
use Rattle.mi_database.specs.Restored.{AreRestored}
use Rattle.mi_database.proofs.RestoredLemmas.{none_restored, many_restored, next_at, next_left}
use Rattle.mi_database.proofs.restored.restored_containers.Goals as goal

pub tables-init : goal.tables-init
tables-init g c = (
  [],
  ap reverse c.reverse.ensures.items ∙ reverse-reverse c.args.images.items,
  subst (λ q. AreRestored c.args.catalog.now c.args.secret [] (map g.C.Container.shape q) (map g.C.Container.plain q) (map g.C.Container.secrets q))
      (sym c.new-made.ensures.items) (none_restored c.args.catalog.now c.args.secret),
)

pub returns-in-Err-clause-fault : goal.returns-in-Err-clause-fault
returns-in-Err-clause-fault g c r =
    let v = c.tables.invariant in let xs = c.tables.made.items in
    let len : vec_len c.tables.made ≡ length xs = search rules in
    let same : c.len-table.result ≡ length v.0 =
    c.len-table.ensures ∙ len ∙ sym (length-map xs g.C.Container.plain)
    ∙ many_restored c.args.catalog.now c.args.secret v.0 (map g.C.Container.shape xs) (map g.C.Container.plain xs) (map g.C.Container.secrets xs) v.2 in
    let there = next_at c.args.images.items v.0 c.tables.left.items c.pop.new.self.items c.in-Some.image v.1 c.in-Some.ensures.items in (
      subst (λ q. q < length c.args.catalog.now.tables) (sym same)
          (subst (λ q. length v.0 < q) c.requires (slice_get_within c.args.images.items (length v.0) c.in-Some.image there)),
      (
        c.in-Some.image,
        subst (λ q. slice_get c.args.images.items q ≡ Some c.in-Some.image) (sym same) there,
        subst (λ q. IsRestoreFault (schema_at c.args.catalog.now q) (image_table c.in-Some.image) c.in-Err.fault) (sym c.len-table.ensures) c.in-Err.ensures.fault,
      ),
    )

pub tables-preserved : goal.tables-preserved
tables-preserved g c =
    let v = c.tables.invariant in (
      v.0 ++ c.in-Some.image ∷ [],
      next_left c.args.images.items v.0 c.tables.left.items c.pop.new.self.items c.in-Some.image v.1 c.in-Some.ensures.items,
      c.in_default-add_container.ensures.added v.0 v.2,
    )
