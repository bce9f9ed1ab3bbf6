-- Tables that open are tables.
use Rattle.std.proofs.Common.{◌≡◌, [], ap, reverse, length, subst, sym, arith}
use Rattle.std.specs.List.{AllZip}
use Rattle.mi_model.specs.Table.{IsTable}
use Rattle.mi_model.specs.Database.{IsDatabase}
use Rattle.mi_model.proofs.InvariantLaws.{all_opened, zip_length}
use Rattle.mi_plain.proofs.plain.Plain.new.Goals as goal

pub invariant_of-result : goal.invariant_of-result
invariant_of-result c =
    let all : AllZip IsTable c.args.catalog.tables c.in_ok-tables.tables.items =
    subst (AllZip IsTable c.args.catalog.tables) (sym c.in_ok-tables.ensures) (all_opened c.args.catalog.tables) in
    let none : length c.new.result.items ≡ 0 = ap length c.new.ensures.items in
    let is : IsDatabase (record { catalog = c.args.catalog; tables = c.in_ok-tables.tables.items; old = []; revision = c.first_revision-revision.result }) =
    record { tables = all; old = tt; numbered = (omega arith) } in (
      subst (λ old. IsDatabase (record {
        catalog = c.args.catalog;
        tables = c.in_ok-tables.tables.items;
        old = reverse old;
        revision = c.first_revision-revision.result;
      }))
          (sym c.new.ensures.items) is,
      zip_length _ _ all,
      omega (arith, none),
      c.first_revision-revision.ensures.within,
    )
