-- the first row of the key goes
use Rattle.std.proofs.Common.{◌≡◌, ◌∙◌, ap₂, sym, subst, Some}
use Rattle.mi_catalog.specs.Shape.{Shape}
use Rattle.mi_model.specs.Table.{Table}
use Rattle.mi_model.specs.LookUp.{find}
use Rattle.mi_model.specs.Database.{Database, schema_of, table_of}
use Rattle.mi_database.specs.LinkedData.{meaning}
use Rattle.mi_database.specs.Keyed.{keyed, ErasesOne}
use Rattle.mi_database.proofs.KeyLemmas.{erases_first, erased_there, erases_one, some_found}
use Rattle.mi_database.proofs.KeptLemmas.{first_keeps}
use Rattle.mi_database.proofs.linked.Linked.erase_first.Goals as goal

pub returns-in-Some : goal.returns-in-Some
returns-in-Some g c =
    let n = c.args.table in
    let x = c.args.index in
    let key = c.args.key.now in
    let d : Database = meaning c.args.self.now in
    let found : find (schema_of d n) (table_of d n) x key ≡ Some c.in-Some.id =
    sym (c.find.ensures ∙ ap₂ (λ (s : Shape) (t : Table). find s t x key) c.at.ensures.shape c.at.ensures.table) ∙ c.in-Some.is in
    let first = erases_first (schema_of d n) (table_of d n) x key c.in-Some.id c.at.ensures.is c.requires.index.0 found in
    let row = c.erase_row in
    let erased = erased_there n c.in-Some.id d (meaning row.new.self) row.result first.there row.ensures.memory row.ensures.outcome in
    record {
      footprint = first_keeps n x c.in-Some.id key c.args.self.now row.new.self row.result c.at.ensures.within first erased
          row.ensures.memory row.ensures.footprint;
      one = subst (ErasesOne n x key d) (sym erased) (erases_one n x c.in-Some.id key d c.at.ensures.within first);
      catalog = row.ensures.catalog;
      secrets = row.ensures.secrets;
      depth = row.ensures.depth;
      changes = row.ensures.changes;
      starts = row.ensures.starts;
    }

pub returns-in_default-clause-one : goal.returns-in_default-clause-one
returns-in_default-clause-one g c =
    let n = c.args.table in
    let x = c.args.index in
    let key = c.args.key.now in
    let d : Database = meaning c.args.self.now in
    let same : c.find.result ≡ find (schema_of d n) (table_of d n) x key = c.find.ensures
    ∙ ap₂ (λ (s : Shape) (t : Table). find s t x key) c.at.ensures.shape c.at.ensures.table in
    some_found (ErasesOne n x key d d) (keyed n x key d) c.requires.some c.find.result same c.in_default.not-Some
