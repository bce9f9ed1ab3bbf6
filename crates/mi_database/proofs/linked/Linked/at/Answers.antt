-- the table of a container
use Rattle.std.proofs.Common.{◌∙◌, ◌<◌, ap, sym, map, length, subst}
use Rattle.mi_model.specs.Database.{table_of as table_at}
use Rattle.mi_database.specs.LinkedData.{LinkedData, meaning}
use Rattle.mi_model.specs.Table.{IsTable}
use Rattle.mi_model.specs.Database.{IsDatabase, schema_of}
use Rattle.mi_database.specs.Journal.{state_of}
use Rattle.mi_model.proofs.InvariantLaws.{table_is, zip_length}
use Rattle.mi_database.proofs.EndLemmas.{is_database}
use Rattle.mi_database.proofs.StateLemmas.{within_containers, table_of_container}
use Rattle.mi_database.proofs.linked.Linked.at.Goals as goal

pub returns-clause-table : goal.returns-clause-table
returns-clause-table g c =
    let a = c.self.inside in
    let within : c.args.n < length a.catalog.tables = subst (λ (h : LinkedData). c.args.n < length h.catalog.tables) (sym c.self.view_is) c.requires in
    table_of_container g.C.Container.plain a.catalog a.containers.items a.journal.sessions a.revision c.args.n c.index.result.now
    (within_containers g.C.Container.shape g.C.Container.plain a.catalog a.containers.items a.journal.sessions a.revision
    c.args.n c.self.invariant.0 within) c.index.ensures
    ∙ ap (λ (h : LinkedData). table_at (meaning h) c.args.n) c.self.view_is

pub returns-clause-is : goal.returns-clause-is
returns-clause-is g c =
    let a = c.self.inside in
    subst (λ (h : LinkedData). IsTable (schema_of (meaning h) c.args.n) (table_at (meaning h) c.args.n)) c.self.view_is
    (table_is _ c.args.n (is_database _ _ _ _ _ c.self.invariant.0)
    (subst (λ (h : LinkedData). c.args.n < length h.catalog.tables) (sym c.self.view_is) c.requires))

pub returns-clause-within : goal.returns-clause-within
returns-clause-within g c =
    let a = c.self.inside in
    let is : IsDatabase (state_of a.catalog (map g.C.Container.plain a.containers.items) a.journal.sessions a.revision) =
    is_database _ _ _ _ _ c.self.invariant.0 in
    subst (λ (h : LinkedData). c.args.n < length (meaning h).tables) c.self.view_is
    (subst (λ m. c.args.n < m) (sym (zip_length _ _ is.tables))
    (subst (λ (h : LinkedData). c.args.n < length h.catalog.tables) (sym c.self.view_is) c.requires))
