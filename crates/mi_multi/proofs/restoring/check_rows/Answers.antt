-- A row that fits may be passed, and behind the last there is none.
use Rattle.std.proofs.Common.{◌∙◌, ◌+◌, ℕ, List, ◌∷◌, drop, refl, sym, ap, subst}
use Rattle.std.proofs.lemmas.List.{drop_more, drop_all}
use Rattle.std.proofs.lemmas.Option.{slice_get_read}
use Rattle.mi_value.specs.declared.value.Value.{Value}
use Rattle.mi_container.specs.Restore.{RowsFit}
use Rattle.mi_multi.proofs.restoring.check_rows.Goals as goal

pub rows-init : goal.rows-init
rows-init c = λ fit. fit

pub returns-then-not-fits_record-clause-fault : goal.returns-then-not-fits_record-clause-fault
returns-then-not-fits_record-clause-fault c =
    let row : ℕ × List Value = c.rows-item.result in (
      row.0,
      refl,
      (c.rows.id-index, row.1, slice_get_read c.args.rows.now _ c.rows.id-index row refl c.rows-test.true c.rows-item.is, sym c.fits_record.ensures ∙ c.if-not-fits_record.true),
    )

pub rows-preserved : goal.rows-preserved
rows-preserved c =
    let row : ℕ × List Value = c.rows-item.result in
    λ rest. c.rows.invariant (subst (RowsFit c.args.schema.now)
    (sym (drop_more c.args.rows.now c.rows.id-index row c.rows-test.true
    ∙ ap (λ (q : ℕ × List Value). q ∷ drop (c.rows.id-index + 1) c.args.rows.now) (sym c.rows-item.is)))
    (sym c.fits_record.ensures ∙ c.if-not-fits_record.false, rest))

pub returns-clause-fit : goal.returns-clause-fit
returns-clause-fit c =
    c.rows.invariant (subst (RowsFit c.args.schema.now) (sym (drop_all c.rows.id-index c.args.rows.now c.rows-test.false)) tt)
