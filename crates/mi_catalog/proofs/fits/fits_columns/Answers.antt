-- A record with more values than columns does not fit.
use Rattle.std.proofs.Common.{◌≡◌, Bool, true, false, not, List, [], Option, Some, None, sym, ap, ◌∙◌}
use Rattle.std.specs.Option.{is_some}
use Rattle.std.specs.Iterator.{YieldsFirstBy}
use Rattle.std.proofs.lemmas.List.{at_drop_all}
use Rattle.mi_value.specs.declared.value.Value.{Value}
use Rattle.mi_value.specs.declared.value.ValueRef.{ValueRef}
use Rattle.mi_value.specs.Lent.{lent}
use Rattle.mi_catalog.specs.declared.index.Column.{Column}
use Rattle.mi_catalog.specs.Fits.{fits_record}
use Rattle.mi_catalog.proofs.fits.fits_columns.Goals as goal

ended : (vs rest : List Value) (next : Option ValueRef) (none : Bool) → YieldsFirstBy lent (λ s. s) vs next rest → is_some next ≡ not none
    → none ≡ fits_record [] vs
ended vs rest None true h n = sym (ap (fits_record []) h.0)
ended vs rest None false h n = absurd (let e : false ≡ true = n in cc)
ended vs rest (Some v) true h n = absurd (let e : true ≡ false = n in cc)
ended vs rest (Some v) false h n = sym (ap (fits_record []) h)

pub returns : goal.returns
returns c =
    let left = at_drop_all (λ (cs : List Column). fits_record cs c.columns.values) c.args.columns.now c.columns.column-index c.columns-test.false in
    ended _ _ _ _ c.next-2.ensures.steps c.is_none.ensures ∙ (sym left ∙ c.columns.invariant)
