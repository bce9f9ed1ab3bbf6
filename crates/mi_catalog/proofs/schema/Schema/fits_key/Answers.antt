-- A whole key has a value for each part.
use Rattle.std.proofs.Common.{◌≡◌, true, false, List, [], ◌∷◌, length, refl, sym, ap, ◌∙◌}
use Rattle.std.specs.Prelude.{◌==◌, ◌&&◌}
use Rattle.std.proofs.lemmas.Bool.{eq-eqb, eqb-false}
use Rattle.mi_value.specs.declared.value.Value.{Value}
use Rattle.mi_value.specs.declared.compare.KeyPart.{KeyPart}
use Rattle.mi_catalog.specs.declared.index.Column.{Column}
use Rattle.mi_catalog.specs.Fits.{fits_parts, fits_key}
use Rattle.mi_catalog.proofs.schema.Schema.fits_key.Goals as goal

whole : (cs : List Column) (ps : List KeyPart) (vs : List Value) → (length ps == 0) ≡ false → length vs ≡ length ps
    → fits_parts cs ps vs ≡ fits_key cs ps true vs
whole cs [] vs h e = absurd (eqb-false 0 0 h refl)
whole cs (p ∷ ps) vs h e = sym (ap (λ b. b && fits_parts cs (p ∷ ps) vs) (eq-eqb (length vs) (length (p ∷ ps)) e))

pub returns-then-key-parts : goal.returns-then-key-parts
returns-then-key-parts c =
    let is = whole c.columns.result.now c.parts-parts.result.now c.args.key.now (sym c.is_empty.ensures ∙ c.if-is_empty.false) c.if-key-parts.true in
    rw (← c.parts-parts.ensures, c.if-whole.true, ← c.columns.ensures) (c.fits_parts.ensures ∙ is)
