-- Edits of different columns.
-- Cited by `edits::edits_for`.
use Rattle.std.proofs.Common.{◌≡◌, ℕ, List, [], ◌∷◌, Bool, true, false, true≢false, ◌==◌, ◌||◌, ◌&&◌, not, refl, sym}
use Rattle.std.proofs.lemmas.Bool.{eqb-false}
use Rattle.mi_value.specs.declared.edit.Edit.{Edit}
use Rattle.mi_value.specs.Edits.{column_of, SparesColumn, NamesEachOnce}
use Rattle.mi_embed.specs.EditCells.{edits_column, edit_each_once}

neither : (a b : Bool) → (a || b) ≡ false → (a ≡ false) × (b ≡ false)
neither false b h = (refl, h)
neither true b h = absurd (true≢false h)

both : (a b : Bool) → (not a && b) ≡ true → (a ≡ false) × (b ≡ true)
both false b h = (refl, h)
both true b h = absurd (true≢false (sym h))

spares : (column : ℕ) (es : List Edit) → edits_column column es ≡ false → SparesColumn column es
spares column [] is = tt
spares column (e ∷ es) is =
    let parts = neither (column == column_of e) (edits_column column es) is in
    (eqb-false column (column_of e) parts.0, spares column es parts.1)

pub names_each_once : (es : List Edit) → edit_each_once es ≡ true → NamesEachOnce es
names_each_once [] is = tt
names_each_once (e ∷ es) is =
    let parts = both (edits_column (column_of e) es) (edit_each_once es) is in
    (spares (column_of e) es parts.0, names_each_once es parts.1)
