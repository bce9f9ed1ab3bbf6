-- What a key finds.
-- Cited by `cursors::seek`.
use Rattle.std.proofs.Common.{◌≡◌, ◌∙◌, ℕ, List, Bool, Option, Ok, sym, ap}
use Rattle.mi_value.specs.declared.value.Value.{Value}
use Rattle.mi_catalog.specs.Shape.{CatalogShape}
use Rattle.mi_model.specs.Database.{Database}
use Rattle.mi_protocol.specs.Binding.{and_then}
use Rattle.mi_embed.specs.declared.cell.Cell.{Cell}
use Rattle.mi_embed.specs.Cursors.{IsAnswerOf, sorted_key, bound, seek_by}

-- what a key finds is found by the cells that it is
pub sought : (c : CatalogShape) (d : Database) (n x : ℕ) (cells : List Cell) (bytes : List ℕ) (beyond : Bool) (key : List Value) (r : Option ℕ)
    → c ≡ d.catalog → IsAnswerOf cells (Ok key) (sorted_key c n x cells bytes) → r ≡ bound d n x key beyond
    → IsAnswerOf cells (Ok r) (seek_by d n x cells bytes beyond)
sought c d n x cells bytes beyond key r same is found =
    let found_by : seek_by d n x cells bytes beyond ≡ Ok r =
    ap (λ (k : CatalogShape). and_then (λ (v : List Value). Ok (bound d n x v beyond)) (sorted_key k n x cells bytes)) (sym same)
    ∙ ap (and_then (λ (v : List Value). Ok (bound d n x v beyond))) is.0 ∙ ap Ok (sym found) in (found_by, λ plain. sym found_by)
