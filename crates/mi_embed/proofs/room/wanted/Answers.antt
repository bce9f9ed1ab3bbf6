-- What a row wants is counted with those so far.
use Rattle.std.proofs.Common.{◌≡◌, ◌∙◌, ◌+◌, ◌++◌, ◌∷◌, List, ℕ, length, map, drop, sym, ap, length-append}
use Rattle.std.proofs.lemmas.List.{drop_more}
use Rattle.mi_value.specs.declared.value.Value.{Value}
use Rattle.mi_embed.specs.Cells.{texts_of}
use Rattle.mi_embed.specs.Pages.{values_of}
use Rattle.mi_embed.specs.CallResults.{in_64}
use Rattle.mi_embed.proofs.RowLemmas.{texts_of-append, counted, counted_capped}
use Rattle.mi_embed.proofs.room.wanted.Goals as goal

pub rows-preserved : goal.rows-preserved
rows-preserved c =
    let xs = c.args.rows.now in let i = c.rows.row-index in let r = c.row-item.result in
    let row : List Value = r.1.now in
    let rest : List Value = values_of (map (λ q. (q.0, q.1.now)) (drop (i + 1) xs)) in
    let left : values_of (map (λ q. (q.0, q.1.now)) (drop i xs)) ≡ row ++ rest =
    ap (λ ys. values_of (map (λ q. (q.0, q.1.now)) ys)) (drop_more xs i r c.rows-test.true ∙ ap (λ q. q ∷ drop (i + 1) xs) (sym c.row-item.is)) in (
      counted c.rows.count (length row) (length rest) _ c.saturating_add-count.result
          (c.saturating_add-count.ensures ∙ ap (λ (n : ℕ). in_64 (c.rows.count + n)) c.column_count.ensures)
          (ap (λ (n : ℕ). in_64 (c.rows.count + n)) (sym (ap length left ∙ length-append row rest)) ∙ c.rows.invariant.0),
      counted_capped c.rows.bytes (length (texts_of row)) (length (texts_of rest)) _ c.saturating_add-bytes.result
          (c.saturating_add-bytes.ensures ∙ ap (λ (n : ℕ). in_64 (c.rows.bytes + n))
          (c.text_bytes.ensures ∙ ap (λ (vs : List Value). in_64 (length (texts_of vs))) c.values.ensures.all))
          (ap (λ (n : ℕ). in_64 (c.rows.bytes + n))
          (sym (ap length (ap texts_of left ∙ texts_of-append row rest) ∙ length-append (texts_of row) (texts_of rest))) ∙ c.rows.invariant.1),
    )
