-- Each row is put behind those so far.
use Rattle.std.proofs.Common.{◌≡◌, ◌∙◌, ◌<◌, ◌+◌, ◌++◌, List, length, map, take, drop, get_or, set, sym, ap, arith, length-append, length-take}
use Rattle.std.proofs.lemmas.List.{get_or-map, length-map}
use Rattle.mi_value.specs.declared.value.Value.{Value}
use Rattle.mi_catalog.specs.Key.{Row}
use Rattle.mi_embed.specs.Cells.{cells_of, texts_of}
use Rattle.mi_embed.specs.Pages.{values_of}
use Rattle.mi_embed.proofs.RowLemmas.{texts_of-append, one_more_row, one_more_id, put_id, more_cells, more_texts, room_tells, no_room_for_more, fewer_values, fewer_texts}
use Rattle.mi_embed.proofs.room.put_rows.Goals.{After-put_row}
use Rattle.mi_embed.proofs.room.put_rows.Goals as goal

module _ (c : After-put_row) where
  abbrev rows : List Row
  rows = map (λ r. (r.0, r.1.now)) c.args.rows.now

  abbrev it : Row
  it = (c.index-rows-i.result.0, c.index-rows-i.result.1.now)

  there : c.rows.i < length rows
  there = omega (arith, c.rows-test.true, length-map {B = Row} c.args.rows.now (λ r. (r.0, r.1.now)))

  is : get_or rows c.rows.i it ≡ it
  is = get_or-map (λ r. (r.0, r.1.now)) c.args.rows.now c.rows.i c.index-rows-i.result it c.rows-test.true ∙ ap (λ r. (r.0, r.1.now)) (sym c.index-rows-i.is)

  abbrev before : List Value
  before = values_of (take c.rows.i rows)

  more : values_of (take (c.rows.i + 1) rows) ≡ before ++ it.1
  more = one_more_row rows c.rows.i it there is

  values_more : length (values_of (take (c.rows.i + 1) rows)) ≡ c.rows.taken.cells + length it.1
  values_more = omega (arith, ap length more, length-append before it.1, c.rows.invariant.cells_taken)

  texts_more : length (texts_of (values_of (take (c.rows.i + 1) rows))) ≡ c.rows.taken.bytes + length (texts_of it.1)
  texts_more =
      omega (arith, ap length (ap texts_of more ∙ texts_of-append before it.1), length-append (texts_of before) (texts_of it.1), c.rows.invariant.bytes_taken)

pub rows-preserved : goal.rows-preserved
rows-preserved c =
    let o = (goal.at.rows-preserved c).After-put_row in let all = rows o in let r = it o in let inv = c.rows.invariant in let put = c.in-Some.ensures in
    let fits = room_tells (c.rows.taken.cells + length r.1) (length c.rows.cells) (c.rows.taken.bytes + length (texts_of r.1)) (length c.rows.texts) put.room in
    record {
      cells_taken = omega (arith, values_more o, put.next.0);
      bytes_taken = omega (arith, texts_more o, put.next.1);
      cells_there = omega (arith, fits.0, put.next.0, c.rows.auto.cells);
      bytes_there = omega (arith, fits.1, put.next.1, c.rows.auto.texts);
      ids =
          ap (λ xs. set xs c.rows.i r.0) inv.ids
          ∙ put_id (map (λ (q : Row). q.0) (take c.rows.i all)) c.args.ids.now c.rows.i r.0
          (omega (arith, length-map (take c.rows.i all) (λ (q : Row). q.0), length-take c.rows.i all, there o))
          (omega (arith, c.rows-test.true, c.requires))
          ∙ ap (λ xs. xs ++ drop (c.rows.i + 1) c.args.ids.now) (sym (one_more_id all c.rows.i r (there o) (is o)));
      cells =
          more_cells (before o) r.1 c.rows.cells c.args.cells.now c.put_row.new.cells c.rows.taken.cells c.rows.taken.bytes c.in-Some.next.cells
          inv.cells_taken inv.bytes_taken put.next.0 inv.cells put.cells
          ∙ ap (λ vs. cells_of 0 vs ++ drop c.in-Some.next.cells c.args.cells.now) (sym (more o));
      texts =
          more_texts (before o) r.1 c.rows.texts c.args.texts.now c.put_row.new.texts c.rows.taken.bytes c.in-Some.next.bytes
          inv.bytes_taken put.next.1 inv.texts put.texts
          ∙ ap (λ vs. texts_of vs ++ drop c.in-Some.next.bytes c.args.texts.now) (sym (more o));
    }

pub returns-in_default-clause-room : goal.returns-in_default-clause-room
returns-in_default-clause-room c =
    let o = (goal.at.returns-in_default-clause-room c).After-put_row in
    no_room_for_more (c.rows.taken.cells + length (it o).1) (length c.rows.cells) (c.rows.taken.bytes + length (texts_of (it o).1)) (length c.rows.texts)
    (length (values_of (rows o))) (length c.args.cells.now) (length (texts_of (values_of (rows o)))) (length c.args.texts.now)
    c.in_default.ensures.room
    (omega (arith, values_more o, fewer_values (rows o) (c.rows.i + 1))) (omega (arith, texts_more o, fewer_texts (rows o) (c.rows.i + 1)))
    (omega (arith, c.rows.auto.cells)) (omega (arith, c.rows.auto.texts))
