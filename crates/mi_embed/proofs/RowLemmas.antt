-- Rows that are put one behind another, and what they want.
-- Cited by `Engine::range_page`, `room::put_rows` and `room::wanted`.
use Rattle.std.proofs.Common.{◌≡◌, ◌≤◌, ◌<◌, ℕ, ◌+◌, ◌∙◌, ◌&&◌, nat_le, suc, List, [], ◌∷◌, ◌++◌, length, map, take, drop, get_or, Bool, true, false, refl, sym, ap, ap₂}
use Rattle.std.proofs.Common.{true≢false, set, append_assoc, append-nil, length-append, take-append-drop, arith, Result, Ok, Err, length-take}
use Rattle.std.specs.Result.{IfOk}
use Rattle.std.proofs.lemmas.Bool.{leb-true, le-leb}
use Rattle.std.proofs.lemmas.List.{take_at, take_more, drop_more, set_at, map-append, length-map}
use Rattle.std.proofs.lemmas.Slice.{drop-append-drop}
use Rattle.std.proofs.lemmas.Grind.{flat_map-append}
use Rattle.mi_value.specs.declared.value.Value.{Value}
use Rattle.mi_catalog.specs.Key.{Row}
use Rattle.mi_embed.specs.declared.cell.Cell.{Cell}
use Rattle.mi_embed.specs.Cells.{text_of, texts_of, cell_of, cells_of}
use Rattle.mi_embed.specs.Pages.{values_of}
use Rattle.mi_embed.specs.CallResults.{in_64}

pub texts_of-append : (vs ws : List Value) → texts_of (vs ++ ws) ≡ texts_of vs ++ texts_of ws
texts_of-append [] ws = refl
texts_of-append (v ∷ vs) ws = ap (λ bs. text_of v ++ bs) (texts_of-append vs ws) ∙ sym (append_assoc (text_of v) (texts_of vs) (texts_of ws))

pub cells_of-append : (at : ℕ) (vs ws : List Value) → cells_of at (vs ++ ws) ≡ cells_of at vs ++ cells_of (at + length (texts_of vs)) ws
cells_of-append at [] ws = ap (λ n. cells_of n ws) (omega arith)
cells_of-append at (v ∷ vs) ws =
    ap (λ cs. cell_of at v ∷ cs) (cells_of-append (at + length (text_of v)) vs ws
    ∙ ap (λ n. cells_of (at + length (text_of v)) vs ++ cells_of n ws) (omega (arith, length-append (text_of v) (texts_of vs))))

pub cells_of-length : (at : ℕ) (vs : List Value) → length (cells_of at vs) ≡ length vs
cells_of-length at [] = refl
cells_of-length at (v ∷ vs) = ap suc (cells_of-length (at + length (text_of v)) vs)

-- what is put behind a front, whose rest is as it was
pub put_behind : {X : Type 0} (a w old : List X) (n m : ℕ) → length a ≡ n → m ≡ n + length w
    → take n (a ++ drop n old) ++ w ++ drop m (a ++ drop n old) ≡ a ++ w ++ drop m old
put_behind a w old n m e f = ap₂ (λ xs ys. xs ++ w ++ ys) (take_at a (drop n old) n e) (drop-append-drop n old a m (omega arith) e)

-- the values of the first rows and of the others
pub split_values : (rows : List Row) (i : ℕ) → values_of rows ≡ values_of (take i rows) ++ values_of (drop i rows)
split_values rows i = ap values_of (sym (take-append-drop i rows)) ∙ flat_map-append (λ (r : Row). r.1) (take i rows) (drop i rows)

-- the values and the texts of the first rows are no more than those of all
pub fewer_values : (rows : List Row) (i : ℕ) → length (values_of (take i rows)) ≤ length (values_of rows)
fewer_values rows i =
    omega (arith, ap length (split_values rows i), length-append (values_of (take i rows)) (values_of (drop i rows)))

pub fewer_texts : (rows : List Row) (i : ℕ) → length (texts_of (values_of (take i rows))) ≤ length (texts_of (values_of rows))
fewer_texts rows i =
    let front = values_of (take i rows) in let rest = values_of (drop i rows) in
    omega (arith, ap length (ap texts_of (split_values rows i) ∙ texts_of-append front rest), length-append (texts_of front) (texts_of rest))

-- the values of one row more
pub one_more_row : (rows : List Row) (i : ℕ) (r : Row) → i < length rows → get_or rows i r ≡ r
    → values_of (take (i + 1) rows) ≡ values_of (take i rows) ++ r.1
one_more_row rows i r there is =
    ap values_of (take_more rows i r there) ∙ ap (λ q. values_of (take i rows ++ q ∷ [])) is ∙ flat_map-append (λ (q : Row). q.1) (take i rows) (r ∷ [])
    ∙ ap (λ vs. values_of (take i rows) ++ vs) (append-nil r.1)

-- the id of one row more
pub one_more_id : (rows : List Row) (i : ℕ) (r : Row) → i < length rows → get_or rows i r ≡ r
    → map (λ q. q.0) (take (i + 1) rows) ≡ map (λ q. q.0) (take i rows) ++ r.0 ∷ []
one_more_id rows i r there is =
    ap (map (λ (q : Row). q.0)) (take_more rows i r there ∙ ap (λ (q : Row). take i rows ++ q ∷ []) is)
    ∙ map-append (λ (q : Row). q.0) (take i rows) (r ∷ [])

pub put_id : (front old : List ℕ) (i n : ℕ) → length front ≡ i → i < length old → set (front ++ drop i old) i n ≡ (front ++ n ∷ []) ++ drop (i + 1) old
put_id front old i n long there =
    ap (λ (ys : List ℕ). set (front ++ ys) i n) (drop_more old i 0 there) ∙ set_at front (get_or old i 0) (drop (i + 1) old) n i long
    ∙ sym (append_assoc front (n ∷ []) (drop (i + 1) old))

-- the cells and the bytes of one row more
pub more_cells : (vs ws : List Value) (cells old new : List Cell) (taken at next : ℕ) → taken ≡ length vs → at ≡ length (texts_of vs) → next ≡ taken + length ws
    → cells ≡ cells_of 0 vs ++ drop taken old → new ≡ take taken cells ++ cells_of at ws ++ drop next cells → new ≡ cells_of 0 (vs ++ ws) ++ drop next old
more_cells vs ws cells old new taken at next t a n before put =
    put ∙ ap (λ (cs : List Cell). take taken cs ++ cells_of at ws ++ drop next cs) before
    ∙ put_behind (cells_of 0 vs) (cells_of at ws) old taken next (omega (arith, cells_of-length 0 vs)) (omega (arith, cells_of-length at ws))
    ∙ ap (λ (cs : List Cell). cs ++ drop next old) (ap (λ (k : ℕ). cells_of 0 vs ++ cells_of k ws) (omega arith) ∙ sym (cells_of-append 0 vs ws))

pub more_texts : (vs ws : List Value) (texts old new : List ℕ) (taken next : ℕ) → taken ≡ length (texts_of vs) → next ≡ taken + length (texts_of ws)
    → texts ≡ texts_of vs ++ drop taken old → new ≡ take taken texts ++ texts_of ws ++ drop next texts → new ≡ texts_of (vs ++ ws) ++ drop next old
more_texts vs ws texts old new taken next t n before put =
    put ∙ ap (λ (bs : List ℕ). take taken bs ++ texts_of ws ++ drop next bs) before
    ∙ put_behind (texts_of vs) (texts_of ws) old taken next (sym t) n ∙ ap (λ (bs : List ℕ). bs ++ drop next old) (sym (texts_of-append vs ws))

-- there is room for both, or not
and_both : (p q : Bool) → true ≡ (p && q) → (p ≡ true) × (q ≡ true)
and_both true q h = (refl, sym h)
and_both false q h = absurd (true≢false h)

pub room_tells : (a b c d : ℕ) → true ≡ (nat_le a b && nat_le c d) → (a ≤ b) × (c ≤ d)
room_tells a b c d h = let both = and_both (nat_le a b) (nat_le c d) h in (leb-true a b both.0, leb-true c d both.1)

pub no_room_for_more : (a b c d more room others bytes : ℕ) → false ≡ (nat_le a b && nat_le c d) → a ≤ more → c ≤ others → b ≡ room → d ≡ bytes
    → false ≡ (nat_le more room && nat_le others bytes)
no_room_for_more a b c d more room others bytes h first second same equal = by (nat_le more room && nat_le others bytes) refl
  where
    by : (p : Bool) → (nat_le more room && nat_le others bytes) ≡ p → false ≡ p
    by false is = refl
    by true is =
        let fits = room_tells more room others bytes (sym is) in
        h ∙ ap₂ (λ (p q : Bool). p && q) (le-leb a b (omega (arith, fits.0))) (le-leb c d (omega (arith, fits.1)))

-- what is counted with saturation
pub counted : (so_far one rest all sum : ℕ) → sum ≡ in_64 (so_far + one) → in_64 (so_far + (one + rest)) ≡ in_64 all → in_64 (sum + rest) ≡ in_64 all
counted so_far one rest all sum is before = omega arith

pub counted_capped : (so_far one rest all sum : ℕ) → sum ≡ in_64 (so_far + in_64 one) → in_64 (so_far + (one + rest)) ≡ in_64 all → in_64 (sum + rest) ≡ in_64 all
counted_capped so_far one rest all sum is before = omega arith

-- a page has no more rows than were asked for
pub page_fits : {X : Type 0} (f : X → Row) (g : ℕ → Row) (rows : List X) (limit : ℕ) (ids : List ℕ) → map f rows ≡ map g (take limit ids) → length rows ≤ limit
page_fits f g rows limit ids is = omega (arith, length-map rows f, ap length is, length-map (take limit ids) g, length-take limit ids)

pub on_ok : {P E : Type 0} (r : Result P E) (Q W : P → Type 0) → IfOk r Q → ((p : P) → Q p → W p) → IfOk r W
on_ok (Ok p) Q W h k = k p h
on_ok (Err e) Q W h k = tt
