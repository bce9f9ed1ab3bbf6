-- Labels stand for members: the same text, and the same room.
-- Cited by `labels::labels_of`, `rows::put_labelled`, `rows::put_member` and `shown::row_order`.
use Rattle.std.proofs.Common.{◌≡◌, ℕ, zero, suc, ◌+◌, ◌≤◌, List, [], ◌∷◌, ◌++◌, drop, map, length, slice_index_or, ◌*◌, ◌<◌, Bool, true, false}
use Rattle.std.proofs.Common.{Ordering, Less, Equal, Greater, nat_cmp, refl, sym, ap, ap₂, ◌∙◌, append_assoc, add-one, arith}
use Rattle.std.specs.Prelude.{Option, Some, None, IfSome}
use Rattle.std.proofs.lemmas.List.{drop_more, get_or-map, length-map}
use Rattle.mi_rows.specs.declared.row_values.RowValue.{RowValue}
use Rattle.std.specs.Ordering.{match_ordering}
use Rattle.std.specs.Cmp.Lexicographic.{slice_cmp}
use Rattle.json.specs.Print.{quoted}
use Rattle.serde_json.specs.Written.{compact_text, members_text}
use Rattle.mi_value.specs.declared.value.Value.{Value}
use Rattle.mi_catalog.specs.declared.index.Column.{Column}
use Rattle.arrayvec.specs.ArrayVec.{ArrayVec}
use Rattle.mi_rows.specs.Rows.{row_members, value_data}
use Rattle.mi_rows.specs.Shown.{first_data, source_data, shown_members, with_member}
use Rattle.std.specs.List.{All}
use Rattle.mi_rows.specs.declared.shown.Source.{Source}
use Rattle.mi_rows.specs.declared.shown.Source.TheVariants.{Id, Column as At}
use Rattle.mi_rows.specs.Labels.{held, labels_in, labelled_text, row_values_of, place_of, texts_room, text_room, first_room, source_room, labels_room, members_room, LabelShape, AreLabels}
use Rattle.mi_value.specs.Block.{texts_length}
use Rattle.mi_value.specs.declared.value.Value.TheVariants.{Int, Text, Flag}
use Rattle.mi_rows.specs.declared.shown.Member.{Member}

-- the room for the texts from a place on
room_at : (vs : List Value) (i : ℕ) → first_room (drop i vs) + texts_room (drop (suc i) vs) ≡ texts_room (drop i vs)
room_at [] zero = refl
room_at [] (suc i) = refl
room_at (v ∷ vs) zero = refl
room_at (v ∷ vs) (suc i) = room_at vs i

pub room_step : (vs : List Value) (i : ℕ) → first_room (drop i vs) + texts_room (drop (i + 1) vs) ≡ texts_room (drop i vs)
room_step vs i = ap (λ k. first_room (drop i vs) + texts_room (drop k vs)) (add-one i) ∙ room_at vs i

by_order : (vs : List Value) (o : Ordering) (a b c : List Member) (k : ℕ) → members_room vs a ≤ k → members_room vs b ≤ k → members_room vs c ≤ k
    → members_room vs (match_ordering o a b c) ≤ k
by_order vs Less a b c k x y z = x
by_order vs Equal a b c k x y z = y
by_order vs Greater a b c k x y z = z

-- a member that is added wants its own room at most
pub members_room-with_member : (vs : List Value) (m : Member) (ns : List Member)
    → members_room vs (with_member m ns) ≤ 64 + source_room vs m.source + members_room vs ns
members_room-with_member vs m [] = omega arith
members_room-with_member vs m (n ∷ ns) =
    let taken : Member = record n { source = m.source } in
    by_order vs (slice_cmp nat_cmp m.name.now n.name.now) (m ∷ n ∷ ns) (taken ∷ ns) (n ∷ with_member m ns) _
    (omega arith) (omega arith) (omega (arith, members_room-with_member vs m ns))

pub members_room-grown : (vs : List Value) (m : Member) (ns new : List Member) → new ≡ with_member m ns
    → members_room vs new ≤ 64 + source_room vs m.source + members_room vs ns
members_room-grown vs m ns new is = omega (arith, ap (members_room vs) is, members_room-with_member vs m ns)

-- the value of what stands somewhere in a row has its data and its room
row_value_data : (id : ℕ) (vs : List Value) (s : Source) → first_data (drop (place_of s) (row_values_of id vs)) ≡ source_data id vs s
row_value_data id vs Id = refl
row_value_data id vs (At i) = refl

row_value_room : (id : ℕ) (vs : List Value) (s : Source) → first_room (drop (place_of s) (row_values_of id vs)) ≡ source_room vs s
row_value_room id vs Id = refl
row_value_room id vs (At i) = refl

labels_room-labels_in : (later : Bool) (id : ℕ) (vs : List Value) (ms : List Member) → labels_room (row_values_of id vs) (labels_in later ms) ≡ members_room vs ms
labels_room-labels_in later id vs [] = refl
labels_room-labels_in later id vs (m ∷ ms) = ap₂ (λ n k. 64 + n + k) (row_value_room id vs m.source) (labels_room-labels_in true id vs ms)

-- a member behind its label, and those behind it
labelled_one : (first : ℕ) (name value rest : List ℕ) → ((first ∷ (name ++ 58 ∷ [])) ++ value) ++ rest ≡ first ∷ (name ++ 58 ∷ (value ++ rest))
labelled_one first name value rest =
    ap (λ t. first ∷ t) (append_assoc (name ++ 58 ∷ []) value rest ∙ append_assoc name (58 ∷ []) (value ++ rest))

labelled : (id : ℕ) (vs : List Value) (ms : List Member)
    → labelled_text (row_values_of id vs) (labels_in true ms) ≡ members_text true (shown_members id vs ms)
labelled id vs [] = refl
labelled id vs (m ∷ ms) =
    let name = quoted m.name.now in
    ap₂ (λ d t. ((44 ∷ (name ++ 58 ∷ [])) ++ compact_text d) ++ t) (row_value_data id vs m.source) (labelled id vs ms)
    ∙ labelled_one 44 name (compact_text (source_data id vs m.source)) (members_text true (shown_members id vs ms))

-- the first member opens the row
opened : (id : ℕ) (vs : List Value) (ms : List Member) → 0 < length ms
    → labelled_text (row_values_of id vs) (labels_in false ms) ≡ 123 ∷ members_text false (shown_members id vs ms)
opened id vs [] some = absurd (omega arith)
opened id vs (m ∷ ms) some =
    let name = quoted m.name.now in
    ap₂ (λ d t. ((123 ∷ (name ++ 58 ∷ [])) ++ compact_text d) ++ t) (row_value_data id vs m.source) (labelled id vs ms)
    ∙ labelled_one 123 name (compact_text (source_data id vs m.source)) (members_text true (shown_members id vs ms))

-- the labels of an order of all members are labels of the columns
pub are_labels : (cs : List Column) (order : List Member) (labels : Option (ArrayVec LabelShape)) → 0 < length order
    → IfSome labels (λ ls. ls.items ≡ labels_in false order) → IfSome labels (λ ls. All (λ l. l.place ≤ length cs) ls.items)
    → ((id : ℕ) (vs : List Value) → length cs ≤ length vs → shown_members id vs order ≡ row_members cs id vs)
    → ((vs : List Value) → members_room vs order ≤ 64 * (length cs + 1) + texts_room vs) → AreLabels cs labels
are_labels cs order None some is places members room = tt
are_labels cs order (Some ls) some is places members room = (
  λ id vs long. ap (labelled_text (row_values_of id vs)) is ∙ opened id vs order some ∙ ap (λ ms. 123 ∷ members_text false ms) (members id vs long),
  λ id vs. omega (arith, ap (labels_room (row_values_of id vs)) is, labels_room-labels_in false id vs order, room vs),
  places,
)

-- a value that stands among values
row_value_there : (row_values : List RowValue) (i : ℕ) (d : RowValue) → i < length row_values
    → drop i (map held row_values) ≡ held (slice_index_or row_values i d) ∷ drop (i + 1) (map held row_values)
row_value_there row_values i d there =
    drop_more (map held row_values) i (held d) (omega (arith, there, length-map row_values held))
    ∙ ap (λ x. x ∷ drop (i + 1) (map held row_values)) (get_or-map held row_values i d (held d) there)

pub room_there : (row_values : List RowValue) (i j : ℕ) (d : RowValue) → i ≡ j → i < length row_values
    → first_room (drop i (map held row_values)) ≡ text_room (held (slice_index_or row_values j d))
room_there row_values i j d same there = ap first_room (row_value_there row_values i d there) ∙ ap (λ k. text_room (held (slice_index_or row_values k d))) same

pub data_there : (row_values : List RowValue) (i j : ℕ) (d : RowValue) → i ≡ j → i < length row_values
    → value_data (held (slice_index_or row_values j d)) ≡ first_data (drop i (map held row_values))
data_there row_values i j d same there = ap (λ k. value_data (held (slice_index_or row_values k d))) (sym same) ∙ sym (ap first_data (row_value_there row_values i d there))

-- the room for texts by the bytes of the texts
pub six_times : (vs : List Value) → texts_room vs ≡ 6 * texts_length vs
six_times [] = refl
six_times (Int n ∷ vs) = omega (arith, six_times vs)
six_times (Text bytes ∷ vs) = omega (arith, six_times vs)
six_times (Flag b ∷ vs) = omega (arith, six_times vs)
