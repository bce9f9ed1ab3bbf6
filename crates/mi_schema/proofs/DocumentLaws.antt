-- Members of TOML tables, and lists read item by item.
-- Cited by `document::has_no_other`, `document::items` and `read::document`.
use Rattle.std.proofs.Common.{◌≡◌, ℕ, ◌+◌, ◌<◌, ◌≤◌, List, [], ◌∷◌, ◌++◌, length, map, drop, get_or, Option, Some, None}
use Rattle.std.proofs.Common.{option_map, String, Global, string_bytes, refl, sym, ap, ◌∙◌, ◌&&◌, append_assoc, cond, inl, inr}
use Rattle.std.proofs.lemmas.List.{append-nil}
use Rattle.std.proofs.Math.ListN.{drop_of_length-le}
use Rattle.std.proofs.lemmas.Bool.{cases_Bool}
use Rattle.std.proofs.lemmas.Str.{IsUtf8-from_is_utf8, is_utf8-from_IsUtf8}
use Rattle.std.specs.List.{list_any, list_all}
use Rattle.std.specs.Map.{keys_of}
use Rattle.std.specs.Str.{bytes_eq, IsUtf8, is_utf8}
use Rattle.toml.specs.Data.{Data, Members}
use Rattle.toml.specs.Parse.{parse_document}
use Rattle.toml.specs.View.{view, members_view, items_view}
use Rattle.toml.specs.declared.value.Value.{Value}
use Rattle.toml.proofs.Views.{items_view-drop}
use Rattle.mi_schema.specs.declared.document.Misread.{Misread}
use Rattle.mi_schema.specs.declared.document.Misread.TheVariants as misread
use Rattle.mi_schema.proofs.ListLaws.{any_of_map}
use Rattle.mi_schema.specs.Members.{has_no_other, each, in_front, Fails}
use Rattle.mi_schema.specs.Reading.{document}

-- each key is one of the names, so no member has another name
pub has_no_other-keys : {A : Type 0} (f : A → List ℕ) (xs : List A) (es : List (String Global × Value))
    → list_all (λ k. list_any (λ x. bytes_eq (string_bytes k) (f x)) xs) (keys_of es) ≡ has_no_other (map f xs) (members_view es)
unfolding has_no_other
has_no_other-keys f xs [] = refl
has_no_other-keys f xs (e ∷ es) =
    ap (λ b. b && list_all (λ k. list_any (λ x. bytes_eq (string_bytes k) (f x)) xs) (keys_of es)) (sym (any_of_map (bytes_eq (string_bytes e.0)) f xs))
    ∙ ap (λ b. list_any (λ n. bytes_eq (string_bytes e.0) n) (map f xs) && b) (has_no_other-keys f xs es)

-- what was read before, and what is still read
abbrev pub with_front : {A : Type 0} → List A → Option (List A) → Option (List A)
with_front front read = option_map (λ xs. front ++ xs) read

regroup : {A : Type 0} (front : List A) (x : A) (read : Option (List A)) → with_front front (in_front (Some x) read) ≡ with_front (front ++ x ∷ []) read
regroup front x (Some xs) = ap Some (simp append_assoc)
regroup front x None = refl

pub begins : {A : Type 0} (read : Option (List A)) → with_front [] read ≡ read
begins (Some xs) = refl
begins None = refl

pub goes_on : {A : Type 0} (kind : Data → Option A) (front : List A) (vs : List Value) (i : ℕ) (v : Value) (x : A) (total : Option (List A))
    → i < length vs → v ≡ get_or vs i v → kind (view v) ≡ Some x
    → with_front front (each kind (items_view (drop i vs))) ≡ total → with_front (front ++ x ∷ []) (each kind (items_view (drop (i + 1) vs))) ≡ total
unfolding each
goes_on kind front vs i v x total lt is reads so_far =
    let here : kind (view (get_or vs i v)) ≡ Some x = ap (λ w. kind (view w)) (sym is) ∙ reads in
    let one : with_front front (each kind (items_view (drop i vs))) ≡ with_front (front ++ x ∷ []) (each kind (items_view (drop (i + 1) vs))) =
    ap (λ ds. with_front front (each kind ds)) (items_view-drop vs i v lt)
    ∙ ap (λ o. with_front front (in_front o (each kind (items_view (drop (i + 1) vs))))) here
    ∙ regroup front x (each kind (items_view (drop (i + 1) vs))) in
    sym one ∙ so_far

pub ends : {A : Type 0} (kind : Data → Option A) (e : Misread) (front : List A) (vs : List Value) (i : ℕ) (v : Value) (total : Option (List A))
    → i < length vs → v ≡ get_or vs i v → Fails e (kind (view v))
    → with_front front (each kind (items_view (drop i vs))) ≡ total → Fails e total
unfolding each
ends kind misread.Memory front vs i v total lt is fails so_far = tt
ends kind misread.Shape front vs i v total lt is fails so_far =
    let here : kind (view (get_or vs i v)) ≡ None = ap (λ w. kind (view w)) (sym is) ∙ fails in
    let one : with_front front (each kind (items_view (drop i vs))) ≡ None =
    ap (λ ds. with_front front (each kind ds)) (items_view-drop vs i v lt)
    ∙ ap (λ o. with_front front (in_front o (each kind (items_view (drop (i + 1) vs))))) here in
    sym so_far ∙ one

drop_all : (vs : List Value) (i : ℕ) → length vs ≤ i → drop i vs ≡ []
drop_all vs i le = drop_of_length-le vs le

pub is_done : {A : Type 0} (kind : Data → Option A) (front : List A) (vs : List Value) (i : ℕ) (total : Option (List A)) → length vs ≤ i
    → with_front front (each kind (items_view (drop i vs))) ≡ total → total ≡ Some front
unfolding each
is_done kind front vs i total le so_far =
    let one : with_front front (each kind (items_view (drop i vs))) ≡ Some front =
    ap (λ (ds : List Value). with_front front (each kind (items_view ds))) (drop_all vs i le) ∙ ap Some (append-nil front) in
    sym so_far ∙ one

-- the document of a text
pub document_found : (bytes : List ℕ) (ms : Members) → IsUtf8 bytes → parse_document bytes ≡ Some ms → document bytes ≡ Some ms
document_found bytes ms utf8 found = ap (λ b. cond b (parse_document bytes) None) (is_utf8-from_IsUtf8 bytes utf8) ∙ found

pub document_refused : (bytes : List ℕ) → (IsUtf8 bytes → parse_document bytes ≡ None) → document bytes ≡ None
document_refused bytes none = elim (cases_Bool (is_utf8 bytes)) [
  | inl is ↦ ap (λ b. cond b (parse_document bytes) None) is ∙ none (IsUtf8-from_is_utf8 bytes is)
  | inr other ↦ ap (λ b. cond b (parse_document bytes) None) other
]
