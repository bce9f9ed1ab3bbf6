-- A command that is bound fits the catalog.
-- Cited by `binding::bind_change`, `binding::bind_key_look_up` and `binding::bind_number_look_up`.
use Rattle.std.proofs.Common.{◌≡◌, ℕ, ◌<◌, zero, suc, List, [], ◌∷◌, length, map, drop, slice_get, nat_le, nat_lt, Bool, true, false, cond, Option}
use Rattle.std.proofs.Common.{Some, None, option_map, option_and_then, IfSome, Result, Ok, Err, ℤ, refl, sym, ap, subst, ◌∙◌, ◌&&◌, rules}
use Rattle.std.specs.Prelude.{IfOk, IfErr}
use Rattle.std.specs.List.{list_all, position, position_or_len}
use Rattle.std.specs.Str.{bytes_eq}
use Rattle.std.proofs.lemmas.Bool.{ltb-true}
use Rattle.std.proofs.Math.Seq.{drop-nil}
use Rattle.std.specs.Option.{ok_or, option_map_or}
use Rattle.serde_json.specs.Data.{Data, Items, Members}
use Rattle.serde_json.specs.Find.{get_member, as_number, as_i64, as_str, as_bool}
use Rattle.mi_value.specs.Edits.{NamesEachOnce}
use Rattle.mi_value.specs.declared.edit.Edit.{Edit}
use Rattle.mi_value.specs.declared.edit.Edit.TheVariants as edit
use Rattle.mi_value.specs.declared.limits.TheConstants.{MAX_TEXT}
use Rattle.mi_value.specs.declared.refusal.Refusal.{Refusal}
use Rattle.mi_value.specs.declared.refusal.Refusal.TheVariants.{NoTable, Index, Kind, Row, Key, Memory}
use Rattle.mi_value.specs.declared.value.ColumnType.{ColumnType}
use Rattle.mi_value.specs.declared.value.ColumnType.TheVariants as column
use Rattle.mi_value.specs.declared.bound.Lower.{Lower}
use Rattle.mi_value.specs.declared.bound.Lower.TheVariants as lower
use Rattle.mi_value.specs.declared.bound.Upper.{Upper}
use Rattle.mi_value.specs.declared.bound.Upper.TheVariants as upper
use Rattle.mi_value.specs.declared.value.Value.{Value}
use Rattle.mi_value.specs.declared.value.Value.TheVariants as value
use Rattle.mi_catalog.specs.declared.index.Column.{Column}
use Rattle.mi_catalog.specs.declared.index.IndexKind.{IndexKind}
use Rattle.mi_catalog.specs.declared.index.IndexKind.TheVariants.{Sequenced}
use Rattle.mi_catalog.specs.Shape.{Shape, CatalogShape, schema_at, index_at, find_index, find_table}
use Rattle.mi_catalog.specs.Fits.{fits_type, fits_record, is_int, fits_edit, fits_key, fits_lower, fits_upper}
use Rattle.mi_catalog.specs.Rules.{is_catalog}
use Rattle.mi_catalog.proofs.KindLaws.{sequenced, ranked}
use Rattle.mi_request.specs.Answers.{IsAnswer, NamesNoIndex}
use Rattle.mi_protocol.specs.Edits.{addition, edit_of, with_edit, edits_from, bound_edits}
use Rattle.mi_request.specs.Json.{has_only, option_map₂}
use Rattle.mi_protocol.specs.Keys.{plain_values, if_key, bound_key, bound_lower, bound_upper}
use Rattle.mi_catalog.specs.Kinds.{has_keys, is_sequenced, is_sorted}
use Rattle.mi_protocol.specs.Values.{short_text, fitting, values_of, bound_row}
use Rattle.mi_protocol.specs.Binding.{and_then, table_number, of_kind, index_number, bound_place, named_key, bound_ends, bound_change}
use Rattle.mi_protocol.specs.Binding.{bound_number_look_up, bound_key_look_up}
use Rattle.mi_protocol.specs.Binding.{of_table, bound_over, bound_command, FitsChange, FitsNumberLookUp, FitsKeyLookUp, FitsCatalog}
use Rattle.mi_request.specs.declared.request.ChangeRequest.{ChangeRequest}
use Rattle.mi_request.specs.declared.request.ChangeRequest.TheVariants as change_request
use Rattle.mi_request.specs.declared.request.Bound.{Bound}
use Rattle.mi_request.specs.declared.request.Bound.TheVariants.{Unbounded, Included, Excluded}
use Rattle.mi_request.specs.declared.request.KeyLookUpRequest.{KeyLookUpRequest}
use Rattle.mi_request.specs.declared.request.KeyLookUpRequest.TheVariants as key_request
use Rattle.mi_request.specs.declared.request.NamedPlace.{NamedPlace}
use Rattle.mi_request.specs.declared.request.NumberLookUpRequest.{NumberLookUpRequest}
use Rattle.mi_request.specs.declared.request.NumberLookUpRequest.TheVariants as number_request
use Rattle.mi_request.specs.declared.request.Request.{Request}
use Rattle.mi_request.specs.declared.request.Request.TheVariants as request
use Rattle.mi_protocol.specs.declared.command.Command.{Command}
use Rattle.mi_protocol.specs.declared.command.Command.TheVariants as command
use Rattle.mi_protocol.proofs.EditOrderLaws.{lines_edit_columns_once}

-- ---- a row

int-fits : (z : Option ℤ) → IfSome (option_map value.Int z) (λ v. fits_type column.Int v ≡ true)
int-fits None = tt
int-fits (Some z) = refl

flag-fits : (b : Option Bool) → IfSome (option_map value.Flag b) (λ v. fits_type column.Flag v ≡ true)
flag-fits None = tt
flag-fits (Some b) = refl

short-fits : (t : List ℕ) (b : Bool) → nat_le (length t) MAX_TEXT ≡ b → IfSome (cond b (Some (value.Text t)) None) (λ v. fits_type column.Text v ≡ true)
short-fits t true e = e
short-fits t false e = tt

text-fits : (t : Option (List ℕ)) → IfSome (option_and_then short_text t) (λ v. fits_type column.Text v ≡ true)
text-fits None = tt
text-fits (Some t) = short-fits t _ refl

value-fits : (k : ColumnType) (o : Option Data) → IfSome (option_and_then (fitting k) o) (λ v. fits_type k v ≡ true)
value-fits k None = tt
value-fits column.Int (Some d) = int-fits (option_and_then as_i64 (as_number d))
value-fits column.Text (Some d) = text-fits (as_str d)
value-fits column.Flag (Some d) = flag-fits (as_bool d)

step-fits : (c : Column) (cs : List Column) (o : Option Value) (r : Option (List Value))
    → IfSome o (λ v. fits_type c.kind v ≡ true) → IfSome r (λ vs. fits_record cs vs ≡ true)
    → IfSome (option_map₂ (λ v vs. v ∷ vs) o r) (λ vs. fits_record (c ∷ cs) vs ≡ true)
step-fits c cs None r h g = tt
step-fits c cs (Some v) None h g = tt
step-fits c cs (Some v) (Some vs) h g = ap (λ b. b && fits_record cs vs) h ∙ g

values-fit : (cs : List Column) (ms : Members) → IfSome (values_of cs ms) (λ vs. fits_record cs vs ≡ true)
values-fit [] ms = refl
values-fit (c ∷ cs) ms = step-fits c cs _ _ (value-fits c.kind (get_member c.name ms)) (values-fit cs ms)

if-fits : (b : Bool) (cs : List Column) (r : Option (List Value))
    → IfSome r (λ vs. fits_record cs vs ≡ true) → IfSome (cond b r None) (λ vs. fits_record cs vs ≡ true)
if-fits true cs r h = h
if-fits false cs r h = tt

row-fits : (cs : List Column) (ms : Members) → IfSome (bound_row cs ms) (λ vs. fits_record cs vs ≡ true)
row-fits cs ms = if-fits (has_only (map (λ c. c.name) cs) ms) cs (values_of cs ms) (values-fit cs ms)

-- ---- columns from one on

abbrev first : List Column → Option Column
first [] = None
first (c ∷ cs) = Some c

abbrev others : List Column → List Column
others [] = []
others (c ∷ cs) = cs

at-front : (cs : List Column) (x : ℕ) → slice_get cs x ≡ first (drop x cs)
at-front [] x = ap first (sym (drop-nil x))
at-front (d ∷ cs) zero = refl
at-front (d ∷ cs) (suc x) = at-front cs x

drop-more : (cs : List Column) (x : ℕ) → drop (suc x) cs ≡ others (drop x cs)
drop-more [] x = ap others (sym (drop-nil x))
drop-more (d ∷ cs) zero = refl
drop-more (d ∷ cs) (suc x) = drop-more cs x

-- ---- edits

put-fits : (cs : List Column) (x : ℕ) (c : Column) (o : Option Value) → slice_get cs x ≡ Some c → IfSome o (λ v. fits_type c.kind v ≡ true)
    → IfSome (option_map (λ v. Some (edit.Put x v)) o) (λ e. IfSome e (λ e. fits_edit cs e ≡ true))
put-fits cs x c None at h = tt
put-fits cs x c (Some v) at h = ap (λ o. option_map_or (λ c. fits_type c.kind v) o false) at ∙ h

addition-fits : (cs : List Column) (x : ℕ) (c : Column) (k : ColumnType) (d : Data) → slice_get cs x ≡ Some c
    → c.kind ≡ k → IfSome (option_map Some (addition x k d)) (λ e. IfSome e (λ e. fits_edit cs e ≡ true))
addition-fits cs x c column.Int d at is = by_number (option_and_then as_i64 (as_number d))
  where
    by_number : (z : Option ℤ) → IfSome (option_map Some (option_map (edit.Add x) z)) (λ e. IfSome e (λ e. fits_edit cs e ≡ true))
    by_number None = tt
    by_number (Some z) = ap (λ o. option_map_or (λ c. is_int c.kind) o false) at ∙ ap is_int is
addition-fits cs x c column.Text d at is = tt
addition-fits cs x c column.Flag d at is = tt

edit-fits : (cs : List Column) (x : ℕ) (c : Column) (set add : Option Data) → slice_get cs x ≡ Some c
    → IfSome (edit_of x c.kind set add) (λ e. IfSome e (λ e. fits_edit cs e ≡ true))
edit-fits cs x c None None at = tt
edit-fits cs x c (Some d) None at = put-fits cs x c (fitting c.kind d) at (value-fits c.kind (Some d))
edit-fits cs x c None (Some d) at = addition-fits cs x c c.kind d at refl
edit-fits cs x c (Some d) (Some e) at = tt

one-more : (cs : List Column) (o : Option (Option Edit)) (r : Option (List Edit))
    → IfSome o (λ e. IfSome e (λ e. fits_edit cs e ≡ true)) → IfSome r (λ es. list_all (fits_edit cs) es ≡ true)
    → IfSome (option_map₂ with_edit o r) (λ es. list_all (fits_edit cs) es ≡ true)
one-more cs None r h g = tt
one-more cs (Some e) None h g = tt
one-more cs (Some None) (Some es) h g = g
one-more cs (Some (Some e)) (Some es) h g = ap (λ b. b && list_all (fits_edit cs) es) h ∙ g

-- the columns from x on are those of all
from-fit : (cs : List Column) (x : ℕ) (more : List Column) (set add : Members) → drop x cs ≡ more
    → IfSome (edits_from x more set add) (λ es. list_all (fits_edit cs) es ≡ true)
from-fit cs x [] set add is = refl
from-fit cs x (c ∷ more) set add is =
    one-more cs _ _ (edit-fits cs x c (get_member c.name set) (get_member c.name add) (at-front cs x ∙ ap first is))
    (from-fit cs (suc x) more set add (drop-more cs x ∙ ap others is))

-- each is of a column of its type, and no column is named twice
abbrev AreEdits : List Column → List Edit → Type 0
AreEdits cs es = (list_all (fits_edit cs) es ≡ true) × NamesEachOnce es

both-fit : (cs : List Column) (r : Option (List Edit)) → IfSome r (λ es. list_all (fits_edit cs) es ≡ true) → IfSome r NamesEachOnce → IfSome r (AreEdits cs)
both-fit cs None h once = tt
both-fit cs (Some es) h once = (h, once)

each-fits : (cs : List Column) (set add : Members) → IfSome (bound_edits cs set add) (λ es. list_all (fits_edit cs) es ≡ true)
each-fits cs set add = by_test (has_only (map (λ c. c.name) cs) set && has_only (map (λ c. c.name) cs) add)
  where
    by_test : (b : Bool) → IfSome (cond b (edits_from 0 cs set add) None) (λ es. list_all (fits_edit cs) es ≡ true)
    by_test true = from-fit cs 0 cs set add refl
    by_test false = tt

edits-fit : (cs : List Column) (set add : Members) → IfSome (bound_edits cs set add) (AreEdits cs)
edits-fit cs set add = both-fit cs (bound_edits cs set add) (each-fits cs set add) (lines_edit_columns_once cs set add)

-- ---- one after another

-- this holds of a value, and a refusal names no index
abbrev Holds : {A : Type 0} → Result A Refusal → (A → Type 0) → Type 0
Holds (Ok a) P = P a
Holds (Err e) P = NamesNoIndex e

-- what holds of a value, and then of what follows
then : {A B : Type 0} (P : A → Type 0) (Q : B → Type 0) (f : A → Result B Refusal) (r : Result A Refusal)
    → Holds r P → ((a : A) → P a → Holds (f a) Q) → Holds (and_then f r) Q
then P Q f (Ok a) h more = more a h
then P Q f (Err e) h more = h

some : {A : Type 0} (P : A → Type 0) (e : Refusal) → NamesNoIndex e → (o : Option A) → IfSome o P → Holds (ok_or o e) P
some P e plain None h = plain
some P e plain (Some a) h = h

-- ---- tables and indexes

found : {A : Type 0} (p : A → Bool) (xs : List A) → IfSome (position p xs) (λ x. x < length xs)
found p xs = by_test _ refl
  where
    by_test : (b : Bool) → nat_lt (position_or_len p xs) (length xs) ≡ b → IfSome (cond b (Some (position_or_len p xs)) None) (λ x. x < length xs)
    by_test true e = ltb-true (position_or_len p xs) (length xs) e
    by_test false e = tt

abbrev IsTableOf : CatalogShape → ℕ → Type 0
IsTableOf c n = n < length c.tables

table-there : (c : CatalogShape) (name : Option (List ℕ)) → is_catalog c ≡ true → Holds (table_number c name) (IsTableOf c)
table-there c None h = search rules
table-there c (Some name) h = some (IsTableOf c) NoTable tt (find_table c name) (found (λ s. bytes_eq s.table_name name) c.tables)

abbrev IsIndexOf : (IndexKind → Bool) → Shape → ℕ → Type 0
IsIndexOf kinds s x = (x < length s.indexes) × (kinds (index_at s x).kind ≡ true)

kind-fits : (kinds : IndexKind → Bool) (s : Shape) (x : ℕ) → x < length s.indexes → Holds (of_kind kinds s x) (IsIndexOf kinds s)
kind-fits kinds s x there = by_test _ refl
  where
    by_test : (b : Bool) → kinds (index_at s x).kind ≡ b → Holds (cond b (Ok x) (Err Kind)) (IsIndexOf kinds s)
    by_test true e = (there, e)
    by_test false e = tt

index-fits : (kinds : IndexKind → Bool) (s : Shape) (name : List ℕ) → Holds (index_number kinds s name) (IsIndexOf kinds s)
index-fits kinds s name =
    then (λ x. x < length s.indexes) (IsIndexOf kinds s) (of_kind kinds s) (ok_or (find_index s name) Index)
    (some (λ x. x < length s.indexes) Index tt (find_index s name) (found (λ i. bytes_eq i.name name) s.indexes)) (kind-fits kinds s)

-- ---- a place

abbrev IsPlaceOf : Shape → Option (ℕ × ℕ) → Type 0
IsPlaceOf s at = IfSome at (λ p. (index_at s p.0).kind ≡ Sequenced)

place-fits : (s : Shape) (p : Option NamedPlace) → Holds (bound_place s p) (IsPlaceOf s)
place-fits s None = tt
place-fits s (Some p) = then (IsIndexOf is_sequenced s) (IsPlaceOf s) _ (index_number is_sequenced s p.index)
    (index-fits is_sequenced s p.index) (λ x h. sequenced (index_at s x).kind h.1)

-- ---- a key

if-key-fits : (s : Shape) (x : ℕ) (whole b : Bool) (vs : List Value) → fits_key s.columns (index_at s x).parts whole vs ≡ b
    → IfSome (cond b (Some vs) None) (λ key. fits_key s.columns (index_at s x).parts whole key ≡ true)
if-key-fits s x whole true vs e = e
if-key-fits s x whole false vs e = tt

values-key-fits : (s : Shape) (x : ℕ) (whole : Bool) (o : Option (List Value))
    → IfSome (option_and_then (if_key s x whole) o) (λ key. fits_key s.columns (index_at s x).parts whole key ≡ true)
values-key-fits s x whole None = tt
values-key-fits s x whole (Some vs) = if-key-fits s x whole _ vs refl

key-fits : (s : Shape) (x : ℕ) (whole : Bool) (ds : Items) → IfSome (bound_key s x whole ds) (λ key. fits_key s.columns (index_at s x).parts whole key ≡ true)
key-fits s x whole ds = values-key-fits s x whole (plain_values ds)

-- ---- commands

abbrev IsRowOf : Shape → List Value → Type 0
IsRowOf s values = fits_record s.columns values ≡ true

abbrev AreEditsOf : Shape → List Edit → Type 0
AreEditsOf s edits = AreEdits s.columns edits

abbrev IsKeyOf : Shape → ℕ → Bool → List Value → Type 0
IsKeyOf s x whole key = fits_key s.columns (index_at s x).parts whole key ≡ true

-- an index of one of these kinds, and a key of it
abbrev IsNamedKeyOf : (IndexKind → Bool) → (IndexKind → Bool) → Shape → ℕ × List Value → Type 0
IsNamedKeyOf kinds whole s k = IsIndexOf kinds s k.0 × IsKeyOf s k.0 (whole (index_at s k.0).kind) k.1

named_key-fits : (kinds whole : IndexKind → Bool) (s : Shape) (index : List ℕ) (key : Items)
    → Holds (named_key kinds whole s index key) (IsNamedKeyOf kinds whole s)
named_key-fits kinds whole s index key =
    then (IsIndexOf kinds s) (IsNamedKeyOf kinds whole s) _ (index_number kinds s index) (index-fits kinds s index)
    (λ x at. then (IsKeyOf s x (whole (index_at s x).kind)) (IsNamedKeyOf kinds whole s) _ (ok_or (bound_key s x (whole (index_at s x).kind) key) Key)
    (some (IsKeyOf s x (whole (index_at s x).kind)) Key tt (bound_key s x (whole (index_at s x).kind) key) (key-fits s x (whole (index_at s x).kind) key))
    (λ values fits. (at, fits)))

-- what is made of a named key
by_key : {A : Type 0} (P : A → Type 0) (s : Shape) (kinds whole : IndexKind → Bool) (index : List ℕ) (key : Items) (f : ℕ × List Value → Result A Refusal)
    → ((k : ℕ × List Value) → k.0 < length s.indexes → kinds (index_at s k.0).kind ≡ true → IsKeyOf s k.0 (whole (index_at s k.0).kind) k.1 → Holds (f k) P)
    → Holds (and_then f (named_key kinds whole s index key)) P
by_key P s kinds whole index key f more =
    then (IsNamedKeyOf kinds whole s) P f (named_key kinds whole s index key) (named_key-fits kinds whole s index key)
    (λ k fits. more k fits.0.0 fits.0.1 fits.1)

-- what is made of a named index
by_index : {A : Type 0} (P : A → Type 0) (s : Shape) (kinds : IndexKind → Bool) (index : List ℕ) (f : ℕ → Result A Refusal)
    → ((x : ℕ) → x < length s.indexes → kinds (index_at s x).kind ≡ true → Holds (f x) P) → Holds (and_then f (index_number kinds s index)) P
by_index P s kinds index f more = then (IsIndexOf kinds s) P f (index_number kinds s index) (index-fits kinds s index) (λ x at. more x at.0 at.1)

-- bounds of a range in index x
abbrev IsLowerOf : Shape → ℕ → Lower → Type 0
IsLowerOf s x low = fits_lower s.columns (index_at s x).parts low ≡ true

abbrev IsUpperOf : Shape → ℕ → Upper → Type 0
IsUpperOf s x high = fits_upper s.columns (index_at s x).parts high ≡ true

from-fits : (s : Shape) (x : ℕ) (o : Option (List Value)) → IfSome o (IsKeyOf s x false) → IfSome (option_map lower.From o) (IsLowerOf s x)
from-fits s x None h = tt
from-fits s x (Some key) h = h

beyond-fits : (s : Shape) (x : ℕ) (o : Option (List Value)) → IfSome o (IsKeyOf s x false) → IfSome (option_map lower.Beyond o) (IsLowerOf s x)
beyond-fits s x None h = tt
beyond-fits s x (Some key) h = h

lower-fits : (s : Shape) (x : ℕ) (e : Bound) → IfSome (bound_lower s x e) (IsLowerOf s x)
lower-fits s x Unbounded = refl
lower-fits s x (Included ds) = from-fits s x (bound_key s x false ds) (key-fits s x false ds)
lower-fits s x (Excluded ds) = beyond-fits s x (bound_key s x false ds) (key-fits s x false ds)

up_to-fits : (s : Shape) (x : ℕ) (o : Option (List Value)) → IfSome o (IsKeyOf s x false) → IfSome (option_map upper.UpTo o) (IsUpperOf s x)
up_to-fits s x None h = tt
up_to-fits s x (Some key) h = h

below-fits : (s : Shape) (x : ℕ) (o : Option (List Value)) → IfSome o (IsKeyOf s x false) → IfSome (option_map upper.Below o) (IsUpperOf s x)
below-fits s x None h = tt
below-fits s x (Some key) h = h

upper-fits : (s : Shape) (x : ℕ) (e : Bound) → IfSome (bound_upper s x e) (IsUpperOf s x)
upper-fits s x Unbounded = refl
upper-fits s x (Included ds) = up_to-fits s x (bound_key s x false ds) (key-fits s x false ds)
upper-fits s x (Excluded ds) = below-fits s x (bound_key s x false ds) (key-fits s x false ds)

abbrev AreBoundsOf : Shape → ℕ → Lower × Upper → Type 0
AreBoundsOf s x e = IsLowerOf s x e.0 × IsUpperOf s x e.1

ends-fit : (s : Shape) (x : ℕ) (lower upper : Bound) → Holds (bound_ends s x lower upper) (AreBoundsOf s x)
ends-fit s x lower upper =
    then (IsLowerOf s x) (AreBoundsOf s x) _ (ok_or (bound_lower s x lower) Key) (some (IsLowerOf s x) Key tt (bound_lower s x lower) (lower-fits s x lower))
    (λ l below. then (IsUpperOf s x) (AreBoundsOf s x) _ (ok_or (bound_upper s x upper) Key)
    (some (IsUpperOf s x) Key tt (bound_upper s x upper) (upper-fits s x upper)) (λ u above. (below, above)))

-- ---- changes and look-ups

row-fits-table : {A : Type 0} (P : A → Type 0) (s : Shape) (row : Members) (f : List Value → Result A Refusal)
    → ((values : List Value) → IsRowOf s values → Holds (f values) P) → Holds (and_then f (ok_or (bound_row s.columns row) Row)) P
row-fits-table P s row f more =
    then (IsRowOf s) P f (ok_or (bound_row s.columns row) Row) (some (IsRowOf s) Row tt (bound_row s.columns row) (row-fits s.columns row)) more

module _ (c : CatalogShape) (n : ℕ) where
  abbrev s : Shape
  s = schema_at c n

  change-fits : (r : ChangeRequest) → Holds (bound_change s r) (FitsChange c n)
  change-fits (change_request.Insert row before) =
      then (IsPlaceOf s) (FitsChange c n) _ (bound_place s before) (place-fits s before)
      (λ at place. row-fits-table (FitsChange c n) s row _ (λ values fits. (fits, place)))
  change-fits (change_request.Replace id row) = row-fits-table (FitsChange c n) s row _ (λ values fits. fits)
  change-fits (change_request.Modify id set add rollback) =
      then (AreEditsOf s) (FitsChange c n) _ (ok_or (bound_edits s.columns set add) Row)
      (some (AreEditsOf s) Row tt (bound_edits s.columns set add) (edits-fit s.columns set add)) (λ edits fits. fits)
  change-fits (change_request.Erase id) = tt
  change-fits (change_request.EraseKey index key) =
      by_key (FitsChange c n) s has_keys (λ kind. true) index key _ (λ k there kind fits. ((there, kind), fits))
  change-fits (change_request.Relocate index id before) =
      by_index (FitsChange c n) s is_sequenced index _ (λ x there kind. sequenced (index_at s x).kind kind)

  number_look_up-fits : (r : NumberLookUpRequest) → Holds (bound_number_look_up s r) (FitsNumberLookUp c n)
  number_look_up-fits number_request.Size = tt
  number_look_up-fits r = search (by_index, ranked, sequenced)

  key_look_up-fits : (r : KeyLookUpRequest) → Holds (bound_key_look_up s r) (FitsKeyLookUp c n)
  key_look_up-fits (key_request.Range index lower upper reverse limit) =
      by_index (FitsKeyLookUp c n) s is_sorted index _
      (λ x there kind. then (AreBoundsOf s x) (FitsKeyLookUp c n) _ (bound_ends s x lower upper) (ends-fit s x lower upper) (λ e fit. (kind, fit.0, fit.1)))
  key_look_up-fits r = search (by_key, ranked)

-- ---- commands

over-fits : {A : Type 0} (P : ℕ → A → Type 0) (make : ℕ → A → Command) (bound : Shape → Result A Refusal) (c : CatalogShape) (table : Option (List ℕ))
    → is_catalog c ≡ true → ((n : ℕ) → Holds (bound (schema_at c n)) (P n)) → ((n : ℕ) (x : A) → n < length c.tables → P n x → FitsCatalog c (make n x))
    → Holds (bound_over make bound c table) (FitsCatalog c)
over-fits P make bound c table h fits made =
    then (IsTableOf c) (FitsCatalog c) _ (table_number c table) (table-there c table h)
    (λ n there. then (P n) (FitsCatalog c) _ (bound (schema_at c n)) (fits n) (λ x fit. made n x there fit))

bound-fits : (c : CatalogShape) (r : Request) → is_catalog c ≡ true → Holds (bound_command c r) (FitsCatalog c)
bound-fits c (request.Change table r) h =
    over-fits (FitsChange c) command.Change (λ s. bound_change s r) c table h (λ n. change-fits c n r) (λ n x there fit. (there, fit))
bound-fits c (request.NumberLookUp table r) h =
    over-fits (FitsNumberLookUp c) command.NumberLookUp (λ s. bound_number_look_up s r) c table h (λ n. number_look_up-fits c n r) (λ n x there fit. (there, fit))
bound-fits c (request.KeyLookUp table r) h =
    over-fits (FitsKeyLookUp c) command.KeyLookUp (λ s. bound_key_look_up s r) c table h (λ n. key_look_up-fits c n r) (λ n x there fit. (there, fit))
bound-fits c (request.Session s) h = tt

-- what is answered without memory
pub without : {A : Type 0} (r defined : Result A Refusal) → r ≡ defined → IsAnswer r defined
without (Ok v) defined is = sym is
without (Err Memory) defined is = tt
without (Err e) defined is = sym is

-- the answer of the code
pub bound-fits-catalog : {A : Type 0} (make : ℕ → A → Command) (c : CatalogShape) (request : Request) (r : Result (ℕ × A) Refusal)
    → is_catalog c ≡ true → IsAnswer (of_table make r) (bound_command c request) → IfOk r (λ v. FitsCatalog c (make v.0 v.1))
bound-fits-catalog make c request (Ok v) h is = subst (λ d. Holds d (FitsCatalog c)) is (bound-fits c request h)
bound-fits-catalog make c request (Err e) h is = tt

-- its refusal
pub bound-plain : {A : Type 0} (make : ℕ → A → Command) (c : CatalogShape) (request : Request) (r : Result (ℕ × A) Refusal)
    → is_catalog c ≡ true → IsAnswer (of_table make r) (bound_command c request) → IfErr r NamesNoIndex
bound-plain make c request (Ok v) h is = tt
bound-plain make c request (Err Memory) h is = tt
bound-plain make c request (Err e) h is = subst (λ d. Holds d (FitsCatalog c)) is (bound-fits c request h)
