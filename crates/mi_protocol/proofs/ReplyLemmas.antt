-- The text of each reply is the compact text of its object.
-- Cited by `laws::replies_are_compact_json`.
use Rattle.std.proofs.Common.{◌≡◌, ◌≢◌, ℕ, zero, suc, ◌<◌, ◌≤◌, List, [], ◌∷◌, ◌++◌, length, slice_index_or, nat_le, ◌==◌, Bool, true}
use Rattle.std.proofs.Common.{not, ◌&&◌, ◌||◌, ◌⊎◌, inl, inr, refl, sym, ap, ◌∙◌, arith, append_assoc, codes, decimal, true≢false, rules}
use Rattle.std.specs.List.{list_all}
use Rattle.std.specs.Str.{bytes_eq}
use Rattle.std.proofs.lemmas.Bool.{leb-true, eqb-true, and_parts, or_cases}
use Rattle.std.proofs.lemmas.Bool.Decides.{eqb_tells}
use Rattle.std.proofs.lemmas.Slice.Eq.{bytes_eq-Decides}
use Rattle.json.specs.Print.{escape, escape_byte}
use Rattle.serde_json.specs.Written.{compact_text}
use Rattle.mi_value.specs.declared.refusal.Refusal.{Refusal}
use Rattle.mi_value.specs.declared.refusal.Refusal.TheVariants.{Unique, Lost}
use Rattle.mi_value.specs.declared.limits.TheConstants.{MAX_NAME}
use Rattle.mi_catalog.specs.Shape.{Shape, CatalogShape, schema_at}
use Rattle.mi_catalog.specs.Rules.{starts_name, continues_name, is_name, is_declared_index, is_schema, is_catalog, are_columns, are_indexes, are_numbers}
use Rattle.mi_catalog.specs.declared.index.Index.{Index}
use Rattle.mi_protocol.specs.Replies.{Said, inserted, done, erased, shown, revised, committed, undone, pushed, status, counted, ranked, sized, rows}
use Rattle.mi_protocol.specs.Replies.{refused_modify, refused, index_name, refusal_text, modify_refusal_text, reply_text, IsRefusalOf, IsSaidOf}
use Rattle.mi_protocol.specs.ReplyJson.{refusal_data, modify_refusal_data, reply_data}

-- ---- tests

all_at : {A : Type 0} (p : A → Bool) (xs : List A) (i : ℕ) (d : A) → list_all p xs ≡ true → i < length xs → p (slice_index_or xs i d) ≡ true
all_at p [] i d h lt = absurd (omega arith)
all_at p (x ∷ xs) zero d h lt = (and_parts (p x) _ h).0
all_at p (x ∷ xs) (suc i) d h lt = all_at p xs i d (and_parts (p x) _ h).1 (omega arith)

abbrev all_below : (ℕ → Bool) → ℕ → Bool
all_below p zero = true
all_below p (suc n) = p n && all_below p n

last : (i n : ℕ) → i < suc n → (i ≡ n) ⊎ (i < n)
last i n lt = elim (eqb_tells i n) [ inl same ↦ inl same.1 | inr other ↦ inr (let apart : i ≢ n = other.1 in omega arith) ]

below_place : (p : ℕ → Bool) (n i : ℕ) → p n ≡ true → (i < n → p i ≡ true) → (i ≡ n) ⊎ (i < n) → p i ≡ true
below_place p n i here before (inl is) = ap p is ∙ here
below_place p n i here before (inr less) = before less

below_at : (p : ℕ → Bool) (n i : ℕ) → all_below p n ≡ true → i < n → p i ≡ true
below_at p zero i h lt = absurd (omega arith)
below_at p (suc n) i h lt =
    let t = and_parts (p n) (all_below p n) h in
    below_place p n i t.0 (below_at p n i t.1) (last i n lt)

-- ---- names

-- a byte of a name is written as it is
abbrev is_plain : ℕ → Bool
is_plain b = not (continues_name b) || bytes_eq (escape_byte b) (b ∷ [])

all_plain : all_below is_plain 123 ≡ true
unfolding escape_byte
all_plain = refl

small : (b : ℕ) → continues_name b ≡ true → b < 123
small b h = elim (or_cases (starts_name b) (nat_le 48 b && nat_le b 57) h) [
  | inl starts ↦ elim (or_cases (nat_le 97 b && nat_le b 122) (b == 95) starts) [
    | inl letter ↦ let le : b ≤ 122 = leb-true b 122 (and_parts (nat_le 97 b) (nat_le b 122) letter).1 in omega arith
    | inr line ↦ let is : b ≡ 95 = eqb-true b 95 line in omega arith
  ]
  | inr digit ↦ let le : b ≤ 57 = leb-true b 57 (and_parts (nat_le 48 b) (nat_le b 57) digit).1 in omega arith
]

plain_byte : (b : ℕ) → continues_name b ≡ true → escape_byte b ≡ b ∷ []
plain_byte b h = elim (or_cases (not (continues_name b)) (bytes_eq (escape_byte b) (b ∷ [])) (below_at is_plain 123 b all_plain (small b h))) [
  | inl other ↦ absurd (true≢false (sym (sym (ap not h) ∙ other)))
  | inr same ↦ (bytes_eq-Decides (escape_byte b) (b ∷ [])).0 same
]

plain_name : (name : List ℕ) → list_all continues_name name ≡ true → escape name ≡ name
plain_name [] h = refl
plain_name (b ∷ bs) h =
    let p = and_parts (continues_name b) _ h in
    λ i. plain_byte b p.0 i ++ plain_name bs p.1 i

of_name : (name : List ℕ) → is_name name ≡ true → list_all continues_name name ≡ true
of_name [] h = absurd (true≢false (sym h))
of_name (b ∷ bs) h =
    let p = and_parts (starts_name b) (list_all continues_name bs)
    (and_parts (starts_name b && list_all continues_name bs) (nat_le (length (b ∷ bs)) MAX_NAME) h).0 in
    ap (λ t. (t || (nat_le 48 b && nat_le b 57)) && list_all continues_name bs) p.0 ∙ p.1

index_plain : (n : ℕ) (is : List Index) (x : ℕ) (d : Index) → are_indexes n is ≡ true
    → x < length is → list_all continues_name (slice_index_or is x d).name ≡ true
index_plain n [] x d h lt = absurd (omega arith)
index_plain n (i ∷ is) zero d h lt =
    let id : bytes_eq i.name (codes "id") ≡ true = search rules in
    ap (list_all continues_name) ((bytes_eq-Decides i.name (codes "id")).0 id)
index_plain n (i ∷ is) (suc x) d h lt =
    let declared : list_all (is_declared_index n) is ≡ true = search rules in
    let it : is_declared_index n (slice_index_or is x d) ≡ true = all_at (is_declared_index n) is x d declared (omega arith) in
    let name : is_name (slice_index_or is x d).name ≡ true = search rules in
    of_name (slice_index_or is x d).name name

schema_indexes : (s : Shape) → is_schema s ≡ true → are_indexes (length s.columns) s.indexes ≡ true
schema_indexes s h =
    let named = is_name s.table_name && are_columns s.columns in
    (and_parts named (are_indexes (length s.columns) s.indexes) (and_parts (named && are_indexes (length s.columns) s.indexes) (are_numbers s) h).0).1

name_plain : (c : CatalogShape) (n x : ℕ) → is_catalog c ≡ true → n < length c.tables
    → x < length (schema_at c n).indexes → escape (index_name c n x) ≡ index_name c n x
name_plain c n x h there within =
    let schemas : list_all is_schema c.tables ≡ true = search rules in
    let schema : is_schema (schema_at c n) ≡ true = all_at is_schema c.tables n _ schemas there in
    let indexes = schema_indexes (schema_at c n) schema in
    plain_name (index_name c n x) (index_plain _ (schema_at c n).indexes x _ indexes within)

-- ---- texts

-- a conflict's text from the id on, with the name in quotation marks
conflict_is : (id name more : List ℕ) → escape name ≡ name
    → ((id ++ codes ",\"index\":\"") ++ name) ++ (34 ∷ more) ≡ id ++ (codes ",\"index\":\"" ++ ((escape name ++ 34 ∷ []) ++ more))
conflict_is id name more plain =
    append_assoc (id ++ codes ",\"index\":\"") name (34 ∷ more)
    ∙ append_assoc id (codes ",\"index\":\"") (name ++ 34 ∷ more)
    ∙ ap (λ t. id ++ (codes ",\"index\":\"" ++ t)) (ap (λ t. t ++ 34 ∷ more) (sym plain) ∙ sym (append_assoc (escape name) (34 ∷ []) more))

refusal_is : (c : CatalogShape) (n : ℕ) (e : Refusal) → is_catalog c ≡ true → IsRefusalOf c n e → refusal_text c n e ≡ compact_text (refusal_data c n e)
unfolding escape_byte
refusal_is c n (Unique x id) h said =
    ap (λ t. codes "{\"error\":\"unique\",\"id\":" ++ t)
    (conflict_is (decimal id) (index_name c n x) (codes ",\"ok\":false}") (name_plain c n x h said.0 said.1))
refusal_is c n (Lost x id) h said =
    ap (λ t. codes "{\"error\":\"unique\",\"id\":" ++ t)
    (conflict_is (decimal id) (index_name c n x) (codes ",\"lost\":true,\"ok\":false}") (name_plain c n x h said.0 said.1))
refusal_is c n e h said = refl

modify_refusal_is : (c : CatalogShape) (n : ℕ) (e : Refusal) → is_catalog c ≡ true
    → IsRefusalOf c n e → modify_refusal_text c n e ≡ compact_text (modify_refusal_data c n e)
unfolding escape_byte
modify_refusal_is c n (Unique x id) h said =
    ap (λ t. codes "{\"error\":\"unique\",\"id\":" ++ t)
    (conflict_is (decimal id) (index_name c n x) (codes ",\"lost\":false,\"ok\":false}") (name_plain c n x h said.0 said.1))
modify_refusal_is c n e h said = refusal_is c n e h said

three_numbers : (a h b o r e : List ℕ) → ((((a ++ h) ++ b) ++ o) ++ r) ++ e ≡ a ++ (h ++ (b ++ (o ++ (r ++ e))))
three_numbers a h b o r e = simp append_assoc

pub reply_is : (c : CatalogShape) (s : Said) → is_catalog c ≡ true → IsSaidOf c s → reply_text c s ≡ compact_text (reply_data c s)
unfolding escape_byte
reply_is c (inserted id) h said = refl
reply_is c done h said = refl
reply_is c (erased n) h said = refl
reply_is c (shown n id row) h said = refl
reply_is c (revised n) h said = refl
reply_is c (committed n) h said = refl
reply_is c (undone n) h said = refl
reply_is c (pushed n) h said = refl
reply_is c (status depth held revision) h said = ap (λ t. codes "{\"depth\":" ++ t)
    (three_numbers (decimal depth) (codes ",\"held\":") (decimal held) (codes ",\"ok\":true,\"revision\":") (decimal revision) (codes "}"))
reply_is c (counted n) h said = refl
reply_is c (ranked n) h said = refl
reply_is c (sized n) h said = refl
reply_is c (rows n records more) h said = refl
reply_is c (refused_modify n e) h said = modify_refusal_is c n e h said
reply_is c (refused n e) h said = refusal_is c n e h said
