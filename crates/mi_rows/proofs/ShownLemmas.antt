-- Rows that are lent to the writer.
-- Cited by `rows::put_one`, `rows::put_page`, `shown::find_place`, `shown::row_by_tokens`, `shown::row_order` and 2 more.
use Rattle.std.proofs.Common.{◌≡◌, ◌+◌, ◌<◌, ℕ, zero, suc, Some, None, slice_get, Bool, true, false, Result, Ok, Err}
use Rattle.std.specs.Prelude.{IfOk}
use Rattle.std.proofs.Common.{codes, List, [], ◌∷◌, ◌++◌, length, take, drop, get_or, slice_set, slice_index_or, unwrap_or}
use Rattle.std.proofs.Common.{Ordering, Less, Equal, Greater, nat_cmp, refl, sym, ap, ap₂, ◌∙◌, append_assoc}
use Rattle.std.proofs.lemmas.List.{take-append-drop, take-set, drop-set, drop_more, get_or_default}
use Rattle.std.specs.Ordering.{match_ordering}
use Rattle.std.specs.Cmp.Lexicographic.{slice_cmp}
use Rattle.json.specs.Token.{Token}
use Rattle.json.specs.Print.{print, escape_byte}
use Rattle.json.specs.Tree.{json_tokens}
use Rattle.serde_json.specs.Data.{Data, null, boolean, array, object, Items, Members, no_members, member, put}
use Rattle.serde_json.specs.Written.{outline, compact_text, items_text}
use Rattle.serde_json.proofs.Texts.{print-outline}
use Rattle.mi_value.specs.declared.value.Value.{Value}
use Rattle.mi_catalog.specs.declared.index.Column.{Column}
use Rattle.mi_rows.specs.Rows.{value_data, with_values}
use Rattle.mi_rows.specs.Shown.{first_data, source_data, shown_members, with_member, rows_front}
use Rattle.mi_rows.specs.declared.shown.Member.{Member}

some_same : (v w : Value) → Some v ≡ Some w → v ≡ w
some_same v w is = ap (λ o. unwrap_or o v) is

-- the first of the values that are left is the value that stands there
pub data_there : (vs : List Value) (i : ℕ) (v : Value) → Some v ≡ slice_get vs i → first_data (drop i vs) ≡ value_data v
data_there [] i v is = absurd (cc)
data_there (w ∷ vs) zero v is = ap value_data (sym (some_same v w is))
data_there (w ∷ vs) (suc i) v is = data_there vs i v is

pub data_missing : (vs : List Value) (i : ℕ) → None ≡ slice_get vs i → first_data (drop i vs) ≡ null
data_missing [] zero is = refl
data_missing [] (suc i) is = refl
data_missing (w ∷ vs) zero is = absurd (cc)
data_missing (w ∷ vs) (suc i) is = data_missing vs i is

by_order : (id : ℕ) (vs : List Value) (o : Ordering) (a b c : List Member)
    → shown_members id vs (match_ordering o a b c) ≡ match_ordering o (shown_members id vs a) (shown_members id vs b) (shown_members id vs c)
by_order id vs Less a b c = refl
by_order id vs Equal a b c = refl
by_order id vs Greater a b c = refl

-- a member that is added is put
pub shown_members-with_member : (id : ℕ) (vs : List Value) (m : Member) (ns : List Member)
    → shown_members id vs (with_member m ns) ≡ put m.name.now (source_data id vs m.source) (shown_members id vs ns)
shown_members-with_member id vs m [] = refl
shown_members-with_member id vs m (n ∷ ns) =
    let taken : Member = record n { source = m.source } in
    by_order id vs (slice_cmp nat_cmp m.name.now n.name.now) (m ∷ n ∷ ns) (taken ∷ ns) (n ∷ with_member m ns)
    ∙ ap (match_ordering (slice_cmp nat_cmp m.name.now n.name.now) (shown_members id vs (m ∷ n ∷ ns)) (shown_members id vs (taken ∷ ns)))
    (ap (member n.name.now (source_data id vs n.source)) (shown_members-with_member id vs m ns))

-- one element in place of another
slice_set-parts : {X : Type 0} (xs : List X) (i : ℕ) (y : X) → i < length xs → slice_set xs i y ≡ take i xs ++ y ∷ drop (i + 1) xs
slice_set-parts xs i y within =
    sym (take-append-drop i (slice_set xs i y)) ∙ ap₂ (λ front rest. front ++ rest) (take-set xs i y) (drop-set xs i y within)

-- a member that has the name of the one at i takes its place
pub with_member-same : (m : Member) (ns : List Member) (i : ℕ) (d : Member) → i < length ns → with_member m ns ≡ take i ns ++ with_member m (drop i ns)
    → Equal ≡ slice_cmp nat_cmp m.name.now (get_or ns i d).name.now
    → with_member m ns ≡ slice_set ns i (record (slice_index_or ns i m) { source = m.source })
with_member-same m ns i d within behind same =
    let n = get_or ns i m in
    let rest = drop (i + 1) ns in
    let taken = record n { source = m.source } in
    let there : drop i ns ≡ n ∷ rest = drop_more ns i m within in
    let equal : slice_cmp nat_cmp m.name.now n.name.now ≡ Equal =
    sym (same ∙ ap (λ (e : Member). slice_cmp nat_cmp m.name.now e.name.now) (get_or_default ns i d m within)) in
    let takes : with_member m (n ∷ rest) ≡ taken ∷ rest = ap (λ o. match_ordering o (m ∷ n ∷ rest) (taken ∷ rest) (n ∷ with_member m rest)) equal in
    behind ∙ ap (λ es. take i ns ++ with_member m es) there ∙ ap (λ es. take i ns ++ es) takes ∙ sym (slice_set-parts ns i taken within)

-- columns behind those that have values show nothing
pub with_values-known : (cs : List Column) (vs : List Value) (ms : Members) → with_values (take (length vs) cs) vs ms ≡ with_values cs vs ms
with_values-known [] [] ms = refl
with_values-known [] (v ∷ vs) ms = refl
with_values-known (c ∷ cs) [] ms = refl
with_values-known (c ∷ cs) (v ∷ vs) ms = with_values-known cs vs (put c.name (value_data v) ms)

-- ---- texts

-- a value that is written by itself
pub text_alone : (d : Data) (ts : List Token) (before text : List ℕ) → before ≡ [] → ts ≡ json_tokens (outline d) → text ≡ before ++ print ts
    → text ≡ compact_text d
text_alone d ts before text begun tokens written = written ∙ ap₂ (λ b t. b ++ t) begun (ap print tokens ∙ print-outline d)

-- what a call answers where it answers
pub if_ok-weaker : {X Y : Type 0} (r : Result X Y) (P Q : X → Type 0) → ((x : X) → P x → Q x) → IfOk r P → IfOk r Q
if_ok-weaker (Ok x) P Q f h = f x h
if_ok-weaker (Err e) P Q f h = tt

-- a text behind others, between a front and an end
pub text_between : (old front body back one two three : List ℕ) → one ≡ old ++ front → two ≡ one ++ body → three ≡ two ++ back
    → three ≡ old ++ ((front ++ body) ++ back)
text_between old front body back one two three begun added closed =
    closed ∙ ap (λ t. t ++ back) (added ∙ ap (λ t. t ++ body) begun ∙ append_assoc old front body) ∙ append_assoc old (front ++ body) back

-- the same where the end begins with a byte that is a part of the text
pub items_between : (old front body one two three : List ℕ) (b : ℕ) (back : List ℕ) → one ≡ old ++ front → two ++ b ∷ [] ≡ one ++ body
    → three ≡ two ++ b ∷ back → three ≡ old ++ ((front ++ body) ++ back)
items_between old front body one two three b back begun added closed =
    closed ∙ sym (append_assoc two (b ∷ []) back)
    ∙ ap (λ t. t ++ back) (added ∙ ap (λ t. t ++ body) begun ∙ append_assoc old front body) ∙ append_assoc old (front ++ body) back

pub row_reply : (d : Data) → (codes "{\"ok\":true,\"row\":" ++ compact_text d) ++ codes "}"
    ≡ compact_text (object (member (codes "ok") (boolean true) (member (codes "row") d no_members)))
unfolding escape_byte
row_reply d = refl

pub rows_reply : (more : Bool) (ds : Items) → (rows_front more ++ items_text false ds) ++ codes "}"
    ≡ compact_text (object (member (codes "more") (boolean more) (member (codes "ok") (boolean true) (member (codes "rows") (array ds) no_members))))
unfolding escape_byte
rows_reply true ds = refl
rows_reply false ds = refl
