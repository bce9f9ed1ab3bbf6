-- An object that is read member by member is what its text means, and so each flat line is the request of its members.
-- Cited by `flat::flag`, `flat::insert`, `flat::keyed`, `flat::limit`, `flat::list` and 8 more.
use Rattle.std.proofs.Common.{IfSome, option_map, option_and_then, sym, ◌≡◌, ℕ, ◌-◌, List, [], ◌∷◌, ◌++◌, length, Option, Some, None, Ok, IsUtf8, codes, Bool, true, false, cond}
use Rattle.std.proofs.Common.{if◌then◌else◌, ◌&&◌, refl, ap, ap₂, ◌∙◌, subst, arith, append_assoc}
use Rattle.std.specs.List.{list_any}
use Rattle.std.specs.Str.{bytes_eq}
use Rattle.json.specs.Json.{parse_map, read_key, members, value}
use Rattle.json.specs.Lex.{lex, between, punctuate, tokens}
use Rattle.json.specs.Print.{escape, escape_byte}
use Rattle.json.specs.Text.{content}
use Rattle.json.specs.Token.{Token, begin_object, key}
use Rattle.json.specs.Token as token
use Rattle.json.proofs.Grammar.{left, value_is, value-begin_object, read_key-shorter, skip_value-shorter}
use Rattle.serde_json.specs.Data.{Data, boolean, string, object, Items, Members, no_members, put}
use Rattle.serde_json.specs.Find.{get_member, as_str, as_bool, as_array, as_object}
use Rattle.serde_json.specs.Read.{of_json, converted, read}
use Rattle.mi_tokens.proofs.LexemeLemmas.{lex_text}
use Rattle.mi_tokens.proofs.ReadingLemmas.{converted_some, converted-object, member_read, members_over, whole_read}
use Rattle.mi_tokens.specs.Tokens.{tokens_at}
use Rattle.mi_tokens.specs.declared.tokens.Context.TheVariants.{AfterComma}
use Rattle.mi_value.specs.declared.limits.TheConstants.{MAX_PAGE}
use Rattle.mi_request.specs.Commands.{look_up_named, command_named, lower_end, upper_end, if_page, page, form_of, member_names, asked}
use Rattle.mi_request.specs.Flat.{IsRest, IsMember, IsMaybe, IsLast, HasKey, end_object, put_if, put_all, modify_members, range_members, list_members, command_start, named, keyed_members}
use Rattle.mi_request.specs.Json.{has_only, natural, if_there, default_if, option_map₂, option_map₃, option_map₄, option_map₅}
use Rattle.mi_request.specs.Keyed.{key_name, asked_key}
use Rattle.mi_request.specs.Lines.{form_in, request_by, request_in, command_line}
use Rattle.mi_request.specs.declared.request.CommandName.{CommandName}
use Rattle.mi_request.specs.declared.request.CommandName.TheVariants as name
use Rattle.mi_request.specs.declared.keyed.KeyCommand.{KeyCommand}
use Rattle.mi_request.specs.declared.keyed.KeyCommand.TheVariants as keyed
use Rattle.mi_request.specs.declared.request.Bound.{Bound}
use Rattle.mi_request.specs.declared.request.Bound.TheVariants.{Unbounded, Included, Excluded}
use Rattle.mi_request.specs.declared.request.ChangeRequest.TheVariants as change
use Rattle.mi_request.specs.declared.request.KeyLookUpRequest.TheVariants as by_key
use Rattle.mi_request.specs.declared.request.NumberLookUpRequest.TheVariants as by_number
use Rattle.mi_request.specs.declared.request.Request.{Request}
use Rattle.mi_request.specs.declared.request.Request.TheVariants as request
use Rattle.mi_request.proofs.ObjectLemmas.{get_member-put, has_only-put}
use Rattle.mi_request.proofs.ParsingLemmas.{request_found}

-- ---- member by member

pub rest_end : (ts : List Token) (found : Members) → read_key ts ≡ Some (None, []) → IsRest ts found found
rest_end ts found e n enough = members_over (value 126) found n ts [] enough e

pub rest_member : (old new : List Token) (name : List ℕ) (d : Data) (found all : Members) → IsMember old name d new → IsRest new (put name d found) all → IsRest old found all
rest_member old new name d found all m rest n enough =
    let ts = m.0 in
    let is = converted_some of_json (value 126 ts) d new m.2 in
    let less = read_key-shorter old (Some name) ts m.1 in
    let lesser = skip_value-shorter 126 ts new (ap left is.1) in
    member_read (value 126) found n name old ts new d (omega (arith, enough, less)) m.1 m.2 ∙ rest (n - 1) (omega (arith, enough, less, lesser))

pub rest_last : (old : List Token) (name : List ℕ) (d : Data) (found : Members) → IsLast old name d → IsRest old found (put name d found)
rest_last old name d found m = rest_member old m.0 name d found (put name d found) m.1 (rest_end m.0 (put name d found) m.2)

pub rest_maybe : (old new : List Token) (name : List ℕ) (o : Option Data) (found all : Members) → IsMaybe old name o new → IsRest new (put_if name o found) all → IsRest old found all
rest_maybe old new name None found all same rest = subst (λ ts. IsRest ts found all) same rest
rest_maybe old new name (Some d) found all m rest = rest_member old new name d found all m rest

-- a value that is a whole number from 0
pub natural_found : (r : Option ℕ) (d : Data) (old new : List Token) → converted of_json (value 126 old) ≡ Some (d, new) → r ≡ natural d
    → IfSome r (λ n. (x : Data) × (converted of_json (value 126 old) ≡ Some (x, new)) × (natural x ≡ Some n))
natural_found None d old new m e = tt
natural_found (Some n) d old new m e = (d, m, sym e)

-- the same of a member
pub whole_found : (r : Option ℕ) (old ts new : List Token) (name : List ℕ) → read_key old ≡ Some (Some name, ts)
    → IfSome r (λ n. (d : Data) × (converted of_json (value 126 ts) ≡ Some (d, new)) × (natural d ≡ Some n))
    → IfSome r (λ n. (d : Data) × IsMember old name d new × (natural d ≡ Some n))
whole_found None old ts new name first h = tt
whole_found (Some n) old ts new name first h = (h.0, (ts, first, h.1), h.2)

-- the same of a number of rows
pub page_found : (r : Option ℕ) (n : ℕ) (d : Data) (old new : List Token) → IsMember old (codes "limit") d new → natural d ≡ Some n → r ≡ if_page n
    → IfSome r (λ k. (o : Option Data) × IsMaybe old (codes "limit") o new × (default_if MAX_PAGE page o ≡ Some k))
page_found None n d old new m is e = tt
page_found (Some k) n d old new m is e = (Some d, m, ap (option_and_then if_page) is ∙ sym e)

-- a truth value
pub bool_found : (r : Option Bool) (old ts new : List Token) (name : List ℕ) → read_key old ≡ Some (Some name, ts) → IfSome r (λ b. ts ≡ token.boolean b ∷ new)
    → IfSome r (λ b. (o : Option Data) × IsMaybe old name o new × (default_if false as_bool o ≡ Some b))
bool_found None old ts new name first h = tt
bool_found (Some b) old ts new name first h = (Some (boolean b), (ts, first, ap (converted of_json) (ap (value 126) h ∙ value_is 126 _)), refl)

-- an end of a range
lower_is : (e : Bound) → HasKey e → lower_end (end_object (codes "ge") (codes "gt") e) ≡ Some e
unfolding has_only
lower_is Unbounded h = absurd h
lower_is (Included ks) h = refl
lower_is (Excluded ks) h = refl

upper_is : (e : Bound) → HasKey e → upper_end (end_object (codes "le") (codes "lt") e) ≡ Some e
unfolding has_only
upper_is Unbounded h = absurd h
upper_is (Included ks) h = refl
upper_is (Excluded ks) h = refl

pub lower_found : (r : Option Bound) (old ts new : List Token) → read_key old ≡ Some (Some (codes "lower"), ts)
    → IfSome r (λ e. HasKey e × (converted of_json (value 126 ts) ≡ Some (end_object (codes "ge") (codes "gt") e, new)))
    → IfSome r (λ e. (o : Option Data) × IsMaybe old (codes "lower") o new × (default_if Unbounded lower_end o ≡ Some e))
lower_found None old ts new first h = tt
lower_found (Some e) old ts new first h = (Some (end_object (codes "ge") (codes "gt") e), (ts, first, h.1), lower_is e h.0)

pub upper_found : (r : Option Bound) (old ts new : List Token) → read_key old ≡ Some (Some (codes "upper"), ts)
    → IfSome r (λ e. HasKey e × (converted of_json (value 126 ts) ≡ Some (end_object (codes "le") (codes "lt") e, new)))
    → IfSome r (λ e. (o : Option Data) × IsMaybe old (codes "upper") o new × (default_if Unbounded upper_end o ≡ Some e))
upper_found None old ts new first h = tt
upper_found (Some e) old ts new first h = (Some (end_object (codes "le") (codes "lt") e), (ts, first, h.1), upper_is e h.0)

-- an object of one member
pub one_member : (name : List ℕ) (s t u v w : List Token) (d : Data) → s ≡ begin_object ∷ t → read_key t ≡ Some (Some name, u) → converted of_json (value 125 u) ≡ Some (d, v)
    → read_key v ≡ Some (None, w) → converted of_json (value 126 s) ≡ Some (object (put name d no_members), w)
one_member name s t u v w d opens first inside closes =
    let p = value 125 in
    let is = converted_some of_json (p u) d v inside in
    let less = read_key-shorter t (Some name) u first in
    let lesser = skip_value-shorter 125 u v (ap left is.1) in
    ap (converted of_json) (ap (value 126) opens ∙ value-begin_object 126 t (omega arith)) ∙ converted-object (members p (length t) t)
    ∙ ap (parse_map object) (member_read p no_members (length t) name t u v d (omega (arith, less)) first inside
    ∙ members_over p (put name d no_members) (length t - 1) v w (omega (arith, less, lesser)) closes)

-- ---- the whole line

start_tokens : (command rest : List ℕ) → escape command ≡ command
    → tokens (command_start command ++ rest) ≡ begin_object ∷ key (codes "cmd") ∷ token.string command ∷ tokens_at AfterComma rest
unfolding lex punctuate content
start_tokens command rest plain =
    ap (λ l. tokens (codes "{\"cmd\":" ++ (34 ∷ l))) (append_assoc command (34 ∷ (44 ∷ [])) rest)
    ∙ ap (λ ls. begin_object ∷ key (codes "cmd") ∷ punctuate Rattle.json.specs.Lex.fresh ls) (lex_text command (44 ∷ rest) plain)

pub line_reads : (command text rest : List ℕ) (all : Members) → escape command ≡ command → text ≡ command_start command ++ rest
    → IsRest (tokens_at AfterComma rest) (named command) all → read text ≡ Some (object all)
line_reads command text rest all plain is others =
    let ts = tokens_at AfterComma rest in
    let first = token.string command ∷ ts in
    let every = key (codes "cmd") ∷ first in
    let cmd : converted of_json (value 126 first) ≡ Some (string command, ts) = ap (converted of_json) (value_is 126 first) in
    let inside = rest_member every ts (codes "cmd") (string command) no_members all (first, refl, cmd) others in
    whole_read (value 127 (tokens text)) (object all)
    (ap (converted of_json) (ap (value 127) (ap tokens is ∙ start_tokens command rest plain) ∙ value-begin_object 127 every (omega arith))
    ∙ converted-object (members (value 126) (length every) every) ∙ ap (parse_map object) (inside (length every) (omega arith)))

pub line_means : (command text rest : List ℕ) (all : Members) (r : Request) → escape command ≡ command → text ≡ command_start command ++ rest → IsUtf8 text
    → IsRest (tokens_at AfterComma rest) (named command) all → request_in all ≡ Some r → command_line text ≡ Ok r
line_means command text rest all r plain is utf8 others asked = request_found text (object all) r utf8 (line_reads command text rest all plain is others) asked

-- what stands behind the front and the table tells the request of the line
pub line_from : (command text : List ℕ) (old new : List Token) (t : Option Data) (all : Members) (r : Request) → escape command ≡ command → IsUtf8 text
    → ((rest : List ℕ) × (text ≡ command_start command ++ rest) × (old ≡ tokens_at AfterComma rest)) → IsMaybe old (codes "table") t new
    → IsRest new (put_if (codes "table") t (named command)) all → request_in all ≡ Some r → command_line text ≡ Ok r
line_from command text old new t all r plain utf8 begun table rest asked =
    line_means command text begun.0 all r plain begun.1 utf8
    (subst (λ ts. IsRest ts (named command) all) begun.2 (rest_maybe old new (codes "table") t (named command) all table rest)) asked

-- ---- what each command asks

two : {A B C : Type 0} (f : A → B → C) (a : Option A) (b : Option B) (x : A) (y : B) → a ≡ Some x → b ≡ Some y → option_map₂ f a b ≡ Some (f x y)
two f a b x y p q = rw (p, q) refl

pub key_plain : (k : KeyCommand) → escape (key_name k) ≡ key_name k
unfolding escape_byte
key_plain keyed.EraseKey = refl
key_plain keyed.Find = refl
key_plain keyed.Count = refl
key_plain keyed.LowerRank = refl
key_plain keyed.UpperRank = refl

keyed_is : {C : Type 0} (make : Option (List ℕ) → C → Request) (f : List ℕ → Items → C) (t : Option (Option (List ℕ))) (i : Option (List ℕ)) (k : Option Items)
    (table : Option (List ℕ)) (index : List ℕ) (ks : Items) → t ≡ Some table → i ≡ Some index → k ≡ Some ks
    → option_map₂ make t (option_map₂ f i k) ≡ Some (make table (f index ks))
keyed_is make f t i k table index ks p q r = two make t _ table (f index ks) p (two f i k index ks q r)

pub key_asked : (c : KeyCommand) (t : Option Data) (i k : Data) (table : Option (List ℕ)) (index : List ℕ) (ks : Items) → if_there as_str t ≡ Some table
    → as_str i ≡ Some index → as_array k ≡ Some ks → request_in (keyed_members (key_name c) t i k) ≡ Some (asked_key c table index ks)
unfolding has_only look_up_named
key_asked keyed.EraseKey None i k table index ks p q r = keyed_is request.Change change.EraseKey _ _ _ table index ks p q r
key_asked keyed.EraseKey (Some t) i k table index ks p q r = keyed_is request.Change change.EraseKey _ _ _ table index ks p q r
key_asked keyed.Find None i k table index ks p q r = keyed_is request.KeyLookUp by_key.Find _ _ _ table index ks p q r
key_asked keyed.Find (Some t) i k table index ks p q r = keyed_is request.KeyLookUp by_key.Find _ _ _ table index ks p q r
key_asked keyed.Count None i k table index ks p q r = keyed_is request.KeyLookUp by_key.Count _ _ _ table index ks p q r
key_asked keyed.Count (Some t) i k table index ks p q r = keyed_is request.KeyLookUp by_key.Count _ _ _ table index ks p q r
key_asked keyed.LowerRank None i k table index ks p q r = keyed_is request.KeyLookUp by_key.LowerRank _ _ _ table index ks p q r
key_asked keyed.LowerRank (Some t) i k table index ks p q r = keyed_is request.KeyLookUp by_key.LowerRank _ _ _ table index ks p q r
key_asked keyed.UpperRank None i k table index ks p q r = keyed_is request.KeyLookUp by_key.UpperRank _ _ _ table index ks p q r
key_asked keyed.UpperRank (Some t) i k table index ks p q r = keyed_is request.KeyLookUp by_key.UpperRank _ _ _ table index ks p q r

pub insert_asked : (t : Option Data) (d : Data) (table : Option (List ℕ)) (row : Members) → if_there as_str t ≡ Some table → as_object d ≡ Some row
    → request_in (put (codes "row") d (put_if (codes "table") t (named (codes "insert")))) ≡ Some (request.Change table (change.Insert row None))
unfolding has_only
insert_asked None d table row p q = two request.Change _ _ table (change.Insert row None) p (two change.Insert _ _ row None q refl)
insert_asked (Some t) d table row p q = two request.Change _ _ table (change.Insert row None) p (two change.Insert _ _ row None q refl)

pub replace_asked : (t : Option Data) (i d : Data) (table : Option (List ℕ)) (id : ℕ) (row : Members) → if_there as_str t ≡ Some table → natural i ≡ Some id
    → as_object d ≡ Some row
    → request_in (put (codes "row") d (put (codes "id") i (put_if (codes "table") t (named (codes "replace"))))) ≡ Some (request.Change table (change.Replace id row))
unfolding has_only
replace_asked None i d table id row p q r = two request.Change _ _ table (change.Replace id row) p (two change.Replace _ _ id row q r)
replace_asked (Some t) i d table id row p q r = two request.Change _ _ table (change.Replace id row) p (two change.Replace _ _ id row q r)

-- ---- members that may each be absent

abbrev or_else : Option Data → Option Data → Option Data
or_else None b = b
or_else (Some d) b = Some d

or_none : (o : Option Data) → or_else o None ≡ o
or_none None = refl
or_none (Some d) = refl

-- what one of a name is
abbrev found : List ℕ → List (List ℕ × Option Data) → Option Data → Option Data
found name [] last = last
found name (x ∷ xs) last = cond (bytes_eq name x.0) (or_else x.1 (found name xs last)) (found name xs last)

got_if : (name k : List ℕ) (o : Option Data) (ms : Members)
    → get_member name (put_if k o ms) ≡ cond (bytes_eq name k) (or_else o (get_member name ms)) (get_member name ms)
got_if name k None ms = same (bytes_eq name k)
  where
    same : (b : Bool) → get_member name ms ≡ cond b (get_member name ms) (get_member name ms)
    same true = refl
    same false = refl
got_if name k (Some d) ms = get_member-put name k d ms

got : (name : List ℕ) (xs : List (List ℕ × Option Data)) (ms : Members) → get_member name (put_all xs ms) ≡ found name xs (get_member name ms)
got name [] ms = refl
got name (x ∷ xs) ms =
    got_if name x.0 x.1 (put_all xs ms) ∙ ap (λ o. cond (bytes_eq name x.0) (or_else x.1 o) o) (got name xs ms)

-- whether all have these names
abbrev are_of : List (List ℕ) → List (List ℕ × Option Data) → Bool
are_of names [] = true
are_of names (x ∷ xs) = list_any (λ n. bytes_eq x.0 n) names && are_of names xs

of_names : (names : List (List ℕ)) (k : List ℕ) (o : Option Data) (ms : Members) → list_any (λ n. bytes_eq k n) names ≡ true → has_only names ms ≡ true
    → has_only names (put_if k o ms) ≡ true
of_names names k None ms own others = others
of_names names k (Some d) ms own others = has_only-put names k d ms ∙ ap₂ (λ a b. a && b) own others

both : (a b : Bool) → (a && b) ≡ true → (a ≡ true) × (b ≡ true)
both true true e = (refl, refl)
both true false e = absurd (cc)
both false b e = absurd (cc)

all_of_names : (names : List (List ℕ)) (xs : List (List ℕ × Option Data)) (ms : Members) → are_of names xs ≡ true → has_only names ms ≡ true
    → has_only names (put_all xs ms) ≡ true
all_of_names names [] ms e others = others
all_of_names names (x ∷ xs) ms e others =
    let p = both _ (are_of names xs) e in
    of_names names x.0 x.1 (put_all xs ms) p.0 (all_of_names names xs ms p.1 others)

-- the request of members that have the names of a form alone
by_form : (n : CommandName) (command : List ℕ) (xs : List (List ℕ × Option Data)) → found (codes "cmd") xs (get_member (codes "cmd") (named command)) ≡ Some (string command)
    → command_named command ≡ Some n → are_of (codes "cmd" ∷ member_names (form_of n)) xs ≡ true → has_only (codes "cmd" ∷ member_names (form_of n)) (named command) ≡ true
    → request_in (put_all xs (named command)) ≡ asked (form_of n).asks (put_all xs (named command))
by_form n command xs first is names cmd_too =
    let ms = named command in
    let all = put_all xs ms in
    let form = form_of n in
    let cmd : form_in all ≡ Some form =
    ap (λ o. option_map form_of (option_and_then command_named (option_and_then as_str o))) (got (codes "cmd") xs ms ∙ first) ∙ ap (option_map form_of) is in
    ap (option_and_then (request_by all)) cmd
    ∙ ap (λ y. if y then asked form.asks all else None) (all_of_names (codes "cmd" ∷ member_names form) xs ms names cmd_too)

modified : (t : Option (Option (List ℕ))) (i : Option ℕ) (s a : Option Members) (r : Option Bool) (table : Option (List ℕ)) (id : ℕ) (set add : Members) (rollback : Bool)
    → t ≡ Some table → i ≡ Some id → s ≡ Some set → a ≡ Some add → r ≡ Some rollback
    → option_map₂ request.Change t (option_map₄ change.Modify i s a r) ≡ Some (request.Change table (change.Modify id set add rollback))
modified t i s a r table id set add rollback p q b c d = rw (p, q, b, c, d) refl

pub modify_asked : (t : Option Data) (i : Data) (s a r : Option Data) (table : Option (List ℕ)) (id : ℕ) (set add : Members) (rollback : Bool)
    → if_there as_str t ≡ Some table → natural i ≡ Some id → default_if no_members as_object s ≡ Some set → default_if no_members as_object a ≡ Some add
    → default_if false as_bool r ≡ Some rollback
    → request_in (put_all (modify_members t i s a r) (named (codes "modify"))) ≡ Some (request.Change table (change.Modify id set add rollback))
unfolding has_only
modify_asked t i s a r table id set add rollback p q b c d =
    let xs = modify_members t i s a r in
    let ms = named (codes "modify") in
    by_form name.Modify (codes "modify") xs refl refl refl refl
    ∙ modified _ _ _ _ _ table id set add rollback
    (ap (if_there as_str) (got (codes "table") xs ms ∙ or_none t) ∙ p)
    (ap (option_and_then natural) (got (codes "id") xs ms) ∙ q)
    (ap (default_if no_members as_object) (got (codes "set") xs ms ∙ or_none s) ∙ b)
    (ap (default_if no_members as_object) (got (codes "add") xs ms ∙ or_none a) ∙ c)
    (ap (default_if false as_bool) (got (codes "rollback") xs ms ∙ or_none r) ∙ d)

ranged : (t : Option (Option (List ℕ))) (i : Option (List ℕ)) (l u : Option Bound) (r : Option Bool) (m : Option ℕ) (table : Option (List ℕ)) (index : List ℕ)
    (lower upper : Bound) (reverse : Bool) (limit : ℕ) → t ≡ Some table → i ≡ Some index → l ≡ Some lower → u ≡ Some upper → r ≡ Some reverse → m ≡ Some limit
    → option_map₂ request.KeyLookUp t (option_map₅ by_key.Range i l u r m) ≡ Some (request.KeyLookUp table (by_key.Range index lower upper reverse limit))
ranged t i l u r m table index lower upper reverse limit p q a b c d = rw (p, q, a, b, c, d) refl

pub range_asked : (t : Option Data) (i : Data) (l u r m : Option Data) (table : Option (List ℕ)) (index : List ℕ) (lower upper : Bound) (reverse : Bool) (limit : ℕ)
    → if_there as_str t ≡ Some table → as_str i ≡ Some index → default_if Unbounded lower_end l ≡ Some lower → default_if Unbounded upper_end u ≡ Some upper
    → default_if false as_bool r ≡ Some reverse → default_if MAX_PAGE page m ≡ Some limit
    → request_in (put_all (range_members t i l u r m) (named (codes "range"))) ≡ Some (request.KeyLookUp table (by_key.Range index lower upper reverse limit))
unfolding has_only look_up_named
range_asked t i l u r m table index lower upper reverse limit p q a b c d =
    let xs = range_members t i l u r m in
    let ms = named (codes "range") in
    by_form name.Range (codes "range") xs refl refl refl refl
    ∙ ranged _ _ _ _ _ _ table index lower upper reverse limit
    (ap (if_there as_str) (got (codes "table") xs ms ∙ or_none t) ∙ p)
    (ap (option_and_then as_str) (got (codes "index") xs ms) ∙ q)
    (ap (default_if Unbounded lower_end) (got (codes "lower") xs ms ∙ or_none l) ∙ a)
    (ap (default_if Unbounded upper_end) (got (codes "upper") xs ms ∙ or_none u) ∙ b)
    (ap (default_if false as_bool) (got (codes "reverse") xs ms ∙ or_none r) ∙ c)
    (ap (default_if MAX_PAGE page) (got (codes "limit") xs ms ∙ or_none m) ∙ d)

listed : (t : Option (Option (List ℕ))) (i : Option (List ℕ)) (a : Option (Option ℕ)) (m : Option ℕ) (table : Option (List ℕ)) (index : List ℕ) (after : Option ℕ) (limit : ℕ)
    → t ≡ Some table → i ≡ Some index → a ≡ Some after → m ≡ Some limit
    → option_map₂ request.NumberLookUp t (option_map₃ by_number.List i a m) ≡ Some (request.NumberLookUp table (by_number.List index after limit))
listed t i a m table index after limit p q b c = rw (p, q, b, c) refl

pub list_asked : (t : Option Data) (i : Data) (a m : Option Data) (table : Option (List ℕ)) (index : List ℕ) (after : Option ℕ) (limit : ℕ)
    → if_there as_str t ≡ Some table → as_str i ≡ Some index → if_there natural a ≡ Some after → default_if MAX_PAGE page m ≡ Some limit
    → request_in (put_all (list_members t i a m) (named (codes "list"))) ≡ Some (request.NumberLookUp table (by_number.List index after limit))
unfolding has_only look_up_named
list_asked t i a m table index after limit p q b c =
    let xs = list_members t i a m in
    let ms = named (codes "list") in
    by_form name.List (codes "list") xs refl refl refl refl
    ∙ listed _ _ _ _ table index after limit
    (ap (if_there as_str) (got (codes "table") xs ms ∙ or_none t) ∙ p)
    (ap (option_and_then as_str) (got (codes "index") xs ms) ∙ q)
    (ap (if_there natural) (got (codes "after") xs ms ∙ or_none a) ∙ b)
    (ap (default_if MAX_PAGE page) (got (codes "limit") xs ms ∙ or_none m) ∙ c)
