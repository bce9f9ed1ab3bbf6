-- A short line means its request, and each is found.
-- Cited by `LineReader::parse`, `LineReader::read`, `ShortRequest::of`, 2 more, `mi_clients`, `mi_commands` and `mi_replay`.
use Rattle.std.proofs.Common.{◌≡◌, ℕ, zero, suc, ◌^◌, ◌<◌, ◌≤◌, length, subst, List, [], ◌∷◌, ◌++◌, Bool, true, false, cond, ◌&&◌, ◌==◌, Option, Some, None, is_some, option_map, option_and_then}
use Rattle.std.proofs.Common.{Result, Ok, Err, IsUtf8, codes, decimal, nat_lt, get_or, refl, sym, ap, ap₂, ◌∙◌, ◌⊎◌, inl, inr, arith, ltb-true, append_assoc, ne_eqb}
use Rattle.std.proofs.lemmas.Option.{none-some, same_Some, cond_some}
use Rattle.std.proofs.lemmas.Bool.{and_parts}
use Rattle.std.proofs.lemmas.Fmt.{IsAscii-decimal}
use Rattle.std.proofs.lemmas.Str.{IsUtf8-append, IsUtf8-from_ascii}
use Rattle.std.specs.Option.{ok_or}
use Rattle.std.specs.Str.{is_utf8, chars}
use Rattle.json.specs.Token.{Token, begin_object, end_object, key, string, number}
use Rattle.json.specs.Json as json
use Rattle.json.specs.Json.{items, members, value, if_last, parse_map}
use Rattle.json.specs.Lex.{tokens}
use Rattle.json.specs.Print.{print, print_from, escape, escape_byte, ArePrintable}
use Rattle.json.proofs.Printed.Decimals.{IsNumber-decimal}
use Rattle.json.proofs.Printed.Strings.{escape_byte_plain}
use Rattle.json.proofs.Printed.Tokens.{tokens-print}
use Rattle.json.proofs.Printed.Utf8.{IsUtf8-are_ascii}
use Rattle.serde_json.specs.Data as value_of
use Rattle.serde_json.specs.Data.{Data, unsigned, Members, no_members, put}
use Rattle.serde_json.specs.Read.{of_json, of_members, read}
use Rattle.serde_json.proofs.Numbers.{number_of-decimal}
use Rattle.serde_json.proofs.OnLiterals.{serde_json_on_literals}
use Rattle.mi_value.specs.declared.refusal.Refusal.{Refusal}
use Rattle.mi_value.specs.declared.refusal.Refusal.TheVariants.{Form}
use Rattle.std.specs.Prelude.{bytes_eq, IfSome}
use Rattle.std.proofs.lemmas.Slice.Eq.{bytes_eq-Decides}
use Rattle.mi_request.specs.NullaryCommand.{asked_nullary, nullary_of, nullary_name, nullary_text, nullary_named, nullary_line, nullary_commands, first_with}
use Rattle.mi_request.specs.Commands.{look_up_named, step_named}
use Rattle.mi_request.specs.Json.{has_only}
use Rattle.mi_request.specs.Lines.{request_of, request_or_refusal, command_line}
use Rattle.mi_request.specs.Short.{name, maybe_name, whole, maybe_whole, Member, is_name_byte, are_name_bytes, is_word, are_words, name_front, whole_front}
use Rattle.mi_request.specs.Short.{members_text, command_front, line_text, table_is, index_is, id_is, written, short_line, asked_short}
use Rattle.mi_request.specs.ShortCode.{IsRead, a_name, perhaps_name, a_whole, perhaps_whole}
use Rattle.mi_request.specs.declared.nullary_command.NullaryCommand.{NullaryCommand}
use Rattle.mi_request.specs.declared.nullary_command.NullaryCommand.TheVariants as nullary_command
use Rattle.mi_request.specs.declared.request.ChangeRequest.{ChangeRequest}
use Rattle.mi_request.specs.declared.request.ChangeRequest.TheVariants as change
use Rattle.mi_request.specs.declared.request.NumberLookUpRequest.TheVariants as by_number
use Rattle.mi_request.specs.declared.request.Request.{Request}
use Rattle.mi_request.specs.declared.request.Request.TheVariants as request
use Rattle.mi_request.specs.declared.request.SessionCommand.{SessionCommand}
use Rattle.mi_request.specs.declared.request.SessionCommand.TheVariants as session
use Rattle.mi_request.specs.declared.request.ShortRequest.{ShortRequest}
use Rattle.mi_request.specs.declared.request.ShortRequest.TheVariants as short
use Rattle.mi_request.proofs.ParsingLemmas.{json-found}
use Rattle.mi_request.proofs.WordLemmas.{name_byte, utf8_name, line-read}

-- ---- the tokens of a line

abbrev tokens_of : List Member → List Token
tokens_of [] = end_object ∷ []
tokens_of ((m, name s) ∷ ms) = key m ∷ (string s ∷ tokens_of ms)
tokens_of ((m, maybe_name None) ∷ ms) = tokens_of ms
tokens_of ((m, maybe_name (Some s)) ∷ ms) = key m ∷ (string s ∷ tokens_of ms)
tokens_of ((m, whole n) ∷ ms) = key m ∷ (number (decimal n) ∷ tokens_of ms)
tokens_of ((m, maybe_whole None) ∷ ms) = tokens_of ms
tokens_of ((m, maybe_whole (Some n)) ∷ ms) = key m ∷ (number (decimal n) ∷ tokens_of ms)

abbrev line_tokens : List ℕ → List Member → List Token
line_tokens c ms = begin_object ∷ (key (codes "cmd") ∷ (string c ∷ tokens_of ms))

-- the members have names without escapes
abbrev are_named : List Member → Bool
are_named [] = true
are_named (m ∷ ms) = are_name_bytes m.0 && are_named ms

pub escape_name : (s : List ℕ) → are_name_bytes s ≡ true → escape s ≡ s
escape_name [] all = refl
escape_name (x ∷ s) all =
    let p = and_parts (is_name_byte x) (are_name_bytes s) all in
    let byte = name_byte x p.0 in
    ap₂ (λ a b. a ++ b) (escape_byte_plain x (λ e. omega (arith, byte.0, e)) byte.2 (omega (arith, byte.0))) (escape_name s p.1)

colon_joined : (m rest : List ℕ) → ((m ++ (34 ∷ [])) ++ (58 ∷ [])) ++ rest ≡ m ++ (34 ∷ (58 ∷ rest))
colon_joined m rest = append_assoc (m ++ (34 ∷ [])) (58 ∷ []) rest ∙ append_assoc m (34 ∷ []) (58 ∷ rest)

printed_name : (m s : List ℕ) (ms : List Member) → are_name_bytes m ≡ true → are_name_bytes s ≡ true → print_from true (tokens_of ms) ≡ members_text ms
    → print_from true (key m ∷ (string s ∷ tokens_of ms)) ≡ name_front m ++ (s ++ (34 ∷ members_text ms))
unfolding print_from
printed_name m s ms named word rest =
    rw (escape_name m named, escape_name s word, rest)
    (ap (λ l. 44 ∷ (34 ∷ l)) (colon_joined m (34 ∷ ((s ++ (34 ∷ [])) ++ members_text ms))
    ∙ ap (λ l. m ++ (34 ∷ (58 ∷ (34 ∷ l)))) (append_assoc s (34 ∷ []) (members_text ms))
    ∙ sym (append_assoc m (34 ∷ (58 ∷ (34 ∷ []))) (s ++ (34 ∷ members_text ms)))))

pub small : (n : ℕ) → nat_lt n (2 ^ 63) ≡ true → n < 2 ^ 64
small n word = let below = ltb-true n (2 ^ 63) word in omega (arith, below)

printed_whole : (m : List ℕ) (n : ℕ) (ms : List Member) → are_name_bytes m ≡ true → print_from true (tokens_of ms) ≡ members_text ms
    → print_from true (key m ∷ (number (decimal n) ∷ tokens_of ms)) ≡ whole_front m ++ (decimal n ++ members_text ms)
unfolding print_from
printed_whole m n ms named rest =
    rw (escape_name m named, rest)
    (ap (λ l. 44 ∷ (34 ∷ l)) (colon_joined m (decimal n ++ members_text ms) ∙ sym (append_assoc m (34 ∷ (58 ∷ [])) (decimal n ++ members_text ms))))

module _ (m : Member) (ms : List Member) where
  head_named : are_named (m ∷ ms) ≡ true → are_name_bytes m.0 ≡ true
  head_named e = (and_parts (are_name_bytes m.0) (are_named ms) e).0

  rest_named : are_named (m ∷ ms) ≡ true → are_named ms ≡ true
  rest_named e = (and_parts (are_name_bytes m.0) (are_named ms) e).1

  head_word : are_words (m ∷ ms) ≡ true → is_word m.1 ≡ true
  head_word e = (and_parts (is_word m.1) (are_words ms) e).0

  rest_words : are_words (m ∷ ms) ≡ true → are_words ms ≡ true
  rest_words e = (and_parts (is_word m.1) (are_words ms) e).1

printed : (ms : List Member) → are_named ms ≡ true → are_words ms ≡ true → print_from true (tokens_of ms) ≡ members_text ms
unfolding print_from
printed [] named words = refl
printed ((m, name s) ∷ ms) named words =
    let k : Member = (m, name s) in
    printed_name m s ms (head_named k ms named) (head_word k ms words) (printed ms (rest_named k ms named) (rest_words k ms words))
printed ((m, maybe_name None) ∷ ms) named words = let k : Member = (m, maybe_name None) in printed ms (rest_named k ms named) (rest_words k ms words)
printed ((m, maybe_name (Some s)) ∷ ms) named words =
    let k : Member = (m, maybe_name (Some s)) in
    printed_name m s ms (head_named k ms named) (head_word k ms words) (printed ms (rest_named k ms named) (rest_words k ms words))
printed ((m, whole n) ∷ ms) named words =
    let k : Member = (m, whole n) in printed_whole m n ms (head_named k ms named) (printed ms (rest_named k ms named) (rest_words k ms words))
printed ((m, maybe_whole None) ∷ ms) named words = let k : Member = (m, maybe_whole None) in printed ms (rest_named k ms named) (rest_words k ms words)
printed ((m, maybe_whole (Some n)) ∷ ms) named words =
    let k : Member = (m, maybe_whole (Some n)) in printed_whole m n ms (head_named k ms named) (printed ms (rest_named k ms named) (rest_words k ms words))

printable : (ms : List Member) → are_words ms ≡ true → ArePrintable (tokens_of ms)
unfolding ArePrintable
printable [] words = (tt, tt)
printable ((m, name s) ∷ ms) words = (tt, (tt, printable ms (rest_words (m, name s) ms words)))
printable ((m, maybe_name None) ∷ ms) words = printable ms (rest_words (m, maybe_name None) ms words)
printable ((m, maybe_name (Some s)) ∷ ms) words = (tt, (tt, printable ms (rest_words (m, maybe_name (Some s)) ms words)))
printable ((m, whole n) ∷ ms) words =
    let k : Member = (m, whole n) in (tt, (IsNumber-decimal n (small n (head_word k ms words)), printable ms (rest_words k ms words)))
printable ((m, maybe_whole None) ∷ ms) words = printable ms (rest_words (m, maybe_whole None) ms words)
printable ((m, maybe_whole (Some n)) ∷ ms) words =
    let k : Member = (m, maybe_whole (Some n)) in (tt, (IsNumber-decimal n (small n (head_word k ms words)), printable ms (rest_words k ms words)))

-- ---- the value that they are

abbrev json_of_members : List Member → json.Members
json_of_members [] = json.no_members
json_of_members ((m, name s) ∷ ms) = json.member m (json.string s) (json_of_members ms)
json_of_members ((m, maybe_name None) ∷ ms) = json_of_members ms
json_of_members ((m, maybe_name (Some s)) ∷ ms) = json.member m (json.string s) (json_of_members ms)
json_of_members ((m, whole n) ∷ ms) = json.member m (json.number (decimal n)) (json_of_members ms)
json_of_members ((m, maybe_whole None) ∷ ms) = json_of_members ms
json_of_members ((m, maybe_whole (Some n)) ∷ ms) = json.member m (json.number (decimal n)) (json_of_members ms)

members_first : (m : List ℕ) (t : Token) (j : json.Json) (ts : List Token) (js : json.Members) (n : ℕ) → value 126 (t ∷ ts) ≡ Some (j, ts)
    → members (value 126) n ts ≡ Some (js, []) → members (value 126) (suc n) (key m ∷ (t ∷ ts)) ≡ Some (json.member m j js, [])
unfolding members
members_first m t j ts js n first rest =
    ap (option_and_then (λ p. parse_map (json.member m p.0) (members (value 126) n p.1))) first ∙ ap (parse_map (json.member m j)) rest

text_value : (s : List ℕ) (ts : List Token) → value 126 (string s ∷ ts) ≡ Some (json.string s, ts)
unfolding value
text_value s ts = refl

number_value : (s : List ℕ) (ts : List Token) → value 126 (number s ∷ ts) ≡ Some (json.number s, ts)
unfolding value
number_value s ts = refl

members_read : (ms : List Member) (n : ℕ) → length (tokens_of ms) ≤ n → members (value 126) (suc n) (tokens_of ms) ≡ Some (json_of_members ms, [])
unfolding members
members_read [] n le = refl
members_read ((m, maybe_name None) ∷ ms) n le = members_read ms n le
members_read ((m, maybe_whole None) ∷ ms) n le = members_read ms n le
members_read ((m, name s) ∷ ms) zero le = absurd (omega (arith, le))
members_read ((m, name s) ∷ ms) (suc n) le =
    members_first m (string s) (json.string s) (tokens_of ms) (json_of_members ms) (suc n) (text_value s (tokens_of ms)) (members_read ms n (omega (arith, le)))
members_read ((m, maybe_name (Some s)) ∷ ms) zero le = absurd (omega (arith, le))
members_read ((m, maybe_name (Some s)) ∷ ms) (suc n) le =
    members_first m (string s) (json.string s) (tokens_of ms) (json_of_members ms) (suc n) (text_value s (tokens_of ms)) (members_read ms n (omega (arith, le)))
members_read ((m, whole k) ∷ ms) zero le = absurd (omega (arith, le))
members_read ((m, whole k) ∷ ms) (suc n) le =
    members_first m (number (decimal k)) (json.number (decimal k)) (tokens_of ms) (json_of_members ms) (suc n) (number_value (decimal k) (tokens_of ms)) (members_read ms n (omega (arith, le)))
members_read ((m, maybe_whole (Some k)) ∷ ms) zero le = absurd (omega (arith, le))
members_read ((m, maybe_whole (Some k)) ∷ ms) (suc n) le =
    members_first m (number (decimal k)) (json.number (decimal k)) (tokens_of ms) (json_of_members ms) (suc n) (number_value (decimal k) (tokens_of ms)) (members_read ms n (omega (arith, le)))

abbrev line_json : List ℕ → List Member → json.Json
line_json c ms = json.object (json.member (codes "cmd") (json.string c) (json_of_members ms))

value_read : (c : List ℕ) (ms : List Member) → value 127 (line_tokens c ms) ≡ Some (line_json c ms, [])
unfolding value
value_read c ms =
    ap (parse_map json.object)
    (members_first (codes "cmd") (string c) (json.string c) (tokens_of ms) (json_of_members ms) (suc (length (tokens_of ms)))
    (text_value c (tokens_of ms)) (members_read ms (length (tokens_of ms)) (omega arith)))

-- the members, put in one after another
abbrev data_of : List Member → Members → Members
data_of [] found = found
data_of ((m, name s) ∷ ms) found = data_of ms (put m (value_of.string s) found)
data_of ((m, maybe_name None) ∷ ms) found = data_of ms found
data_of ((m, maybe_name (Some s)) ∷ ms) found = data_of ms (put m (value_of.string s) found)
data_of ((m, whole n) ∷ ms) found = data_of ms (put m (value_of.number (unsigned n)) found)
data_of ((m, maybe_whole None) ∷ ms) found = data_of ms found
data_of ((m, maybe_whole (Some n)) ∷ ms) found = data_of ms (put m (value_of.number (unsigned n)) found)

number_put : (m : List ℕ) (n : ℕ) (js : json.Members) (found : Members) → nat_lt n (2 ^ 63) ≡ true
    → of_members (json.member m (json.number (decimal n)) js) found ≡ of_members js (put m (value_of.number (unsigned n)) found)
number_put m n js found word =
    ap (λ o. option_and_then (λ d. of_members js (put m d found)) (option_map value_of.number o)) (number_of-decimal n (small n word))

data_is : (ms : List Member) (found : Members) → are_words ms ≡ true → of_members (json_of_members ms) found ≡ Some (data_of ms found)
data_is [] found words = refl
data_is ((m, name s) ∷ ms) found words = data_is ms (put m (value_of.string s) found) (rest_words (m, name s) ms words)
data_is ((m, maybe_name None) ∷ ms) found words = data_is ms found (rest_words (m, maybe_name None) ms words)
data_is ((m, maybe_name (Some s)) ∷ ms) found words = data_is ms (put m (value_of.string s) found) (rest_words (m, maybe_name (Some s)) ms words)
data_is ((m, whole n) ∷ ms) found words =
    let k : Member = (m, whole n) in
    number_put m n (json_of_members ms) found (head_word k ms words) ∙ data_is ms (put m (value_of.number (unsigned n)) found) (rest_words k ms words)
data_is ((m, maybe_whole None) ∷ ms) found words = data_is ms found (rest_words (m, maybe_whole None) ms words)
data_is ((m, maybe_whole (Some n)) ∷ ms) found words =
    let k : Member = (m, maybe_whole (Some n)) in
    number_put m n (json_of_members ms) found (head_word k ms words) ∙ data_is ms (put m (value_of.number (unsigned n)) found) (rest_words k ms words)

abbrev line_data : List ℕ → List Member → Data
line_data c ms = value_of.object (data_of ms (value_of.member (codes "cmd") (value_of.string c) no_members))

-- ---- a line of names and numbers

module _ (c : List ℕ) (ms : List Member) (command : are_name_bytes c ≡ true) (named : are_named ms ≡ true) (words : are_words ms ≡ true) where
  line_printed : print (line_tokens c ms) ≡ line_text c ms
  unfolding print_from escape_byte
  line_printed = rw (escape_name c command, printed ms named words) refl

  line_printable : ArePrintable (line_tokens c ms)
  unfolding ArePrintable
  line_printable = (tt, (tt, (tt, printable ms words)))

  line_value : read (line_text c ms) ≡ Some (line_data c ms)
  line_value =
      ap (λ ts. option_and_then of_json (option_and_then (λ p. if_last p.0 p.1) (value 127 ts)))
      (ap tokens (sym line_printed) ∙ tokens-print (line_tokens c ms) line_printable)
      ∙ ap (λ o. option_and_then of_json (option_and_then (λ p. if_last p.0 p.1) o)) (value_read c ms)
      ∙ ap (option_map value_of.object) (data_is ms (value_of.member (codes "cmd") (value_of.string c) no_members) words)

front_utf8 : (m rest : List ℕ) → are_name_bytes m ≡ true → IsUtf8 rest → IsUtf8 (codes ",\"" ++ (m ++ rest))
front_utf8 m rest named u = IsUtf8-append (codes ",\"") (m ++ rest) (IsUtf8-are_ascii _ refl) (IsUtf8-append m rest (utf8_name m named) u)

pub named_utf8 : (m s rest : List ℕ) → are_name_bytes m ≡ true → are_name_bytes s ≡ true → IsUtf8 rest → IsUtf8 (name_front m ++ (s ++ (34 ∷ rest)))
named_utf8 m s rest named word u =
    IsUtf8-append (name_front m) _ (front_utf8 m (codes "\":\"") named (IsUtf8-are_ascii _ refl))
    (IsUtf8-append s _ (utf8_name s word) (IsUtf8-append (34 ∷ []) rest (IsUtf8-are_ascii _ refl) u))

pub whole_utf8 : (m : List ℕ) (n : ℕ) (rest : List ℕ) → are_name_bytes m ≡ true → nat_lt n (2 ^ 63) ≡ true → IsUtf8 rest → IsUtf8 (whole_front m ++ (decimal n ++ rest))
whole_utf8 m n rest named word u =
    IsUtf8-append (whole_front m) _ (front_utf8 m (codes "\":") named (IsUtf8-are_ascii _ refl))
    (IsUtf8-append (decimal n) rest (IsUtf8-from_ascii (decimal n) (IsAscii-decimal n (small n word))) u)

members_utf8 : (ms : List Member) → are_named ms ≡ true → are_words ms ≡ true → IsUtf8 (members_text ms)
members_utf8 [] named words = IsUtf8-are_ascii _ refl
members_utf8 ((m, name s) ∷ ms) named words =
    let k : Member = (m, name s) in
    named_utf8 m s (members_text ms) (head_named k ms named) (head_word k ms words) (members_utf8 ms (rest_named k ms named) (rest_words k ms words))
members_utf8 ((m, maybe_name None) ∷ ms) named words = let k : Member = (m, maybe_name None) in members_utf8 ms (rest_named k ms named) (rest_words k ms words)
members_utf8 ((m, maybe_name (Some s)) ∷ ms) named words =
    let k : Member = (m, maybe_name (Some s)) in
    named_utf8 m s (members_text ms) (head_named k ms named) (head_word k ms words) (members_utf8 ms (rest_named k ms named) (rest_words k ms words))
members_utf8 ((m, whole n) ∷ ms) named words =
    let k : Member = (m, whole n) in
    whole_utf8 m n (members_text ms) (head_named k ms named) (head_word k ms words) (members_utf8 ms (rest_named k ms named) (rest_words k ms words))
members_utf8 ((m, maybe_whole None) ∷ ms) named words = let k : Member = (m, maybe_whole None) in members_utf8 ms (rest_named k ms named) (rest_words k ms words)
members_utf8 ((m, maybe_whole (Some n)) ∷ ms) named words =
    let k : Member = (m, maybe_whole (Some n)) in
    whole_utf8 m n (members_text ms) (head_named k ms named) (head_word k ms words) (members_utf8 ms (rest_named k ms named) (rest_words k ms words))

line_utf8 : (c : List ℕ) (ms : List Member) → are_name_bytes c ≡ true → are_named ms ≡ true → are_words ms ≡ true → IsUtf8 (line_text c ms)
line_utf8 c ms command named words =
    IsUtf8-append (command_front c) (members_text ms)
    (IsUtf8-append (codes "{\"cmd\":\"") (c ++ codes "\"") (IsUtf8-are_ascii _ refl) (IsUtf8-append c (codes "\"") (utf8_name c command) (IsUtf8-are_ascii _ refl)))
    (members_utf8 ms named words)

-- a line means the request of its members
meant_by : (c : List ℕ) (ms : List Member) (line : List ℕ) (r : Request) → are_name_bytes c ≡ true → are_named ms ≡ true → written (c, ms) ≡ Some line
    → (are_words ms ≡ true → request_of (line_data c ms) ≡ Some r) → command_line line ≡ Ok r
meant_by c ms line r command named is asked =
    let p = cond_some (are_words ms) (line_text c ms) line is in
    ap command_line (sym p.1)
    ∙ ap request_or_refusal (json-found (line_text c ms) (line_data c ms) (line_utf8 c ms command named p.0) (line_value c ms command named p.0))
    ∙ ap (λ o. ok_or o Form) (asked p.0)

-- ---- what each command asks

get_asked : (t : Option (List ℕ)) (id : ℕ) → nat_lt id (2 ^ 63) ≡ true → request_of (line_data (codes "get") (table_is t ∷ id_is id ∷ [])) ≡ Some (request.NumberLookUp t (by_number.Get id))
unfolding has_only step_named look_up_named
get_asked None id h = rw h refl
get_asked (Some t) id h = rw h refl

erase_asked : (t : Option (List ℕ)) (id : ℕ) → nat_lt id (2 ^ 63) ≡ true → request_of (line_data (codes "erase") (table_is t ∷ id_is id ∷ [])) ≡ Some (request.Change t (change.Erase id))
unfolding has_only
erase_asked None id h = rw h refl
erase_asked (Some t) id h = rw h refl

size_asked : (t : Option (List ℕ)) → request_of (line_data (codes "size") (table_is t ∷ [])) ≡ Some (request.NumberLookUp t by_number.Size)
unfolding has_only look_up_named
size_asked None = refl
size_asked (Some t) = refl

rank_asked : (t : Option (List ℕ)) (index : List ℕ) (id : ℕ) → nat_lt id (2 ^ 63) ≡ true
    → request_of (line_data (codes "rank") (table_is t ∷ index_is index ∷ id_is id ∷ [])) ≡ Some (request.NumberLookUp t (by_number.Rank index id))
unfolding has_only look_up_named
rank_asked None index id h = rw h refl
rank_asked (Some t) index id h = rw h refl

nth_asked : (t : Option (List ℕ)) (index : List ℕ) (n : ℕ) → nat_lt n (2 ^ 63) ≡ true
    → request_of (line_data (codes "nth") (table_is t ∷ index_is index ∷ (codes "n", whole n) ∷ [])) ≡ Some (request.NumberLookUp t (by_number.Nth index n))
unfolding has_only look_up_named
nth_asked None index n h = rw h refl
nth_asked (Some t) index n h = rw h refl

relocate_asked : (t : Option (List ℕ)) (index : List ℕ) (id : ℕ) (before : Option ℕ) → nat_lt id (2 ^ 63) ≡ true → is_word (maybe_whole before) ≡ true
    → request_of (line_data (codes "relocate") (table_is t ∷ index_is index ∷ id_is id ∷ (codes "before", maybe_whole before) ∷ []))
    ≡ Some (request.Change t (change.Relocate index id before))
unfolding has_only
relocate_asked None index id None h k = rw h refl
relocate_asked (Some t) index id None h k = rw h refl
relocate_asked None index id (Some before) h k = rw (h, k) refl
relocate_asked (Some t) index id (Some before) h k = rw (h, k) refl

commit_asked : (n : ℕ) → nat_lt n (2 ^ 63) ≡ true → request_of (line_data (codes "commit") ((codes "revision", whole n) ∷ [])) ≡ Some (request.Session (session.Commit n))
unfolding has_only step_named look_up_named
commit_asked n h = rw h refl

-- the word of the second member, of the third and of the fourth
second : (a b : Member) (ms : List Member) → are_words (a ∷ (b ∷ ms)) ≡ true → is_word b.1 ≡ true
second a b ms words = head_word b ms (rest_words a (b ∷ ms) words)

third : (a b c : Member) (ms : List Member) → are_words (a ∷ (b ∷ (c ∷ ms))) ≡ true → is_word c.1 ≡ true
third a b c ms words = second b c ms (rest_words a (b ∷ (c ∷ ms)) words)

fourth : (a b c d : Member) (ms : List Member) → are_words (a ∷ (b ∷ (c ∷ (d ∷ ms)))) ≡ true → is_word d.1 ≡ true
fourth a b c d ms words = third b c d ms (rest_words a (b ∷ (c ∷ (d ∷ ms))) words)

-- ---- commands without members

-- the line of a command without members means it
nullary_means : (b : NullaryCommand) → command_line (nullary_text b) ≡ Ok (request.Session (asked_nullary b))
unfolding serde_json_on_literals is_utf8 chars has_only nullary_named step_named look_up_named
nullary_means nullary_command.Undo = refl
nullary_means b = refl

nullary_line_is : (b : NullaryCommand) → line_text (nullary_name b) [] ≡ nullary_text b
nullary_line_is nullary_command.Undo = refl
nullary_line_is b = refl

-- the one that a command over sessions is, if it is one, is that command
abbrev asked_or : SessionCommand → Option NullaryCommand → SessionCommand
asked_or s None = s
asked_or s (Some b) = asked_nullary b

asked_back : (s : SessionCommand) → asked_or s (nullary_of s) ≡ s
asked_back session.Undo = refl
asked_back s = refl

abbrev nullary_words : Option NullaryCommand → Option (List ℕ)
nullary_words o = option_and_then written (option_map (λ b. (nullary_name b, [])) o)

-- what holds of each command without members and its line holds of each command over sessions that is one, and its line
by_nullary : (P : SessionCommand → List ℕ → Type 0) → ((b : NullaryCommand) → P (asked_nullary b) (nullary_text b)) → (s : SessionCommand) (line : List ℕ) → (o : Option NullaryCommand)
    → asked_or s o ≡ s → nullary_words o ≡ Some line → P s line
by_nullary P h s line None back is = absurd (none-some line is)
by_nullary P h s line (Some b) back is =
    subst (λ q. P q line) back (subst (P (asked_nullary b)) (sym (nullary_line_is b) ∙ same_Some (line_text (nullary_name b) []) line is) (h b))

-- ---- all short lines

-- a short line means its request
pub short_means : (r : Request) (line : List ℕ) → short_line r ≡ Some line → command_line line ≡ Ok r
unfolding is_name_byte
short_means (request.NumberLookUp t (by_number.Get id)) line is =
    meant_by (codes "get") (table_is t ∷ id_is id ∷ []) line _ refl refl is (λ words. get_asked t id (second (table_is t) (id_is id) [] words))
short_means (request.Change t (change.Erase id)) line is =
    meant_by (codes "erase") (table_is t ∷ id_is id ∷ []) line _ refl refl is (λ words. erase_asked t id (second (table_is t) (id_is id) [] words))
short_means (request.NumberLookUp t by_number.Size) line is = meant_by (codes "size") (table_is t ∷ []) line _ refl refl is (λ words. size_asked t)
short_means (request.NumberLookUp t (by_number.Rank index id)) line is =
    meant_by (codes "rank") (table_is t ∷ index_is index ∷ id_is id ∷ []) line _ refl refl is
    (λ words. rank_asked t index id (third (table_is t) (index_is index) (id_is id) [] words))
short_means (request.NumberLookUp t (by_number.Nth index n)) line is =
    meant_by (codes "nth") (table_is t ∷ index_is index ∷ (codes "n", whole n) ∷ []) line _ refl refl is
    (λ words. nth_asked t index n (third (table_is t) (index_is index) (codes "n", whole n) [] words))
short_means (request.Change t (change.Relocate index id before)) line is =
    let last : Member = (codes "before", maybe_whole before) in
    meant_by (codes "relocate") (table_is t ∷ index_is index ∷ id_is id ∷ last ∷ []) line _ refl refl is
    (λ words. relocate_asked t index id before (third (table_is t) (index_is index) (id_is id) (last ∷ []) words)
    (fourth (table_is t) (index_is index) (id_is id) last [] words))
short_means (request.Session (session.Commit n)) line is =
    meant_by (codes "commit") ((codes "revision", whole n) ∷ []) line _ refl refl is (λ words. commit_asked n (head_word (codes "revision", whole n) [] words))
short_means (request.Session s) line is = by_nullary (λ q t. command_line t ≡ Ok (request.Session q)) nullary_means s line (nullary_of s) (asked_back s) is
short_means r line is = absurd (none-some line is)

abbrev request_in : Request → Result Request Refusal → Request
request_in q (Ok r) = r
request_in q (Err e) = q

-- a line is a short line of one request
pub one_request : (q r : Request) (line : List ℕ) → short_line q ≡ Some line → short_line r ≡ Some line → q ≡ r
one_request q r line first second_is = ap (request_in q) (sym (short_means q line first) ∙ short_means r line second_is)

-- ---- which line it can be, by the third letter of its command

pub data Which : Type 0 where
  of_get : Which
  of_rank : Which
  of_commit : Which
  of_nth : Which
  of_size : Which
  of_nullary : Which

abbrev pub which : ℕ → Which
which x =
    cond (x == 116) of_get (cond (x == 110) of_rank (cond (x == 109) of_commit (cond (x == 104) of_nth (cond (x == 122) of_size of_nullary))))

-- what is read of such a line is a request
abbrev pub Found : Which → List ℕ → Type 0
Found of_get line = (o : Option Request) → IsRead (codes "get") ((codes "table", perhaps_name) ∷ (codes "id", a_whole) ∷ []) line o → is_some o ≡ true
Found of_rank line =
    (o : Option Request) → IsRead (codes "rank") ((codes "table", perhaps_name) ∷ (codes "index", a_name) ∷ (codes "id", a_whole) ∷ []) line o → is_some o ≡ true
Found of_commit line = (o : Option Request) → IsRead (codes "commit") ((codes "revision", a_whole) ∷ []) line o → is_some o ≡ true
Found of_nth line =
    (o : Option Request) → IsRead (codes "nth") ((codes "table", perhaps_name) ∷ (codes "index", a_name) ∷ (codes "n", a_whole) ∷ []) line o → is_some o ≡ true
Found of_size line = (o : Option Request) → IsRead (codes "size") ((codes "table", perhaps_name) ∷ []) line o → is_some o ≡ true
Found of_nullary line = is_some (nullary_line line) ≡ true

lettered : (c : List ℕ) (ms : List Member) (line : List ℕ) (d letter : ℕ) → written (c, ms) ≡ Some line
    → ((rest : List ℕ) → get_or (command_front c ++ rest) 10 d ≡ letter) → get_or line 10 d ≡ letter
lettered c ms line d letter is at =
    let p = cond_some (are_words ms) (line_text c ms) line is in
    ap (λ t. get_or t 10 d) (sym p.1) ∙ at (members_text ms)

at_letter : (line : List ℕ) (d letter : ℕ) → get_or line 10 d ≡ letter → Found (which letter) line → Found (which (get_or line 10 d)) line
at_letter line d letter is found = subst (λ x. Found (which x) line) (sym is) found

nullary_told : (d : ℕ) (b : NullaryCommand) → Found (which (get_or (nullary_text b) 10 d)) (nullary_text b)
nullary_told d nullary_command.Undo = refl
nullary_told d b = refl

-- a short line that is no change is found by its letter
pub told : (r : ShortRequest) (line : List ℕ) (d : ℕ) → short_line (asked_short r) ≡ Some line → Found (which (get_or line 10 d)) line
told (short.NumberLookUp t (by_number.Get id)) line d is =
    let ms = table_is t ∷ id_is id ∷ [] in
    at_letter line d 116 (lettered (codes "get") ms line d 116 is (λ rest. refl)) (λ o done. line-read (codes "get") ms line o done refl is)
told (short.NumberLookUp t by_number.Size) line d is =
    let ms = table_is t ∷ [] in
    at_letter line d 122 (lettered (codes "size") ms line d 122 is (λ rest. refl)) (λ o done. line-read (codes "size") ms line o done refl is)
told (short.NumberLookUp t (by_number.Rank index id)) line d is =
    let ms = table_is t ∷ index_is index ∷ id_is id ∷ [] in
    at_letter line d 110 (lettered (codes "rank") ms line d 110 is (λ rest. refl)) (λ o done. line-read (codes "rank") ms line o done refl is)
told (short.NumberLookUp t (by_number.Nth index n)) line d is =
    let ms = table_is t ∷ index_is index ∷ (codes "n", whole n) ∷ [] in
    at_letter line d 104 (lettered (codes "nth") ms line d 104 is (λ rest. refl)) (λ o done. line-read (codes "nth") ms line o done refl is)
told (short.Session (session.Commit n)) line d is =
    let ms = (codes "revision", whole n) ∷ [] in
    at_letter line d 109 (lettered (codes "commit") ms line d 109 is (λ rest. refl)) (λ o done. line-read (codes "commit") ms line o done refl is)
told (short.Session s) line d is = by_nullary (λ q t. Found (which (get_or t 10 d)) t) (nullary_told d) s line (nullary_of s) (asked_back s) is
told r line d is = absurd (none-some line is)

-- an erase and a relocation have letters of their own
abbrev pub FoundChange : ℕ → List ℕ → Type 0
FoundChange letter line =
    ((letter ≡ 97) × ((o : Option Request) → IsRead (codes "erase") ((codes "table", perhaps_name) ∷ (codes "id", a_whole) ∷ []) line o → is_some o ≡ true))
    ⊎ ((letter ≡ 108) × ((o : Option Request)
    → IsRead (codes "relocate") ((codes "table", perhaps_name) ∷ (codes "index", a_name) ∷ (codes "id", a_whole) ∷ (codes "before", perhaps_whole) ∷ []) line o
    → is_some o ≡ true))

-- and so a short line that is a change is found by its letter
pub told_change : (t : Option (List ℕ)) (x : ChangeRequest) (line : List ℕ) (d : ℕ) → short_line (request.Change t x) ≡ Some line
    → FoundChange (get_or line 10 d) line
told_change t (change.Erase id) line d is =
    let ms = table_is t ∷ id_is id ∷ [] in
    inl (lettered (codes "erase") ms line d 97 is (λ rest. refl), λ o done. line-read (codes "erase") ms line o done refl is)
told_change t (change.Relocate index id before) line d is =
    let ms = table_is t ∷ index_is index ∷ id_is id ∷ (codes "before", maybe_whole before) ∷ [] in
    inr (lettered (codes "relocate") ms line d 108 is (λ rest. refl), λ o done. line-read (codes "relocate") ms line o done refl is)
told_change t x line d is = absurd (none-some line is)

-- ---- which request is found

first_at : (same : Bool) (k b : NullaryCommand) (line : List ℕ) (o : Option NullaryCommand) → bytes_eq line (nullary_text k) ≡ same → cond same (Some k) o ≡ Some b
    → (o ≡ Some b → nullary_text b ≡ line) → nullary_text b ≡ line
first_at true k b line o is found later = ap nullary_text (sym (same_Some k b found)) ∙ sym ((bytes_eq-Decides line (nullary_text k)).0 is)
first_at false k b line o is found later = later found

first_is : (bs : List NullaryCommand) (line : List ℕ) (b : NullaryCommand) → first_with nullary_text bs line ≡ Some b → nullary_text b ≡ line
first_is [] line b e = absurd (none-some b e)
first_is (k ∷ bs) line b e = first_at (bytes_eq line (nullary_text k)) k b line (first_with nullary_text bs line) refl e (first_is bs line b)

nullary_short : (b : NullaryCommand) → short_line (request.Session (asked_nullary b)) ≡ Some (nullary_text b)
nullary_short nullary_command.Undo = refl
nullary_short b = refl

-- a command without members that is found has this line
pub nullary_found : (line : List ℕ) (b : NullaryCommand) → nullary_line line ≡ Some b → short_line (request.Session (asked_nullary b)) ≡ Some line
nullary_found line b is = nullary_short b ∙ ap Some (first_is nullary_commands line b is)

-- a short line by its letter
pub by_letter : (line : List ℕ) (letter : ℕ) → get_or line 10 0 ≡ letter → (r : ShortRequest) → short_line (asked_short r) ≡ Some line → Found (which letter) line
by_letter line letter at r is = subst (λ x. Found (which x) line) at (told r line 0 is)

pub by_no_letter : (line : List ℕ) (r : ShortRequest) → short_line (asked_short r) ≡ Some line → (get_or line 10 0 ≡ 116 → ⊥) → (get_or line 10 0 ≡ 110 → ⊥)
    → (get_or line 10 0 ≡ 109 → ⊥) → (get_or line 10 0 ≡ 104 → ⊥) → (get_or line 10 0 ≡ 122 → ⊥) → is_some (nullary_line line) ≡ true
by_no_letter line r is t n m h z =
    let x = get_or line 10 0 in
    let other : which x ≡ of_nullary = rw (ne_eqb x 116 t, ne_eqb x 110 n, ne_eqb x 109 m, ne_eqb x 104 h, ne_eqb x 122 z) refl in
    subst (λ w. Found w line) other (told r line 0 is)

-- the command of a line without members has this line
pub nullary_value : (line : List ℕ) (b : NullaryCommand) (s : SessionCommand) → nullary_line line ≡ Some b → s ≡ asked_nullary b → short_line (request.Session s) ≡ Some line
nullary_value line b s is same = ap (λ x. short_line (request.Session x)) same ∙ nullary_found line b is

-- what holds of a request that is read holds of it as it is asked, and back
pub read_short : (P : Request → Type 0) (o : Option ShortRequest) → IfSome (option_map asked_short o) P → IfSome o (λ r. P (asked_short r))
read_short P None h = tt
read_short P (Some r) h = h

pub short_there : (o : Option ShortRequest) → is_some (option_map asked_short o) ≡ true → is_some o ≡ true
short_there None h = h
short_there (Some r) h = refl

-- where no other short line is read, those of changes are all that are left
pub change_left : (line : List ℕ) (read : Result Request Refusal) → ((r : ShortRequest) → short_line (asked_short r) ≡ Some line → ⊥)
    → ((t : Option (List ℕ)) (x : ChangeRequest) → short_line (request.Change t x) ≡ Some line → read ≡ Ok (request.Change t x))
    → (r : Request) → short_line r ≡ Some line → read ≡ Ok r
change_left line read never found (request.Change t x) is = found t x is
change_left line read never found (request.NumberLookUp t l) is = absurd (never (short.NumberLookUp t l) is)
change_left line read never found (request.KeyLookUp t l) is = absurd (none-some line is)
change_left line read never found (request.Session s) is = absurd (never (short.Session s) is)
