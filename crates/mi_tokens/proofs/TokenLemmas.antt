-- How lexemes are punctuated where a value begins, at a key and where an array or an object ends.
-- Cited by `Tokens::is_done`, `Tokens::take_array`, `Tokens::take_key`, `Tokens::take_object`, `Tokens::take_text` and 10 more.
use Rattle.std.proofs.Common.{◌≡◌, ℕ, Bool, true, false, List, [], ◌∷◌, ◌++◌, Some, None, inl, inr, ◌⊎◌, refl, sym, ap, ap₂, ◌∙◌, true≢false}
use Rattle.std.proofs.lemmas.Option.{none-some}
use Rattle.json.specs.Token.{Token, begin_object, end_object, begin_array, end_array, key, string, number, boolean, null, bad}
use Rattle.json.specs.Json.{Json, after_end_array, value}
use Rattle.json.specs.Lex.{Lexeme, token, comma, colon, Place, fresh, after_value, after_comma, after_key, begins_colon, may_begin, may_close, if_allowed, place_token, punctuate}
use Rattle.json.specs.Word.{head, ends_word}
use Rattle.json.specs.Lex.{between, lex, class, operator, operator_lexeme}
use Rattle.json.proofs.Grammar.{value_is}
use Rattle.mi_tokens.specs.Ends.{is_end}
use Rattle.mi_tokens.specs.Tokens.{place_of, tokens_at, Begins, Closes, end_token, Opens, IsWordOf}
use Rattle.mi_tokens.specs.declared.tokens.Context.{Context}
use Rattle.mi_tokens.specs.declared.tokens.Context.TheVariants.{Fresh, AfterComma}
use Rattle.mi_tokens.proofs.LexemeLemmas.{end_no_colon, lex_true, lex_false, lex_null}

allowed : (b : Bool) (t : Token) (k : Place → List Token) (next : Place) → b ≡ true → if_allowed b t k next ≡ t ∷ k next
allowed b t k next e = ap (λ x. if_allowed x t k next) e

-- where a value may begin
pub begins_number : (p : Place) (s : List ℕ) (ls : List Lexeme) → may_begin p ≡ true → punctuate p (token (number s) ∷ ls) ≡ number s ∷ punctuate after_value ls
unfolding punctuate
begins_number p s ls may = allowed (may_begin p) (number s) (λ n. punctuate n ls) after_value may

pub begins_boolean : (p : Place) (b : Bool) (ls : List Lexeme) → may_begin p ≡ true → punctuate p (token (boolean b) ∷ ls) ≡ boolean b ∷ punctuate after_value ls
unfolding punctuate
begins_boolean p b ls may = allowed (may_begin p) (boolean b) (λ n. punctuate n ls) after_value may

pub begins_null : (p : Place) (ls : List Lexeme) → may_begin p ≡ true → punctuate p (token null ∷ ls) ≡ null ∷ punctuate after_value ls
unfolding punctuate
begins_null p ls may = allowed (may_begin p) null (λ n. punctuate n ls) after_value may

pub begins_string : (p : Place) (s : List ℕ) (ls : List Lexeme) → may_begin p ≡ true → begins_colon ls ≡ false → punctuate p (token (string s) ∷ ls) ≡ string s ∷ punctuate after_value ls
unfolding punctuate
begins_string p s ls may none = ap (λ b. place_token p (string s) b (λ n. punctuate n ls)) none ∙ allowed (may_begin p) (string s) (λ n. punctuate n ls) after_value may

pub begins_object : (p : Place) (ls : List Lexeme) → may_begin p ≡ true → punctuate p (token begin_object ∷ ls) ≡ begin_object ∷ punctuate fresh ls
unfolding punctuate
begins_object p ls may = allowed (may_begin p) begin_object (λ n. punctuate n ls) fresh may

pub begins_array : (p : Place) (ls : List Lexeme) → may_begin p ≡ true → punctuate p (token begin_array ∷ ls) ≡ begin_array ∷ punctuate fresh ls
unfolding punctuate
begins_array p ls may = allowed (may_begin p) begin_array (λ n. punctuate n ls) fresh may

-- a text before a colon is a key
pub begins_key : (p : Place) (s : List ℕ) (ls : List Lexeme) → may_begin p ≡ true → punctuate p (token (string s) ∷ colon ∷ ls) ≡ key s ∷ punctuate fresh ls
unfolding punctuate
begins_key p s ls may = allowed (may_begin p) (key s) (λ n. punctuate n (colon ∷ ls)) after_key may

-- where an array or an object may end
pub closes_object : (p : Place) (ls : List Lexeme) → may_close p ≡ true → punctuate p (token end_object ∷ ls) ≡ end_object ∷ punctuate after_value ls
unfolding punctuate
closes_object p ls may = allowed (may_close p) end_object (λ n. punctuate n ls) after_value may

pub closes_array : (p : Place) (ls : List Lexeme) → may_close p ≡ true → punctuate p (token end_array ∷ ls) ≡ end_array ∷ punctuate after_value ls
unfolding punctuate
closes_array p ls may = allowed (may_close p) end_array (λ n. punctuate n ls) after_value may

-- behind a value
pub passes_comma : (ls : List Lexeme) → punctuate after_value (comma ∷ ls) ≡ punctuate after_comma ls
unfolding punctuate
passes_comma ls = refl

pub none_left : (p : Place) → may_close p ≡ true → punctuate p [] ≡ []
unfolding punctuate
none_left fresh e = refl
none_left after_value e = refl
none_left after_comma e = absurd (true≢false (sym e))
none_left after_key e = absurd (true≢false (sym e))

-- a value that begins ends no array
pub value_no_end : (depth : ℕ) (ts r : List Token) (j : Json) → value depth ts ≡ Some (j, r) → after_end_array ts ≡ None
value_no_end depth [] r j e = refl
value_no_end depth (begin_object ∷ ts) r j e = refl
value_no_end depth (end_object ∷ ts) r j e = refl
value_no_end depth (begin_array ∷ ts) r j e = refl
value_no_end depth (end_array ∷ ts) r j e = absurd (none-some (j, r) (sym (value_is depth (end_array ∷ ts)) ∙ e))
value_no_end depth (key s ∷ ts) r j e = refl
value_no_end depth (string s ∷ ts) r j e = refl
value_no_end depth (number s ∷ ts) r j e = refl
value_no_end depth (boolean b ∷ ts) r j e = refl
value_no_end depth (null ∷ ts) r j e = refl
value_no_end depth (bad ∷ ts) r j e = refl

-- ---- from lexemes to tokens, wherever a value may begin or end

pub after_comma_token : (t u : List ℕ) → head t ≡ 44 → lex between t ≡ operator_lexeme (head t) ∷ lex between u
    → tokens_at AfterComma u ≡ punctuate after_value (lex between t)
after_comma_token t u e first =
    sym (ap (punctuate after_value) (first ∙ ap (λ x. operator_lexeme x ∷ lex between u) e) ∙ passes_comma (lex between u))

pub closed : (t u v : List ℕ) (context : Context) → (head t ≡ 125) ⊎ (head t ≡ 93) → lex between t ≡ operator_lexeme (head t) ∷ lex between u
    → tokens_at context v ≡ punctuate after_value (lex between u) → Closes t (end_token (head t)) context v
closed t u v context (inl e) first after p may =
    ap (punctuate p) (first ∙ ap (λ x. operator_lexeme x ∷ lex between u) e) ∙ closes_object p (lex between u) may
    ∙ ap₂ (λ k ts. k ∷ ts) (ap end_token (sym e)) (sym after)
closed t u v context (inr e) first after p may =
    ap (punctuate p) (first ∙ ap (λ x. operator_lexeme x ∷ lex between u) e) ∙ closes_array p (lex between u) may
    ∙ ap₂ (λ k ts. k ∷ ts) (ap end_token (sym e)) (sym after)

pub named : (t m u s : List ℕ) → lex between t ≡ token (string s) ∷ lex between m → head m ≡ 58
    → lex between m ≡ operator_lexeme (head m) ∷ lex between u → Begins t (key s) Fresh u
named t m u s first e second p may =
    ap (punctuate p) (first ∙ ap (λ ls. token (string s) ∷ ls) (second ∙ ap (λ x. operator_lexeme x ∷ lex between u) e))
    ∙ begins_key p s (lex between u) may

pub text_begins : (t m u s : List ℕ) (context : Context) → lex between t ≡ token (string s) ∷ lex between m → is_end (head m) ≡ true
    → tokens_at context u ≡ punctuate after_value (lex between m) → Begins t (string s) context u
text_begins t m u s context first e after p may =
    ap (punctuate p) first ∙ begins_string p s (lex between m) may (end_no_colon m e) ∙ ap (λ ts. string s ∷ ts) (sym after)

pub number_begins : (t m u s : List ℕ) (context : Context) → lex between t ≡ token (number s) ∷ lex between m
    → tokens_at context u ≡ punctuate after_value (lex between m) → Begins t (number s) context u
number_begins t m u s context first after p may =
    ap (punctuate p) first ∙ begins_number p s (lex between m) may ∙ ap (λ ts. number s ∷ ts) (sym after)

pub bracket_begins : (t u : List ℕ) (k : Token) → Opens (head t) k → lex between t ≡ operator_lexeme (head t) ∷ lex between u → Begins t k Fresh u
bracket_begins t u begin_object e first p may = ap (punctuate p) (first ∙ ap (λ x. operator_lexeme x ∷ lex between u) e) ∙ begins_object p (lex between u) may
bracket_begins t u begin_array e first p may = ap (punctuate p) (first ∙ ap (λ x. operator_lexeme x ∷ lex between u) e) ∙ begins_array p (lex between u) may
bracket_begins t u end_object e first p may = absurd e
bracket_begins t u end_array e first p may = absurd e
bracket_begins t u (key s) e first p may = absurd e
bracket_begins t u (string s) e first p may = absurd e
bracket_begins t u (number s) e first p may = absurd e
bracket_begins t u (boolean b) e first p may = absurd e
bracket_begins t u null e first p may = absurd e
bracket_begins t u bad e first p may = absurd e

pub word_begins : (t m u w : List ℕ) (k : Token) (context : Context) → IsWordOf k w → t ≡ w ++ m → ends_word m ≡ true
    → tokens_at context u ≡ punctuate after_value (lex between m) → Begins t k context u
word_begins t m u w (boolean true) context is parts ended after p may =
    ap (punctuate p) (ap (lex between) (parts ∙ ap (λ x. x ++ m) is) ∙ lex_true m ended) ∙ begins_boolean p true (lex between m) may
    ∙ ap (λ ts. boolean true ∷ ts) (sym after)
word_begins t m u w (boolean false) context is parts ended after p may =
    ap (punctuate p) (ap (lex between) (parts ∙ ap (λ x. x ++ m) is) ∙ lex_false m ended) ∙ begins_boolean p false (lex between m) may
    ∙ ap (λ ts. boolean false ∷ ts) (sym after)
word_begins t m u w null context is parts ended after p may =
    ap (punctuate p) (ap (lex between) (parts ∙ ap (λ x. x ++ m) is) ∙ lex_null m ended) ∙ begins_null p (lex between m) may
    ∙ ap (λ ts. null ∷ ts) (sym after)
word_begins t m u w begin_object context is parts ended after p may = absurd is
word_begins t m u w begin_array context is parts ended after p may = absurd is
word_begins t m u w end_object context is parts ended after p may = absurd is
word_begins t m u w end_array context is parts ended after p may = absurd is
word_begins t m u w (key s) context is parts ended after p may = absurd is
word_begins t m u w (string s) context is parts ended after p may = absurd is
word_begins t m u w (number s) context is parts ended after p may = absurd is
word_begins t m u w bad context is parts ended after p may = absurd is

pub opens_mark : (t : List ℕ) (k : Token) → Opens (head t) k → class (head t) ≡ operator
opens_mark t begin_object e = ap class e
opens_mark t begin_array e = ap class e
opens_mark t end_object e = absurd e
opens_mark t end_array e = absurd e
opens_mark t (key s) e = absurd e
opens_mark t (string s) e = absurd e
opens_mark t (number s) e = absurd e
opens_mark t (boolean b) e = absurd e
opens_mark t null e = absurd e
opens_mark t bad e = absurd e

-- behind a value, at the end of the text, no token is left
pub all_passed : (context : Context) (t : List ℕ) → may_close (place_of context) ≡ true → t ≡ [] → tokens_at context t ≡ []
unfolding lex
all_passed context t may empty = ap (tokens_at context) empty ∙ none_left (place_of context) may
