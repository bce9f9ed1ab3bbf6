-- The tokens of a JSON text that is read where it stands.
use Rattle.std.specs.Prelude.{◌≡◌, ℕ, List, true, false, ◌==◌, ◌∷◌, if◌then◌else◌, codes}
use Rattle.json.specs.Token.{Token, begin_object, end_object, begin_array, end_array, key, string, number, boolean, null, bad}
use Rattle.json.specs.Lex.{lex, between, punctuate, fresh, after_value, after_comma, may_begin, may_close}
use Rattle.json.specs.Lex as grammar
use Rattle.std.specs.Fmt.{signed_decimal}
use Rattle.mi_tokens.specs.declared.tokens.Start.{Start}
use Rattle.mi_tokens.specs.declared.tokens.Start.TheVariants as start
use Rattle.mi_tokens.specs.declared.tokens.Context.{Context}
use Rattle.mi_tokens.specs.declared.tokens.Context.TheVariants.{Fresh, AfterValue, AfterComma}

-- where the grammar is in such a context
abbrev pub place_of : Context → grammar.Place
place_of Fresh = fresh
place_of AfterValue = after_value
place_of AfterComma = after_comma

-- the token of the grammar; a whole number is written in decimal
abbrev pub token_of : Start → Token
token_of start.Array = begin_array
token_of start.Object = begin_object
token_of (start.Text s) = string s.now
token_of (start.Whole z) = number (signed_decimal z)
token_of (start.Bool b) = boolean b
token_of start.Null = null

-- the tokens of a text that is read from this context on
abbrev pub tokens_at : Context → List ℕ → List Token
tokens_at context text = punctuate (place_of context) (lex between text)

-- wherever a value may begin, the text `old` gives t and then what `new` gives
abbrev pub Begins : List ℕ → Token → Context → List ℕ → Type 0
Begins old t context new = (p : grammar.Place) → may_begin p ≡ true → punctuate p (lex between old) ≡ t ∷ tokens_at context new

-- the same wherever an array or an object may end
abbrev pub Closes : List ℕ → Token → Context → List ℕ → Type 0
Closes old t context new = (p : grammar.Place) → may_close p ≡ true → punctuate p (lex between old) ≡ t ∷ tokens_at context new

-- the token of the bracket or the brace that ends
abbrev pub end_token : ℕ → Token
end_token c = if c == 125 then end_object else end_array

-- the byte opens an array or an object, with this token
abbrev pub Opens : ℕ → Token → Type 0
Opens c begin_object = c ≡ 123
Opens c begin_array = c ≡ 91
Opens c end_object = ⊥
Opens c end_array = ⊥
Opens c (key s) = ⊥
Opens c (string s) = ⊥
Opens c (number s) = ⊥
Opens c (boolean b) = ⊥
Opens c null = ⊥
Opens c bad = ⊥

-- the word of true, false or null
abbrev pub IsWordOf : Token → List ℕ → Type 0
IsWordOf (boolean true) s = s ≡ codes "true"
IsWordOf (boolean false) s = s ≡ codes "false"
IsWordOf null s = s ≡ codes "null"
IsWordOf begin_object s = ⊥
IsWordOf begin_array s = ⊥
IsWordOf end_object s = ⊥
IsWordOf end_array s = ⊥
IsWordOf (key t) s = ⊥
IsWordOf (string t) s = ⊥
IsWordOf (number t) s = ⊥
IsWordOf bad s = ⊥
