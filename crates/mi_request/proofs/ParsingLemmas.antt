-- From the value that a text is to the request that it is.
-- Cited by `line_reader::read_any`, `value::read_value`, `FlatLemmas` and `ShortLemmas`.
use Rattle.std.proofs.Common.{◌≡◌, ℕ, List, Bool, true, false, cond, Option, Some, None}
use Rattle.std.proofs.Common.{Result, Ok, Err, IfOk, refl, sym, ap, ◌∙◌, inl, inr, ◌⊎◌}
use Rattle.std.specs.Option.{ok_or}
use Rattle.std.specs.Str.{IsUtf8, is_utf8}
use Rattle.std.proofs.lemmas.Str.{IsUtf8-from_is_utf8, is_utf8-from_IsUtf8}
use Rattle.serde_json.specs.Data.{Data}
use Rattle.serde_json.specs.Read.{read}
use Rattle.mi_tokens.specs.Meaning.{meaning}
use Rattle.mi_tokens.specs.declared.value.Json.{Json}
use Rattle.mi_value.specs.declared.refusal.Refusal.{Refusal}
use Rattle.mi_value.specs.declared.refusal.Refusal.TheVariants.{Form}
use Rattle.mi_request.specs.Answers.{IsAnswer}
use Rattle.mi_request.specs.Lines.{json_of, request_of, request_or_refusal, command_line}
use Rattle.mi_request.specs.declared.request.Request.{Request}

test_of : (b : Bool) → (b ≡ true) ⊎ (b ≡ false)
test_of true = inl refl
test_of false = inr refl

pub json-found : (bytes : List ℕ) (d : Data) → IsUtf8 bytes → read bytes ≡ Some d → json_of bytes ≡ Some d
json-found bytes d utf8 found = ap (λ b. cond b (read bytes) None) (is_utf8-from_IsUtf8 bytes utf8) ∙ found

-- the same of a value that may be refused
pub kept_found : (bytes : List ℕ) (r : Result Json Refusal) → IsUtf8 bytes → IfOk r (λ v. read bytes ≡ Some (meaning v)) → IfOk r (λ v. json_of bytes ≡ Some (meaning v))
kept_found bytes (Ok v) utf8 h = json-found bytes (meaning v) utf8 h
kept_found bytes (Err e) utf8 h = tt

pub json-refused : (bytes : List ℕ) → (IsUtf8 bytes → read bytes ≡ None) → json_of bytes ≡ None
json-refused bytes none = elim (test_of (is_utf8 bytes)) [
  | inl is ↦ ap (λ b. cond b (read bytes) None) is ∙ none (IsUtf8-from_is_utf8 bytes is)
  | inr other ↦ ap (λ b. cond b (read bytes) None) other
]

-- a value is read, and it is the request, if it is one
pub answer-value : (r : Option Request) (bytes : List ℕ) (d : Data) → json_of bytes ≡ Some d → r ≡ request_of d → IsAnswer (ok_or r Form) (command_line bytes)
answer-value None bytes d found is = ap request_or_refusal found ∙ ap (λ o. ok_or o Form) (sym is)
answer-value (Some r) bytes d found is = ap request_or_refusal found ∙ ap (λ o. ok_or o Form) (sym is)

-- a line is the request of its value
pub request_found : (line : List ℕ) (d : Data) (r : Request) → IsUtf8 line → read line ≡ Some d → request_of d ≡ Some r → command_line line ≡ Ok r
request_found line d r utf8 found asked = ap request_or_refusal (json-found line d utf8 found) ∙ ap (λ o. ok_or o Form) asked
