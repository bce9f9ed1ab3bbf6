-- Bytes that are a text are looked for among names, and others are the name of nothing. What `names.rt` finds by is proved with it.
-- Cited by `names::column_in`, `names::index_in` and `names::table_in`.
use Rattle.std.proofs.Common.{◌≡◌, ℕ, List, Bool, Option, None, cond, ap, inl, inr}
use Rattle.std.specs.Str.{IsUtf8, is_utf8}
use Rattle.std.proofs.lemmas.Str.{IsUtf8-from_is_utf8, is_utf8-from_IsUtf8}
use Rattle.mi_embed.specs.Named.{by_name}
use Rattle.mi_embed.proofs.CellLemmas.{test_of}

pub text_is_sought : (find : List ℕ → Option ℕ) (bs : List ℕ) → IsUtf8 bs → by_name find bs ≡ find bs
text_is_sought find bs is = ap (λ b. cond b (find bs) None) (is_utf8-from_IsUtf8 bs is)

pub other_names_nothing : (find : List ℕ → Option ℕ) (bs : List ℕ) → ¬ IsUtf8 bs → by_name find bs ≡ None
other_names_nothing find bs isnt = elim (test_of (is_utf8 bs)) [
  | inl is ↦ absurd (isnt (IsUtf8-from_is_utf8 bs is))
  | inr is ↦ ap (λ b. cond b (find bs) None) is
]
