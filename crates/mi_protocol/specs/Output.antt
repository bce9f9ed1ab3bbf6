-- What an output has of a reply.
use Rattle.std.specs.Prelude.{◌≡◌, ◌⊎◌, ℕ, ◌+◌, ◌<◌, List, [], ◌∷◌, ◌++◌, length, take, Bool, true, false}
use Rattle.mi_value.specs.declared.refusal.Refusal.TheVariants.{Memory}
use Rattle.mi_catalog.specs.Shape.{CatalogShape}
use Rattle.mi_protocol.specs.Replies.{Said, refused, reply_text, is_short}

-- the bytes of which the first are the text
abbrev pub bytes_of : Bool → List ℕ → List ℕ → List ℕ
bytes_of true short long = long
bytes_of false short long = short

-- a newline stands behind the first n bytes
abbrev pub EndsLine : ℕ → List ℕ → Type 0
EndsLine n bytes = (n < length bytes) × (take (n + 1) bytes ≡ take n bytes ++ 10 ∷ [])

-- the text is this reply's; or it is that memory is refused, which no reply is that shows no row
abbrev pub PutOrMemory : CatalogShape → Said → List ℕ → Type 0
PutOrMemory c s text = (text ≡ reply_text c s) ⊎ ((is_short s ≡ false) × (text ≡ reply_text c (refused 0 Memory)))
