-- The bytes of a reply's text, and whether it took memory.
use Rattle.std.specs.Prelude.{ℕ, Bool, true, false, List}
use Rattle.mi_protocol.specs.declared.text.ReplyText.{ReplyText}
use Rattle.mi_protocol.specs.declared.text.ReplyText.TheVariants.{Short, Long}

abbrev pub text_bytes : ReplyText → List ℕ
text_bytes (Short bytes) = bytes.items
text_bytes (Long bytes) = bytes.items

-- a short text stands in a buffer of its own, a long one in memory that was asked for
abbrev pub is_short_text : ReplyText → Bool
is_short_text (Short bytes) = true
is_short_text (Long bytes) = false
