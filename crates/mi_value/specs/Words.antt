-- The word of each refusal, as replies carry it.
use Rattle.std.specs.Prelude.{ℕ, List, codes}
use Rattle.mi_value.specs.declared.refusal.Refusal.{Refusal}
use Rattle.mi_value.specs.declared.refusal.Refusal.TheVariants.{Line, Json, Form, Busy, NoTable, Index, Kind, Row, Key, NoId}
use Rattle.mi_value.specs.declared.refusal.Refusal.TheVariants.{Range, Full, Spent, Unique, Lost, Depth, Session, Memory}

-- a record that a unique index refuses has one word, whether its row was erased or not
abbrev pub word_of : Refusal → List ℕ
word_of Line = codes "line"
word_of Json = codes "json"
word_of Form = codes "form"
word_of Busy = codes "busy"
word_of NoTable = codes "table"
word_of Index = codes "index"
word_of Kind = codes "kind"
word_of Row = codes "row"
word_of Key = codes "key"
word_of NoId = codes "id"
word_of Range = codes "range"
word_of Full = codes "full"
word_of Spent = codes "spent"
word_of (Unique index id) = codes "unique"
word_of (Lost index id) = codes "unique"
word_of Depth = codes "depth"
word_of Session = codes "session"
word_of Memory = codes "memory"
