-- The JSON object that each reply is.
use Rattle.std.specs.Prelude.{◌≡◌, ℕ, true, false, IsTrue, codes}
use Rattle.serde_json.specs.Data.{Data, boolean, number, unsigned, string, array, object, no_members, member}
use Rattle.serde_json.specs.Written.{compact_text}
use Rattle.mi_value.specs.Words.{word_of}
use Rattle.mi_value.specs.declared.refusal.Refusal.{Refusal}
use Rattle.mi_value.specs.declared.refusal.Refusal.TheVariants.{Unique, Lost}
use Rattle.mi_catalog.specs.Shape.{CatalogShape, schema_at}
use Rattle.mi_catalog.specs.Rules.{is_catalog}
use Rattle.mi_rows.specs.Rows.{row_data, rows_items}
use Rattle.mi_protocol.specs.Replies.{Said, inserted, done, erased, shown, revised, committed, undone, pushed, status}
use Rattle.mi_protocol.specs.Replies.{counted, ranked, sized, rows, refused_modify, refused, index_name, reply_text, IsSaidOf}

-- the object of a refusal
abbrev pub refusal_data : CatalogShape → ℕ → Refusal → Data
refusal_data c n (Unique x id) =
    object (member (codes "error") (string (codes "unique")) (member (codes "id") (number (unsigned id)) (member (codes "index") (string (index_name c n x))
    (member (codes "ok") (boolean false) no_members))))
refusal_data c n (Lost x id) =
    object (member (codes "error") (string (codes "unique")) (member (codes "id") (number (unsigned id)) (member (codes "index") (string (index_name c n x))
    (member (codes "lost") (boolean true) (member (codes "ok") (boolean false) no_members)))))
refusal_data c n e = object (member (codes "error") (string (word_of e)) (member (codes "ok") (boolean false) no_members))

-- the object of a modify's refusal
abbrev pub modify_refusal_data : CatalogShape → ℕ → Refusal → Data
modify_refusal_data c n (Unique x id) =
    object (member (codes "error") (string (codes "unique")) (member (codes "id") (number (unsigned id)) (member (codes "index") (string (index_name c n x))
    (member (codes "lost") (boolean false) (member (codes "ok") (boolean false) no_members)))))
modify_refusal_data c n e = refusal_data c n e

-- the object of a reply
abbrev pub reply_data : CatalogShape → Said → Data
reply_data c (inserted id) = object (member (codes "id") (number (unsigned id)) (member (codes "ok") (boolean true) no_members))
reply_data c done = object (member (codes "ok") (boolean true) no_members)
reply_data c (erased n) = object (member (codes "erased") (number (unsigned n)) (member (codes "ok") (boolean true) no_members))
reply_data c (shown n id row) = object (member (codes "ok") (boolean true) (member (codes "row") (row_data (schema_at c n).columns id row) no_members))
reply_data c (revised n) = object (member (codes "ok") (boolean true) (member (codes "revision") (number (unsigned n)) no_members))
reply_data c (committed n) = object (member (codes "committed") (number (unsigned n)) (member (codes "ok") (boolean true) no_members))
reply_data c (undone n) = object (member (codes "ok") (boolean true) (member (codes "undone") (number (unsigned n)) no_members))
reply_data c (pushed n) = object (member (codes "ok") (boolean true) (member (codes "pushed") (number (unsigned n)) no_members))
reply_data c (status depth held revision) =
    object (member (codes "depth") (number (unsigned depth)) (member (codes "held") (number (unsigned held)) (member (codes "ok") (boolean true)
    (member (codes "revision") (number (unsigned revision)) no_members))))
reply_data c (counted n) = object (member (codes "count") (number (unsigned n)) (member (codes "ok") (boolean true) no_members))
reply_data c (ranked n) = object (member (codes "ok") (boolean true) (member (codes "rank") (number (unsigned n)) no_members))
reply_data c (sized n) = object (member (codes "ok") (boolean true) (member (codes "size") (number (unsigned n)) no_members))
reply_data c (rows n records more) =
    object (member (codes "more") (boolean more) (member (codes "ok") (boolean true)
    (member (codes "rows") (array (rows_items (schema_at c n).columns records)) no_members)))
reply_data c (refused_modify n e) = modify_refusal_data c n e
reply_data c (refused n e) = refusal_data c n e

-- the text of each reply is the compact text of its object
abbrev pub RepliesAreCompactJson : Type 0
RepliesAreCompactJson = (c : CatalogShape) (s : Said) → IsTrue (is_catalog c) → IsSaidOf c s → reply_text c s ≡ compact_text (reply_data c s)
