-- What replies say, and their text, without a newline.
use Rattle.std.specs.Prelude.{ℕ, ◌<◌, List, ◌++◌, length, map, Bool, true, false, codes, decimal}
use Rattle.serde_json.specs.Data.{boolean, array, object, no_members, member}
use Rattle.serde_json.specs.Written.{compact_text}
use Rattle.mi_value.specs.Words.{word_of}
use Rattle.mi_value.specs.declared.refusal.Refusal.{Refusal}
use Rattle.mi_value.specs.declared.refusal.Refusal.TheVariants.{Unique, Lost}
use Rattle.mi_value.specs.declared.value.Value.{Value}
use Rattle.mi_catalog.specs.Shape.{CatalogShape, schema_at, index_at}
use Rattle.mi_rows.specs.Rows.{row_data, rows_items}
use Rattle.mi_protocol.specs.declared.reply.Reply.{Reply}
use Rattle.mi_protocol.specs.declared.reply.Reply.TheVariants as reply

-- what a reply says: the id of an inserted record, no more than that it is done, how many records were erased, a record of a
-- table, a revision, how many sessions were committed, undone or pushed, how many are open and are held with the revision, a
-- count, a rank, a size, records of a table and whether more follow, or why a modify or another command over a table is refused
pub data Said : Type 0 where
  inserted : ℕ → Said
  done : Said
  erased : ℕ → Said
  shown : ℕ → ℕ → List Value → Said
  revised : ℕ → Said
  committed : ℕ → Said
  undone : ℕ → Said
  pushed : ℕ → Said
  status : ℕ → ℕ → ℕ → Said
  counted : ℕ → Said
  ranked : ℕ → Said
  sized : ℕ → Said
  rows : ℕ → List (ℕ × List Value) → Bool → Said
  refused_modify : ℕ → Refusal → Said
  refused : ℕ → Refusal → Said

-- what a reply of the code says
abbrev pub said : Reply → Said
said (reply.Inserted id) = inserted id
said reply.Done = done
said (reply.Erased count) = erased count
said (reply.Shown table id row) = shown table id row.now
said (reply.Revised revision) = revised revision
said (reply.Committed count) = committed count
said (reply.Undone count) = undone count
said (reply.Pushed count) = pushed count
said (reply.Status depth held revision) = status depth held revision
said (reply.Counted count) = counted count
said (reply.Ranked rank) = ranked rank
said (reply.Sized size) = sized size
said (reply.Rows table records more) = rows table (map (λ r. (r.0, r.1.now)) records.items) more
said (reply.RefusedModify table refusal) = refused_modify table refusal
said (reply.Refused table refusal) = refused table refusal

-- the name of an index of a table
abbrev pub index_name : CatalogShape → ℕ → ℕ → List ℕ
index_name c n x = (index_at (schema_at c n) x).name

-- the start of the text of a conflict, up to the index's name
abbrev pub conflict_text : CatalogShape → ℕ → ℕ → ℕ → List ℕ
conflict_text c n x id = codes "{\"error\":\"unique\",\"id\":" ++ decimal id ++ codes ",\"index\":\"" ++ index_name c n x

-- a refusal names the conflict of a unique index; a record that a modify lost is marked
abbrev pub refusal_text : CatalogShape → ℕ → Refusal → List ℕ
refusal_text c n (Unique x id) = conflict_text c n x id ++ codes "\",\"ok\":false}"
refusal_text c n (Lost x id) = conflict_text c n x id ++ codes "\",\"lost\":true,\"ok\":false}"
refusal_text c n e = codes "{\"error\":\"" ++ word_of e ++ codes "\",\"ok\":false}"

-- a refusal of a modify says of a conflict whether the record is lost
abbrev pub modify_refusal_text : CatalogShape → ℕ → Refusal → List ℕ
modify_refusal_text c n (Unique x id) = conflict_text c n x id ++ codes "\",\"lost\":false,\"ok\":false}"
modify_refusal_text c n e = refusal_text c n e

-- the text of a reply: compact JSON, the members in the order of their names' bytes
abbrev pub reply_text : CatalogShape → Said → List ℕ
reply_text c (inserted id) = codes "{\"id\":" ++ decimal id ++ codes ",\"ok\":true}"
reply_text c done = codes "{\"ok\":true}"
reply_text c (erased n) = codes "{\"erased\":" ++ decimal n ++ codes ",\"ok\":true}"
reply_text c (shown n id row) =
    compact_text (object (member (codes "ok") (boolean true) (member (codes "row") (row_data (schema_at c n).columns id row) no_members)))
reply_text c (revised n) = codes "{\"ok\":true,\"revision\":" ++ decimal n ++ codes "}"
reply_text c (committed n) = codes "{\"committed\":" ++ decimal n ++ codes ",\"ok\":true}"
reply_text c (undone n) = codes "{\"ok\":true,\"undone\":" ++ decimal n ++ codes "}"
reply_text c (pushed n) = codes "{\"ok\":true,\"pushed\":" ++ decimal n ++ codes "}"
reply_text c (status depth held revision) =
    codes "{\"depth\":" ++ decimal depth ++ codes ",\"held\":" ++ decimal held ++ codes ",\"ok\":true,\"revision\":" ++ decimal revision ++ codes "}"
reply_text c (counted n) = codes "{\"count\":" ++ decimal n ++ codes ",\"ok\":true}"
reply_text c (ranked n) = codes "{\"ok\":true,\"rank\":" ++ decimal n ++ codes "}"
reply_text c (sized n) = codes "{\"ok\":true,\"size\":" ++ decimal n ++ codes "}"
reply_text c (rows n records more) =
    compact_text (object (member (codes "more") (boolean more) (member (codes "ok") (boolean true)
    (member (codes "rows") (array (rows_items (schema_at c n).columns records)) no_members))))
reply_text c (refused_modify n e) = modify_refusal_text c n e
reply_text c (refused n e) = refusal_text c n e

-- a conflict's table and index are there
abbrev pub IsRefusalOf : CatalogShape → ℕ → Refusal → Type 0
IsRefusalOf c n (Unique x id) = (n < length c.tables) × (x < length (schema_at c n).indexes)
IsRefusalOf c n (Lost x id) = (n < length c.tables) × (x < length (schema_at c n).indexes)
IsRefusalOf c n e = Unit {0}

-- the table, and the index of a conflict, are there
abbrev pub IsSaidOf : CatalogShape → Said → Type 0
IsSaidOf c (inserted id) = Unit {0}
IsSaidOf c done = Unit {0}
IsSaidOf c (erased n) = Unit {0}
IsSaidOf c (shown n id row) = n < length c.tables
IsSaidOf c (revised n) = Unit {0}
IsSaidOf c (committed n) = Unit {0}
IsSaidOf c (undone n) = Unit {0}
IsSaidOf c (pushed n) = Unit {0}
IsSaidOf c (status depth held revision) = Unit {0}
IsSaidOf c (counted n) = Unit {0}
IsSaidOf c (ranked n) = Unit {0}
IsSaidOf c (sized n) = Unit {0}
IsSaidOf c (rows n records more) = n < length c.tables
IsSaidOf c (refused_modify n e) = IsRefusalOf c n e
IsSaidOf c (refused n e) = IsRefusalOf c n e

-- a reply that shows no rows
abbrev pub is_short : Said → Bool
is_short (inserted id) = true
is_short done = true
is_short (erased n) = true
is_short (shown n id row) = false
is_short (revised n) = true
is_short (committed n) = true
is_short (undone n) = true
is_short (pushed n) = true
is_short (status depth held revision) = true
is_short (counted n) = true
is_short (ranked n) = true
is_short (sized n) = true
is_short (rows n records more) = false
is_short (refused_modify n e) = true
is_short (refused n e) = true

-- a reply whose text is a number between two texts
abbrev pub says_number : Said → Bool
says_number (inserted id) = true
says_number (erased n) = true
says_number (revised n) = true
says_number (committed n) = true
says_number (undone n) = true
says_number (pushed n) = true
says_number (counted n) = true
says_number (ranked n) = true
says_number (sized n) = true
says_number other = false
