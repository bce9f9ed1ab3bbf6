-- The text of a base: a heading, the tables of a catalog in their order, and the digest of all in front of it. Each is lines of JSON, the members
-- in the order of their names' bytes.
--     heading_data      {"base":1,"line":L,"revision":R,"schema":"..","segment":S,"sum":".."}
--     head_data      {"arrivals":A,"next":N,"rows":K,"table":"accounts"}
--     row_data      [id,value,..]
--     list_data      [id,id,..]
--     digits_data, digest_data      {"sha256":".."}
--     table_lines, tables_lines, base_lines      the lines of a table, of tables, and of a base without its last one
--     base_front, base_text      the text of those lines, and of the whole base
use Rattle.std.specs.Prelude.{ℕ, List, [], ◌∷◌, ◌++◌, map, drop, length, codes, string_bytes}
use Rattle.sha2.specs.Sha256.{sha256}
use Rattle.hex.specs.Hex.{encode_lower}
use Rattle.serde_json.specs.Data.{Data, boolean, number, unsigned, string, array, object, no_members, member}
use Rattle.serde_json.specs.View.{items_of}
use Rattle.serde_json.specs.Find.{of_integer}
use Rattle.mi_value.specs.declared.value.Value.{Value}
use Rattle.mi_value.specs.declared.value.Value.TheVariants as value
use Rattle.mi_catalog.specs.Shape.{Shape, CatalogShape}
use Rattle.mi_catalog.specs.Key.{Row}
use Rattle.mi_model.specs.Table.{Table}
use Rattle.mi_base.specs.declared.heading.Heading.{Heading}
use Rattle.mi_base.specs.declared.heading.Head.{Head}
use Rattle.mi_base.specs.Lines.{line_text, lines_text}

unfoldable pub heading_data : Heading → Data
heading_data h = object (member (codes "base") (number (unsigned 1)) (member (codes "line") (number (unsigned h.line))
    (member (codes "revision") (number (unsigned h.revision)) (member (codes "schema") (string (string_bytes h.schema))
    (member (codes "segment") (number (unsigned h.segment)) (member (codes "sum") (string (string_bytes h.sum)) no_members))))))

-- the numbers of a table
abbrev pub head_of : Table → Head
head_of t = record { arrivals = t.arrivals; next = t.next; rows = length t.rows }

unfoldable pub head_data : List ℕ → Head → Data
head_data name h = object (member (codes "arrivals") (number (unsigned h.arrivals)) (member (codes "next") (number (unsigned h.next))
    (member (codes "rows") (number (unsigned h.rows)) (member (codes "table") (string name) no_members))))

-- a value as JSON
abbrev pub value_data : Value → Data
value_data (value.Int n) = number (of_integer n)
value_data (value.Text t) = string t
value_data (value.Flag b) = boolean b

unfoldable pub row_data : Row → Data
row_data r = array (items_of (number (unsigned r.0) ∷ map value_data r.1))

abbrev pub id_data : ℕ → Data
id_data id = number (unsigned id)

unfoldable pub list_data : List ℕ → Data
list_data ids = array (items_of (map id_data ids))

-- the list of index 0 isn't written: it's the ids of the rows
abbrev pub table_lines : Shape → Table → List Data
table_lines s t = head_data s.table_name (head_of t) ∷ (map row_data t.rows ++ map list_data (drop 1 t.lists))

abbrev pub tables_lines : List Shape → List Table → List Data
tables_lines [] ts = []
tables_lines (s ∷ shapes) [] = []
tables_lines (s ∷ shapes) (t ∷ ts) = table_lines s t ++ tables_lines shapes ts

abbrev pub base_lines : Heading → CatalogShape → List Table → List Data
base_lines h c ts = heading_data h ∷ tables_lines c.tables ts

abbrev pub base_front : Heading → CatalogShape → List Table → List ℕ
base_front h c ts = lines_text (base_lines h c ts)

-- of a digest's 32 bytes
unfoldable pub digits_data : List ℕ → Data
digits_data digest = object (member (codes "sha256") (string (encode_lower digest)) no_members)

abbrev pub digest_data : List ℕ → Data
digest_data front = digits_data (sha256 front)

abbrev pub base_text : Heading → CatalogShape → List Table → List ℕ
base_text h c ts = base_front h c ts ++ line_text (digest_data (base_front h c ts))
