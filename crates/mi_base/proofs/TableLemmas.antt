-- The lines of tables, as they are written and read one behind another.
-- Cited by `write::put_image`, `write::put_tables` and `BaseLemmas`.
use Rattle.std.proofs.Common.{◌≡◌, ℕ, ◌+◌, ◌<◌, List, [], ◌∷◌, ◌++◌, map, drop, take, length, get_or, Option, Result, Ok, Err, refl, sym, ap, ◌∙◌, subst, arith, append_assoc}
use Rattle.std.specs.Prelude.{OnOk}
use Rattle.std.proofs.lemmas.List.{append-nil, length-map, length-take-le, map-append, take_more}
use Rattle.std.specs.declared.alloc.Global.{Global}
use Rattle.std.specs.declared.vec.Vec.{Vec}
use Rattle.sha2.specs.declared.Sha256.{Sha256}
use Rattle.mi_catalog.specs.Shape.{Shape}
use Rattle.mi_catalog.specs.Key.{Row}
use Rattle.mi_model.specs.Table.{Table}
use Rattle.mi_container.specs.declared.restore.TableImage.{TableImage}
use Rattle.mi_container.specs.Restore.{image_table}
use Rattle.mi_base.specs.declared.heading.Head.{Head}
use Rattle.mi_base.specs.Base.{head_data, head_of, row_data, list_data, table_lines, tables_lines}
use Rattle.mi_base.specs.Writes.{Puts}
use Rattle.mi_base.proofs.LineLemmas.{puts_none, puts_both}

each_items : (ls : List (Vec ℕ Global)) → map (λ l. list_data l.items) ls ≡ map list_data (map (λ l. l.items) ls)
each_items [] = refl
each_items (l ∷ ls) = ap (λ t. list_data l.items ∷ t) (each_items ls)

pub other_lists : (ls : List (Vec ℕ Global)) → map (λ l. list_data l.items) (drop 1 ls) ≡ map list_data (drop 1 (map (λ l. l.items) ls))
other_lists [] = refl
other_lists (l ∷ ls) = each_items ls

pub puts_image : {E : Type 0} (s : Shape) (i : TableImage) (name : List ℕ) (h : Head) (rows : List Row) (lists : List (Vec ℕ Global)) (r : Result (Unit {0}) E)
    (a b c o : Option (List ℕ)) (d e f g : Sha256) → name ≡ s.table_name → h ≡ head_of (image_table i) → rows ≡ i.rows.items → lists ≡ drop 1 i.lists.items
    → Puts a b d e (head_data name h ∷ []) → Puts b c e f (map row_data rows) → OnOk r (Puts c o f g (map (λ l. list_data l.items) lists))
    → OnOk r (Puts a o d g (table_lines s (image_table i)))
puts_image s i name h rows lists (Ok u) a b c o d e f g hn hh hr hl p q k =
    let head : head_data name h ≡ head_data s.table_name (head_of (image_table i)) = ap (λ n. head_data n h) hn ∙ ap (head_data s.table_name) hh in
    let last : map (λ l. list_data l.items) lists ≡ map list_data (drop 1 (map (λ l. l.items) i.lists.items)) =
    ap (map (λ l. list_data l.items)) hl ∙ other_lists i.lists.items in
    puts_both a b o d e g (head_data s.table_name (head_of (image_table i)) ∷ [])
    (map row_data i.rows.items ++ map list_data (drop 1 (map (λ l. l.items) i.lists.items)))
    (subst (λ x. Puts a b d e (x ∷ [])) head p)
    (puts_both b c o e f g (map row_data i.rows.items) (map list_data (drop 1 (map (λ l. l.items) i.lists.items)))
    (subst (λ rs. Puts b c e f (map row_data rs)) hr q) (subst (Puts c o f g) last k))
puts_image s i name h rows lists (Err x) a b c o d e f g hn hh hr hl p q k = tt

pub tables_none : (ss : List Shape) → tables_lines ss [] ≡ []
tables_none [] = refl
tables_none (s ∷ ss) = refl

-- one table more
pub tables_more : (ss : List Shape) (ts : List Table) (other : Shape) (t : Table) → length ts < length ss
    → tables_lines ss ts ++ table_lines (get_or ss (length ts) other) t ≡ tables_lines ss (ts ++ t ∷ [])
tables_more [] ts other t l = absurd (omega arith)
tables_more (s ∷ ss) [] other t l = sym (ap (λ x. table_lines s t ++ x) (tables_none ss) ∙ append-nil (table_lines s t))
tables_more (s ∷ ss) (u ∷ ts) other t l =
    append_assoc (table_lines s u) (tables_lines ss ts) (table_lines (get_or ss (length ts) other) t)
    ∙ ap (λ x. table_lines s u ++ x) (tables_more ss ts other t (omega arith))

-- the tables so far are written, and one more
pub put_none : (ss : List Shape) (o : Option (List ℕ)) (d : Sha256) → Puts o o d d (tables_lines ss [])
put_none ss o d = subst (Puts o o d d) (sym (tables_none ss)) (puts_none o d)

pub put_more : (ss : List Shape) (is : List TableImage) (i : ℕ) (s0 s : Shape) (x : TableImage) (a b c : Option (List ℕ)) (d e g : Sha256)
    → i < length is → length is ≡ length ss → s ≡ get_or ss i s0 → x ≡ get_or is i x
    → Puts a b d e (tables_lines ss (map image_table (take i is))) → Puts b c e g (table_lines s (image_table x))
    → Puts a c d g (tables_lines ss (map image_table (take (i + 1) is)))
put_more ss is i s0 s x a b c d e g l long at item h k =
    let count : length (map image_table (take i is)) ≡ i = length-map (take i is) image_table ∙ length-take-le i is (omega (arith, l)) in
    let low : length (map image_table (take i is)) < length ss = omega (arith, count, l, long) in
    let one : map image_table (take i is) ++ image_table x ∷ [] ≡ map image_table (take (i + 1) is) =
    sym (map-append image_table (take i is) (x ∷ [])) ∙ ap (λ y. map image_table (take i is ++ y ∷ [])) item
    ∙ ap (map image_table) (sym (take_more is i x l)) in
    subst (λ ts. Puts a c d g (tables_lines ss ts)) one
    (subst (Puts a c d g) (tables_more ss (map image_table (take i is)) s0 (image_table x) low)
    (puts_both a b c d e g (tables_lines ss (map image_table (take i is)))
    (table_lines (get_or ss (length (map image_table (take i is))) s0) (image_table x)) h
    (subst (λ y. Puts b c e g (table_lines y (image_table x))) (at ∙ ap (λ n. get_or ss n s0) (sym count)) k)))
