-- A table that is read: its numbers, its rows and its lists, one behind another.
-- Cited by `read::read_table` and `BaseLemmas`.
use Rattle.std.proofs.Common.{◌≡◌, ℕ, ◌-◌, ◌<◌, List, [], ◌∷◌, ◌++◌, map, drop, length, get_or, Bool, true, false, ◌&&◌, Option, Some, None, Result, Err, refl, sym, ap, ◌∙◌, subst, arith, append_assoc}
use Rattle.std.specs.Prelude.{IfSome, MatchResult}
use Rattle.std.proofs.lemmas.List.{length-drop}
use Rattle.std.specs.List.{AllByRecursion}
use Rattle.std.specs.declared.alloc.Global.{Global}
use Rattle.std.specs.declared.vec.Vec.{Vec}
use Rattle.sha2.specs.declared.Sha256.{Sha256}
use Rattle.mi_catalog.specs.declared.index.Index.{Index}
use Rattle.mi_catalog.specs.Rules.{is_schema, are_indexes}
use Rattle.mi_catalog.specs.Shape.{Shape}
use Rattle.mi_catalog.specs.Key.{Row}
use Rattle.mi_catalog.specs.Fits.{fits_record}
use Rattle.mi_model.specs.Table.{Table}
use Rattle.mi_base.specs.declared.heading.Head.{Head}
use Rattle.mi_base.specs.declared.fault.BaseFault.{BaseFault}
use Rattle.mi_base.specs.Lines.{line_text, lines_text, IsPlain}
use Rattle.mi_base.specs.Base.{head_data, head_of, row_data, list_data, table_lines}
use Rattle.mi_base.specs.Reads.{FitsRow, IsRead, IsImage, IsFormat, Reads}
use Rattle.mi_base.specs.Reader.{Takes}
use Rattle.mi_base.proofs.LineLemmas.{lines_both, takes_both}
use Rattle.mi_base.proofs.ReadLemmas.{at_some}

pub all_front : {A : Type 0} (P : A → Type 0) (xs ys : List A) → AllByRecursion P (xs ++ ys) → AllByRecursion P xs
all_front P [] ys h = tt
all_front P (x ∷ xs) ys h = (h.0, all_front P xs ys h.1)

pub all_back : {A : Type 0} (P : A → Type 0) (xs ys : List A) → AllByRecursion P (xs ++ ys) → AllByRecursion P ys
all_back P [] ys h = h
all_back P (x ∷ xs) ys h = all_back P xs ys h.1

all_units : {A : Type 0} (xs : List A) → AllByRecursion (λ _. Unit {0}) xs
all_units [] = tt
all_units (x ∷ xs) = (tt, all_units xs)

-- every schema has an index
no_index : (n : ℕ) (is : List Index) (a d : Bool) → ((a && are_indexes n is) && d) ≡ true → 0 < length is
no_index n [] true true h = absurd (cc)
no_index n [] true false h = absurd (cc)
no_index n [] false d h = absurd (cc)
no_index n (i ∷ is) a d h = omega arith

pub has_index : (s : Shape) → is_schema s ≡ true → 0 < length s.indexes
has_index s h = no_index (length s.columns) s.indexes _ _ h

module _ (s : Shape) where
  abbrev pub CanBe : Table → Type 0
  CanBe t = IsImage s t × AllByRecursion IsPlain (table_lines s t)

  -- what is said of the rows behind the head, is said of a table's
  pub table_rows : (C : List Row → List ℕ → Type 0) (name : List ℕ) (old a : Option (List ℕ)) (h : Head) → name ≡ s.table_name
      → IfSome old (λ bytes. (x : Head) (rest : List ℕ) → IsPlain (head_data name x) → bytes ≡ line_text (head_data name x) ++ rest → (h ≡ x) × (a ≡ Some rest))
      → IfSome a (λ bytes. (xs : List Row) (rest : List ℕ) → (length xs ≡ h.rows) × (AllByRecursion (FitsRow s) xs × AllByRecursion IsPlain (map row_data xs))
      → bytes ≡ lines_text (map row_data xs) ++ rest → C xs rest)
      → IfSome old (λ bytes. (t : Table) (rest : List ℕ) → CanBe t → bytes ≡ lines_text (table_lines s t) ++ rest
      → (h ≡ head_of t) × C t.rows (lines_text (map list_data (drop 1 t.lists)) ++ rest))
  table_rows C name None a h hn head rows = tt
  table_rows C name (Some bytes) a h hn head rows = λ t rest can e.
      let g = head (head_of t) (lines_text (map row_data t.rows ++ map list_data (drop 1 t.lists)) ++ rest)
      (subst (λ n. IsPlain (head_data n (head_of t))) (sym hn) can.1.0)
      (e ∙ append_assoc (line_text (head_data s.table_name (head_of t))) (lines_text (map row_data t.rows ++ map list_data (drop 1 t.lists))) rest
      ∙ ap (λ n. line_text (head_data n (head_of t)) ++ (lines_text (map row_data t.rows ++ map list_data (drop 1 t.lists)) ++ rest)) (sym hn)) in (
        g.0,
        at_some a _ _ g.1 rows t.rows (lines_text (map list_data (drop 1 t.lists)) ++ rest)
            (sym (ap (λ x. x.rows) g.0), (can.0.rows, all_front IsPlain (map row_data t.rows) (map list_data (drop 1 t.lists)) can.1.1))
            (ap (λ x. x ++ rest) (lines_both (map row_data t.rows) (map list_data (drop 1 t.lists)))
            ∙ append_assoc (lines_text (map row_data t.rows)) (lines_text (map list_data (drop 1 t.lists))) rest),
      )

  -- and of the lists behind them
  pub table_lists : (D : List (List ℕ) → List ℕ → Type 0) (old b : Option (List ℕ)) (h : Head) (rows : List Row) (n : ℕ) → n ≡ length s.indexes - 1
      → IfSome old (λ bytes. (t : Table) (rest : List ℕ) → CanBe t → bytes ≡ lines_text (table_lines s t) ++ rest
      → (h ≡ head_of t) × ((rows ≡ t.rows) × (b ≡ Some (lines_text (map list_data (drop 1 t.lists)) ++ rest))))
      → IfSome b (λ bytes. (ids : List (List ℕ)) (rest : List ℕ) → (length ids ≡ n) × (AllByRecursion (λ _. Unit {0}) ids × AllByRecursion IsPlain (map list_data ids))
      → bytes ≡ lines_text (map list_data ids) ++ rest → D ids rest)
      → IfSome old (λ bytes. (t : Table) (rest : List ℕ) → CanBe t → bytes ≡ lines_text (table_lines s t) ++ rest
      → (h ≡ head_of t) × ((rows ≡ t.rows) × D (drop 1 t.lists) rest))
  table_lists D None b h rows n hn front lists = tt
  table_lists D (Some bytes) b h rows n hn front lists = λ t rest can e.
      let g = front t rest can e in (
        g.0,
        (
          g.1.0,
          at_some b _ _ g.1.1 lists (drop 1 t.lists) rest (
            let long = length-drop 1 t.lists in let same = can.0.one_each in omega (arith, long, same, hn),
            (all_units (drop 1 t.lists), all_back IsPlain (map row_data t.rows) (map list_data (drop 1 t.lists)) can.1.1),
          ) refl,
        ),
      )

  -- a fault says that no table stands there
  pub table_fails : {B : Type 0} (Same : B → Table → Type 0) (P : Table → Type 0) (old later : Option (List ℕ)) (q : BaseFault) (r : Result B BaseFault) → r ≡ Err q
      → IfSome old (λ bytes. (t : Table) (rest : List ℕ) → CanBe t → bytes ≡ lines_text (table_lines s t) ++ rest → P t × (IsFormat q → ⊥))
      → Reads (λ t. lines_text (table_lines s t)) CanBe Same old later r
  table_fails Same P None later q r is h = tt
  table_fails Same P (Some bytes) later q r is h = λ t rest can e.
      subst (λ o. MatchResult o (λ b. Same b t × (later ≡ Some rest)) (λ x. IsFormat x → ⊥)) (sym is) (h t rest can e).1

  pub table_fails_late : {B : Type 0} (Same : B → Table → Type 0) (P Q : Table → Type 0) (old later : Option (List ℕ)) (q : BaseFault) (r : Result B BaseFault)
      → r ≡ Err q
      → IfSome old (λ bytes. (t : Table) (rest : List ℕ) → CanBe t → bytes ≡ lines_text (table_lines s t) ++ rest → P t × (Q t × (IsFormat q → ⊥)))
      → Reads (λ t. lines_text (table_lines s t)) CanBe Same old later r
  table_fails_late Same P Q None later q r is h = tt
  table_fails_late Same P Q (Some bytes) later q r is h = λ t rest can e.
      subst (λ o. MatchResult o (λ b. Same b t × (later ≡ Some rest)) (λ x. IsFormat x → ⊥)) (sym is) (h t rest can e).1.1

  first_list : (t : Table) → 0 < length t.lists → get_or t.lists 0 [] ∷ drop 1 t.lists ≡ t.lists
  first_list t l = by t.lists l
    where
      by : (ls : List (List ℕ)) → 0 < length ls → get_or ls 0 [] ∷ drop 1 ls ≡ ls
      by [] l = absurd (omega arith)
      by (x ∷ ls) l = refl

  -- the image of what was read is the table that stood there
  pub table_reads : (old c : Option (List ℕ)) (h : Head) (rows : List Row) (ids : List ℕ) (others lists : List (List ℕ)) → 0 < length s.indexes
      → ids ≡ map (λ r. r.0) rows → lists ≡ ids ∷ others
      → IfSome old (λ bytes. (t : Table) (rest : List ℕ) → CanBe t → bytes ≡ lines_text (table_lines s t) ++ rest
      → (h ≡ head_of t) × ((rows ≡ t.rows) × ((others ≡ drop 1 t.lists) × (c ≡ Some rest))))
      → IfSome old (λ bytes. (t : Table) (rest : List ℕ) → CanBe t → bytes ≡ lines_text (table_lines s t) ++ rest
      → (record { rows = rows; lists = lists; next = h.next; arrivals = h.arrivals } ≡ t) × (c ≡ Some rest))
  table_reads None c h rows ids others lists some is split k = tt
  table_reads (Some bytes) c h rows ids others lists some is split k = λ t rest can e.
      let g = k t rest can e in
      let same = can.0.one_each in
      let first : ids ≡ get_or t.lists 0 [] = is ∙ ap (map (λ r. r.0)) g.1.0 ∙ sym can.0.ids in
      let all : lists ≡ t.lists =
      split ∙ ap (λ x. x ∷ others) first ∙ ap (λ x. get_or t.lists 0 [] ∷ x) g.1.1.0 ∙ first_list t (omega (arith, same, some)) in (
        ap (λ x. record { rows = x; lists = lists; next = h.next; arrivals = h.arrivals }) g.1.0
            ∙ ap (λ x. record { rows = t.rows; lists = x; next = h.next; arrivals = h.arrivals }) all
            ∙ ap (λ x. record { rows = t.rows; lists = t.lists; next = x.next; arrivals = x.arrivals }) g.0,
        g.1.1.1,
      )

  -- and its lines were taken
  pub table_takes : (name : List ℕ) (old a b c : Option (List ℕ)) (d e f g : Sha256) (h : Head) (rows : List Row) (ids : List ℕ) (others lists : List (List ℕ))
      → name ≡ s.table_name → length rows ≡ h.rows → lists ≡ ids ∷ others
      → Takes old a d e (head_data name h ∷ []) → Takes a b e f (map row_data rows) → Takes b c f g (map list_data others)
      → Takes old c d g (table_lines s (record { rows = rows; lists = lists; next = h.next; arrivals = h.arrivals }))
  table_takes name old a b c d e f g h rows ids others lists hn count split p q k =
      let head : head_data name h ≡ head_data s.table_name (record { arrivals = h.arrivals; next = h.next; rows = length rows }) =
      ap (λ n. head_data n h) hn ∙ ap (λ n. head_data s.table_name (record { arrivals = h.arrivals; next = h.next; rows = n })) (sym count) in
      subst (λ ls. Takes old c d g (table_lines s (record { rows = rows; lists = ls; next = h.next; arrivals = h.arrivals }))) (sym split)
      (takes_both old a c d e g (head_data s.table_name (record { arrivals = h.arrivals; next = h.next; rows = length rows }) ∷ [])
      (map row_data rows ++ map list_data others) (subst (λ x. Takes old a d e (x ∷ [])) head p)
      (takes_both a b c e f g (map row_data rows) (map list_data others) q k))

  pub table_is : (rows : List Row) (ids : List ℕ) (others lists : List (List ℕ)) (next arrivals n : ℕ) → 0 < length s.indexes → n ≡ length s.indexes - 1
      → length others ≡ n → ids ≡ map (λ r. r.0) rows → lists ≡ ids ∷ others → AllByRecursion (λ r. fits_record s.columns r.1 ≡ true) rows
      → IsRead s (record { rows = rows; lists = lists; next = next; arrivals = arrivals })
  table_is rows ids others lists next arrivals n some hn long is split fits =
      let whole = ap length split in
      record { rows = fits; one_each = omega (arith, whole, long, hn, some); ids = ap (λ ls. get_or ls 0 []) split ∙ is }

pub lists_of : (l : Vec ℕ Global) (ls new : List (Vec ℕ Global)) → new ≡ l ∷ ls → map (λ x. x.items) new ≡ l.items ∷ map (λ x. x.items) ls
lists_of l ls new is = ap (map (λ x. x.items)) is
