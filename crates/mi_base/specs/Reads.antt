-- What a base that is read may be, and what reading one of its parts does.
--     HasNumber      a number is below 2^63, as that of every record is
--     FitsRow, IsImage      a row that fits the columns; a table that can be read: its rows fit, and the ids are the list of index 0
--     IsRead      what is known of one that was read
--     IsFormat      a fault of the text, and not of the reader or of memory
--     Reads      a part is read where one stands, and no other is made of it
use Rattle.std.specs.Prelude.{◌≡◌, ℕ, ◌++◌, ◌^◌, pos, ◌<ℤ◌, List, [], true, map, length, slice_index_or, IfSome, Some, MatchResult, Result}
use Rattle.std.specs.List.{AllByRecursion, AllZip}
use Rattle.std.specs.declared.option.Option.{Option}
use Rattle.mi_value.specs.declared.value.Value.{Value}
use Rattle.mi_value.specs.declared.value.Value.TheVariants as value
use Rattle.mi_catalog.specs.Shape.{Shape, CatalogShape}
use Rattle.mi_catalog.specs.Fits.{fits_record}
use Rattle.mi_catalog.specs.Key.{Row}
use Rattle.mi_model.specs.Table.{Table}
use Rattle.mi_base.specs.declared.fault.BaseFault.{BaseFault}
use Rattle.mi_base.specs.declared.fault.BaseFault.TheVariants as fault
use Rattle.mi_base.specs.declared.heading.Heading.{Heading}
use Rattle.mi_base.specs.Lines.{IsPlain}
use Rattle.mi_base.specs.Base.{base_lines}

abbrev pub HasNumber : Value → Type 0
HasNumber (value.Int n) = n <ℤ pos (2 ^ 63)
HasNumber (value.Text t) = Unit {0}
HasNumber (value.Flag b) = Unit {0}

pub record FitsRow (s : Shape) (r : Row) : Type 0 where
  pub fits : fits_record s.columns r.1 ≡ true
  pub numbers : AllByRecursion HasNumber r.1

-- what a table that was read is: each row fits its columns, and there is a list for each index, the ids first
pub record IsRead (s : Shape) (t : Table) : Type 0 where
  pub rows : AllByRecursion (λ r. fits_record s.columns r.1 ≡ true) t.rows
  pub one_each : length t.lists ≡ length s.indexes
  pub ids : slice_index_or t.lists 0 [] ≡ map (λ r. r.0) t.rows

pub record IsImage (s : Shape) (t : Table) : Type 0 where
  pub rows : AllByRecursion (FitsRow s) t.rows
  pub one_each : length t.lists ≡ length s.indexes
  pub ids : slice_index_or t.lists 0 [] ≡ map (λ r. r.0) t.rows

abbrev pub IsFormat : BaseFault → Type 0
IsFormat fault.Read = ⊥
IsFormat fault.Memory = ⊥
IsFormat fault.Torn = Unit {0}
IsFormat (fault.Line n) = Unit {0}

-- Where a text of this form stands first, it is read as what it is, and no more than it. A fault says that there's none.
abbrev pub Reads : {A B : Type 0} → (A → List ℕ) → (A → Type 0) → (B → A → Type 0) → Option (List ℕ) → Option (List ℕ) → Result B BaseFault → Type 0
Reads text Fits Same old new r = IfSome old (λ bytes. (a : _) (rest : List ℕ) → Fits a → bytes ≡ text a ++ rest
    → MatchResult r (λ b. Same b a × (new ≡ Some rest)) (λ e. IsFormat e → ⊥))

-- each line of a base in front of its digest is read as it was
abbrev pub ArePlain : Heading → CatalogShape → List Table → Type 0
ArePlain h c ts = AllByRecursion IsPlain (base_lines h c ts)

-- these are images of a catalog's tables, and each line of their base is read as it was
pub record CanRead (c : CatalogShape) (h : Heading) (ts : List Table) : Type 0 where
  pub images : AllZip IsImage c.tables ts
  pub plain : ArePlain h c ts
