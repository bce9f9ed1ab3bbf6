-- What a change of one container, with its inverse noted or settled, leaves.
-- Cited by `Linked::erase_row`, `Linked::settle_one`, `Linked::unwind_one`, `LinkedSessions::insert`, `LinkedSessions::modify` and 6 more.
use Rattle.std.proofs.Common.{◌≡◌, Option, None, Some, ℕ, zero, suc, ◌<◌, List, [], ◌∷◌, map, length, set, get_or, refl, ap, ap₂, sym, ◌∙◌, subst, arith}
use Rattle.std.proofs.lemmas.List.{map-set, length-set, get_or-map, set-set, get_or-set_same, set-get_or, length-map}
use Rattle.mi_catalog.specs.Shape.{Shape, CatalogShape, schema_at}
use Rattle.mi_model.specs.Database.{with_table}
use Rattle.mi_container.specs.Data.{Data, as_table, IsData}
use Rattle.mi_container.specs.Inverse.{Inverse, RowRef, taken_back, settled}
use Rattle.mi_container.specs.Inverse.Inverse.{Inserted}
use Rattle.mi_container.specs.Fits.{Ready, KeptBy}
use Rattle.mi_container.proofs.FitLemmas.{ready_keeps}
use Rattle.mi_container.specs.Run.{Change, changed}
use Rattle.mi_container.specs.Run.Change.{Replace, Erase}
use Rattle.mi_database.specs.Journal.{Journal, data_at, state_of, IsLinked}
use Rattle.mi_container.proofs.RunLemmas.{change_back, change_ready, change_data}
use Rattle.mi_database.proofs.JournalLemmas.{state_noted, state_alone, linked_noted, linked_alone}
use Rattle.mi_journal.specs.Noted.{noted}
use Rattle.mi_container.specs.Makes.{Makes, MakesModify}
use Rattle.mi_database.specs.LinkedData.{IsLinkedData, kept_datas}

-- over the containers' data

kept_state : (c : CatalogShape) (ds : List Data) (j : Journal) (n : ℕ) (i : Inverse) (new : Data) (r : ℕ) → n < length ds → taken_back i new ≡ data_at ds n
    → state_of c (kept_datas n i j (set ds n new)) (noted (n, i) j) r ≡ with_table n (as_table new) (state_of c ds j r)
kept_state c ds [] n i new r l back =
    let there : data_at (set ds n new) n ≡ new = get_or-set_same ds n new _ l in
    ap (λ q. state_of c q [] r) (ap (λ d. set (set ds n new) n (settled i d)) there ∙ set-set ds n new (settled i new)) ∙ state_alone c ds n i new r
kept_state c ds (newest ∷ older) n i new r l back = state_noted c ds n i new newest older r l back

kept_linked : (c : CatalogShape) (ds : List Data) (j : Journal) (n : ℕ) (i : Inverse) (new : Data) → IsLinked c ds j → n < length ds → Ready i new
    → taken_back i new ≡ data_at ds n
    → IsData (schema_at c n) new → IsLinked c (kept_datas n i j (set ds n new)) (noted (n, i) j)
kept_linked c ds [] n i new is l ready back data_ =
    let there : data_at (set ds n new) n ≡ new = get_or-set_same ds n new _ l in
    subst (λ q. IsLinked c q []) (sym (ap (λ d. set (set ds n new) n (settled i d)) there ∙ set-set ds n new (settled i new)))
    (linked_alone c ds n i new is l ready back data_)
kept_linked c ds (newest ∷ older) n i new is l ready back data_ = linked_noted c ds n i new newest older is l ready back data_

-- to settle that a row was inserted changes nothing
pub inserted_stays : (j : Journal) (n : ℕ) (r : RowRef) (ds : List Data) → kept_datas n (Inserted r) j ds ≡ ds
inserted_stays [] n r ds = set-get_or ds n _
inserted_stays (newest ∷ older) n r ds = refl

kept_length : (j : Journal) (n : ℕ) (i : Inverse) (ds : List Data) → length (kept_datas n i j ds) ≡ length ds
kept_length [] n i ds = length-set ds n _
kept_length (newest ∷ older) n i ds = refl

pub noted_length : {A : Type 0} (x : A) (j : List (List A)) → length (noted x j) ≡ length j
noted_length x [] = refl
noted_length x (newest ∷ older) = refl

-- a list of data changed at one place, over containers
pub set_data : {X : Type 0} (plain : X → Data) (cs : List X) (n : ℕ) (k : X) → n < length cs → k ≡ get_or cs n k → data_at (map plain cs) n ≡ plain k
set_data plain cs n k l is = get_or-map plain cs n k _ l ∙ ap plain (sym is)

-- the schema of a container is that of its table
pub shape_at : {X : Type 0} (shape : X → Shape) (c : CatalogShape) (cs : List X) (n : ℕ) (k : X) → n < length cs → k ≡ get_or cs n k → map shape cs ≡ c.tables
    → shape k ≡ schema_at c n
shape_at shape c cs n k l is shapes = ap shape is ∙ sym (get_or-map shape cs n k _ l) ∙ ap (λ (q : List Shape). schema_at (record c { tables = q }) n) shapes

-- a container that keeps its schema leaves the list of schemas
pub same_shapes : {X : Type 0} (shape : X → Shape) (cs : List X) (n : ℕ) (k k' : X) → n < length cs → k ≡ get_or cs n k → shape k' ≡ shape k
    → map shape (set cs n k') ≡ map shape cs
same_shapes shape cs n k k' l is same =
    map-set shape cs n k' ∙ ap (set (map shape cs) n) (same ∙ ap shape is ∙ sym (get_or-map shape cs n k (shape k) l)) ∙ set-get_or (map shape cs) n (shape k)

-- a container that keeps something of itself leaves the list of it
pub stays_at : {X Y : Type 0} (f : X → Y) (cs : List X) (n : ℕ) (k k' : X) → k ≡ get_or cs n k → f k' ≡ f k → map f (set cs n k') ≡ map f cs
stays_at f [] n k k' is same = refl
stays_at f (c ∷ cs) zero k k' is same = ap (λ y. y ∷ map f cs) (same ∙ ap f is)
stays_at f (c ∷ cs) (suc n) k k' is same = ap (λ ys. f c ∷ ys) (stays_at f cs n k k' is same)

-- a change that a container made, with its inverse kept
pub record Made {X : Type 0} (shape : X → Shape) (plain : X → Data) (cs after : List X) (n : ℕ) (k k' : X) (i : Inverse) (j noted_ : Journal) : Type 0 where
  pub within : n < length cs
  pub was : k ≡ get_or cs n k
  pub same : shape k' ≡ shape k
  pub change : Change
  pub makes : Makes (shape k) change (plain k) i (plain k')
  pub datas : map plain after ≡ kept_datas n i j (map plain (set cs n k'))
  pub shapes : map shape after ≡ map shape (set cs n k')
  pub journal : noted_ ≡ noted (n, i) j

-- what takes the change of a linked database's container back
record Takes (c : CatalogShape) (ds : List Data) (n : ℕ) (i : Inverse) (new : Data) : Type 0 where
  within : n < length ds
  ready : Ready i new
  back : taken_back i new ≡ data_at ds n
  is : IsData (schema_at c n) new

module _ {X : Type 0} (shape : X → Shape) (plain : X → Data) (c : CatalogShape) (cs after : List X) (n : ℕ) (k k' : X) (i : Inverse) (j noted_ : Journal) where
  takes : Made shape plain cs after n k k' i j noted_ → map shape cs ≡ c.tables → IsLinked c (map plain cs) j → Takes c (map plain cs) n i (plain k')
  takes made shapes linked =
      let l : n < length (map plain cs) = subst (λ q. n < q) (sym (length-map cs plain)) made.within in
      let there : data_at (map plain cs) n ≡ plain k = set_data plain cs n k made.within made.was in
      let schema : shape k ≡ schema_at c n = shape_at shape c cs n k made.within made.was shapes in
      let is : IsData (shape k) (plain k) = subst (λ q. IsData q (plain k)) (sym schema) (subst (IsData (schema_at c n)) there (linked.each n l)) in
      record {
        within = l;
        ready = subst (λ q. Ready i q) (sym made.makes.changed_data)
            (subst (λ q. Ready q (changed made.change (plain k))) (sym made.makes.inverse)
            (change_ready (shape k) made.change (plain k) is made.makes.allowed));
        back = ap₂ taken_back made.makes.inverse made.makes.changed_data ∙ change_back (shape k) made.change (plain k) is made.makes.allowed ∙ sym there;
        is = subst (λ q. IsData q (plain k')) schema (subst (IsData (shape k)) (sym made.makes.changed_data)
            (change_data (shape k) made.change (plain k) is made.makes.allowed));
      }

  after_datas : Made shape plain cs after n k k' i j noted_ → map plain after ≡ kept_datas n i j (set (map plain cs) n (plain k'))
  after_datas made = made.datas ∙ ap (kept_datas n i j) (map-set plain cs n k')

  made_shapes : Made shape plain cs after n k k' i j noted_ → map shape cs ≡ c.tables → map shape after ≡ c.tables
  made_shapes made shapes = made.shapes ∙ same_shapes shape cs n k k' made.within made.was made.same ∙ shapes

  made_linked : Made shape plain cs after n k k' i j noted_ → map shape cs ≡ c.tables → IsLinked c (map plain cs) j → IsLinked c (map plain after) noted_
  made_linked made shapes linked =
      let t = takes made shapes linked in
      subst (λ q. IsLinked c q noted_) (sym (after_datas made)) (subst (IsLinked c (kept_datas n i j (set (map plain cs) n (plain k')))) (sym made.journal)
      (kept_linked c (map plain cs) j n i (plain k') linked t.within t.ready t.back t.is))

  pub made_state : Made shape plain cs after n k k' i j noted_ → map shape cs ≡ c.tables → IsLinked c (map plain cs) j → (r : ℕ)
      → state_of c (map plain after) noted_ r ≡ with_table n (as_table (plain k')) (state_of c (map plain cs) j r)
  made_state made shapes linked r =
      let t = takes made shapes linked in
      ap₂ (λ p q. state_of c p q r) (after_datas made) made.journal ∙ kept_state c (map plain cs) j n i (plain k') r t.within t.back

  made_many : Made shape plain cs after n k k' i j noted_ → length (map plain after) ≡ length (map plain cs)
  made_many made = ap length (after_datas made) ∙ kept_length j n i _ ∙ length-set (map plain cs) n (plain k')

  pub made_is_linked : (r : ℕ) → Made shape plain cs after n k k' i j noted_ → IsLinkedData (map shape cs) c (map plain cs) j r
      → IsLinkedData (map shape after) c (map plain after) noted_ r
  made_is_linked r made is =
      let long : length noted_ ≡ length j = ap length made.journal ∙ noted_length (n, i) j in
      let before = is.numbered in
      record {
        linked = made_linked made is.shapes is.linked;
        shapes = made_shapes made is.shapes;
        many = made_many made ∙ is.many;
        numbered = omega (arith, long, before);
        last = is.last;
      }

-- what the inverse keeps, if anything, is kept
pub made_keeps : {X : Type 0} (shape : X → Shape) (plain : X → Data) (c : CatalogShape) (cs : List X) (n : ℕ) (k k' : X) (i : Inverse) (change : Change)
    (j : Journal)
    → n < length cs → k ≡ get_or cs n k → Makes (shape k) change (plain k) i (plain k') → map shape cs ≡ c.tables → IsLinked c (map plain cs) j
    → KeptBy i (data_at (map plain (set cs n k')) n)
made_keeps shape plain c cs n k k' i change j l was makes shapes linked =
    let within : n < length (map plain cs) = subst (λ q. n < q) (sym (length-map cs plain)) l in
    let there : data_at (map plain cs) n ≡ plain k = set_data plain cs n k l was in
    let schema : shape k ≡ schema_at c n = shape_at shape c cs n k l was shapes in
    let is : IsData (shape k) (plain k) = subst (λ q. IsData q (plain k)) (sym schema) (subst (IsData (schema_at c n)) there (linked.each n within)) in
    let ready : Ready i (plain k') = subst (λ q. Ready i q) (sym makes.changed_data)
    (subst (λ q. Ready q (changed change (plain k))) (sym makes.inverse) (change_ready (shape k) change (plain k) is makes.allowed)) in
    let now : data_at (map plain (set cs n k')) n ≡ plain k' = ap (λ q. data_at q n) (map-set plain cs n k')
    ∙ get_or-set_same (map plain cs) n (plain k') _ within in
    subst (KeptBy i) (sym now) (ready_keeps i (plain k') ready)

-- whatever a modify made, it is one change
pub some_modify : (o : Option (ℕ × ℕ)) (s : Shape) (e : ℕ) (old : Data) (i : Inverse) (new : Data) → MakesModify o s e old i new → (change : Change)
    × Makes s change old i new
some_modify None s e old i new made = (Replace e made.0, made.1)
some_modify (Some at) s e old i new made = (Erase e (Some at), made)
