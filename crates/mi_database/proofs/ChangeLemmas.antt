-- One change of one container, as the code comes to it.
-- Cited by `Linked::erase_row`, `LinkedSessions::insert`, `LinkedSessions::modify`, `LinkedSessions::relocate` and 1 more.
use Rattle.std.proofs.Common.{◌≡◌, ℕ, ◌<◌, List, [], map, length, set, get_or, ap, sym, ◌∙◌, subst}
use Rattle.std.specs.declared.result.Result.{Result}
use Rattle.std.specs.declared.option.Option.TheVariants.{None}
use Rattle.std.specs.declared.option.Option.{Option}
use Rattle.mi_value.specs.declared.refusal.Refusal.{Refusal}
use Rattle.std.proofs.lemmas.List.{length-map}
use Rattle.mi_catalog.specs.Shape.{Shape, CatalogShape, schema_at}
use Rattle.mi_model.specs.Table.{Table}
use Rattle.mi_model.specs.Verdict.{Outcome}
use Rattle.mi_model.specs.DatabaseChange.{Meets}
use Rattle.mi_model.specs.Database.{on_table}
use Rattle.mi_model.specs.Run.{Command}
use Rattle.mi_model.specs.Footprint.{kept_after, kept_more}
use Rattle.mi_container.specs.Data.{Data, IsData, as_table}
use Rattle.mi_container.specs.Inverse.{Inverse, keeps}
use Rattle.mi_container.specs.Fits.{KeptBy}
use Rattle.mi_container.specs.Run.{Change}
use Rattle.mi_container.specs.Makes.{Makes}
use Rattle.mi_journal.specs.Noted.{noted}
use Rattle.mi_journal.specs.Stored.{Stored, IsWithin}
use Rattle.mi_database.specs.Journal.{Journal, data_at, state_of, kept_in}
use Rattle.mi_database.specs.LinkedData.{LinkedData, data_seen, meaning, IsLinkedData, with_room, kept_datas}
use Rattle.mi_database.specs.Kept.{kept_rows, KeptRefused}
use Rattle.mi_database.specs.Most.{HasAtMost, AllHaveAtMost}
use Rattle.mi_database.proofs.MostLemmas.{made_within}
use Rattle.mi_database.proofs.LinkedDataLemmas.{Made, made_is_linked, made_keeps, shape_at, set_data}
use Rattle.mi_database.specs.declared.linked.Linked.TheInside.{Inside}
use Rattle.mi_database.proofs.StateLemmas.{within_containers, lift_made, lift_refused, refused_held}
use Rattle.mi_database.proofs.KeptLemmas.{plain_keeps, kept_refusal}

-- the container k of table n, which a change left as k', where all else but room is as in the old database
pub record Spot {X : Type 0} (shape : X → Shape) (plain : X → Data) (c : CatalogShape) (cs : List X) (j : Stored) (r n : ℕ) (k k' : X)
    (old : LinkedData) : Type 0 where
  pub is : IsLinkedData (map shape cs) c (map plain cs) j.sessions r
  pub state : state_of c (map plain cs) j.sessions r ≡ meaning old
  pub journal : j.sessions ≡ old.journal
  pub listed : n < length c.tables
  pub within : n < length cs
  pub there : k ≡ get_or cs n k
  pub same : shape k' ≡ shape k

-- the same, of the fields of the code
abbrev pub SpotIn : {X : Type 0} → (X → Shape) → (X → Data) → Inside X → ℕ → X → X → LinkedData → Type 0
SpotIn shape plain a n k k' old = Spot shape plain a.catalog a.containers.items a.journal a.revision n k k' old

module _ {X : Type 0} {shape : X → Shape} {plain : X → Data} {c : CatalogShape} {cs : List X} {j : Stored} {r n : ℕ} {k k' : X}
    {old : LinkedData} where
  -- what the code knows before the change makes it so, where the change left the schema
  pub spot : (changes starts : ℕ) {held : List (List ℕ)} {secrets : List (List (Option ℕ))} → IsLinkedData (map shape cs) c (map plain cs) j.sessions r
      → data_seen c (map plain cs) j r held secrets ≡ with_room changes starts old → n < length old.catalog.tables → k ≡ get_or cs n k → shape k' ≡ shape k
      → Spot shape plain c cs j r n k k' old
  spot changes starts is room listed there same =
      let within : n < length c.tables = subst (λ (h : LinkedData). n < length h.catalog.tables) (sym room) listed in
      record {
        is = is;
        state = ap meaning room;
        journal = ap (λ (h : LinkedData). h.journal) room;
        listed = within;
        within = within_containers shape plain c cs j.sessions r n is within;
        there = there;
        same = same;
      }

  module _ (s : Spot shape plain c cs j r n k k' old) where
    -- what the inverse of a change keeps is kept
    pub spot_keeps : {i : Inverse} (change : Change) → Makes (shape k) change (plain k) i (plain k') → KeptBy i (data_at (map plain (set cs n k')) n)
    spot_keeps {i} change makes = made_keeps shape plain c cs n k k' i change j.sessions s.within s.there makes s.is.shapes s.is.linked

    -- an inverse has no more places than there is room for
    pub spot_within : {i : Inverse} (change : Change) → AllHaveAtMost j.most c → Makes (shape k) change (plain k) i (plain k') → IsWithin j.most i
    spot_within {i} change most makes =
        let schema : shape k ≡ schema_at c n = shape_at shape c cs n k s.within s.there s.is.shapes in
        let listed : n < length (map plain cs) = subst (λ q. n < q) (sym (length-map cs plain)) s.within in
        let there : data_at (map plain cs) n ≡ plain k = set_data plain cs n k s.within s.there in
        made_within j.most (shape k) change (plain k) (plain k') i
        (subst (λ (q : Shape). HasAtMost j.most q.indexes) (sym schema) (most n s.listed))
        (subst (λ q. IsData q (plain k)) (sym schema) (subst (IsData (schema_at c n)) there (s.is.linked.each n listed))) makes

    -- the change is made, and the inverse noted or settled
    module _ {i : Inverse} {next : Journal} (change : Change) (makes : Makes (shape k) change (plain k) i (plain k')) (after : List X)
        (datas : map plain after ≡ kept_datas n i j.sessions (map plain (set cs n k'))) (shapes : map shape after ≡ map shape (set cs n k'))
        (journal : next ≡ noted (n, i) j.sessions) where
      -- so it is one that its container made, with its inverse kept
      made : Made shape plain cs after n k k' i j.sessions next
      made = record { within = s.within; was = s.there; same = s.same; change = change; makes = makes; datas = datas; shapes = shapes; journal = journal }

      -- what holds of every linked database holds still
      pub spot_held : IsLinkedData (map shape after) c (map plain after) next r
      spot_held = made_is_linked shape plain c cs after n k k' i j.sessions next r made s.is

      -- what the container answers and leaves, the database does
      pub spot_outcome : {A : Type 0} (f : Shape → Table → Outcome A) (a : Result A Refusal)
          → Meets (f (shape k) (as_table (plain k))) a (as_table (plain k)) (as_table (plain k'))
          → Meets (on_table n f (meaning old)) a (meaning old) (state_of c (map plain after) next r)
      spot_outcome f a meets = lift_made shape plain c cs after n k k' i j.sessions next r f a (meaning old) made s.is meets s.state

    -- a change whose inverse keeps no node leaves the kept rows as they were
    pub spot_plain : (i : Inverse) {next : Journal} → next ≡ noted (n, i) j.sessions → keeps i ≡ None
        → map kept_in next ≡ kept_more [] (kept_rows old)
    spot_plain i {next} journal none = plain_keeps n old (record old { journal = next }) i none (journal ∙ ap (noted (n, i)) s.journal)

    -- a refused change leaves what holds of every linked database
    pub spot_stays : plain k' ≡ plain k → IsLinkedData (map shape (set cs n k')) c (map plain (set cs n k')) j.sessions r
    spot_stays refused = refused_held shape plain c cs n k k' j.sessions r s.is s.listed s.there refused s.same

    -- what the container answers of a refused change, the database does
    pub spot_refused : {A : Type 0} (f : Shape → Table → Outcome A) (a : Result A Refusal) → plain k' ≡ plain k
        → Meets (f (shape k) (as_table (plain k))) a (as_table (plain k)) (as_table (plain k'))
        → Meets (on_table n f (meaning old)) a (meaning old) (state_of c (map plain (set cs n k')) j.sessions r)
    spot_refused f a refused meets = lift_refused shape plain c cs n k k' j.sessions r f a
        (meaning old) s.is s.listed s.there refused meets s.state

    -- a refused change keeps no node more
    pub spot_unkept : (command : Command) (e : Refusal) (held : List (List ℕ)) (secrets : List (List (Option ℕ)))
        → kept_after command (meaning old) (kept_rows old) ≡ kept_rows old
        → KeptRefused command e old (data_seen c (map plain (set cs n k')) j r held secrets)
    spot_unkept command e held secrets stays = kept_refusal command e old (data_seen c (map plain (set cs n k')) j r held secrets) s.journal stays
