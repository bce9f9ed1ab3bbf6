-- Lists of inverses that fit: one more, one taken back, the oldest settled.
-- Cited by `LawLemmas`, `MadeLemmas`, `RunLemmas`, `mi_database` and `mi_multi`.
use Rattle.std.proofs.Common.{◌≡◌, ◌≢◌, ℕ, ◌+◌, cond, inl, inr, List, [], ◌∷◌, ◌++◌, refl, ap, sym, ◌∙◌, subst, arith}
use Rattle.std.specs.Prelude.{◌==◌}
use Rattle.std.specs.List.{AllByRecursion}
use Rattle.std.specs.Option.{is_some}
use Rattle.std.proofs.lemmas.Bool.Decides.{eqb_tells}
use Rattle.std.specs.declared.option.Option.{Option}
use Rattle.std.specs.declared.option.Option.TheVariants.{None, Some}
use Rattle.mi_catalog.specs.Shape.{Shape}
use Rattle.mi_model.specs.Table.{Table, times}
use Rattle.mi_container.specs.Data.{Kept, Data, node_of, kept_of, as_table, IsData}
use Rattle.mi_container.specs.Changes.{left_out, entered}
use Rattle.mi_container.specs.Inverse.{RowRef, Inverse, keeps, relinked, row_returned, taken_back, settled}
use Rattle.mi_container.specs.Inverse.Inverse.{Inserted, Put, Erased, Relocated, Nothing}
use Rattle.mi_container.specs.Fits.{IsNot, IsLive, IsKept, Ready, Fits, Unnamed, KeptBy, kept_id, kept_ids}
use Rattle.mi_container.proofs.PairLemmas.{none_some, lookup_out, lookup_out_same, out_swap, climbs_out}

-- the node of e is freed
abbrev pub freed : ℕ → Data → Data
freed e d = record d { kept = left_out e d.kept }

-- the two keep different nodes
abbrev pub DifferFrom : Option ℕ → Inverse → Type 0
DifferFrom None j = Unit {0}
DifferFrom (Some e) j = IsNot e (keeps j)

abbrev pub Differ : Inverse → Inverse → Type 0
Differ f j = DifferFrom (keeps f) j

freed_returned : (e a : ℕ) (d : Data) (o : Option Kept) → row_returned a o (freed e d) ≡ freed e (row_returned a o d)
freed_returned e a d None = refl
freed_returned e a d (Some k) =
    let kept : left_out a (left_out e d.kept) ≡ left_out e (left_out a d.kept) = out_swap a e d.kept in
    λ i. record { rows = entered a k.node d.rows; orders = relinked d.rows a k.links d.orders; next = d.next; arrivals = d.arrivals; kept = kept i }

freed_back : (e : ℕ) (j : Inverse) (d : Data) → IsNot e (keeps j) → taken_back j (freed e d) ≡ freed e (taken_back j d)
freed_back e (Inserted r) d other = refl
freed_back e (Put r old) d other = refl
freed_back e (Erased r why) d other = ap (λ o. row_returned r.id o (freed e d)) (lookup_out r.id e d.kept other) ∙ freed_returned e r.id d (kept_of d.kept r.id)
freed_back e (Relocated x r b) d other = refl
freed_back e Nothing d other = refl

-- to settle one and take back another are in either order the same
pub settled_back : (f j : Inverse) (d : Data) → Differ f j → taken_back j (settled f d) ≡ settled f (taken_back j d)
settled_back (Inserted r) j d differ = refl
settled_back (Put r old) j d differ = refl
settled_back (Erased r why) j d differ = freed_back r.id j d differ
settled_back (Relocated x r b) j d differ = refl
settled_back Nothing j d differ = refl

freed_ready : (e : ℕ) (j : Inverse) (d : Data) → IsNot e (keeps j) → Ready j d → Ready j (freed e d)
freed_ready e (Inserted a) d other r = r
freed_ready e (Put a old) d other r = r
freed_ready e (Erased a why) d other r = ((r.0.0, lookup_out a.id e d.kept other ∙ r.0.1, r.0.2), r.1)
freed_ready e (Relocated x a b) d other r = r
freed_ready e Nothing d other r = r

pub settled_ready : (f j : Inverse) (d : Data) → Differ f j → Ready j d → Ready j (settled f d)
settled_ready (Inserted a) j d differ r = r
settled_ready (Put a old) j d differ r = r
settled_ready (Erased a why) j d differ r = freed_ready a.id j d differ r
settled_ready (Relocated x a b) j d differ r = r
settled_ready Nothing j d differ r = r

-- what is kept after one is left out was kept before, and is another
kept_still : (a e : ℕ) (kept : List (ℕ × Kept)) (k : Kept) → kept_of (left_out a kept) e ≡ Some k → (e ≢ a) × (kept_of kept e ≡ Some k)
kept_still a e kept k is =
    elim (eqb_tells e a) [
      | inl same ↦ absurd (none_some (sym (lookup_out_same a kept) ∙ subst (λ q. kept_of (left_out a kept) q ≡ Some k) same.1 is))
      | inr other ↦ (other.1, sym (lookup_out e a kept other.1) ∙ is)
    ]

freed_data : (s : Shape) (e : ℕ) (d : Data) → IsData s d → IsData s (freed e d)
freed_data s e d is =
    record {
      table = is.table;
      kinds = is.kinds;
      unique_keys = is.unique_keys;
      stamped = is.stamped;
      apart = is.apart;
      names = is.names;
      kept = climbs_out d.next e d.kept is.kept;
      gone = λ a k h. is.gone a k (kept_still e a d.kept k h).1;
    }

-- to settle keeps what holds of data
pub settled_data : (s : Shape) (f : Inverse) (d : Data) → IsData s d → IsData s (settled f d)
settled_data s (Inserted e) d is = is
settled_data s (Put e c) d is = is
settled_data s (Erased e why) d is = freed_data s e.id d is
settled_data s (Relocated x e b) d is = is
settled_data s Nothing d is = is

-- and the table
pub settled_table : (f : Inverse) (d : Data) → as_table (settled f d) ≡ as_table d
settled_table (Inserted e) d = refl
settled_table (Put e c) d = refl
settled_table (Erased e why) d = refl
settled_table (Relocated x e b) d = refl
settled_table Nothing d = refl

-- what is kept after an inverse is taken back was kept before, and not by it
returned_later : (a e : ℕ) (d : Data) (k : Kept) (o : Option Kept) → kept_of d.kept a ≡ o
    → kept_of (row_returned a o d).kept e ≡ Some k → (a ≢ e) × (kept_of d.kept e ≡ Some k)
returned_later a e d k None was is = (λ same. none_some (sym was ∙ subst (λ q. kept_of d.kept q ≡ Some k) (sym same) is), is)
returned_later a e d k (Some m) was is = let h : (e ≢ a) × (kept_of d.kept e ≡ Some k) = kept_still a e d.kept k is in (λ same. h.0 (sym same), h.1)

pub later : (j : Inverse) (e : ℕ) (d : Data) (k : Kept) → kept_of (taken_back j d).kept e ≡ Some k → IsNot e (keeps j) × (kept_of d.kept e ≡ Some k)
later (Inserted a) e d k is = (tt, is)
later (Put a old) e d k is = (tt, is)
later (Erased a why) e d k is = returned_later a.id e d k (kept_of d.kept a.id) refl is
later (Relocated x a b) e d k is = (tt, is)
later Nothing e d k is = (tt, is)

-- the node of an inverse that can be taken back is kept
pub ready_keeps : (f : Inverse) (d : Data) → Ready f d → KeptBy f d
ready_keeps (Inserted a) d r = tt
ready_keeps (Put a old) d r = tt
ready_keeps (Erased a why) d r = r.0
ready_keeps (Relocated x a b) d r = tt
ready_keeps Nothing d r = tt

-- the node that an older inverse keeps is kept by no newer one
pub differs : (f j : Inverse) (d : Data) → KeptBy f (taken_back j d) → Differ f j × KeptBy f d
differs (Inserted a) j d k = (tt, tt)
differs (Put a old) j d k = (tt, tt)
differs (Erased a why) j d k = let h : IsNot a.id (keeps j) × (kept_of d.kept a.id ≡ Some k.0) = later j a.id d k.0 k.1 in (h.0, (k.0, h.1, k.2))
differs (Relocated x a b) j d k = (tt, tt)
differs Nothing j d k = (tt, tt)

-- the node that an inverse of a fitting list keeps is kept
pub keeps_still : (s : Shape) (f : Inverse) (later older : List Inverse) (ts : List Table) (d : Data) → Fits s (later ++ f ∷ older) ts d → KeptBy f d
keeps_still s f [] older [] d fits = absurd fits
keeps_still s f [] older (t ∷ ts) d fits = ready_keeps f d fits.0
keeps_still s f (j ∷ later) older [] d fits = absurd fits
keeps_still s f (j ∷ later) older (t ∷ ts) d fits = (differs f j d (keeps_still s f later older ts (taken_back j d) fits.3)).1

-- when the last is taken back and nothing is kept, settling it keeps nothing either
none_kept : (f : Inverse) (d : Data) → Ready f d → (taken_back f d).kept ≡ [] → (settled f d).kept ≡ []
none_kept (Inserted a) d r none = none
none_kept (Put a old) d r none = none
none_kept (Erased a why) d r none = ap (λ o. (row_returned a.id o d).kept) (sym r.0.1) ∙ none
none_kept (Relocated x a b) d r none = none
none_kept Nothing d r none = none

pub settled_none : (f : Inverse) (d : Data) → Ready f d → (taken_back f d).kept ≡ [] → (settled f d).kept ≡ []
settled_none = none_kept

-- The laws

-- a change extends a fitting list by its inverse, with the table before
pub fits_more : (s : Shape) (i : Inverse) (is : List Inverse) (ts : List Table) (before after : Data)
    → Ready i after → taken_back i after ≡ before → IsData s before → Fits s is ts before → Fits s (i ∷ is) (as_table before ∷ ts) after
fits_more s i is ts before after ready back is_data fits = (ready, subst (IsData s) (sym back) is_data, ap as_table back, subst (Fits s is ts) (sym back) fits)

-- the oldest settled keeps the table, and the rest fits
pub fits_settled : (s : Shape) (f : Inverse) (is : List Inverse) (t : Table) (ts : List Table) (d : Data)
    → Fits s (is ++ f ∷ []) (ts ++ t ∷ []) d → Fits s is ts (settled f d)
fits_settled s f [] t [] d fits = none_kept f d fits.0 fits.3
fits_settled s f [] t (u ∷ []) d fits = absurd fits.3
fits_settled s f [] t (u ∷ v ∷ ts) d fits = absurd fits.3
fits_settled s f (j ∷ []) t [] d fits = absurd fits.3
fits_settled s f (j ∷ i ∷ is) t [] d fits = absurd fits.3
fits_settled s f (j ∷ is) t (u ∷ ts) d fits =
    let differ : Differ f j = (differs f j d (keeps_still s f is [] (ts ++ t ∷ []) (taken_back j d) fits.3)).0 in
    let swap : taken_back j (settled f d) ≡ settled f (taken_back j d) = settled_back f j d differ in (
      settled_ready f j d differ fits.0,
      subst (IsData s) (sym swap) (settled_data s f (taken_back j d) fits.1),
      ap as_table swap ∙ settled_table f (taken_back j d) ∙ fits.2,
      subst (Fits s is ts) (sym swap) (fits_settled s f is t ts (taken_back j d) fits.3),
    )

-- an id that is kept isn't that of a live row
apart_from : (s : Shape) (e : RowRef) (a : RowRef) (d : Data) → IsData s d → IsKept d.kept e → IsLive d.rows a → a.id ≢ e.id
apart_from s e a d is k live same = none_some (sym (is.gone e.id k.0 k.1) ∙ subst (λ q. node_of d.rows q ≡ Some live.0) same live.1)

unnamed_one : (s : Shape) (e : RowRef) (j : Inverse) (d : Data) → IsData s d → IsKept d.kept e → IsNot e.id (keeps j) → Ready j d → Unnamed e.id j
unnamed_one s e (Inserted a) d is k other r = apart_from s e a d is k r.0
unnamed_one s e (Put a old) d is k other r = apart_from s e a d is k r.0
unnamed_one s e (Erased a why) d is k other r = other
unnamed_one s e (Relocated x a None) d is k other r = (apart_from s e a d is k r.0, tt)
unnamed_one s e (Relocated x a (Some b)) d is k other r = (apart_from s e a d is k r.0, apart_from s e b d is k r.1.0)
unnamed_one s e Nothing d is k other r = tt

-- a row whose node an inverse keeps is named by no later one
pub unnamed : (s : Shape) (e : RowRef) (why : Option (ℕ × ℕ)) (later older : List Inverse) (ts : List Table) (d : Data)
    → IsData s d → Fits s (later ++ Erased e why ∷ older) ts d → AllByRecursion (Unnamed e.id) later
unnamed s e why [] older ts d is_data fits = tt
unnamed s e why (j ∷ later) older [] d is_data fits = absurd fits
unnamed s e why (j ∷ later) older (t ∷ ts) d is_data fits =
    let h : IsNot e.id (keeps j) × IsKept d.kept e = differs (Erased e why) j d (keeps_still s (Erased e why) later older ts (taken_back j d) fits.3) in
    (unnamed_one s e j d is_data h.1 h.0 fits.0, unnamed s e why later older ts (taken_back j d) fits.1 fits.3)

-- The kept names

pub times-append : (a : ℕ) (xs ys : List ℕ) → times a (xs ++ ys) ≡ times a xs + times a ys
times-append a [] ys = omega arith
times-append a (x ∷ xs) ys = let n : times a (xs ++ ys) ≡ times a xs + times a ys = times-append a xs ys in omega arith

-- one where an id is kept
abbrev pub held : Data → ℕ → ℕ
held d a = cond (is_some (kept_of d.kept a)) 1 0

pub held_back : (j : Inverse) (d : Data) (a : ℕ) → Ready j d → held d a ≡ held (taken_back j d) a + times a (kept_id (keeps j))
held_back (Inserted e) d a r = omega arith
held_back (Put e c) d a r = omega arith
held_back (Erased q why) d a r =
    let e : ℕ = q.id in
    let back : held (taken_back (Erased q why) d) a ≡ cond (is_some (kept_of (left_out e d.kept) a)) 1 0 = ap (λ o. held (row_returned e o d) a) r.0.1 in
    elim (eqb_tells e a) [
      | inl same ↦
          let one : cond {A = ℕ} (e == a) 1 0 ≡ 1 = ap (λ b. cond {A = ℕ} b 1 0) same.0 in
          let was : held d a ≡ 1 = ap (λ o. cond {A = ℕ} (is_some o) 1 0) (subst (λ p. kept_of d.kept p ≡ Some r.0.0) same.1 r.0.1) in
          let is : cond {A = ℕ} (is_some (kept_of (left_out e d.kept) a)) 1 0 ≡ 0 = ap (λ o. cond {A = ℕ} (is_some o) 1 0)
          (subst (λ p. kept_of (left_out e d.kept) p ≡ None) same.1 (lookup_out_same e d.kept)) in
          omega arith
      | inr other ↦
          let zero_ : cond {A = ℕ} (e == a) 1 0 ≡ 0 = ap (λ b. cond {A = ℕ} b 1 0) other.0 in
          let is : cond {A = ℕ} (is_some (kept_of (left_out e d.kept) a)) 1 0 ≡ held d a = ap
          (λ o. cond {A = ℕ} (is_some o) 1 0) (lookup_out a e d.kept (λ same. other.1 (sym same))) in
          omega arith
    ]
held_back (Relocated x e b) d a r = omega arith
held_back Nothing d a r = omega arith

-- exactly the nodes that the inverses keep are kept, each by one
pub fits_names : (s : Shape) (is : List Inverse) (ts : List Table) (d : Data) → Fits s is ts d → (a : ℕ) → times a (kept_ids is) ≡ held d a
fits_names s [] [] d fits a = sym (ap (λ kept. cond {A = ℕ} (is_some (kept_of kept a)) 1 0) fits)
fits_names s [] (t ∷ ts) d fits a = absurd fits
fits_names s (i ∷ is) [] d fits a = absurd fits
fits_names s (i ∷ is) (t ∷ ts) d fits a =
    times-append a (kept_ids is) (kept_id (keeps i))
    ∙ ap (λ n. n + times a (kept_id (keeps i))) (fits_names s is ts (taken_back i d) fits.3 a) ∙ sym (held_back i d a fits.0)
