-- What the places and the columns give of the pool's map, and how a change of one place is seen.
--     There, spot, ..              a held reference is that of the node at its place
--     held_..                      what is read at the name of a held reference
--     seen-..                      the map after a change
--     sound-..                     that places stay sound
-- Cited by `Pool::link`, `Pool::neighbour`, `Pool::set_link`, `Pool::set_side`, `Pool::set_size` and 13 more.
use Rattle.std.proofs.Common.{◌≡◌, ℕ, zero, suc, ◌+◌, ◌-◌, ◌<◌, ◌≤◌, ◌==◌, true, false, cond, List, [], ◌∷◌, ◌++◌, length, option_map}
use Rattle.std.proofs.Common.{replicate, slice_set, slice_index_or, Option, Some, None, refl, sym, ap, ◌∙◌, subst, arith}
use Rattle.std.specs.Prelude.{IsTrue, is_some}
use Rattle.std.specs.Ordering.{nat_cmp}
use Rattle.std.specs.Cmp.{nat_cmp_total, unsigned_tied}
use Rattle.std.specs.FinMap.{FinMap, get, insert, remove, empty, get-empty, get-insert, get-remove, same_map, nat_cmp-IsAntisymmetric}
use Rattle.std.proofs.Math.ListN.{length-set}
use Rattle.mi_node.proofs.EntryLemmas.{some_inj, none_some, same_name, same_refl}
use Rattle.mi_node.specs.Refs.{Ref}
use Rattle.mi_node.specs.Columns.{column, links_at, AreLong}
use Rattle.mi_node.specs.Slab.{node_in, value_in, IsFree, AreFree, slab_entry_at, IsFreeIf, IsFreeAt}
use Rattle.mi_node.specs.Pool.{Pooled}
use Rattle.mi_node.specs.Pool.{Entry, no_link, no_nodes, node_at, ref_of, value_of, link_of, entry_link, noted, last_given, IsNotLast}
use Rattle.mi_node.specs.Pool.{put_link, IsHeld, change, changed, taken, without, with_link, with_value}
use Rattle.mi_node.specs.Storage.{nodes}
use Rattle.mi_node.specs.declared.storage.Storage.{Storage}
use Rattle.mi_node.specs.Seen.{put_slab_entry, map_from, seen, IsNamed, KeepsMark, AreMarked, IsSound}
use Rattle.mi_node.specs.declared.link.Link.{Link}
use Rattle.mi_node.specs.declared.cell.Cell.{Cell}
use Rattle.mi_node.specs.declared.slab_entry.SlabEntry.{SlabEntry}
use Rattle.mi_node.specs.declared.slab_entry.SlabEntry.TheVariants.{Free, Held}

from_zero : (q : ℕ) → 0 + q ≡ q
from_zero q = omega arith

later : (q j : ℕ) → (suc q == suc j) ≡ (q == j)
later q j = grind arith

not_first : (q : ℕ) → (suc q == 0) ≡ false
not_first q = grind arith

not_last : (j : ℕ) → (0 == suc j) ≡ false
not_last j = grind arith

-- references of one name and one generation are one
same_ref : (r q : Ref) → r.name ≡ q.name → r.generation ≡ q.generation → r ≡ q
same_ref r q e f = λ i. record { name = e i; generation = f i }

pub up_to : (a b c : ℕ) → a < b → b ≤ c → a + 1 ≤ c
up_to a b c g h = omega (arith, g, h)

pub has_room : (first n k c : ℕ) → first + n ≡ k → k < first + 1024 → 1024 ≤ c → n < c
has_room first n k c e g h = omega (arith, e, g, h)

pub one_more : (first n m k : ℕ) → first + n ≡ k → m ≡ n + 1 → first + m ≡ k + 1
one_more first n m k e f = omega (arith, e, f)

pub some_less : (n : ℕ) → n ≡ 1024 → 0 < n
some_less n e = omega (arith, e)

pub room_of : (a b c : ℕ) → a ≡ b → c ≡ 1024 → a + 1024 ≡ b + c
room_of a b c e f = omega (arith, e, f)

long_none : (cs : List (List Cell)) → AreLong 0 cs
long_none cs s less = omega arith

differs : (b c : ℕ) → b ≡ c → 1 - b ≡ c → ⊥
differs b c e f = omega (arith, e, f)

pub last_mark : (k : ℕ) (o : Option ℕ) (r : Ref) → option_map (λ m. record { name = k; generation = m }) o ≡ Some r → o ≡ Some r.generation
last_mark k None r e = absurd (none_some r e)
last_mark k (Some m) r e = ap Some (ap (λ (q : Ref). q.generation) (some_inj _ r e))

module _ {T : Type 0} where
  -- the node at the place k
  abbrev pub made : List (List Cell) → ℕ → Ref → T → Entry T
  made cs k r v = record { generation = r.generation; value = v; links = links_at cs k }

  abbrev pub entry_at : List (List Cell) → ℕ → SlabEntry T → Option (Entry T)
  entry_at cs k (Free r n) = None
  entry_at cs k (Held r v) = Some (made cs k r v)

  abbrev pub entry_of : List (List Cell) → ℕ → Option (SlabEntry T) → Option (Entry T)
  entry_of cs k None = None
  entry_of cs k (Some h) = entry_at cs k h

  put_same : (cs : List (List Cell)) (k : ℕ) (h : SlabEntry T) (m : FinMap nat_cmp (Entry T)) → get m k ≡ None → get (put_slab_entry cs k h m) k ≡ entry_at cs k h
  put_same cs k (Free r n) m e = e
  put_same cs k (Held r v) m e = get-insert nat_cmp_total m k (made cs k r v) k
      ∙ ap (λ b. cond b (Some (made cs k r v)) (get m k)) (unsigned_tied k k ∙ same_refl k)

  put_other : (cs : List (List Cell)) (k q : ℕ) (h : SlabEntry T) (m : FinMap nat_cmp (Entry T)) → (q == k) ≡ false → get (put_slab_entry cs k h m) q ≡ get m q
  put_other cs k q (Free r n) m e = refl
  put_other cs k q (Held r v) m e = get-insert nat_cmp_total m k (made cs k r v) q ∙ ap (λ b. cond b (Some (made cs k r v)) (get m q)) (unsigned_tied q k ∙ e)

  below : (cs : List (List Cell)) (q k : ℕ) (hs : List (SlabEntry T)) → q < k → get (map_from cs k hs) q ≡ None
  below cs q k [] less = get-empty nat_cmp q
  below cs q k (h ∷ hs) less = put_other cs k q h (map_from cs (suc k) hs) (grind (arith, less)) ∙ below cs q (suc k) hs (omega (arith, less))

  get-from : (cs : List (List Cell)) (k j : ℕ) (hs : List (SlabEntry T)) → get (map_from cs k hs) (k + j) ≡ entry_of cs (k + j) (slab_entry_at hs j)
  get-from cs k j [] = get-empty nat_cmp (k + j)
  get-from cs k zero (h ∷ hs) =
      let here : k ≡ k + 0 = omega arith in
      subst (λ q. get (map_from cs k (h ∷ hs)) q ≡ entry_at cs q h) here (put_same cs k h (map_from cs (suc k) hs) (below cs k (suc k) hs (omega arith)))
  get-from cs k (suc j) (h ∷ hs) =
      let on : suc k + j ≡ k + suc j = omega arith in let apart : (k + suc j == k) ≡ false = grind arith in
      put_other cs k (k + suc j) h (map_from cs (suc k) hs) apart
      ∙ subst (λ q. get (map_from cs (suc k) hs) q ≡ entry_of cs q (slab_entry_at hs j)) on (get-from cs (suc k) j hs)

  pub get-map : (cs : List (List Cell)) (hs : List (SlabEntry T)) (q : ℕ) → get (map_from cs 0 hs) q ≡ entry_of cs q (slab_entry_at hs q)
  get-map cs hs q = subst (λ k. get (map_from cs 0 hs) k ≡ entry_of cs k (slab_entry_at hs q)) (from_zero q) (get-from cs 0 q hs)

  pub at_index : (hs : List (SlabEntry T)) (j : ℕ) (d : SlabEntry T) → j < length hs → slab_entry_at hs j ≡ Some (slice_index_or hs j d)
  at_index [] j d less = absurd (omega (arith, less))
  at_index (h ∷ hs) zero d less = refl
  at_index (h ∷ hs) (suc j) d less = at_index hs j d (omega (arith, less))

  at_set : (hs : List (SlabEntry T)) (j q : ℕ) (h : SlabEntry T) → j < length hs → slab_entry_at (slice_set hs j h) q ≡ cond (q == j) (Some h) (slab_entry_at hs q)
  at_set [] j q h less = absurd (omega (arith, less))
  at_set (x ∷ hs) zero zero h less = refl
  at_set (x ∷ hs) zero (suc q) h less = ap (λ y. cond y (Some h) (slab_entry_at hs q)) (sym (not_first q))
  at_set (x ∷ hs) (suc j) zero h less = ap (λ y. cond y (Some h) (Some x)) (sym (not_last j))
  at_set (x ∷ hs) (suc j) (suc q) h less = at_set hs j q h (omega (arith, less)) ∙ ap (λ y. cond y (Some h) (slab_entry_at hs q)) (sym (later q j))

  inside : (hs : List (SlabEntry T)) (j : ℕ) (h : SlabEntry T) → slab_entry_at hs j ≡ Some h → j < length hs
  inside [] j h is = absurd (none_some h is)
  inside (x ∷ hs) zero h is = omega arith
  inside (x ∷ hs) (suc j) h is = let i = inside hs j h is in omega (arith, i)

  named_at : (k j : ℕ) (hs : List (SlabEntry T)) (h : SlabEntry T) → IsNamed k hs → slab_entry_at hs j ≡ Some h → (node_in h).name ≡ k + j
  named_at k j [] h all is = absurd (none_some h is)
  named_at k zero (x ∷ hs) h all is =
      let e : x ≡ h = some_inj x h is in let f = all.0 in let g : (node_in x).name ≡ k + 0 = omega (arith, f) in
      ap (λ (w : SlabEntry T). (node_in w).name) (sym e) ∙ g
  named_at k (suc j) (x ∷ hs) h all is = let e = named_at (suc k) j hs h all.1 is in omega (arith, e)

  named_set : (k j : ℕ) (hs : List (SlabEntry T)) (h : SlabEntry T) → IsNamed k hs → (node_in h).name ≡ k + j → IsNamed k (slice_set hs j h)
  named_set k j [] h all name = tt
  named_set k zero (x ∷ hs) h all name = let is : (node_in h).name ≡ k = omega (arith, name) in (is, all.1)
  named_set k (suc j) (x ∷ hs) h all name = let is : (node_in h).name ≡ suc k + j = omega (arith, name) in (all.0, named_set (suc k) j hs h all.1 is)

  named_both : (k : ℕ) (hs fs : List (SlabEntry T)) → IsNamed k hs → AreFree (k + length hs) fs → IsNamed k (hs ++ fs)
  named_both k [] [] all free = tt
  named_both k [] (f ∷ fs) all free =
      let e = free.0 in let is : (node_in f).name ≡ k = omega (arith, e) in let on : suc (k + 0) ≡ suc k + 0 = omega arith in
      (is, named_both (suc k) [] fs tt (subst (λ q. AreFree q fs) on free.2))
  named_both k (h ∷ hs) fs all free =
      let on : k + suc (length hs) ≡ suc k + length hs = omega arith in (all.0, named_both (suc k) hs fs all.1 (subst (λ q. AreFree q fs) on free))

  -- the node of a held reference stands at its place
  pub record There (cs : List (List Cell)) (hs : List (SlabEntry T)) (r : Ref) : Type 0 where
    pub less : r.name < length hs
    pub value : T
    pub at : slab_entry_at hs r.name ≡ Some (Held r value)

  held_slab_entry : (cs : List (List Cell)) (hs : List (SlabEntry T)) (r : Ref) (o : Option (SlabEntry T)) → slab_entry_at hs r.name ≡ o
      → IsNamed 0 hs → option_map (node_at r.name) (entry_of cs r.name o) ≡ Some r → There cs hs r
  held_slab_entry cs hs r None is all e = absurd (none_some r e)
  held_slab_entry cs hs r (Some (Free q n)) is all e = absurd (none_some r e)
  held_slab_entry cs hs r (Some (Held q v)) is all e =
      let name : q.name ≡ r.name = named_at 0 r.name hs (Held q v) all is ∙ from_zero r.name in
      let one : q ≡ r = same_ref q r name (ap (λ (s : Ref). s.generation) (some_inj _ r e)) in
      record { less = inside hs r.name (Held q v) is; value = v; at = is ∙ ap (λ (s : Ref). Some (Held s v)) one }

  pub there : {n : ℕ} {cs : List (List Cell)} {hs : List (SlabEntry T)} {g : FinMap nat_cmp ℕ} {r : Ref} → IsSound n cs hs g → IsHeld (seen n cs hs g) r
      → There cs hs r
  unfolding ref_of seen
  there {n} {cs} {hs} {g} {r} sound h =
      held_slab_entry cs hs r (slab_entry_at hs r.name) refl sound.named (ap (option_map (node_at r.name)) (sym (get-map cs hs r.name)) ∙ h)

  -- as an index finds it
  found : (cs : List (List Cell)) (hs : List (SlabEntry T)) (r : Ref) (t : There cs hs r) (k : ℕ) (h : SlabEntry T)
      → k ≡ r.name → h ≡ slice_index_or hs k h → h ≡ Held r t.value
  found cs hs r t k h name is = is ∙ ap (λ q. slice_index_or hs q h) name ∙ some_inj _ _ (sym (at_index hs r.name h t.less) ∙ t.at)

  value-seen : (n : ℕ) (cs : List (List Cell)) (hs : List (SlabEntry T)) (g : FinMap nat_cmp ℕ) (r : Ref) (t : There cs hs r)
      → value_of (seen n cs hs g) r.name ≡ Some t.value
  unfolding value_of seen
  value-seen n cs hs g r t = ap (option_map (λ (e : Entry T). e.value)) (get-map cs hs r.name ∙ ap (entry_of cs r.name) t.at)

  link-seen : (n : ℕ) (cs : List (List Cell)) (hs : List (SlabEntry T)) (g : FinMap nat_cmp ℕ) (r : Ref) (s : ℕ) (t : There cs hs r)
      → link_of (seen n cs hs g) r.name s ≡ slice_index_or (links_at cs r.name) s no_link
  unfolding link_of seen
  link-seen n cs hs g r s t = ap (λ o. entry_link o s) (get-map cs hs r.name ∙ ap (entry_of cs r.name) t.at)

  same_entry : (cs ds : List (List Cell)) (q : ℕ) (o : Option (SlabEntry T)) → links_at ds q ≡ links_at cs q → entry_of ds q o ≡ entry_of cs q o
  same_entry cs ds q None e = refl
  same_entry cs ds q (Some (Free r n)) e = refl
  same_entry cs ds q (Some (Held r v)) e = λ i. Some (record { generation = r.generation; value = v; links = e i })

  -- what becomes of the map where all places but j stay as they are
  get-one : (cs ds : List (List Cell)) (hs gs : List (SlabEntry T)) (j : ℕ)
      → ((q : ℕ) → (q == j) ≡ false → links_at ds q ≡ links_at cs q) → ((q : ℕ) → (q == j) ≡ false → slab_entry_at gs q ≡ slab_entry_at hs q)
      → (q : ℕ) → get (map_from ds 0 gs) q ≡ cond (q == j) (entry_of ds j (slab_entry_at gs j)) (get (map_from cs 0 hs) q)
  get-one cs ds hs gs j links slab q = get-map ds gs q
      ∙ (elim (q == j) as (λ y. (q == j) ≡ y → entry_of ds q (slab_entry_at gs q) ≡ cond y (entry_of ds j (slab_entry_at gs j)) (get (map_from cs 0 hs) q)) [
        | true ↦ λ e. ap (λ k. entry_of ds k (slab_entry_at gs k)) (same_name q j e)
        | false ↦ λ e. ap (entry_of ds q) (slab q e) ∙ same_entry cs ds q (slab_entry_at hs q) (links q e) ∙ sym (get-map cs hs q)
      ]) refl

  pub other_slab_entry : (hs : List (SlabEntry T)) (j : ℕ) (h : SlabEntry T) → j < length hs → (q : ℕ) → (q == j) ≡ false → slab_entry_at (slice_set hs j h) q ≡ slab_entry_at hs q
  other_slab_entry hs j h less q e = at_set hs j q h less ∙ ap (λ b. cond b (Some h) (slab_entry_at hs q)) e

  pub this_slab_entry : (hs : List (SlabEntry T)) (j : ℕ) (h : SlabEntry T) → j < length hs → slab_entry_at (slice_set hs j h) j ≡ Some h
  this_slab_entry hs j h less = at_set hs j j h less ∙ ap (λ b. cond b (Some h) (slab_entry_at hs j)) (same_refl j)

  entry-there : (n : ℕ) (cs : List (List Cell)) (hs : List (SlabEntry T)) (r : Ref) (t : There cs hs r)
      → get (map_from cs 0 hs) r.name ≡ Some (made cs r.name r t.value)
  entry-there n cs hs r t = get-map cs hs r.name ∙ ap (entry_of cs r.name) t.at

  pub seen-vacated : (n : ℕ) (cs : List (List Cell)) (hs : List (SlabEntry T)) (g : FinMap nat_cmp ℕ) (r : Ref) (next : ℕ)
      → There cs hs r → seen n cs (slice_set hs r.name (Free r next)) (insert g r.name r.generation) ≡ without (seen n cs hs g) r.name
  unfolding seen without
  seen-vacated n cs hs g r next t =
      let less = t.less in
      let one : map_from cs 0 (slice_set hs r.name (Free r next)) ≡ remove (map_from cs 0 hs) r.name =
      same_map nat_cmp_total nat_cmp-IsAntisymmetric _ _ (λ q.
      get-one cs cs hs (slice_set hs r.name (Free r next)) r.name (λ k e. refl) (other_slab_entry hs r.name (Free r next) less) q
      ∙ ap (λ o. cond (q == r.name) (entry_of cs r.name o) (get (map_from cs 0 hs) q)) (this_slab_entry hs r.name (Free r next) less)
      ∙ sym (get-remove nat_cmp_total (map_from cs 0 hs) r.name q ∙ ap (λ b. cond b None (get (map_from cs 0 hs) q)) (unsigned_tied q r.name))) in
      let two : insert g r.name r.generation ≡ noted g r.name (get (map_from cs 0 hs) r.name) = ap (noted g r.name) (sym (entry-there n cs hs r t)) in
      λ i. record { entries = one i; slots = n; last_freed = two i }

  -- the entry of a node none of whose links is set
  abbrev blank : ℕ → Ref → T → Entry T
  blank n r v = record { generation = r.generation; value = v; links = replicate n no_link }

  pub seen-occupied : (n : ℕ) (cs ds : List (List Cell)) (hs : List (SlabEntry T)) (g : FinMap nat_cmp ℕ) (r : Ref) (v : T)
      → r.name < length hs → ((q : ℕ) → (q == r.name) ≡ false → links_at ds q ≡ links_at cs q)
      → links_at ds r.name ≡ replicate n no_link → seen n ds (slice_set hs r.name (Held r v)) g ≡ taken (seen n cs hs g) r v
  unfolding seen taken
  seen-occupied n cs ds hs g r v less others here = ap (λ m. record {
    entries = m;
    slots = n;
    last_freed = g;
  }) (same_map nat_cmp_total nat_cmp-IsAntisymmetric _ _ (λ q.
      get-one cs ds hs (slice_set hs r.name (Held r v)) r.name others (other_slab_entry hs r.name (Held r v) less) q
      ∙ ap (λ o. cond (q == r.name) (entry_of ds r.name o) (get (map_from cs 0 hs) q)) (this_slab_entry hs r.name (Held r v) less)
      ∙ ap (λ ls. cond (q == r.name) (Some (record { generation = r.generation; value = v; links = ls })) (get (map_from cs 0 hs) q)) here
      ∙ sym (get-insert nat_cmp_total (map_from cs 0 hs) r.name (blank n r v) q
      ∙ ap (λ b. cond b (Some (blank n r v)) (get (map_from cs 0 hs) q)) (unsigned_tied q r.name))))

  change_found : (f : Entry T → Entry T) (m : FinMap nat_cmp (Entry T)) (k q : ℕ) (o : Option (Entry T))
      → get m k ≡ o → get (changed m k f o) q ≡ cond (q == k) (option_map f o) (get m q)
  change_found f m k q None e = (elim (q == k) as (λ y. (q == k) ≡ y → get m q ≡ cond y None (get m q)) [
    | true ↦ λ t. ap (get m) (same_name q k t) ∙ e
    | false ↦ λ t. refl
  ]) refl
  change_found f m k q (Some x) e = get-insert nat_cmp_total m k (f x) q ∙ ap (λ y. cond y (Some (f x)) (get m q)) (unsigned_tied q k)

  seen-change : (n : ℕ) (f : Entry T → Entry T) (cs ds : List (List Cell)) (hs gs : List (SlabEntry T)) (g : FinMap nat_cmp ℕ) (j : ℕ)
      → ((q : ℕ) → (q == j) ≡ false → links_at ds q ≡ links_at cs q)
      → ((q : ℕ) → (q == j) ≡ false → slab_entry_at gs q ≡ slab_entry_at hs q)
      → entry_of ds j (slab_entry_at gs j) ≡ option_map f (entry_of cs j (slab_entry_at hs j)) → seen n ds gs g ≡ change (seen n cs hs g) j f
  unfolding seen change
  seen-change n f cs ds hs gs g j links slab is = ap (λ m. record {
    entries = m;
    slots = n;
    last_freed = g;
  }) (same_map nat_cmp_total nat_cmp-IsAntisymmetric _ _ (λ q.
      get-one cs ds hs gs j links slab q ∙ ap (λ o. cond (q == j) o (get (map_from cs 0 hs) q)) (is ∙ ap (option_map f) (sym (get-map cs hs j)))
      ∙ sym (change_found f (map_from cs 0 hs) j q (get (map_from cs 0 hs) j) refl)))

  pub seen-value : (n : ℕ) (cs : List (List Cell)) (hs : List (SlabEntry T)) (g : FinMap nat_cmp ℕ) (r : Ref) (v : T)
      → There cs hs r → seen n cs (slice_set hs r.name (Held r v)) g ≡ with_value (seen n cs hs g) r.name v
  unfolding with_value
  seen-value n cs hs g r v t = seen-change n (λ e. record e { value = v }) cs cs hs
      (slice_set hs r.name (Held r v)) g r.name (λ k e. refl) (other_slab_entry hs r.name (Held r v) t.less)
      (ap (entry_of cs r.name) (this_slab_entry hs r.name (Held r v) t.less)
      ∙ ap (λ o. option_map (λ (e : Entry T). record e { value = v }) (entry_of cs r.name o)) (sym t.at))

  seen-link : (n : ℕ) (cs ds : List (List Cell)) (hs : List (SlabEntry T)) (g : FinMap nat_cmp ℕ) (r : Ref) (s : ℕ) (l : Link)
      → There cs hs r → ((q : ℕ) → (q == r.name) ≡ false → links_at ds q ≡ links_at cs q)
      → links_at ds r.name ≡ put_link (links_at cs r.name) s l → seen n ds hs g ≡ with_link (seen n cs hs g) r.name s l
  unfolding with_link
  seen-link n cs ds hs g r s l t others here = seen-change n (λ e. record e { links = put_link e.links s l }) cs ds hs hs g r.name others (λ k e. refl)
      (ap (entry_of ds r.name) t.at ∙ (λ i. Some (record { generation = r.generation; value = t.value; links = here i }))
      ∙ ap (λ o. option_map (λ (e : Entry T). record e { links = put_link e.links s l }) (entry_of cs r.name o)) (sym t.at))

  -- a free place is no node's
  free_entry : (cs : List (List Cell)) (k : ℕ) (o : Option (SlabEntry T)) → IsFreeIf o → entry_of cs k o ≡ None
  free_entry cs k None free = absurd free
  free_entry cs k (Some (Free r n)) free = refl
  free_entry cs k (Some (Held r v)) free = absurd (none_some v (sym free))

  pub free-seen : (n : ℕ) (cs : List (List Cell)) (hs : List (SlabEntry T)) (g : FinMap nat_cmp ℕ) (k : ℕ) → IsFreeAt hs k → ref_of (seen n cs hs g) k ≡ None
  unfolding ref_of seen
  free-seen n cs hs g k free = ap (option_map (node_at k)) (get-map cs hs k ∙ free_entry cs k (slab_entry_at hs k) free)

  free_there : (hs : List (SlabEntry T)) (k : ℕ) (o : Option (SlabEntry T)) → slab_entry_at hs k ≡ o → IsFreeIf o → k < length hs
  free_there hs k None is free = absurd free
  free_there hs k (Some h) is free = inside hs k h is

  pub free_less : (hs : List (SlabEntry T)) (k : ℕ) → IsFreeAt hs k → k < length hs
  free_less hs k free = free_there hs k (slab_entry_at hs k) refl free

  -- as an index finds it
  pub free_found : (hs : List (SlabEntry T)) (k : ℕ) (h : SlabEntry T) → IsFreeAt hs k → h ≡ slice_index_or hs k h → IsFree h
  free_found hs k h free is = subst IsFree (sym is) (subst IsFreeIf (at_index hs k h (free_less hs k free)) free)

  pub named_found : (hs : List (SlabEntry T)) (k : ℕ) (h : SlabEntry T) → IsNamed 0 hs → k < length hs → h ≡ slice_index_or hs k h → (node_in h).name ≡ k
  named_found hs k h all less is = named_at 0 k hs h all (at_index hs k h less ∙ ap Some (sym is)) ∙ from_zero k

  -- free places at the end
  free_tail : (cs : List (List Cell)) (p q k : ℕ) (fs : List (SlabEntry T)) → AreFree k fs → entry_of cs p (slab_entry_at fs q) ≡ None
  free_tail cs p q k [] free = refl
  free_tail cs p zero k (f ∷ fs) free = free_entry cs p (Some f) free.1
  free_tail cs p (suc q) k (f ∷ fs) free = free_tail cs p q (suc k) fs free.2

  more_entry : (cs : List (List Cell)) (p q k : ℕ) (hs fs : List (SlabEntry T)) → AreFree k fs → entry_of cs p (slab_entry_at (hs ++ fs) q) ≡ entry_of cs p (slab_entry_at hs q)
  more_entry cs p q k [] fs free = free_tail cs p q k fs free
  more_entry cs p zero k (h ∷ hs) fs free = refl
  more_entry cs p (suc q) k (h ∷ hs) fs free = more_entry cs p q k hs fs free

  pub seen-more : (n k : ℕ) (cs : List (List Cell)) (hs fs : List (SlabEntry T)) (g : FinMap nat_cmp ℕ) → AreFree k fs → seen n cs (hs ++ fs) g ≡ seen n cs hs g
  unfolding seen
  seen-more n k cs hs fs g free = ap (λ m. record { entries = m; slots = n; last_freed = g }) (same_map nat_cmp_total nat_cmp-IsAntisymmetric _ _ (λ q.
      get-map cs (hs ++ fs) q ∙ more_entry cs q q k hs fs free ∙ sym (get-map cs hs q)))

  first_slab_entry : (k : ℕ) (fs : List (SlabEntry T)) → AreFree k fs → 0 < length fs → IsFreeIf (slab_entry_at fs 0)
  first_slab_entry k [] free less = absurd (omega (arith, less))
  first_slab_entry k (f ∷ fs) free less = free.1

  pub free_end : (k : ℕ) (hs fs : List (SlabEntry T)) → AreFree k fs → 0 < length fs → IsFreeAt (hs ++ fs) (length hs)
  free_end k [] fs free less = first_slab_entry k fs free less
  free_end k (h ∷ hs) fs free less = free_end k hs fs free less

  -- columns with the same links
  pub seen-columns : (n : ℕ) (cs ds : List (List Cell)) (hs : List (SlabEntry T)) (g : FinMap nat_cmp ℕ) → ((k : ℕ) → links_at ds k ≡ links_at cs k)
      → seen n ds hs g ≡ seen n cs hs g
  unfolding seen
  seen-columns n cs ds hs g links = ap (λ m. record { entries = m; slots = n; last_freed = g }) (same_map nat_cmp_total nat_cmp-IsAntisymmetric _ _ (λ q.
      get-map ds hs q ∙ same_entry cs ds q (slab_entry_at hs q) (links q) ∙ sym (get-map cs hs q)))

  -- columns where there is no place, or as many as slots
  pub seen-wide : (n : ℕ) (cs ds : List (List Cell)) (hs : List (SlabEntry T)) {g : FinMap nat_cmp ℕ} → IsSound n cs hs g → (length cs ≡ n → ds ≡ cs)
      → seen n ds hs g ≡ seen n cs hs g
  unfolding seen
  seen-wide n cs ds [] sound full = refl
  seen-wide n cs ds (h ∷ hs) {g} sound full = ap (λ es. record { entries = map_from es 0 (h ∷ hs); slots = n; last_freed = g }) (full (sound.wide (omega arith)))

  pub slots-seen : (n : ℕ) (cs : List (List Cell)) (hs : List (SlabEntry T)) (g : FinMap nat_cmp ℕ) → (seen n cs hs g).slots ≡ n
  unfolding seen
  slots-seen n cs hs g = refl

  -- a slot of what the places stand for
  pub slot_seen : (p : Storage T) {m : Pooled T} {s : ℕ} → nodes p ≡ m → s < m.slots → s < p.slots
  slot_seen p {m} {s} is less =
      subst (λ k. s < k) (ap (λ (n : Pooled T). n.slots) (sym is) ∙ slots-seen p.slots p.columns.items p.slab p.last_freed.marks) less

  pub seen-none : (n : ℕ) (cs : List (List Cell)) → seen {T = T} n cs [] empty ≡ no_nodes n
  unfolding seen no_nodes
  seen-none n cs = refl

  -- the marks of what was given back
  keeps_there : (b : ℕ) (hs fs : List (SlabEntry T)) (k : ℕ) → KeepsMark b (slab_entry_at hs k) → KeepsMark b (slab_entry_at (hs ++ fs) k)
  keeps_there b [] fs k h = absurd h
  keeps_there b (x ∷ hs) fs zero h = h
  keeps_there b (x ∷ hs) fs (suc k) h = keeps_there b hs fs k h

  -- a node that stands where a free place was
  marked-held : (g : FinMap nat_cmp ℕ) (hs : List (SlabEntry T)) (j : ℕ) (r : Ref) (v : T) → j < length hs → AreMarked g hs → AreMarked g (slice_set hs j (Held r v))
  marked-held g hs j r v less h k b e = (elim (k == j) as (λ y. (k == j) ≡ y → KeepsMark b (slab_entry_at (slice_set hs j (Held r v)) k)) [
    | true ↦ λ t. subst (KeepsMark b) (sym (ap (slab_entry_at (slice_set hs j (Held r v))) (same_name k j t) ∙ this_slab_entry hs j (Held r v) less)) tt
    | false ↦ λ t. subst (KeepsMark b) (sym (other_slab_entry hs j (Held r v) less k t)) (h k b e)
  ]) refl

  -- a node that was given back
  marked-free : (g : FinMap nat_cmp ℕ) (hs : List (SlabEntry T)) (r : Ref) (next : ℕ) → r.name < length hs → AreMarked g hs
      → AreMarked (insert g r.name r.generation) (slice_set hs r.name (Free r next))
  marked-free g hs r next less h k b e =
      let at : get (insert g r.name r.generation) k ≡ cond (k == r.name) (Some r.generation) (get g k) =
      get-insert nat_cmp_total g r.name r.generation k ∙ ap (λ y. cond y (Some r.generation) (get g k)) (unsigned_tied k r.name) in
      (elim (k == r.name) as (λ y. (k == r.name) ≡ y → KeepsMark b (slab_entry_at (slice_set hs r.name (Free r next)) k)) [
        | true ↦ λ t. subst (KeepsMark b) (sym (ap (slab_entry_at (slice_set hs r.name (Free r next))) (same_name k r.name t) ∙ this_slab_entry hs r.name (Free r next) less))
            (some_inj r.generation b (sym (at ∙ ap (λ y. cond y (Some r.generation) (get g k)) t) ∙ e))
        | false ↦ λ t. subst (KeepsMark b) (sym (other_slab_entry hs r.name (Free r next) less k t))
            (h k b (sym (at ∙ ap (λ y. cond y (Some r.generation) (get g k)) t) ∙ e))
      ]) refl

  kept_mark : (o : Option (SlabEntry T)) (h : SlabEntry T) (b : ℕ) → o ≡ Some h → IsFree h → KeepsMark b o → (node_in h).generation ≡ b
  kept_mark None h b is free keeps = absurd keeps
  kept_mark (Some (Free q n)) h b is free keeps = ap (λ (w : SlabEntry T). (node_in w).generation) (sym (some_inj _ h is)) ∙ keeps
  kept_mark (Some (Held q v)) h b is free keeps = absurd (none_some v (sym free ∙ ap (λ (w : SlabEntry T). value_in w) (sym (some_inj _ h is))))

  -- the reference that comes from a free place isn't the one that was given back last there
  pub other_than_last : (n : ℕ) (cs : List (List Cell)) (hs : List (SlabEntry T)) (g : FinMap nat_cmp ℕ) (k : ℕ) (h : SlabEntry T) (r : Ref)
      → IsSound n cs hs g → IsFreeAt hs k → h ≡ slice_index_or hs k h → r.name ≡ k → r.generation ≡ 1 - (node_in h).generation → IsNotLast (seen n cs hs g) r
  unfolding last_given seen
  other_than_last n cs hs g k h r sound free is name generation e =
      let there : slab_entry_at hs k ≡ Some h = at_index hs k h (free_less hs k free) ∙ ap Some (sym is) in
      let last : get g k ≡ Some r.generation = ap (get g) (sym name) ∙ last_mark r.name (get g r.name) r e in
      differs (node_in h).generation r.generation (kept_mark (slab_entry_at hs k) h r.generation there (free_found hs k h free is) (sound.marked k r.generation last)) (sym generation)

  -- places stay sound
  pub sound-none : (n : ℕ) (cs : List (List Cell)) (hs : List (SlabEntry T)) → length cs ≤ n → hs ≡ [] → IsSound n cs hs empty
  sound-none n cs [] few e = record {
    named = tt;
    few = few;
    wide = λ less. absurd (omega (arith, less));
    long = long_none cs;
    marked = λ k b f. none_some b (sym (get-empty nat_cmp k) ∙ f);
  }
  sound-none n cs (h ∷ hs) few e = absurd cc

  sound-set : (n : ℕ) (cs : List (List Cell)) (hs : List (SlabEntry T)) (g f : FinMap nat_cmp ℕ) (j : ℕ) (h : SlabEntry T)
      → IsSound n cs hs g → (node_in h).name ≡ j → AreMarked f (slice_set hs j h) → IsSound n cs (slice_set hs j h) f
  sound-set n cs hs g f j h sound name marked = record {
    named = named_set 0 j hs h sound.named (name ∙ sym (from_zero j));
    few = sound.few;
    wide = λ less. sound.wide (subst (λ k. 0 < k) (length-set hs j h) less);
    long = subst (λ k. AreLong k cs) (sym (length-set hs j h)) sound.long;
    marked = marked;
  }

  pub sound-held : (n : ℕ) (cs : List (List Cell)) (hs : List (SlabEntry T)) {g : FinMap nat_cmp ℕ} (j : ℕ) (r : Ref) (v : T)
      → IsSound n cs hs g → r.name ≡ j → j < length hs → IsSound n cs (slice_set hs j (Held r v)) g
  sound-held n cs hs {g} j r v sound name less = sound-set n cs hs g g j (Held r v) sound name (marked-held g hs j r v less sound.marked)

  pub sound-free : (n : ℕ) (cs : List (List Cell)) (hs : List (SlabEntry T)) (g : FinMap nat_cmp ℕ) (r : Ref) (next : ℕ)
      → IsSound n cs hs g → r.name < length hs → IsSound n cs (slice_set hs r.name (Free r next)) (insert g r.name r.generation)
  sound-free n cs hs g r next sound less =
      sound-set n cs hs g (insert g r.name r.generation) r.name (Free r next) sound refl (marked-free g hs r next less sound.marked)

  pub sound-columns : (n : ℕ) (cs ds : List (List Cell)) (hs : List (SlabEntry T)) {g : FinMap nat_cmp ℕ} → IsSound n cs hs g
      → length ds ≡ length cs → ((m : ℕ) → AreLong m cs → AreLong m ds) → IsSound n ds hs g
  sound-columns n cs ds hs sound count long = record {
    named = sound.named;
    few = subst (λ k. k ≤ n) (sym count) sound.few;
    wide = λ less. count ∙ sound.wide less;
    long = long (length hs) sound.long;
    marked = sound.marked;
  }

  pub sound-wide : (n : ℕ) (cs ds : List (List Cell)) (hs : List (SlabEntry T)) {g : FinMap nat_cmp ℕ} → IsSound n cs hs g → length ds ≤ n → (length cs ≡ n
      → ds ≡ cs) → IsSound n ds hs g
  sound-wide n cs ds [] sound few full = record {
    named = tt;
    few = few;
    wide = λ less. absurd (omega (arith, less));
    long = long_none ds;
    marked = sound.marked;
  }
  sound-wide n cs ds (h ∷ hs) {g} sound few full = subst (λ es. IsSound n es (h ∷ hs) g) (sym (full (sound.wide (omega arith)))) sound

  length_both : (hs fs : List (SlabEntry T)) → length (hs ++ fs) ≡ length hs + length fs
  length_both [] fs = omega arith
  length_both (h ∷ hs) fs = let e = length_both hs fs in omega (arith, e)

  pub sound-more : (n : ℕ) (cs : List (List Cell)) (hs fs : List (SlabEntry T)) {g : FinMap nat_cmp ℕ} → IsSound n cs hs g → length cs ≡ n
      → AreFree (length hs) fs → AreLong (length hs + length fs) cs → IsSound n cs (hs ++ fs) g
  sound-more n cs hs fs sound wide free long = record {
    named = named_both 0 hs fs sound.named (subst (λ k. AreFree k fs) (sym (from_zero (length hs))) free);
    few = sound.few;
    wide = λ less. wide;
    long = subst (λ k. AreLong k cs) (sym (length_both hs fs)) long;
    marked = λ k b e. keeps_there b hs fs k (sound.marked k b e);
  }

  -- the name of a held reference is a place
  module _ {n : ℕ} {cs : List (List Cell)} {hs : List (SlabEntry T)} {g : FinMap nat_cmp ℕ} {r : Ref} (sound : IsSound n cs hs g) (held : IsHeld (seen n cs hs g) r)
      {k : ℕ} (name : k ≡ r.name) where
    pub held_less : k < length hs
    held_less = subst (λ q. q < length hs) (sym name) (there sound held).less

    -- what an index finds there has the node's value
    pub held_some : (h : SlabEntry T) → h ≡ slice_index_or hs k h → IsTrue (is_some (value_in h))
    held_some h is = subst (λ (w : SlabEntry T). IsTrue (is_some (value_in w))) (sym (found cs hs r (there sound held) k h name is)) refl

    pub held_value : (h : SlabEntry T) → h ≡ slice_index_or hs k h → value_of (seen n cs hs g) r.name ≡ value_in h
    held_value h is =
        let t = there sound held in value-seen n cs hs g r t ∙ sym (ap (λ (w : SlabEntry T). value_in w) (found cs hs r t k h name is))

    -- a slot has a column, with a cell there that has the node's link
    pub held_wide : (s : ℕ) → s < n → s < length cs
    held_wide s less = let l = held_less in subst (λ q. s < q) (sym (sound.wide (omega (arith, l)))) less

    pub held_long : (s : ℕ) → s < n → k < length (column cs s)
    held_long s less = let l = held_less in let long = sound.long s (held_wide s less) in omega (arith, l, long)

    pub held_link : (s : ℕ) → slice_index_or (links_at cs k) s no_link ≡ link_of (seen n cs hs g) r.name s
    held_link s = ap (λ q. slice_index_or (links_at cs q) s no_link) name ∙ sym (link-seen n cs hs g r s (there sound held))

    -- the node's link in a slot is set
    pub held_put : (ds : List (List Cell)) (s : ℕ) (l : Link) → ((q : ℕ) → (q == k) ≡ false → links_at ds q ≡ links_at cs q)
        → links_at ds k ≡ put_link (links_at cs k) s l → seen n ds hs g ≡ with_link (seen n cs hs g) r.name s l
    held_put ds s l others here = seen-link n cs ds hs g r s l (there sound held) (λ q e. others q (ap (λ z. q == z) name ∙ e))
        (ap (links_at ds) (sym name) ∙ here ∙ ap (λ z. put_link (links_at cs z) s l) name)

  pub some_wide : (n : ℕ) (cs : List (List Cell)) (hs : List (SlabEntry T)) {g : FinMap nat_cmp ℕ} (k : ℕ) → IsSound n cs hs g → k < length hs → length cs ≡ n
  some_wide n cs hs k sound less = sound.wide (omega (arith, less))

  -- one free place more
  pub free-next : (k : ℕ) (hs : List (SlabEntry T)) (h : SlabEntry T) → AreFree k hs → (node_in h).name ≡ k + length hs → IsFree h → AreFree k (hs ++ h ∷ [])
  free-next k [] h all name free = let is : (node_in h).name ≡ k = omega (arith, name) in (is, free, tt)
  free-next k (x ∷ hs) h all name free =
      let is : (node_in h).name ≡ suc k + length hs = omega (arith, name) in (all.0, all.1, free-next (suc k) hs h all.2 is free)

  pub length-next : (hs : List (SlabEntry T)) (h : SlabEntry T) → length (hs ++ h ∷ []) ≡ length hs + 1
  length-next hs h = length_both hs (h ∷ [])
