-- What a contract sees of a `Pool`: a finite map from names to entries, how many links each entry has, and which reference of each name was
-- given back last.
--     Entry           the generation of its reference, its value, and its links by slot
--     ref_of, value_of, link_of      the reference that `take` gave for a name, its value, its link of a slot
--     IsHeld, IsHeldIf          this pool's entry of the reference's name has this very reference
--     last_given, IsNotLast      the reference of a name that was given back last; that a reference isn't that one
--     HasSpare        a place that was given back is free
--     no_nodes, taken, without, with_link, with_value      the pool after a call
--     node_count      how many nodes are held
--     Keeps           what a change of one structure leaves as it was
use Rattle.std.specs.Prelude.{◌≡◌, ℕ, zero, suc, false, ◌==◌, List, [], ◌∷◌, Option, Some, None, option_map, slice_index_or, replicate, refl}
use Rattle.std.specs.Ordering.{nat_cmp}
use Rattle.std.specs.FinMap.{FinMap, get, insert, remove, empty, len, code}
use Rattle.std.specs.Coded.{Coded, code_by, coded×, coded_list, coded_ℕ}
use Rattle.mi_node.specs.Refs.{Ref, IsOut}
use Rattle.mi_node.specs.declared.link.Link.{Link}
use Rattle.mi_node.specs.declared.link.Tag.{Tag}
use Rattle.mi_node.specs.contracts.link.Link as link_type

pub record Entry (T : Type 0) : Type 0 where
  pub generation : ℕ
  pub value : T
  pub links : List Link

abbrev pub entry_code : {T : Type 0} → Coded T → Coded (Entry T)
entry_code {T} t = code_by (ℕ × (T × List Link)) (coded× coded_ℕ (coded× t (coded_list link_type.the_row.coded)))
    (λ e. (e.generation, (e.value, e.links))) (λ p. record { generation = p.0; value = p.1.0; links = p.1.1 }) (λ _. refl)

-- slots: the number of links of each node. last_freed: the generation of the reference that was given back last, by its name
pub record Pooled (T : Type 0) : Type 0 where
  pub entries : FinMap nat_cmp (Entry T)
  pub slots : ℕ
  pub last_freed : FinMap nat_cmp ℕ

abbrev pub pooled_code : {T : Type 0} → Coded T → Coded (Pooled T)
pooled_code {T} t =
    code_by (FinMap nat_cmp (Entry T) × (ℕ × FinMap nat_cmp ℕ)) (coded× (code coded_ℕ (entry_code t)) (coded× coded_ℕ (code coded_ℕ coded_ℕ)))
    (λ m. (m.entries, (m.slots, m.last_freed))) (λ p. record { entries = p.0; slots = p.1.0; last_freed = p.1.1 }) (λ _. refl)

-- the tag of a slot that was never set
abbrev pub no_tag : Tag
no_tag = record { key = 0; stamp = 0 }

-- the link of a slot that was never set
abbrev pub no_link : Link
no_link = record { back = None; forth = None; size = 0; height = 0; tag = no_tag }

-- the links with l in slot s. A list that is too short is filled up, which no pool's is
abbrev pub put_link : List Link → ℕ → Link → List Link
put_link [] zero l = l ∷ []
put_link [] (suc s) l = no_link ∷ put_link [] s l
put_link (x ∷ xs) zero l = l ∷ xs
put_link (x ∷ xs) (suc s) l = x ∷ put_link xs s l

-- a pool whose nodes have n links, and that holds none and never did
unfoldable pub no_nodes : {T : Type 0} → ℕ → Pooled T
no_nodes n = record { entries = empty; slots = n; last_freed = empty }

module _ {T : Type 0} where
  abbrev pub entry_link : Option (Entry T) → ℕ → Link
  entry_link None s = no_link
  entry_link (Some e) s = slice_index_or e.links s no_link

  abbrev pub node_at : ℕ → Entry T → Ref
  node_at k e = record { name = k; generation = e.generation }

  unfoldable pub ref_of : Pooled T → ℕ → Option Ref
  ref_of m k = option_map (node_at k) (get m.entries k)

  unfoldable pub value_of : Pooled T → ℕ → Option T
  value_of m k = option_map (λ e. e.value) (get m.entries k)

  unfoldable pub link_of : Pooled T → ℕ → ℕ → Link
  link_of m k s = entry_link (get m.entries k) s

  unfoldable pub node_count : Pooled T → ℕ
  node_count m = len m.entries

  abbrev pub IsHeld : Pooled T → Ref → Type 0
  IsHeld m r = ref_of m r.name ≡ Some r

  -- the reference of the name k that was given back last, if one ever was
  unfoldable pub last_given : Pooled T → ℕ → Option Ref
  last_given m k = option_map (λ b. record { name = k; generation = b }) (get m.last_freed k)

  -- r isn't the reference that was given back last at its place
  abbrev pub IsNotLast : Pooled T → Ref → Type 0
  IsNotLast m r = last_given m r.name ≡ Some r → ⊥

  -- a node was given back, and at its place no node stands
  pub record HasSpare (m : Pooled T) : Type 0 where
    pub name : ℕ
    pub node : Ref
    pub given : last_given m name ≡ Some node
    pub free : ref_of m name ≡ None

  -- the node that is named, if one is, is held
  abbrev pub IsHeldIf : Pooled T → Option Ref → Type 0
  IsHeldIf m None = Unit {0}
  IsHeldIf m (Some r) = IsHeld m r

  -- f of the entry of name k
  abbrev pub changed : FinMap nat_cmp (Entry T) → ℕ → (Entry T → Entry T) → Option (Entry T) → FinMap nat_cmp (Entry T)
  changed es k f None = es
  changed es k f (Some e) = insert es k (f e)

  unfoldable pub change : Pooled T → ℕ → (Entry T → Entry T) → Pooled T
  change m k f = record { entries = changed m.entries k f (get m.entries k); slots = m.slots; last_freed = m.last_freed }

  -- with the node r of the value v, whose links were never set
  unfoldable pub taken : Pooled T → Ref → T → Pooled T
  taken m r v = record {
    entries = insert m.entries r.name (record { generation = r.generation; value = v; links = replicate m.slots no_link });
    slots = m.slots;
    last_freed = m.last_freed;
  }

  -- the marks of what was given back, with that of an entry of name k
  abbrev pub noted : FinMap nat_cmp ℕ → ℕ → Option (Entry T) → FinMap nat_cmp ℕ
  noted g k None = g
  noted g k (Some e) = insert g k e.generation

  -- with no node of name k: the one that was there is the last that was given back
  unfoldable pub without : Pooled T → ℕ → Pooled T
  without m k = record { entries = remove m.entries k; slots = m.slots; last_freed = noted m.last_freed k (get m.entries k) }

  unfoldable pub with_link : Pooled T → ℕ → ℕ → Link → Pooled T
  with_link m k s l = change m k (λ e. record e { links = put_link e.links s l })

  unfoldable pub with_value : Pooled T → ℕ → T → Pooled T
  with_value m k v = change m k (λ e. record e { value = v })

  -- a call on a structure changed nothing but links of slot s, and those only of nodes among rs
  pub record Keeps (old new : Pooled T) (s : ℕ) (rs : List Ref) : Type 0 where
    pub refs : (k : ℕ) → ref_of new k ≡ ref_of old k
    pub values : (k : ℕ) → value_of new k ≡ value_of old k
    pub slots : new.slots ≡ old.slots
    pub other_slots : (k t : ℕ) → (s == t) ≡ false → link_of new k t ≡ link_of old k t
    pub other_nodes : (k t : ℕ) → IsOut k rs → link_of new k t ≡ link_of old k t
