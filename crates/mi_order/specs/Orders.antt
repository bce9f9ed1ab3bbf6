-- How an index sees what nodes hold. Stamps stand in the links of nodes, and are no part of it.
--     stored_order, place_in      two nodes by their keys, and one beside a probe
--     stored_tag, sought_tag, is_decided      the tags of both, and whether a tag says all of its key
--     keying_hash, sought_hash, has_one_key, is_key_of, keying_of      hashes and equality of keys in a hashed index
use Rattle.std.specs.Prelude.{◌≡◌, ◌<◌, ℕ, pos, negsuc, ◌==◌, ◌&&◌, nat_le, Bool, true, false, if◌then◌else◌, List, [], ◌∷◌, length}
use Rattle.std.specs.declared.option.Option.{Option}
use Rattle.std.specs.declared.option.Option.TheVariants.{None, Some}
use Rattle.std.specs.declared.cmp.Ordering.{Ordering}
use Rattle.std.specs.declared.cmp.Ordering.TheVariants.{Less, Equal, Greater}
use Rattle.std.specs.Cmp.{IsTotalOrder}
use Rattle.std.specs.Ordering.{on, is_eq, is_gt, ordering_reverse}
use Rattle.mi_value.specs.declared.value.Value.{Value}
use Rattle.mi_value.specs.declared.value.Value.TheVariants.{Int, Text, Flag}
use Rattle.mi_order.specs.declared.prefixes.PrefixTypes.{PrefixTypes}
use Rattle.mi_value.specs.declared.compare.KeyPart.{KeyPart}
use Rattle.mi_value.specs.declared.bound.Probe.{Probe}
use Rattle.mi_value.specs.declared.bound.Probe.TheVariants.{Key, Of}
use Rattle.mi_value.specs.Order.{compare_key, compare_prefix}
use Rattle.mi_value.specs.Hash.{key_values}
use Rattle.mi_catalog.specs.Key.{Row, compare_rows, compare_to_row}
use Rattle.mi_order.specs.declared.stored.Stored.{Stored}
use Rattle.mi_order.specs.declared.orders.ByHash.{ByHash}
use Rattle.mi_order.specs.Hashing.{values_hash}
use Rattle.mi_chain.specs.Keying.{Keying, IsLawful}
use Rattle.mi_order.specs.Prefixes.{prefix_tag, prefix_probe, is_complete_prefix}

-- the row that a node holds
abbrev pub row_in : Stored → Row
row_in v = (v.id, v.row)

-- Sorted indexes

abbrev pub stored_order : List KeyPart → Stored → Stored → Ordering
stored_order ps = on row_in (compare_rows ps)

abbrev pub place_in : List KeyPart → Stored → Probe → Ordering
place_in ps v (Key vs) = ordering_reverse (compare_to_row ps vs.now (row_in v))
place_in ps v (Of r) = compare_key ps v.row r.now

-- the id where an index has no parts, else the tag of the first parts, whose columns have those types
abbrev pub stored_tag : PrefixTypes → List KeyPart → Stored → ℕ
stored_tag c [] v = v.id
stored_tag c (p ∷ ps) v = prefix_tag c p ps v.row

-- an id as a value
abbrev pub id_sought : Value → Option ℕ
id_sought (Int (pos n)) = Some n
id_sought (Int (negsuc n)) = None
id_sought (Text bs) = None
id_sought (Flag b) = None

-- the tag of a key, where it has one and has no more values than the index has parts
abbrev pub key_tag : PrefixTypes → List KeyPart → List Value → Option ℕ
key_tag c ps [] = None
key_tag c [] (v ∷ []) = id_sought v
key_tag c [] (v ∷ w ∷ vs) = None
key_tag c (p ∷ ps) (v ∷ vs) = if nat_le (length vs) (length ps) then prefix_probe c p ps v vs else None

abbrev pub record_tag : PrefixTypes → List KeyPart → List Value → Option ℕ
record_tag c [] r = None
record_tag c (p ∷ ps) r = Some (prefix_tag c p ps r)

abbrev pub sought_tag : PrefixTypes → List KeyPart → Probe → Option ℕ
sought_tag c ps (Key vs) = key_tag c ps vs.now
sought_tag c ps (Of r) = record_tag c ps r.now

-- an id is all of its key, and so is an exact tag
abbrev pub is_decided : PrefixTypes → List KeyPart → ℕ → Bool
is_decided c [] t = true
is_decided c (p ∷ ps) t = is_complete_prefix c p ps t

-- Hashed indexes

-- the hash of a key under the secret
abbrev pub keying_hash : ℕ → List KeyPart → Stored → ℕ
keying_hash secret ps v = values_hash secret (key_values ps v.row)

abbrev pub sought_hash : ℕ → List KeyPart → Probe → ℕ
sought_hash secret ps (Key vs) = values_hash secret vs.now
sought_hash secret ps (Of r) = values_hash secret (key_values ps r.now)

abbrev pub has_one_key : List KeyPart → Stored → Stored → Bool
has_one_key ps x y = is_eq (compare_key ps x.row y.row)

-- whether values, one for each part, are the key of a record
abbrev pub is_whole : List KeyPart → List Value → List Value → Bool
is_whole ps vs r = (length vs == length ps) && is_eq (compare_prefix ps vs r)

abbrev pub is_key_of : List KeyPart → Stored → Probe → Bool
is_key_of ps v (Key vs) = is_whole ps vs.now v.row
is_key_of ps v (Of q) = is_eq (compare_key ps v.row q.now)

-- all of it, as chains see it
abbrev pub keying_of : ByHash → Keying Stored
keying_of h = record {
  hash = keying_hash h.secret h.parts;
  hash_key = sought_hash h.secret h.parts;
  same = has_one_key h.parts;
  same_key = is_key_of h.parts;
}

-- What an order and its tags owe

-- the order is total, a smaller tag is less, and one tag that decides is one key
pub record IsTagged (c : PrefixTypes) (ps : List KeyPart) : Type 0 where
  pub total : IsTotalOrder (stored_order ps)
  pub tag_below : (x y : Stored) → stored_tag c ps x < stored_tag c ps y → stored_order ps x y ≡ Less
  pub exact : (x y : Stored) → is_decided c ps (stored_tag c ps x) ≡ true → stored_tag c ps x ≡ stored_tag c ps y → stored_order ps x y ≡ Equal

-- nodes of smaller tags than the probe's are before it, those of greater ones behind it, and those of its own tag, if that decides, are at it
pub record IsSought (c : PrefixTypes) (ps : List KeyPart) (k : Probe) : Type 0 where
  pub below : (t : ℕ) → sought_tag c ps k ≡ Some t → (x : Stored) → stored_tag c ps x < t → place_in ps x k ≡ Less
  pub above : (t : ℕ) → sought_tag c ps k ≡ Some t → (x : Stored) → t < stored_tag c ps x → place_in ps x k ≡ Greater
  pub exact : (t : ℕ) → sought_tag c ps k ≡ Some t → is_decided c ps t ≡ true → (x : Stored) → stored_tag c ps x ≡ t → place_in ps x k ≡ Equal

-- along the order a probe's answers only rise: first Less, then Equal, then Greater
pub record Rises (ps : List KeyPart) (k : Probe) (x y : Stored) : Type 0 where
  pub less : place_in ps y k ≡ Less → place_in ps x k ≡ Less
  pub greater : place_in ps x k ≡ Greater → place_in ps y k ≡ Greater

abbrev pub OrdersAreLawful : Type 0
OrdersAreLawful = (c : PrefixTypes) (ps : List KeyPart) → IsTagged c ps × ((k : Probe) → IsSought c ps k)
    × ((k : Probe) (x y : Stored) → is_gt (stored_order ps x y) ≡ false → Rises ps k x y)

-- equality of keys is an equivalence, and hashes and probes agree with it
abbrev pub KeyingsAreLawful : Type 0
KeyingsAreLawful = (h : ByHash) → IsLawful (keying_of h)
