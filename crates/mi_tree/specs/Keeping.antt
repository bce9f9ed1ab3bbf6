-- Whether a node keeps its place where it gets another value and another stamp, and what it then has.
--     side_of_item      on which side of a node one would stand that had this value and this stamp
--     KeepsPlace      every node in front of the place is before that, and every node behind it is after that
--     ahead, facing      the nodes to which a node moves as it rises, or else falls; how it compares with those that it hasn't passed
--     retagged      a link with another tag
--     IsRevalued      the pool in which the node has that value, and that stamp in the slot
--     StandsWhereKept      a tree stands after such a change, if the node keeps its place
use Rattle.std.specs.Prelude.{◌≡◌, ℕ, ◌==◌, Bool, false, cond, not, List, ◌∷◌, ◌++◌, Some}
use Rattle.std.specs.declared.cmp.Ordering.{Ordering}
use Rattle.std.specs.declared.cmp.Ordering.TheVariants.{Less, Equal, Greater}
use Rattle.mi_node.specs.Pool.{Pooled, ref_of, value_of, link_of}
use Rattle.mi_node.specs.Refs.{Ref}
use Rattle.mi_node.specs.declared.link.Link.{Link}
use Rattle.mi_node.specs.declared.link.Tag.{Tag}
use Rattle.mi_tree.specs.Sorted.{AllAre, by_stamp, compared, item_of}
use Rattle.mi_tree.specs.Standing.{IsTree}
use Rattle.mi_tree.specs.declared.tree.Tree.{Tree}

abbrev pub facing : Bool → Ordering
facing rises = cond rises Less Greater

abbrev pub is_facing : Bool → Ordering → Bool
is_facing rises Less = rises
is_facing rises Equal = false
is_facing rises Greater = not rises

abbrev pub ahead : Bool → List Ref → List Ref → List Ref
ahead rises xs ys = cond rises ys xs

abbrev pub retagged : Tag → Link → Link
retagged tag y = record { back = y.back; forth = y.forth; size = y.size; height = y.height; tag = tag }

module _ {T : Type 0} where
  abbrev pub side_of_item : (T → T → Ordering) → Pooled T → ℕ → T → ℕ → Ref → Ordering
  side_of_item order m s v stamp r = compared (by_stamp order) (Some (v, stamp)) (item_of m s r.name)

  -- between the nodes xs and the nodes ys
  pub record KeepsPlace (order : T → T → Ordering) (m : Pooled T) (s : ℕ) (v : T) (stamp : ℕ) (xs ys : List Ref) : Type 0 where
    pub below : AllAre (side_of_item order m s v stamp) Greater xs
    pub above : AllAre (side_of_item order m s v stamp) Less ys

  -- n has another value and another tag of x than m
  pub record IsRevalued (tag : T → ℕ) (m n : Pooled T) (s : ℕ) (x : Ref) (v : T) (stamp : ℕ) : Type 0 where
    pub refs : (k : ℕ) → ref_of n k ≡ ref_of m k
    pub value : value_of n x.name ≡ Some v
    pub values : (k : ℕ) → (x.name == k) ≡ false → value_of n k ≡ value_of m k
    pub link : link_of n x.name s ≡ retagged (record { key = tag v; stamp = stamp }) (link_of m x.name s)
    pub links : (k : ℕ) → (x.name == k) ≡ false → link_of n k s ≡ link_of m k s
    pub slots : n.slots ≡ m.slots

abbrev pub StandsWhereKept : (T O : Type 0) → (T → T → Ordering) → (T → ℕ) → Type 0
StandsWhereKept T O order tag = (l : Tree O) (m n : Pooled T) (xs : List Ref) (x : Ref) (ys : List Ref) (v : T) (stamp : ℕ)
    → IsTree l m order tag (xs ++ x ∷ ys) → KeepsPlace order m l.slot v stamp xs ys → IsRevalued tag m n l.slot x v stamp
    → IsTree l n order tag (xs ++ x ∷ ys)
