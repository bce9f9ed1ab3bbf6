-- Nodes in the order of their values' keys, and nodes of one key by their stamps, which stand in their links.
--     side, side_of_new      how two nodes compare; how a node would if it had that stamp
--     AreTagged, SameTags      each node's link has the tag of its value; a change keeps all tags
--     Rising      each node is before all later ones
--     IsPutIn      the list with one more node, in its place
use Rattle.std.specs.Prelude.{◌≡◌, ℕ, ◌+◌, ◌^◌, ◌<◌, ◌≤◌, max, List, [], ◌∷◌, ◌++◌, Option, Some, None}
use Rattle.std.specs.Ordering.{nat_cmp, ordering_then}
use Rattle.std.specs.declared.cmp.Ordering.{Ordering}
use Rattle.std.specs.declared.cmp.Ordering.TheVariants.{Less, Equal, Greater}
use Rattle.mi_node.specs.Pool.{Pooled, value_of, link_of, Keeps}
use Rattle.mi_node.specs.Refs.{Ref, IsOut, IsApart}
use Rattle.mi_tree.specs.BinaryTree.{BinaryTree, Tip, Fork, nodes, forks, height, DifferByAtMost, IsEven, IsRooted}

abbrev pub AllAre : (Ref → Ordering) → Ordering → List Ref → Type 0
AllAre f o [] = Unit {0}
AllAre f o (r ∷ rs) = (f r ≡ o) × AllAre f o rs

abbrev pub NoneAre : (Ref → Ordering) → Ordering → List Ref → Type 0
NoneAre f o [] = Unit {0}
NoneAre f o (r ∷ rs) = (f r ≡ o → ⊥) × NoneAre f o rs

abbrev pub Rising : (Ref → Ref → Ordering) → List Ref → Type 0
Rising R [] = Unit {0}
Rising R (r ∷ rs) = AllAre (R r) Less rs × Rising R rs

-- the function says on which side of each node x stands
pub record IsPutIn (where_is : Ref → Ordering) (x : Ref) (rs us : List Ref) : Type 0 where
  pub xs : List Ref
  pub ys : List Ref
  pub was : rs ≡ xs ++ ys
  pub now : us ≡ xs ++ x ∷ ys
  pub below : AllAre where_is Greater xs
  pub above : AllAre where_is Less ys

abbrev pub compared : {X : Type 0} → (X → X → Ordering) → Option X → Option X → Ordering
compared order None b = Equal
compared order (Some x) None = Equal
compared order (Some x) (Some y) = order x y

module _ {T : Type 0} where
  -- by keys, and then by stamps
  abbrev pub by_stamp : (T → T → Ordering) → T × ℕ → T × ℕ → Ordering
  by_stamp order x y = ordering_then (order x.0 y.0) (nat_cmp x.1 y.1)

  abbrev pub stamped : Option T → ℕ → Option (T × ℕ)
  stamped None n = None
  stamped (Some v) n = Some (v, n)

  -- the value of a name, and its stamp in the slot
  unfoldable pub item_of : Pooled T → ℕ → ℕ → Option (T × ℕ)
  item_of m s k = stamped (value_of m k) (link_of m k s).tag.stamp

  unfoldable pub side : (T → T → Ordering) → Pooled T → ℕ → Ref → Ref → Ordering
  side order m s a b = compared (by_stamp order) (item_of m s a.name) (item_of m s b.name)

  unfoldable pub side_of_new : (T → T → Ordering) → Pooled T → ℕ → Ref → ℕ → Ref → Ordering
  side_of_new order m s x stamp r = compared (by_stamp order) (stamped (value_of m x.name) stamp) (item_of m s r.name)

  abbrev pub IsTagOf : (T → ℕ) → Option T → ℕ → Type 0
  IsTagOf tag None k = Unit {0}
  IsTagOf tag (Some v) k = k ≡ tag v

  abbrev pub HasTag : (T → ℕ) → Pooled T → ℕ → Ref → Type 0
  HasTag tag m s r = IsTagOf tag (value_of m r.name) (link_of m r.name s).tag.key

  abbrev pub AreTagged : (T → ℕ) → Pooled T → ℕ → List Ref → Type 0
  AreTagged tag m s [] = Unit {0}
  AreTagged tag m s (r ∷ rs) = HasTag tag m s r × AreTagged tag m s rs

  abbrev pub SameTags : Pooled T → Pooled T → ℕ → Type 0
  SameTags m n s = (k : ℕ) → (link_of n k s).tag ≡ (link_of m k s).tag

  -- a balanced tree in order, and a node with no sides that it has no equal of
  pub record CanPut (m : Pooled T) (s : ℕ) (R : Ref → Ref → Ordering) (at : Option Ref) (x : Ref) (t : BinaryTree) : Type 0 where
    pub rooted : IsRooted m s at t
    pub even : IsEven t
    pub apart : IsApart (nodes t)
    pub rising : Rising R (nodes t)
    pub alone : IsRooted m s (Some x) (Fork Tip x Tip)
    pub out : IsOut x.name (nodes t)
    pub differs : NoneAre (R x) Equal (nodes t)
    pub fits : forks t + 1 < 2 ^ 32

  -- u has the nodes of t and x
  pub record HasPut (m n : Pooled T) (s : ℕ) (R : Ref → Ref → Ordering) (x : Ref) (t : BinaryTree) (root : Option Ref) (u : BinaryTree) : Type 0 where
    pub rooted : IsRooted n s root u
    pub even : IsEven u
    pub placed : IsPutIn (R x) x (nodes t) (nodes u)
    pub keeps : Keeps m n s (x ∷ nodes t)
    pub tags : SameTags m n s

  -- a balanced tree
  pub record CanTake (m : Pooled T) (s : ℕ) (at : Option Ref) (t : BinaryTree) : Type 0 where
    pub rooted : IsRooted m s at t
    pub even : IsEven t
    pub apart : IsApart (nodes t)
    pub fits : forks t < 2 ^ 32

  -- u has the nodes rs, and is as high as t or one level lower; only links of rs changed
  pub record HasTaken (m n : Pooled T) (s : ℕ) (t : BinaryTree) (rs : List Ref) (root : Option Ref) (u : BinaryTree) : Type 0 where
    pub rooted : IsRooted n s root u
    pub even : IsEven u
    pub nodes_are : nodes u ≡ rs
    pub not_higher : height u ≤ height t
    pub not_lower : height t ≤ height u + 1
    pub keeps : Keeps m n s rs
    pub tags : SameTags m n s

  -- two balanced trees of nearly one height
  pub record AreEnds (m : Pooled T) (s : ℕ) (left right : Option Ref) (l q : BinaryTree) : Type 0 where
    pub left_is : IsRooted m s left l
    pub right_is : IsRooted m s right q
    pub left_even : IsEven l
    pub right_even : IsEven q
    pub apart : IsApart (nodes l ++ nodes q)
    pub near : DifferByAtMost 1 (height l) (height q)
    pub fits : forks l + forks q < 2 ^ 32

  pub record AreAppended (m n : Pooled T) (s : ℕ) (l q : BinaryTree) (root : Option Ref) (u : BinaryTree) : Type 0 where
    pub rooted : IsRooted n s root u
    pub even : IsEven u
    pub nodes_are : nodes u ≡ nodes l ++ nodes q
    pub not_lower : (height l ≤ height u) × (height q ≤ height u)
    pub not_higher : height u ≤ max (height l) (height q) + 1
    pub keeps : Keeps m n s (nodes l ++ nodes q)
    pub tags : SameTags m n s
