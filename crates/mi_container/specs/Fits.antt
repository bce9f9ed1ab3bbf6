-- Which inverses can be taken back, and which lists of them, the newest first, fit data.
use Rattle.std.specs.Prelude.{◌≡◌, ◌≢◌, ℕ, ◌+◌, ◌<◌, true, false, List, [], ◌∷◌, ◌++◌, slice_index_or, suc}
use Rattle.std.specs.List.{AllByRecursion}
use Rattle.std.specs.Ordering.{is_eq}
use Rattle.std.specs.declared.option.Option.{Option}
use Rattle.std.specs.declared.option.Option.TheVariants.{None, Some}
use Rattle.mi_value.specs.declared.value.Value.{Value}
use Rattle.mi_value.specs.Order.{compare_key}
use Rattle.mi_catalog.specs.Shape.{Shape}
use Rattle.mi_model.specs.Table.{Table}
use Rattle.mi_container.specs.Data.{Content, Node, Link, Kept, Order, Data, order_at, parts_of, node_of, kept_of, content_of, stamp_of, as_table, IsData}
use Rattle.mi_container.specs.Data.Order.{ById, ByKey, ByHash, Listed}
use Rattle.mi_container.specs.Changes.{ref_of, head_of, group}
use Rattle.mi_container.specs.Inverse.{RowRef, OldPlace, Inverse, keeps, taken_back}
use Rattle.mi_container.specs.Inverse.Inverse.{Inserted, Put, Erased, Relocated, Nothing}

-- the last of a list, or p
abbrev pub last_or : Option ℕ → List ℕ → Option ℕ
last_or p [] = p
last_or p (a ∷ ids) = last_or (Some a) ids

-- the neighbours that a link remembers stand next to each other
abbrev pub Meet : List (ℕ × Node) → Link → List ℕ → Type 0
Meet rows l ids = (xs ys : List ℕ) × (ids ≡ xs ++ ys) × (l.back ≡ ref_of rows (last_or None xs)) × (l.forth ≡ ref_of rows (head_of ys))

-- and a stamp is later than those before the place, and earlier than those behind it
abbrev pub MeetByStamp : ℕ → List (ℕ × Node) → ℕ → Link → List ℕ → Type 0
MeetByStamp x rows a l ids = (xs ys : List ℕ) × (ids ≡ xs ++ ys) × (l.back ≡ ref_of rows (last_or None xs)) × (l.forth ≡ ref_of rows (head_of ys))
    × AllByRecursion (λ b. stamp_of rows x b < a) xs × AllByRecursion (λ b. a < stamp_of rows x b) ys

-- in the list of the index of number x, or where it is hashed among the rows of r's key, by the stamp a
abbrev pub MeetIn : ℕ → List (ℕ × Node) → List Value → ℕ → Link → Order → Type 0
MeetIn x rows r a l ById = Unit {0}
MeetIn x rows r a l (ByKey ps) = Unit {0}
MeetIn x rows r a l (ByHash ps) = MeetByStamp x rows a l (group ps x rows r)
MeetIn x rows r a l (Listed ids) = Meet rows l ids

-- in every index from number x on, for what a node holds
abbrev pub AllMeet : ℕ → List (ℕ × Node) → Content → List Link → List Order → Type 0
AllMeet x rows c [] [] = Unit {0}
AllMeet x rows c [] (o ∷ os) = ⊥
AllMeet x rows c (l ∷ ls) [] = ⊥
AllMeet x rows c (l ∷ ls) (o ∷ os) = MeetIn x rows c.values (slice_index_or c.stamps x 0) l o × AllMeet (suc x) rows c ls os

-- a place is remembered where the key isn't that of the record r any more, and its neighbours meet
abbrev pub PlaceMeets : ℕ → List (ℕ × Node) → List Value → List Value → Option OldPlace → Order → Type 0
PlaceMeets x rows now r None o = is_eq (compare_key (parts_of o) r now) ≡ true
PlaceMeets x rows now r (Some was) o = (is_eq (compare_key (parts_of o) r now) ≡ false) × MeetIn x rows r was.stamp was.link o

abbrev pub PlacesMeet : ℕ → List (ℕ × Node) → List Value → List Value → List (Option OldPlace) → List Order → Type 0
PlacesMeet x rows now r [] [] = Unit {0}
PlacesMeet x rows now r [] (o ∷ os) = ⊥
PlacesMeet x rows now r (p ∷ ps) [] = ⊥
PlacesMeet x rows now r (p ∷ ps) (o ∷ os) = PlaceMeets x rows now r p o × PlacesMeet (suc x) rows now r ps os

abbrev pub IsThere : List (ℕ × Node) → ℕ → Type 0
IsThere rows e = (n : Node) × (node_of rows e ≡ Some n)

-- the row is live, in the node of that reference
abbrev pub IsLive : List (ℕ × Node) → RowRef → Type 0
IsLive rows r = (n : Node) × (node_of rows r.id ≡ Some n) × (n.at ≡ r.at)

-- its node is kept
abbrev pub IsKept : List (ℕ × Kept) → RowRef → Type 0
IsKept kept r = (k : Kept) × (kept_of kept r.id ≡ Some k) × (k.node.at ≡ r.at)

-- a neighbour, where one is named, is live and another row
abbrev pub IsOther : List (ℕ × Node) → ℕ → Option RowRef → Type 0
IsOther rows e None = Unit {0}
IsOther rows e (Some b) = IsLive rows b × (b.id ≢ e)

abbrev pub HasOwnList : Order → Type 0
HasOwnList ById = ⊥
HasOwnList (ByKey ps) = ⊥
HasOwnList (ByHash ps) = ⊥
HasOwnList (Listed ids) = Unit {0}

-- what the call that takes an inverse back asks for
abbrev pub Ready : Inverse → Data → Type 0
Ready (Inserted r) d = IsLive d.rows r × (d.next ≡ r.id + 1) × (0 < d.arrivals)
Ready (Put r old) d = IsLive d.rows r × (0 < d.arrivals) × PlacesMeet 0 d.rows (content_of d.rows r.id).values old.values old.places d.orders
Ready (Erased r why) d = (k : IsKept d.kept r) × AllMeet 0 d.rows k.0.node.content k.0.links d.orders
Ready (Relocated x r b) d = IsLive d.rows r × IsOther d.rows r.id b × HasOwnList (order_at d.orders x)
Ready Nothing d = Unit {0}

-- the node that an inverse keeps, if any, is kept: what the call that settles it asks for
abbrev pub KeptBy : Inverse → Data → Type 0
KeptBy (Inserted r) d = Unit {0}
KeptBy (Put r old) d = Unit {0}
KeptBy (Erased r why) d = IsKept d.kept r
KeptBy (Relocated x r b) d = Unit {0}
KeptBy Nothing d = Unit {0}

-- a list of inverses, the newest first, with the table before each; when all are taken back no node is kept
abbrev pub Fits : Shape → List Inverse → List Table → Data → Type 0
Fits s [] [] d = d.kept ≡ []
Fits s [] (t ∷ ts) d = ⊥
Fits s (i ∷ is) [] d = ⊥
Fits s (i ∷ is) (t ∷ ts) d = Ready i d × IsData s (taken_back i d) × (as_table (taken_back i d) ≡ t) × Fits s is ts (taken_back i d)

-- an inverse names no such id
abbrev pub IsNot : ℕ → Option ℕ → Type 0
IsNot e None = Unit {0}
IsNot e (Some b) = b ≢ e

abbrev pub IsNoRow : ℕ → Option RowRef → Type 0
IsNoRow e None = Unit {0}
IsNoRow e (Some b) = b.id ≢ e

abbrev pub Unnamed : ℕ → Inverse → Type 0
Unnamed e (Inserted r) = r.id ≢ e
Unnamed e (Put r old) = r.id ≢ e
Unnamed e (Erased r why) = r.id ≢ e
Unnamed e (Relocated x r b) = (r.id ≢ e) × IsNoRow e b
Unnamed e Nothing = Unit {0}

-- the ids whose nodes the inverses keep
abbrev pub kept_id : Option ℕ → List ℕ
kept_id None = []
kept_id (Some e) = e ∷ []

abbrev pub kept_ids : List Inverse → List ℕ
kept_ids [] = []
kept_ids (i ∷ is) = kept_ids is ++ kept_id (keeps i)
