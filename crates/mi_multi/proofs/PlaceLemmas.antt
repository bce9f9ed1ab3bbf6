-- Where a node that left may come back: what data ask of an inverse pays what structures ask of a place.
-- Cited by `InsertLemmas`, `NewRecordLemmas`, `OldRecordPlaceLemmas`, `RestampLemmas` and `ReturnLemmas`.
use Rattle.std.proofs.Common.{◌≡◌, ◌≢◌, ℕ, ◌<◌, List, [], ◌∷◌, ◌++◌, refl, ap, sym, ◌∙◌, arith}
use Rattle.std.specs.Prelude.{pos}
use Rattle.std.specs.List.{AllByRecursion}
use Rattle.std.specs.Ordering.{nat_cmp, int_cmp, ordering_then}
use Rattle.std.proofs.lemmas.Cmp.{ranked}
use Rattle.std.proofs.lemmas.Map.Lookups.{exact_signed}
use Rattle.std.specs.declared.cmp.Ordering.{Ordering}
use Rattle.std.specs.declared.cmp.Ordering.TheVariants.{Less, Equal, Greater}
use Rattle.std.specs.declared.option.Option.TheVariants.{Some}
use Rattle.mi_value.specs.declared.compare.KeyPart.{KeyPart}
use Rattle.mi_node.specs.Pool.{Pooled, value_of, link_of}
use Rattle.mi_node.specs.Refs.{Ref}
use Rattle.mi_tree.specs.Sorted.{side_of_new, item_of, stamped, compared, by_stamp as side_by}
use Rattle.mi_order.specs.declared.stored.Stored.{Stored}
use Rattle.mi_index.specs.Orders.{stored_order}
use Rattle.mi_index.specs.Rekeying.{side_of_value}
use Rattle.mi_index.specs.Standing.{Climb}
use Rattle.mi_index.specs.Places.{NoneHas}
use Rattle.mi_index.proofs.JoinLemmas.{IsCut, cut_at as stamps_cut}
use Rattle.mi_multi.specs.Multi.{HasNode}

both_equal : (a b : Ordering) → ordering_then a b ≡ Equal → (a ≡ Equal) × (b ≡ Equal)
both_equal Less b h = absurd (cc)
both_equal Equal b h = (refl, h)
both_equal Greater b h = absurd (cc)

then_equal : (o : Ordering) → ordering_then o Equal ≡ Equal → o ≡ Equal
then_equal Less h = absurd (cc)
then_equal Equal h = refl
then_equal Greater h = absurd (cc)

pos_same : (a b : ℕ) → pos a ≡ pos b → a ≡ b
pos_same a b h = cc

ids_equal : (v w : Stored) → stored_order [] v w ≡ Equal → v.id ≡ w.id
ids_equal v w h = pos_same v.id w.id (exact_signed (pos v.id) (pos w.id) (then_equal (int_cmp (pos v.id) (pos w.id)) h))

-- no node stands where another of its stamp would
side_is : (ps : List KeyPart) (m : Pooled Stored) (s : ℕ) (r q : Ref) (stamp : ℕ) (v w : Stored) → value_of m r.name ≡ Some v → value_of m q.name ≡ Some w
    → side_of_new (stored_order ps) m s r stamp q ≡ ordering_then (stored_order ps v w) (nat_cmp stamp (link_of m q.name s).tag.stamp)
unfolding side_of_new item_of
side_is ps m s r q stamp v w p k = (λ i. compared (side_by (stored_order ps)) (stamped (p i) stamp) (stamped (k i) (link_of m q.name s).tag.stamp))

-- the stamps differ, or where an index has no parts the ids do
pub not_equal : (ps : List KeyPart) (m : Pooled Stored) (s : ℕ) (r q : Ref) (stamp a b : ℕ) → HasNode m a r → HasNode m b q
    → a ≢ b → (ps ≢ [] → stamp ≢ (link_of m q.name s).tag.stamp) → side_of_new (stored_order ps) m s r stamp q ≡ Equal → ⊥
not_equal [] m s r q stamp a b f g ne differ is =
    let both = both_equal (stored_order [] f.value g.value) (nat_cmp stamp (link_of m q.name s).tag.stamp)
    (sym (side_is [] m s r q stamp f.value g.value f.is g.is) ∙ is) in
    ne (sym f.id ∙ ids_equal f.value g.value both.0 ∙ g.id)
not_equal (p ∷ ps) m s r q stamp a b f g ne differ is =
    let both = both_equal (stored_order (p ∷ ps) f.value g.value) (nat_cmp stamp (link_of m q.name s).tag.stamp)
    (sym (side_is (p ∷ ps) m s r q stamp f.value g.value f.is g.is) ∙ is) in
    differ (λ e. (let bad : p ∷ ps ≡ [] = e in cc)) (ranked stamp (link_of m q.name s).tag.stamp Equal (sym both.1))

-- the same of a value that no node has yet
value_side : (ps : List KeyPart) (m : Pooled Stored) (s : ℕ) (q : Ref) (stamp : ℕ) (v w : Stored) → value_of m q.name ≡ Some w
    → side_of_value (stored_order ps) m s v stamp q ≡ ordering_then (stored_order ps v w) (nat_cmp stamp (link_of m q.name s).tag.stamp)
unfolding item_of
value_side ps m s q stamp v w k = (λ i. compared (side_by (stored_order ps)) (Some (v, stamp)) (stamped (k i) (link_of m q.name s).tag.stamp))

pub value_not_equal : (ps : List KeyPart) (m : Pooled Stored) (s : ℕ) (q : Ref) (stamp : ℕ) (v : Stored) (b : ℕ)
    → HasNode m b q → v.id ≢ b → (ps ≢ [] → stamp ≢ (link_of m q.name s).tag.stamp)
    → side_of_value (stored_order ps) m s v stamp q ≡ Equal → ⊥
value_not_equal [] m s q stamp v b g ne differ is =
    let both = both_equal (stored_order [] v g.value) (nat_cmp stamp (link_of m q.name s).tag.stamp) (sym (value_side [] m s q stamp v g.value g.is) ∙ is) in
    ne (ids_equal v g.value both.0 ∙ g.id)
value_not_equal (p ∷ ps) m s q stamp v b g ne differ is =
    let both = both_equal (stored_order (p ∷ ps) v g.value) (nat_cmp stamp (link_of m q.name s).tag.stamp)
    (sym (value_side (p ∷ ps) m s q stamp v g.value g.is) ∙ is) in
    differ (λ e. (let bad : p ∷ ps ≡ [] = e in cc)) (ranked stamp (link_of m q.name s).tag.stamp Equal (sym both.1))

-- A list by its stamps, parted at one that no node has

none_has : (f : Ref → ℕ) (a : ℕ) (rs : List Ref) → AllByRecursion (λ r. a ≢ f r) rs → NoneHas f a rs
none_has f a [] none = tt
none_has f a (r ∷ rs) none = (none.0, none_has f a rs none.1)

pub cut_at : (f : Ref → ℕ) (a : ℕ) (rs : List Ref) → Climb f rs → AllByRecursion (λ r. a ≢ f r) rs → IsCut f a rs
cut_at f a rs up none = stamps_cut f a rs up (none_has f a rs none)

-- a list that is parted at a number in two ways is parted in one
pub one_cut : (f : ℕ → ℕ) (a : ℕ) (xs ys us vs : List ℕ) → xs ++ ys ≡ us ++ vs → AllByRecursion (λ b. f b < a) xs
    → AllByRecursion (λ b. a < f b) ys → AllByRecursion (λ b. f b < a) us → AllByRecursion (λ b. a < f b) vs → (xs ≡ us) × (ys ≡ vs)
one_cut f a [] ys [] vs same p q u v = (refl, same)
one_cut f a [] [] (b ∷ us) vs same p q u v = absurd (cc)
one_cut f a [] (c ∷ ys) (b ∷ us) vs same p q u v =
    absurd (let is : c ≡ b = cc in let l : a < f c = q.0 in let k : f b < a = u.0 in let e : f c ≡ f b = ap f is in omega arith)
one_cut f a (c ∷ xs) ys [] [] same p q u v = absurd (cc)
one_cut f a (c ∷ xs) ys [] (b ∷ vs) same p q u v =
    absurd (let is : c ≡ b = cc in let l : f c < a = p.0 in let k : a < f b = v.0 in let e : f c ≡ f b = ap f is in omega arith)
one_cut f a (c ∷ xs) ys (b ∷ us) vs same p q u v =
    let is : c ≡ b = cc in
    let rest : xs ++ ys ≡ us ++ vs = cc in
    let h = one_cut f a xs ys us vs rest p.1 q u.1 v in
    ((λ i. is i ∷ h.0 i), h.1)
