-- Nodes for tests, in a tree or out of it: what the calls need and what they leave.
-- Cited by `Stock::add`, `Stock::after`, `Stock::before`, `Stock::find`, `Stock::keeps` and 12 more.
use Rattle.std.proofs.Common.{◌≡◌, ◌==◌, ℕ, zero, suc, ◌+◌, ◌<◌, ◌≤◌, Bool, true, false, cond, ◌⊎◌, inl, inr, List, [], ◌∷◌}
use Rattle.std.proofs.Common.{◌++◌, length, Option, Some, None, refl, sym, ap, ◌∙◌, subst, arith, append_assoc, length-append}
use Rattle.std.specs.declared.cmp.Ordering.{Ordering}
use Rattle.std.specs.declared.cmp.Ordering.TheVariants.{Less, Equal, Greater}
use Rattle.std.specs.Ordering.{nat_cmp, ordering_then}
use Rattle.std.specs.Cmp.{IsTotalOrder}
use Rattle.std.proofs.lemmas.Cmp.{nat_cmp_total, on_total, tied_itself, ranked}
use Rattle.mi_node.specs.Neighbours.{AreHeld}
use Rattle.mi_node.specs.Pool.{Pooled, ref_of, value_of, link_of, no_link, IsHeld, IsHeldIf, Keeps, no_nodes, taken}
use Rattle.mi_node.specs.Refs.{Ref, IsOut, IsApart, first_of, last_of}
use Rattle.mi_node.specs.declared.link.Link.{Link}
use Rattle.mi_node.proofs.EntryLemmas.{held_has, held_taken, ref-taken, value-taken, link-taken, slots-taken}
use Rattle.mi_node.proofs.EntryLemmas.{ref-no_nodes, slots-no_nodes, same_name, same_refl, flip}
use Rattle.mi_node.proofs.RefLemmas.{out_right, apart_insert, apart_remove}
use Rattle.mi_tree.specs.BinaryTree.{nth_of}
use Rattle.mi_tree.specs.Sorted.{NoneAre, IsPutIn, compared, stamped, by_stamp, item_of, side_of_new}
use Rattle.mi_tree.specs.Probed.{first_where}
use Rattle.mi_tree.specs.Standing.{IsTree, CanInsert}
use Rattle.mi_tree.specs.Frame.{AreAlike}
use Rattle.test_storage.specs.Keyed.{keyed_order, keyed_tag}
use Rattle.test_storage.specs.KeyedLaws.{tag_below}
use Rattle.test_storage.specs.Stock.{AllHeldIn, stock_stamp, IsStock}
use Rattle.mi_tree.specs.Walking.{Pending, ArePending, IsWalk, ahead}
use Rattle.mi_tree.specs.declared.tree.Tree.{Tree}
use Rattle.mi_tree.specs.declared.walk.Direction.{Direction}
use Rattle.mi_tree.specs.declared.walk.Walk.{Walk}
use Rattle.mi_tree.proofs.FrameLemmas.{tree_where, tree_empty}
use Rattle.mi_tree.proofs.BinaryTreeLemmas.{all_held}

abbrev Pool : Type 0
Pool = Pooled (ℕ × ℕ)

keyed_total : IsTotalOrder keyed_order
keyed_total = on_total (λ (x : ℕ × ℕ). x.0) nat_cmp_total

then_equal : (a b : Ordering) → ordering_then a b ≡ Equal → b ≡ Equal
then_equal Less b e = absurd cc
then_equal Equal b e = e
then_equal Greater b e = absurd cc

some_ref : (x y : Ref) → Some x ≡ Some y → x ≡ y
some_ref x y e = cc

none_ref : (x : Ref) → None ≡ Some x → ⊥
none_ref x e = cc

held_in : (m : Pool) (rs : List Ref) → AreHeld m rs → AllHeldIn m rs
held_in m [] h = tt
held_in m (r ∷ rs) h = (h.0, held_in m rs h.1)

held_both : (m : Pool) (xs ys : List Ref) → AllHeldIn m xs → AllHeldIn m ys → AllHeldIn m (xs ++ ys)
held_both m [] ys g h = h
held_both m (x ∷ xs) ys g h = (g.0, held_both m xs ys g.1 h)

held_left : (m : Pool) (xs ys : List Ref) → AllHeldIn m (xs ++ ys) → AllHeldIn m xs
held_left m [] ys h = tt
held_left m (x ∷ xs) ys h = (h.0, held_left m xs ys h.1)

held_right : (m : Pool) (xs ys : List Ref) → AllHeldIn m (xs ++ ys) → AllHeldIn m ys
held_right m [] ys h = h
held_right m (x ∷ xs) ys h = held_right m xs ys h.1

held_where : (m n : Pool) (rs : List Ref) → ((k : ℕ) → ref_of n k ≡ ref_of m k) → AllHeldIn m rs → AllHeldIn n rs
held_where m n [] e h = tt
held_where m n (r ∷ rs) e h = (e r.name ∙ h.0, held_where m n rs e h.1)

tree_held : {O : Type 0} (b : Bool) (l : Tree O) (m : Pool) (rs : List Ref) → IsTree l m keyed_order (keyed_tag b) rs → AllHeldIn m rs
tree_held b l m rs h = held_in m rs (subst (AreHeld m) h.nodes_are (all_held m l.slot h.shape h.rooted.stands))

-- a free name is no held node's
name_free : (m : Pool) (k : ℕ) (q : Ref) → ref_of m k ≡ None → IsHeld m q → (k == q.name) ≡ false
name_free m k q e h = (elim (k == q.name) as (λ b. (k == q.name) ≡ b → (k == q.name) ≡ false) [
  | true ↦ λ f. absurd (none_ref q (sym e ∙ ap (ref_of m) (same_name k q.name f) ∙ h))
  | false ↦ λ f. f
]) refl

names_free : (m : Pool) (k : ℕ) (rs : List Ref) → ref_of m k ≡ None → AllHeldIn m rs → IsOut k rs
names_free m k [] e h = tt
names_free m k (q ∷ rs) e h = (name_free m k q e h.0, names_free m k rs e h.1)

nth_split : (rs : List Ref) (n : ℕ) (r : Ref) → Some r ≡ nth_of rs n → (xs : List Ref) × (ys : List Ref) × (rs ≡ xs ++ r ∷ ys)
nth_split [] n r e = absurd (none_ref r (sym e))
nth_split (q ∷ rs) zero r e = ([], rs, ap (λ k. k ∷ rs) (some_ref q r (sym e)))
nth_split (q ∷ rs) (suc n) r e = let i = nth_split rs n r e in (q ∷ i.0, i.1, ap (λ k. q ∷ k) i.2)

-- a node that would stand beside another has its stamp
equal_stamp : (m : Pool) (s : ℕ) (x q : Ref) (stamp : ℕ) → IsHeld m x → IsHeld m q
    → side_of_new keyed_order m s x stamp q ≡ Equal → stamp ≡ (link_of m q.name s).tag.stamp
unfolding side_of_new item_of
equal_stamp m s x q stamp f g e =
    let v = held_has m x f in let w = held_has m q g in let t = (link_of m q.name s).tag.stamp in
    let at : compared (by_stamp keyed_order) (stamped (Some v.0) stamp) (stamped (Some w.0) t) ≡ Equal =
    (λ i. compared (by_stamp keyed_order) (stamped (sym v.1 i) stamp) (stamped (sym w.1 i) t)) ∙ e in
    ranked stamp t Equal (sym (then_equal (keyed_order v.0 w.0) (nat_cmp stamp t) at))

-- a new node
module _ {O : Type 0} {b : Bool} {l : Tree O} {m n : Pool} {out : List Ref} {next : ℕ} (r : Ref) (v : ℕ × ℕ)
    (h : IsStock b l m out next) (is : n ≡ taken m r v) (free : ref_of m r.name ≡ None) (room : next < 1000000) where
  here : AllHeldIn m h.rs
  here = tree_held b l m h.rs h.tree

  old_link : (q : Ref) → IsHeld m q → (s : ℕ) → link_of (taken m r v) q.name s ≡ link_of m q.name s
  old_link q w s = link-taken m r v q.name s ∙ ap (λ z. cond z no_link (link_of m q.name s)) (name_free m r.name q free w)

  old_ref : (q : Ref) → IsHeld m q → ref_of (taken m r v) q.name ≡ ref_of m q.name
  old_ref q w = ref-taken m r v q.name ∙ ap (λ z. cond z (Some r) (ref_of m q.name)) (name_free m r.name q free w)

  alike_new : (rs : List Ref) → AllHeldIn m rs → AreAlike keyed_order m (taken m r v) l.slot rs
  alike_new [] w = tt
  alike_new (q ∷ rs) w =
      let f = name_free m r.name q free w.0 in let x = held_has m q w.0 in
      let value : value_of (taken m r v) q.name ≡ Some x.0 = value-taken m r v q.name ∙ ap (λ z. cond z (Some v) (value_of m q.name)) f ∙ x.1 in (
        record {
          ref = old_ref q w.0;
          link = old_link q w.0 l.slot;
          value = (λ i. compared keyed_order (x.1 i) (value i)) ∙ tied_itself keyed_total x.0;
        },
        alike_new rs w.1,
      )

  held_new : (rs : List Ref) → AllHeldIn m rs → AllHeldIn (taken m r v) rs
  held_new [] w = tt
  held_new (q ∷ rs) w = (old_ref q w.0 ∙ w.0, held_new rs w.1)

  differs_new : (rs : List Ref) → AllHeldIn m rs → NoneAre (side_of_new keyed_order (taken m r v) 1 r next) Equal rs
  differs_new [] w = tt
  differs_new (q ∷ rs) w = (
    λ e. (let f = equal_stamp (taken m r v) 1 r q next (held_taken m r v) (old_ref q w.0 ∙ w.0) e in
        let g = ap (λ (y : Link). y.tag.stamp) (old_link q w.0 1) in let k = h.below q w.0 in absurd (omega arith)),
    differs_new rs w.1,
  )

  pub tree_added : IsTree l n keyed_order (keyed_tag b) h.rs
  tree_added = subst (λ k. IsTree l k keyed_order (keyed_tag b) h.rs) (sym is)
      (tree_where keyed_order (keyed_tag b) keyed_total (tag_below b) l m (taken m r v) h.rs h.tree
      (alike_new h.rs here) (subst (λ k. l.slot < k) (sym (slots-taken m r v)) h.tree.has_slot))

  pub may_add : CanInsert n l.slot keyed_order r next h.rs
  may_add =
      let few = h.few in let c = h.counted in
      subst (λ k. CanInsert k l.slot keyed_order r next h.rs) (sym is) (subst (λ s. CanInsert (taken m r v) s keyed_order r next h.rs) (sym h.slot) (record {
        held = held_taken m r v;
        out = names_free m r.name h.rs free here;
        differs = differs_new h.rs here;
        fits = omega arith;
      }))

  pub has_added : (j : Tree O) (p : Pool) (us : List Ref) → IsPutIn (side_of_new keyed_order n l.slot r next) r h.rs us
      → IsTree j p keyed_order (keyed_tag b) us → Keeps n p l.slot (r ∷ h.rs)
      → (link_of p r.name l.slot).tag.stamp ≡ next → ((k : ℕ) → (k == r.name) ≡ false → (link_of p k l.slot).tag ≡ (link_of n k l.slot).tag)
      → j.slot ≡ l.slot → IsStock b j p out (next + 1)
  has_added j p us put tree keeps stamp tags slot = record {
    rs = us;
    tree = tree;
    slot = slot ∙ h.slot;
    held = held_where (taken m r v) p out refs (held_new out h.held);
    apart = apart;
    unique = unique;
    below = below;
    few = let few = h.few in omega arith;
    counted =
        let c = h.counted in let i = ap length put.was in let j = length-append put.xs put.ys in
        let k = ap length put.now in let f = length-append put.xs (r ∷ put.ys) in
        omega arith;
  }
    where
      refs : (k : ℕ) → ref_of p k ≡ ref_of (taken m r v) k
      refs k = keeps.refs k ∙ ap (λ z. ref_of z k) is

      apart : IsApart (out ++ us)
      apart =
          let e = ap (λ z. out ++ z) put.was ∙ sym (append_assoc out put.xs put.ys) in
          subst IsApart (append_assoc out put.xs (r ∷ put.ys) ∙ ap (λ z. out ++ z) (sym put.now))
          (apart_insert (out ++ put.xs) r put.ys (subst IsApart e h.apart)
          (subst (IsOut r.name) e (names_free m r.name (out ++ h.rs) free (held_both m out h.rs h.held here))))

      which : (x : Ref) → IsHeld p x → ((x.name ≡ r.name) × (stock_stamp p x ≡ next)) ⊎ (IsHeld m x × (stock_stamp p x ≡ stock_stamp m x))
      which x w = (elim (r.name == x.name)
          as (λ z. (r.name == x.name) ≡ z → ((x.name ≡ r.name) × (stock_stamp p x ≡ next)) ⊎ (IsHeld m x × (stock_stamp p x ≡ stock_stamp m x))) [
            | true ↦ λ f.
                let same = sym (same_name r.name x.name f) in
                inl (same, ap (λ k. (link_of p k 1).tag.stamp) same ∙ subst (λ s. (link_of p r.name s).tag.stamp ≡ next) h.slot stamp)
            | false ↦ λ f. inr (
              ap (λ z. cond z (Some r) (ref_of m x.name)) (sym f) ∙ sym (ref-taken m r v x.name) ∙ sym (refs x.name) ∙ w,
              ap (λ t. t.stamp) (subst (λ s. (link_of p x.name s).tag ≡ (link_of n x.name s).tag) h.slot (tags x.name (flip x.name r.name ∙ f)))
                  ∙ ap (λ z. (link_of z x.name 1).tag.stamp) is
                  ∙ ap (λ (y : Link). y.tag.stamp) (link-taken m r v x.name 1 ∙ ap (λ z. cond z no_link (link_of m x.name 1)) f),
            )
          ]) refl

      below : (x : Ref) → IsHeld p x → stock_stamp p x < next + 1
      below x w = elim (which x w) [
        | inl a ↦ let e = a.1 in omega arith
        | inr a ↦ let e = a.1 in let lt = h.below x a.0 in omega arith
      ]

      unique : (x y : Ref) → IsHeld p x → IsHeld p y → stock_stamp p x ≡ stock_stamp p y → x.name ≡ y.name
      unique x y f g e = elim (which x f) [
        | inl a ↦ elim (which y g) [
          | inl c ↦ a.0 ∙ sym c.0
          | inr c ↦ let lt = h.below y c.0 in let i = a.1 in let j = c.1 in absurd (omega arith)
        ]
        | inr a ↦ elim (which y g) [
          | inl c ↦ let lt = h.below x a.0 in let i = a.1 in let j = c.1 in absurd (omega arith)
          | inr c ↦ h.unique x y a.0 c.0 (sym a.1 ∙ e ∙ c.1)
        ]
      ]

-- each node keeps its stamp
module _ {O : Type 0} {b : Bool} {l : Tree O} (j : Tree O) {m : Pool} (p : Pool) {out : List Ref} {next : ℕ} (h : IsStock b l m out next)
    (refs : (k : ℕ) → ref_of p k ≡ ref_of m k) (stamps : (k : ℕ) → (link_of p k l.slot).tag.stamp ≡ (link_of m k l.slot).tag.stamp)
    (slot : j.slot ≡ l.slot) where
  same_stamp : (x : Ref) → stock_stamp p x ≡ stock_stamp m x
  same_stamp x = subst (λ s. (link_of p x.name s).tag.stamp ≡ (link_of m x.name s).tag.stamp) h.slot (stamps x.name)

  stock_kept : (os us : List Ref) → IsTree j p keyed_order (keyed_tag b) us → AllHeldIn m os
      → IsApart (os ++ us) → length os + length us ≤ next → IsStock b j p os next
  stock_kept os us tree held apart counted = record {
    rs = us;
    tree = tree;
    slot = slot ∙ h.slot;
    held = held_where m p os refs held;
    apart = apart;
    unique = λ x y f g e. h.unique x y (sym (refs x.name) ∙ f) (sym (refs y.name) ∙ g) (sym (same_stamp x) ∙ e ∙ same_stamp y);
    below = λ x f. subst (λ k. k < next) (sym (same_stamp x)) (h.below x (sym (refs x.name) ∙ f));
    few = h.few;
    counted = counted;
  }

-- a node that goes back into the tree
module _ {O : Type 0} {b : Bool} {l : Tree O} {m : Pool} {out : List Ref} (os : List Ref) {next : ℕ} (r : Ref)
    {stamp : ℕ} (h : IsStock b l m out next) (is : out ≡ os ++ r ∷ []) (had : stamp ≡ stock_stamp m r) where
  put_held : AllHeldIn m (os ++ r ∷ [])
  put_held = subst (AllHeldIn m) is h.held

  pub last_held : IsHeld m r
  last_held = (held_right m os (r ∷ []) put_held).0

  put_apart : IsApart (os ++ r ∷ h.rs)
  put_apart = subst IsApart (ap (λ k. k ++ h.rs) is ∙ append_assoc os (r ∷ []) h.rs) h.apart

  differs_put : (rs : List Ref) → AllHeldIn m rs → IsOut r.name rs → NoneAre (side_of_new keyed_order m 1 r stamp) Equal rs
  differs_put [] w o = tt
  differs_put (q ∷ rs) w o = (
    λ e. (let f = equal_stamp m 1 r q stamp last_held w.0 e in
        let same : r.name ≡ q.name = h.unique r q last_held w.0 (sym had ∙ f) in
        let g : true ≡ false = sym (same_refl r.name) ∙ ap (λ k. r.name == k) same ∙ o.0 in
        cc),
    differs_put rs w.1 o.1,
  )

  out_put : IsOut r.name h.rs
  out_put = out_right r.name os h.rs (apart_remove os r h.rs put_apart).1

  pub may_put : CanInsert m l.slot keyed_order r stamp h.rs
  may_put =
      let few = h.few in let c = h.counted in let long = ap length is in let j = length-append os (r ∷ []) in
      subst (λ s. CanInsert m s keyed_order r stamp h.rs) (sym h.slot) (record {
        held = last_held;
        out = out_put;
        differs = differs_put h.rs (tree_held b l m h.rs h.tree) out_put;
        fits = omega arith;
      })

  pub has_put : (j : Tree O) (p : Pool) (us : List Ref) → IsPutIn (side_of_new keyed_order m l.slot r stamp) r h.rs us
      → IsTree j p keyed_order (keyed_tag b) us → Keeps m p l.slot (r ∷ h.rs)
      → (link_of p r.name l.slot).tag.stamp ≡ stamp
      → ((k : ℕ) → (k == r.name) ≡ false → (link_of p k l.slot).tag ≡ (link_of m k l.slot).tag) → j.slot ≡ l.slot → IsStock b j p os next
  has_put j p us put tree keeps now tags slot =
      let cut = apart_remove os r h.rs put_apart in let e = ap (λ z. os ++ z) put.was ∙ sym (append_assoc os put.xs put.ys) in
      let apart = apart_insert (os ++ put.xs) r put.ys (subst IsApart e cut.0) (subst (IsOut r.name) e cut.1) in
      let long = ap length is in let i = length-append os (r ∷ []) in let c = h.counted in
      let a = ap length put.was in let d = length-append put.xs put.ys in let f = ap length put.now in let g = length-append put.xs (r ∷ put.ys) in
      stock_kept j p h keeps.refs stamps slot os us tree (held_left m os (r ∷ []) put_held)
      (subst IsApart (append_assoc os put.xs (r ∷ put.ys) ∙ ap (λ z. os ++ z) (sym put.now)) apart) (omega arith)
    where
      stamps : (k : ℕ) → (link_of p k l.slot).tag.stamp ≡ (link_of m k l.slot).tag.stamp
      stamps k = (elim (k == r.name) as (λ z. (k == r.name) ≡ z → (link_of p k l.slot).tag.stamp ≡ (link_of m k l.slot).tag.stamp) [
        | true ↦ λ f. subst (λ q. (link_of p q l.slot).tag.stamp ≡ (link_of m q l.slot).tag.stamp)
            (sym (same_name k r.name f)) (now ∙ had ∙ ap (λ s. (link_of m r.name s).tag.stamp) (sym h.slot))
        | false ↦ λ f. ap (λ t. t.stamp) (tags k f)
      ]) refl

-- a node that comes out of the tree
module _ {O : Type 0} {b : Bool} {l j : Tree O} {m p : Pool} {out : List Ref} {next : ℕ} (r : Ref) (h : IsStock b l m out next)
    (xs ys : List Ref) (is : h.rs ≡ xs ++ r ∷ ys) (tree : IsTree j p keyed_order (keyed_tag b) (xs ++ ys)) (keeps : Keeps m p l.slot (xs ++ ys))
    (tags : (k : ℕ) → (link_of p k l.slot).tag ≡ (link_of m k l.slot).tag) (slot : j.slot ≡ l.slot) where
  pull_cut : IsApart (out ++ (xs ++ ys)) × IsOut r.name (out ++ (xs ++ ys))
  pull_cut =
      let e = ap (λ z. out ++ z) is ∙ sym (append_assoc out xs (r ∷ ys)) in
      let cut = apart_remove (out ++ xs) r ys (subst IsApart e h.apart) in
      let f = append_assoc out xs ys in
      (subst IsApart f cut.0, subst (IsOut r.name) f cut.1)

  kept : (os : List Ref) → AllHeldIn m os → IsApart (os ++ (xs ++ ys)) → length os + length (xs ++ ys) ≤ next → IsStock b j p os next
  kept os held apart counted = stock_kept j p h keeps.refs (λ k. ap (λ t. t.stamp) (tags k)) slot os (xs ++ ys) tree held apart counted

  pulled_none : IsStock b j p out next
  pulled_none =
      let c = h.counted in let a = ap length is in let i = length-append xs (r ∷ ys) in let d = length-append xs ys in kept out h.held pull_cut.0 (omega arith)

  pulled_one : IsStock b j p (out ++ r ∷ []) next
  pulled_one =
      let c = h.counted in let a = ap length is in let i = length-append xs (r ∷ ys) in let d = length-append xs ys in let e = length-append out (r ∷ []) in
      let held = held_right m xs (r ∷ ys) (subst (AllHeldIn m) is (tree_held b l m h.rs h.tree)) in
      kept (out ++ r ∷ []) (held_both m out (r ∷ []) h.held (held.0, tt))
      (subst IsApart (sym (append_assoc out (r ∷ []) (xs ++ ys))) (apart_insert out r (xs ++ ys) pull_cut.0 pull_cut.1)) (omega arith)

  -- whether the push was refused or not
  pub pulled : {items : List Ref} (done : Bool) → items ≡ cond done (out ++ r ∷ []) out → IsStock b j p items next
  pulled true e = subst (λ k. IsStock b j p k next) (sym e) pulled_one
  pulled false e = subst (λ k. IsStock b j p k next) (sym e) pulled_none

-- no nodes
pub stock_new : {O : Type 0} (b : Bool) (l : Tree O) (m : Pool) (out : List Ref) → l.root ≡ None → l.slot ≡ 1 → m ≡ no_nodes 2 → out ≡ [] → IsStock b l m out 0
stock_new b l m out root slot e none =
    let slots : m.slots ≡ 2 = ap (λ (z : Pool). z.slots) e ∙ slots-no_nodes (ℕ × ℕ) 2 in
    let nobody : (x : Ref) → IsHeld m x → ⊥ = λ x w. none_ref x (sym (ap (λ z. ref_of z x.name) e ∙ ref-no_nodes (ℕ × ℕ) 2 x.name) ∙ w) in record {
      rs = [];
      tree = tree_empty l m keyed_order (keyed_tag b) root (let f : l.slot < m.slots = omega arith in f);
      slot = slot;
      held = subst (AllHeldIn m) (sym none) tt;
      apart = subst (λ k. IsApart (k ++ [])) (sym none) tt;
      unique = λ x y f g i. absurd (nobody x f);
      below = λ x f. absurd (nobody x f);
      few = omega arith;
      counted = let i = ap length none in omega arith;
    }

-- where nodes are held, so is that which a look-up among them gives
either_held : (m : Pool) (c : Bool) (x y : Option Ref) → IsHeldIf m x → IsHeldIf m y → IsHeldIf m (cond c x y)
either_held m true x y f g = f
either_held m false x y f g = g

nth_in : (m : Pool) (rs : List Ref) (n : ℕ) → AllHeldIn m rs → IsHeldIf m (nth_of rs n)
nth_in m [] n h = tt
nth_in m (r ∷ rs) zero h = h.0
nth_in m (r ∷ rs) (suc n) h = nth_in m rs n h.1

first_in : (m : Pool) (f : Ref → Bool) (rs : List Ref) → AllHeldIn m rs → IsHeldIf m (first_where f rs)
first_in m f [] h = tt
first_in m f (r ∷ rs) h = either_held m (f r) (Some r) (first_where f rs) h.0 (first_in m f rs h.1)

after_in : (m : Pool) (rs : List Ref) → AllHeldIn m rs → IsHeldIf m (first_of rs None)
after_in m [] h = tt
after_in m (r ∷ rs) h = h.0

before_in : (m : Pool) (at : Option Ref) (rs : List Ref) → IsHeldIf m at → AllHeldIn m rs → IsHeldIf m (last_of at rs)
before_in m at [] g h = g
before_in m at (r ∷ rs) g h = before_in m (Some r) rs h.0 h.1

-- the node r stands in the tree, among the nodes rs
pub record StandsIn {O : Type 0} (b : Bool) (l : Tree O) (m : Pool) (rs : List Ref) (r : Ref) : Type 0 where
  pub xs : List Ref
  pub ys : List Ref
  pub tree : IsTree l m keyed_order (keyed_tag b) (xs ++ r ∷ ys)
  pub is : rs ≡ xs ++ r ∷ ys

module _ {O : Type 0} {b : Bool} {l : Tree O} {m : Pool} {out : List Ref} {next : ℕ} (h : IsStock b l m out next) where
  -- the tree stands in the pool, as it is read
  pub tree_read : {z : Pool} → z ≡ m → IsTree l z keyed_order (keyed_tag b) h.rs
  tree_read e = subst (λ k. IsTree l k keyed_order (keyed_tag b) h.rs) (sym e) h.tree

  -- and so does the node of a rank
  pub nth_stands : {y z : Pool} (n : ℕ) {o : Option Ref} {r : Ref} → z ≡ m → y ≡ z → (IsTree l z keyed_order (keyed_tag b) h.rs → o ≡ nth_of h.rs n)
      → o ≡ Some r → StandsIn b l y h.rs r
  nth_stands {y} {z} n {o} {r} e same is some =
      let i = nth_split h.rs n r (sym some ∙ is (tree_read e)) in
      record { xs = i.0; ys = i.1; tree = subst (IsTree l y keyed_order (keyed_tag b)) i.2 (tree_read (same ∙ e)); is = i.2 }

  all_in : AllHeldIn m h.rs
  all_in = tree_held b l m h.rs h.tree

  -- what a look-up gives is held
  pub nth_held : (n : ℕ) {o : Option Ref} → o ≡ nth_of h.rs n → IsHeldIf m o
  nth_held n {o} is = subst (IsHeldIf m) (sym is) (nth_in m h.rs n all_in)

  pub first_held : (f : Ref → Bool) {o : Option Ref} → o ≡ first_where f h.rs → IsHeldIf m o
  first_held f {o} is = subst (IsHeldIf m) (sym is) (first_in m f h.rs all_in)

  -- so are a node's neighbours
  pub after_held : {z : Pool} {r : Ref} {o : Option Ref} (i : StandsIn b l z h.rs r) → o ≡ first_of i.ys None → IsHeldIf m o
  after_held {z} {r} {o} i is =
      let held = held_right m i.xs (r ∷ i.ys) (subst (AllHeldIn m) i.is all_in) in subst (IsHeldIf m) (sym is) (after_in m i.ys held.1)

  pub before_held : {z : Pool} {r : Ref} {o : Option Ref} (i : StandsIn b l z h.rs r) → o ≡ last_of None i.xs → IsHeldIf m o
  before_held {z} {r} {o} i is =
      subst (IsHeldIf m) (sym is) (before_in m None i.xs tt (held_left m i.xs (r ∷ i.ys) (subst (AllHeldIn m) i.is all_in)))

pending_held : (m : Pool) (s : ℕ) (d : Direction) (levels : ℕ) (xs : List Pending) → ArePending m s d levels xs → IsHeldIf m (first_of (ahead d xs) None)
pending_held m s d levels [] h = tt
pending_held m s d levels (x ∷ xs) h = h.0

-- and what a walk gives
pub walk_held : (m z : Pool) (w : Walk) (levels : ℕ) (us : List Ref) (o : Option Ref) → IsWalk w z levels us → z ≡ m → o ≡ first_of us None → IsHeldIf m o
walk_held m z w levels us o h e f =
    let at : IsHeldIf z (first_of us None) = subst (λ k. IsHeldIf z (first_of k None))
    h.ahead_is (pending_held z w.slot w.direction levels h.xs h.goes.pending) in
    subst (IsHeldIf m) (sym f) (subst (λ k. IsHeldIf k (first_of us None)) e at)
