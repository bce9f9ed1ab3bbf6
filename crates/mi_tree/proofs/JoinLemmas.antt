-- What a new link of one node does to the trees.
-- Cited by `balance::rotate_left`, `balance::rotate_left_right`, `balance::rotate_right`, `balance::rotate_right_left` and 10 more.
use Rattle.std.proofs.Common.{◌≡◌, ℕ, ◌+◌, ◌^◌, ◌<◌, ◌==◌, true, false, List, [], ◌∷◌, ◌++◌, Option, Some, None, refl, sym, ap, ◌∙◌, subst, arith}
use Rattle.mi_node.specs.Pool.{Pooled, IsHeld, link_of, with_link, Keeps}
use Rattle.mi_node.specs.declared.link.Link.{Link}
use Rattle.mi_node.specs.declared.link.Tag.{Tag}
use Rattle.mi_node.proofs.EntryLemmas.{link_here, link_there, same_name}
use Rattle.mi_node.proofs.KeepingLemmas.{keeps_link, held_kept}
use Rattle.mi_node.specs.Refs.{Ref, IsOut, IsApart, AreOut}
use Rattle.mi_node.proofs.RefLemmas.{out_left, out_right, between, are_out_none, are_out_cons}
use Rattle.mi_tree.specs.BinaryTree.{BinaryTree, Tip, Fork, nodes, forks, height, height_at, fork_link, Stands, IsRooted}
use Rattle.mi_tree.specs.Joining.{Two, IsFork, IsSized, Counts, read, Three, Four, IsDown, IsUp, IsBoth}
use Rattle.mi_tree.specs.declared.parts.Sub.{Sub}
use Rattle.mi_tree.specs.Sorted.{SameTags}
use Rattle.mi_tree.proofs.BinaryTreeLemmas.{size-root, height-root}
use Rattle.mi_tree.proofs.ApartLemmas.{Thrice, thrice}

cut_out : (xs : List Ref) (r : Ref) (ys us : List Ref) → AreOut (xs ++ r ∷ ys) us → AreOut xs us × IsOut r.name us × AreOut ys us
cut_out [] r ys us a = (tt, a.0, a.1)
cut_out (x ∷ xs) r ys us a = let on = cut_out xs r ys us a.1 in ((a.0, on.0), on.1, on.2)

pub root_read : {a b : Sub} → a ≡ b → a.root ≡ b.root
root_read e = ap (λ (z : Sub). z.root) e

module _ {T : Type 0} where
  -- a link that says something of itself by its tag
  pub link_kept : (m n : Pooled T) (s : ℕ) (r : Ref) (f : Tag → Link) → link_of n r.name s ≡ link_of m r.name s
      → link_of m r.name s ≡ f (link_of m r.name s).tag → link_of n r.name s ≡ f (link_of n r.name s).tag
  link_kept m n s r f e h = e ∙ h ∙ ap (λ (y : Link). f y.tag) (sym e)

  -- a tree away from the change
  pub stands_kept : (s : ℕ) (m n : Pooled T) (us : List Ref) (t : BinaryTree) → Keeps m n s us → AreOut (nodes t) us → Stands m s t → Stands n s t
  stands_kept s m n us Tip g a h = tt
  stands_kept s m n us (Fork l r q) g a h =
      let on = cut_out (nodes l) r (nodes q) us a in (
        held_kept s m n us r g h.0,
        link_kept m n s r (fork_link l q) (g.other_nodes r.name s on.1) h.1,
        stands_kept s m n us l g on.0 h.2,
        stands_kept s m n us q g on.2 h.3,
      )

  pub rooted_kept : (s : ℕ) (m n : Pooled T) (us : List Ref) (o : Option Ref) (t : BinaryTree)
      → Keeps m n s us → AreOut (nodes t) us → IsRooted m s o t → IsRooted n s o t
  rooted_kept s m n us o t g a h = record { root = h.root; stands = stands_kept s m n us t g a h.stands }

  -- the same, where one node changed
  pub rooted_past : (s : ℕ) (m n : Pooled T) (x : Ref) (o : Option Ref) (t : BinaryTree)
      → Keeps m n s (x ∷ []) → IsOut x.name (nodes t) → IsRooted m s o t → IsRooted n s o t
  rooted_past s m n x o t g a h = rooted_kept s m n (x ∷ []) o t g (are_out_cons (nodes t) x [] a (are_out_none (nodes t))) h

  -- a link that is set
  pub keeps_set : {s : ℕ} {m n : Pooled T} {x : Ref} (y : Link) → n ≡ with_link m x.name s y → Keeps m n s (x ∷ [])
  keeps_set {s} {m} {n} {x} y e = subst (λ o. Keeps m o s (x ∷ [])) (sym e) (keeps_link s m x y)

  pub joined : (s : ℕ) (m n : Pooled T) (x : Ref) (y : Link) (A B : BinaryTree)
      → n ≡ with_link m x.name s y → IsFork m s x y A B → IsRooted n s (Some x) (Fork A x B)
  joined s m n x y A B e h =
      let keeps = keeps_set y e in
      let two = h.two in
      let link : y ≡ fork_link A B y.tag = λ i. record {
        back = two.first.root i;
        forth = two.second.root i;
        size = h.size_is i;
        height = h.height_is i;
        tag = y.tag;
      } in
      let here : link_of n x.name s ≡ y = ap (λ o. link_of o x.name s) e ∙ link_here m x s y two.held in
      record {
        root = refl;
        stands = (
          keeps.refs x.name ∙ two.held,
          here ∙ link ∙ ap (λ (z : Link). fork_link A B z.tag) (sym here),
          (rooted_past s m n x y.back A keeps two.out_first two.first).stands,
          (rooted_past s m n x y.forth B keeps two.out_second two.second).stands,
        );
      }

  -- no tag changes where a node's link is set with its own
  pub tags_set : (s : ℕ) (m n : Pooled T) (x : Ref) (y : Link) → n ≡ with_link m x.name s y → IsHeld m x → y.tag ≡ (link_of m x.name s).tag → SameTags m n s
  tags_set s m n x y e h t k = ap (λ o. (link_of o k s).tag) e
      ∙ (elim (x.name == k) as (λ b. (x.name == k) ≡ b → (link_of (with_link m x.name s y) k s).tag ≡ (link_of m k s).tag) [
        | true ↦ λ is. let at = same_name x.name k is in
            ap (λ q. (link_of (with_link m x.name s y) q s).tag) (sym at)
            ∙ ap (λ (z : Link). z.tag) (link_here m x s y h) ∙ t ∙ ap (λ q. (link_of m q s).tag) at
        | false ↦ λ is. ap (λ (z : Link). z.tag) (link_there m x.name s y k s is)
      ]) refl

  pub fork_counted : {s : ℕ} {m : Pooled T} {x : Ref} {y : Link} {A B : BinaryTree} → Two m s y.back x y.forth A B
      → Counts y (link_of m x.name s).tag A B → IsFork m s x y A B
  fork_counted h c = record { two = h; size_is = c.size_is; height_is = c.height_is; tag_is = c.tag_is }

  -- no tag has changed
  pub counted_after : (s : ℕ) (m n : Pooled T) (x : Ref) {y : Link} {A B : BinaryTree} → SameTags m n s
      → Counts y (link_of m x.name s).tag A B → Counts y (link_of n x.name s).tag A B
  counted_after s m n x t c = record { size_is = c.size_is; height_is = c.height_is; tag_is = c.tag_is ∙ sym (t x.name) }

  -- a subtree whose root was read is sized, and stands under the same root
  pub sized : {s : ℕ} {m : Pooled T} {a : Sub} {at : Option Ref} {A : BinaryTree} → a ≡ read m s at → IsRooted m s at A → IsSized a A
  sized {s} {m} {a} {at} {A} e h = (ap (λ (z : Sub). z.size) e ∙ size-root m s at A h, ap (λ (z : Sub). z.height) e ∙ height-root m s at A h)

  pub none_low : (m : Pooled T) (s : ℕ) {a : Sub} {at : Option Ref} → a ≡ read m s at → a.root ≡ None → a.height ≡ 0
  none_low m s e n = ap (λ (z : Sub). z.height) e ∙ ap (height_at m s) (sym (root_read e) ∙ n)

  pub at_root : {s : ℕ} {m : Pooled T} {o at : Option Ref} {A : BinaryTree} → o ≡ at → IsRooted m s at A → IsRooted m s o A
  at_root e h = record { root = e ∙ h.root; stands = h.stands }

  -- two trees and a node that stand apart and are small enough may be put together
  pub two : {m : Pooled T} {s : ℕ} {a : Option Ref} {x : Ref} {b : Option Ref} {A B : BinaryTree} → IsRooted m s a A → IsHeld m x → IsRooted m s b B
      → IsApart (nodes A ++ x ∷ nodes B) → forks A + forks B + 1 < 2 ^ 32 → (height A < 255) × (height B < 255) → Two m s a x b A B
  two {x = x} {A = A} {B} f h g apart fits low = let w = between (nodes A) x (nodes B) apart in
      record { first = f; held = h; second = g; out_first = w.out_left; out_second = w.out_right; fits = fits; low = low }

  pub three : {m : Pooled T} {s : ℕ} {a : Option Ref} {x : Ref} {b : Option Ref} {y : Ref} {c : Option Ref} {A B C : BinaryTree}
      → IsRooted m s a A → IsHeld m x → IsRooted m s b B → IsHeld m y → IsRooted m s c C → IsApart (nodes A ++ x ∷ (nodes B ++ y ∷ nodes C))
      → forks A + forks B + forks C + 2 < 2 ^ 32 → (height A < 254) × (height B < 254) × (height C < 254) → Three m s a x b y c A B C
  three f h g k d apart fits low =
      record { first = f; held_x = h; second = g; held_y = k; third = d; apart = apart; fits = fits; low = low }

  pub four : {m : Pooled T} {s : ℕ} {a : Option Ref} {x : Ref} {b : Option Ref} {y : Ref} {c : Option Ref} {z : Ref} {d : Option Ref} {A B C D : BinaryTree}
      → IsRooted m s a A → IsHeld m x → IsRooted m s b B → IsHeld m y → IsRooted m s c C → IsHeld m z → IsRooted m s d D
      → IsApart (nodes A ++ x ∷ (nodes B ++ y ∷ (nodes C ++ z ∷ nodes D))) → forks A + forks B + forks C + forks D + 3 < 2 ^ 32
      → (height A < 254) × (height B < 254) × (height C < 254) × (height D < 254) → Four m s a x b y c z d A B C D
  four f h g k d j e apart fits low = record {
    first = f;
    held_x = h;
    second = g;
    held_y = k;
    third = d;
    held_z = j;
    fourth = e;
    apart = apart;
    fits = fits;
    low = low;
  }

  module _ {m : Pooled T} {s : ℕ} {a : Option Ref} {x : Ref} {b : Option Ref} {y : Ref} {c : Option Ref} {A B C : BinaryTree}
      (h : Three m s a x b y c A B C) where
    parted : Thrice (nodes A) x (nodes B) y (nodes C)
    parted = thrice (nodes A) x (nodes B) y (nodes C) h.apart

    pub down_low : Two m s b y c B C
    down_low = let f = h.fits in let w = h.low in two h.second h.held_y h.third parted.low_right (omega arith) (omega arith, omega arith)

    pub down_high : {n : Pooled T} {o : Option Ref} → Keeps m n s (y ∷ []) → IsRooted n s o (Fork B y C) → Two n s a x o A (Fork B y C)
    down_high {n} k r = let f = h.fits in let w = h.low in
        two (rooted_past s m n y a A k parted.y_A h.first) (held_kept s m n (y ∷ []) x k h.held_x) r h.apart (omega arith) (omega arith, omega arith)

    pub up_low : Two m s a x b A B
    up_low = let f = h.fits in let w = h.low in two h.first h.held_x h.second parted.low_left (omega arith) (omega arith, omega arith)

    pub up_high : {n : Pooled T} {o : Option Ref} → Keeps m n s (x ∷ []) → IsRooted n s o (Fork A x B) → Two n s o y c (Fork A x B) C
    up_high {n} k r = let f = h.fits in let w = h.low in
        two r (held_kept s m n (x ∷ []) y k h.held_y) (rooted_past s m n x c C k parted.x_C h.third) parted.turned (omega arith) (omega arith, omega arith)

  module _ {m : Pooled T} {s : ℕ} {a : Option Ref} {x : Ref} {b : Option Ref} {y : Ref} {c : Option Ref} {z : Ref} {d : Option Ref} {A B C D : BinaryTree}
      (h : Four m s a x b y c z d A B C D) where
    halves : Thrice (nodes A) x (nodes B) y (nodes C ++ z ∷ nodes D)
    halves = thrice (nodes A) x (nodes B) y (nodes C ++ z ∷ nodes D) h.apart

    pub both_left : Two m s a x b A B
    both_left = let f = h.fits in let w = h.low in two h.first h.held_x h.second halves.low_left (omega arith) (omega arith, omega arith)

    pub both_right : {n : Pooled T} → Keeps m n s (x ∷ []) → Two n s c z d C D
    both_right {n} k = let f = h.fits in let w = h.low in
        two (rooted_past s m n x c C k (out_left x.name (nodes C) (z ∷ nodes D) halves.x_C) h.third) (held_kept s m n (x ∷ []) z k h.held_z)
        (rooted_past s m n x d D k (out_right x.name (nodes C) (z ∷ nodes D) halves.x_C).1 h.fourth) halves.right (omega arith) (omega arith, omega arith)

    pub both_top : {n o : Pooled T} {v w : Option Ref} → Keeps m n s (x ∷ []) → IsRooted n s v (Fork A x B) → Keeps n o s (z ∷ [])
        → IsRooted o s w (Fork C z D) → Two o s v y w (Fork A x B) (Fork C z D)
    both_top {n} {o} {v} k r l u = let f = h.fits in let w = h.low in
        let z_out = (thrice (nodes A ++ x ∷ nodes B) y (nodes C) z (nodes D) halves.turned).y_A in
        two (rooted_past s n o z v (Fork A x B) l z_out r) (held_kept s n o (z ∷ []) y l (held_kept s m n (x ∷ []) y k h.held_y)) u
        halves.turned (omega arith) (omega arith, omega arith)

  -- what is above is a fork, once what is below stands
  pub down_upper : {m n : Pooled T} {s : ℕ} {x : Ref} {u : Link} {y : Ref} {v : Link} {A B C : BinaryTree} → IsDown m s x u y v A B C
      → Keeps m n s (y ∷ []) → SameTags m n s → IsRooted n s (Some y) (Fork B y C) → IsFork n s x u A (Fork B y C)
  down_upper {m} {n} {s} {x} h k t r = fork_counted (down_high h.three k (at_root h.under r)) (counted_after s m n x t h.high)

  pub up_upper : {m n : Pooled T} {s : ℕ} {x : Ref} {u : Link} {y : Ref} {v : Link} {A B C : BinaryTree} → IsUp m s x u y v A B C
      → Keeps m n s (x ∷ []) → SameTags m n s → IsRooted n s (Some x) (Fork A x B) → IsFork n s y v (Fork A x B) C
  up_upper {m} {n} {s} {y = y} h k t r = fork_counted (up_high h.three k (at_root h.under r)) (counted_after s m n y t h.high)

  pub both_after : {m n : Pooled T} {s : ℕ} {x : Ref} {u : Link} {y : Ref} {v : Link} {z : Ref} {w : Link} {A B C D : BinaryTree}
      → IsBoth m s x u y v z w A B C D → Keeps m n s (x ∷ []) → SameTags m n s → IsFork n s z w C D
  both_after {m} {n} {s} {z = z} h k t = fork_counted (both_right h.four k) (counted_after s m n z t h.second)

  pub both_upper : {m n o : Pooled T} {s : ℕ} {x : Ref} {u : Link} {y : Ref} {v : Link} {z : Ref} {w : Link} {A B C D : BinaryTree}
      → IsBoth m s x u y v z w A B C D → Keeps m n s (x ∷ []) → SameTags m n s → IsRooted n s (Some x) (Fork A x B)
      → Keeps n o s (z ∷ []) → SameTags n o s → IsRooted o s (Some z) (Fork C z D) → IsFork o s y v (Fork A x B) (Fork C z D)
  both_upper {m} {n} {o} {s} {y = y} h k t r l i q =
      fork_counted (both_top h.four k (at_root h.back r) l (at_root h.forth q)) (counted_after s n o y i (counted_after s m n y t h.whole))
