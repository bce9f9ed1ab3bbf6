-- Turning a tree whose one side is two levels higher.
-- Cited by `balance::balance`, `balance::rotate_left`, `balance::rotate_left_right`, `balance::rotate_right` and 4 more.
use Rattle.std.proofs.Common.{◌≡◌, ℕ, Bool, true, false, ◌+◌, ◌-◌, ◌<◌, ◌≤◌, max, List, [], ◌∷◌, ◌++◌, Option, Some, refl, sym, ap, ◌∙◌, subst, arith, append_assoc}
use Rattle.mi_node.specs.Pool.{Pooled, link_of, Keeps}
use Rattle.mi_node.specs.declared.link.Link.{Link}
use Rattle.mi_node.specs.declared.link.Tag.{Tag}
use Rattle.mi_node.specs.Refs.{Ref, IsOut, IsApart}
use Rattle.mi_node.proofs.KeepingLemmas.{keeps_more}
use Rattle.mi_node.proofs.RefLemmas.{out_left, out_right}
use Rattle.mi_tree.specs.BinaryTree.{BinaryTree, Fork, nodes, forks, height, DifferByAtMost, IsEven, IsRooted}
use Rattle.mi_tree.specs.Sorted.{SameTags}
use Rattle.mi_tree.specs.Joining.{IsSized, Counts, read, Two, Three, Four, IsDown, IsUp, IsBoth, Rebalanced, AreSides, AreLinked, IsBalanced}
use Rattle.mi_tree.specs.declared.parts.Sub.{Sub}
use Rattle.mi_tree.specs.declared.walk.TheConstants.{MAX_LEVELS}
use Rattle.mi_tree.proofs.HeightLemmas.{low_enough}
use Rattle.mi_tree.proofs.BinaryTreeLemmas.{Sides, sides}
use Rattle.mi_tree.proofs.JoinLemmas.{two, three, four, sized, at_root, root_read}

turn_plain : (l : BinaryTree) (x : Ref) (q : BinaryTree) → IsEven l → IsEven q → DifferByAtMost 1 (height l) (height q) → Rebalanced l x q (Fork l x q)
turn_plain l x q el eq d = record { nodes_are = refl; even = (d, el, eq); not_lower = omega arith; not_higher = omega arith; as_high = λ h. refl }

turn_down : (A : BinaryTree) (x : Ref) (B : BinaryTree) (y : Ref) (C : BinaryTree) → IsEven (Fork A x B) → IsEven C
    → DifferByAtMost 2 (height (Fork A x B)) (height C) → height C + 1 < height (Fork A x B) → height B ≤ height A
    → Rebalanced (Fork A x B) y C (Fork A x (Fork B y C))
turn_down A x B y C e f d h w = let e0 = e.0 in record {
  nodes_are = sym (append_assoc (nodes A) (x ∷ nodes B) (y ∷ nodes C));
  even = ((omega arith, omega arith), e.1, ((omega arith, omega arith), e.2, f));
  not_lower = omega arith;
  not_higher = omega arith;
  as_high = λ k. absurd (omega arith);
}

turn_up : (A : BinaryTree) (x : Ref) (B : BinaryTree) (y : Ref) (C : BinaryTree) → IsEven A → IsEven (Fork B y C)
    → DifferByAtMost 2 (height A) (height (Fork B y C)) → height A + 1 < height (Fork B y C) → height B ≤ height C
    → Rebalanced A x (Fork B y C) (Fork (Fork A x B) y C)
turn_up A x B y C e f d h w = let f0 = f.0 in record {
  nodes_are = append_assoc (nodes A) (x ∷ nodes B) (y ∷ nodes C);
  even = ((omega arith, omega arith), ((omega arith, omega arith), e, f.1), f.2);
  not_lower = omega arith;
  not_higher = omega arith;
  as_high = λ k. absurd (omega arith);
}

-- from the left: A x (B y C) is too high
turn_left_both : (A : BinaryTree) (x : Ref) (B : BinaryTree) (y : Ref) (C : BinaryTree) (z : Ref) (D : BinaryTree)
    → IsEven (Fork A x (Fork B y C)) → IsEven D → DifferByAtMost 2 (height (Fork A x (Fork B y C))) (height D)
    → height D + 1 < height (Fork A x (Fork B y C)) → height A < height (Fork B y C) → Rebalanced (Fork A x (Fork B y C)) z D (Fork (Fork A x B) y (Fork C z D))
turn_left_both A x B y C z D e f d h w = let e0 = e.0 in let e2 = e.2.0 in record {
  nodes_are = append_assoc (nodes A) (x ∷ nodes B) (y ∷ nodes C ++ z ∷ nodes D)
      ∙ sym (append_assoc (nodes A) (x ∷ nodes B ++ y ∷ nodes C) (z ∷ nodes D)
      ∙ ap (λ u. nodes A ++ x ∷ u) (append_assoc (nodes B) (y ∷ nodes C) (z ∷ nodes D)));
  even = ((omega arith, omega arith), ((omega arith, omega arith), e.1, e.2.1), ((omega arith, omega arith), e.2.2, f));
  not_lower = omega arith;
  not_higher = omega arith;
  as_high = λ k. absurd (omega arith);
}

-- from the right: (B y C) z D is too high
turn_right_both : (A : BinaryTree) (x : Ref) (B : BinaryTree) (y : Ref) (C : BinaryTree) (z : Ref) (D : BinaryTree) → IsEven A
    → IsEven (Fork (Fork B y C) z D) → DifferByAtMost 2 (height A) (height (Fork (Fork B y C) z D))
    → height A + 1 < height (Fork (Fork B y C) z D) → height D < height (Fork B y C) → Rebalanced A x (Fork (Fork B y C) z D) (Fork (Fork A x B) y (Fork C z D))
turn_right_both A x B y C z D e f d h w = let f0 = f.0 in let f1 = f.1.0 in record {
  nodes_are = append_assoc (nodes A) (x ∷ nodes B) (y ∷ nodes C ++ z ∷ nodes D)
      ∙ ap (λ u. nodes A ++ x ∷ u) (sym (append_assoc (nodes B) (y ∷ nodes C) (z ∷ nodes D)));
  even = ((omega arith, omega arith), ((omega arith, omega arith), e, f.1.1), ((omega arith, omega arith), f.1.2, f.2));
  not_lower = omega arith;
  not_higher = omega arith;
  as_high = λ k. absurd (omega arith);
}

out_two : (k : ℕ) (A : List Ref) (x : Ref) (B : List Ref) (y : Ref) (C : List Ref) → IsOut k ((A ++ x ∷ B) ++ y ∷ C) → IsOut k (x ∷ y ∷ [])
out_two k A x B y C h = ((out_right k A (x ∷ B) (out_left k (A ++ x ∷ B) (y ∷ C) h)).0, ((out_right k (A ++ x ∷ B) (y ∷ C) h).0, tt))

out_two_right : (k : ℕ) (A : List Ref) (x : Ref) (B : List Ref) (y : Ref) (C : List Ref) → IsOut k (A ++ x ∷ (B ++ y ∷ C)) → IsOut k (x ∷ y ∷ [])
out_two_right k A x B y C h = let o = out_right k A (x ∷ B ++ y ∷ C) h in (o.0, ((out_right k B (y ∷ C) o.1).0, tt))

out_three_left : (k : ℕ) (A : List Ref) (x : Ref) (B : List Ref) (y : Ref) (C : List Ref) (z : Ref) (D : List Ref)
    → IsOut k ((A ++ x ∷ (B ++ y ∷ C)) ++ z ∷ D) → IsOut k (x ∷ y ∷ z ∷ [])
out_three_left k A x B y C z D h =
    let o = out_two_right k A x B y C (out_left k (A ++ x ∷ (B ++ y ∷ C)) (z ∷ D) h) in (o.0, (o.1.0, ((out_right k (A ++ x ∷ (B ++ y ∷ C)) (z ∷ D) h).0, tt)))

out_three_right : (k : ℕ) (A : List Ref) (x : Ref) (B : List Ref) (y : Ref) (C : List Ref) (z : Ref) (D : List Ref)
    → IsOut k (A ++ x ∷ ((B ++ y ∷ C) ++ z ∷ D)) → IsOut k (x ∷ y ∷ z ∷ [])
out_three_right k A x B y C z D h = let o = out_right k A (x ∷ (B ++ y ∷ C) ++ z ∷ D) h in (o.0, out_two k B y C z D o.1)

-- a link counts its sides
counts : {y : Link} {tag : Tag} {A B : BinaryTree} → y.size ≡ forks A + forks B + 1 → y.height ≡ max (height A) (height B) + 1 → y.tag ≡ tag → Counts y tag A B
counts size high tag = record { size_is = size; height_is = high; tag_is = tag }

module _ {T : Type 0} where
  -- neither side is high
  pub sides_low : {m : Pooled T} {s : ℕ} {left : Option Ref} {x : Ref} {right : Option Ref} {l q : BinaryTree} → AreSides m s left x right l q
      → (height l ≤ MAX_LEVELS) × (height q ≤ MAX_LEVELS)
  sides_low {l = l} {q} h = let f = h.fits in (low_enough l h.left_even (omega arith), low_enough q h.right_even (omega arith))

  -- the left side, opened
  pub left_opened : {m : Pooled T} {s : ℕ} {left : Option Ref} {x : Ref} {right : Option Ref} {l q : BinaryTree} {r : Ref} {y : Link}
      → AreSides m s left x right l q → left ≡ Some r → y ≡ link_of m r.name s → (o : Sides m s r y l) × Three m s y.back r y.forth x right o.A o.B q
  left_opened {m} {s} {left} {x} {right} {l} {q} {r} {y} h e i =
      let o = sides m s left r y l h.left_is e i in let f = h.fits in let size_is = ap forks o.is in let high = o.height_is in let low = sides_low h in (
        o,
        three o.left o.held o.right h.held h.right_is
            (subst IsApart (ap (λ t. nodes t ++ x ∷ nodes q) o.is ∙ append_assoc (nodes o.A) (r ∷ nodes o.B) (x ∷ nodes q)) h.apart)
            (omega arith) (omega arith, omega arith, omega arith),
      )

  -- the right side, opened
  pub right_opened : {m : Pooled T} {s : ℕ} {left : Option Ref} {x : Ref} {right : Option Ref} {l q : BinaryTree} {r : Ref} {y : Link}
      → AreSides m s left x right l q → right ≡ Some r → y ≡ link_of m r.name s → (o : Sides m s r y q) × Three m s left x y.back r y.forth l o.A o.B
  right_opened {m} {s} {left} {x} {right} {l} {q} {r} {y} h e i =
      let o = sides m s right r y q h.right_is e i in let f = h.fits in let size_is = ap forks o.is in let high = o.height_is in let low = sides_low h in (
        o,
        three h.left_is h.held o.left o.held o.right (subst IsApart (ap (λ t. nodes l ++ x ∷ nodes t) o.is) h.apart)
            (omega arith) (omega arith, omega arith, omega arith),
      )

  -- the middle, opened
  pub middle_opened : {m : Pooled T} {s : ℕ} {a : Option Ref} {x : Ref} {b : Option Ref} {y z : Ref} {d : Option Ref} {w : Link} {A M D : BinaryTree}
      → Three m s a x b z d A M D → b ≡ Some y → w ≡ link_of m y.name s → (o : Sides m s y w M) × Four m s a x w.back y w.forth z d A o.A o.B D
  middle_opened {m} {s} {a} {x} {b} {y} {z} {d} {w} {A} {M} {D} h e i =
      let o = sides m s b y w M h.second e i in let f = h.fits in let k = h.low in let size_is = ap forks o.is in let high = o.height_is in (
        o,
        four h.first h.held_x o.left o.held o.right h.held_y h.third
            (subst IsApart (ap (λ t. nodes A ++ x ∷ (nodes t ++ z ∷ nodes D)) o.is
            ∙ ap (λ u. nodes A ++ x ∷ u) (append_assoc (nodes o.A) (y ∷ nodes o.B) (z ∷ nodes D))) h.apart)
            (omega arith) (omega arith, omega arith, omega arith, omega arith),
      )

  -- a link that is made of two subtrees that were read
  pub linked_by : {m : Pooled T} {s : ℕ} {left right : Sub} {x : Ref} {l q : BinaryTree} {tag : Tag} {n h : ℕ}
      → AreSides m s left.root x right.root l q → IsSized left l → IsSized right q → tag ≡ (link_of m x.name s).tag → n ≡ left.size + right.size + 1
      → AreLinked m s x (record { back = left.root; forth = right.root; size = n; height = h; tag = tag }) l q
  linked_by h a b t n = record { sides = h; size_is = omega arith; tag_is = t }

  -- the subtrees of a node and of the root of its left side, or of its right side, as they stand in order
  abbrev pub Around : Bool → Pooled T → ℕ → Ref → Link → Ref → Link → BinaryTree → BinaryTree → BinaryTree → Type 0
  Around true m s x link r over A B other = Three m s over.back r over.forth x link.forth A B other
  Around false m s x link r over A B other = Three m s link.back x over.back r over.forth other A B

  -- the left side or the right side of a node, opened, by a link that counts both
  pub record Leaning (left : Bool) (m : Pooled T) (s : ℕ) (x : Ref) (link : Link) (side other : BinaryTree) (r : Ref) (over : Link) : Type 0 where
    pub o : Sides m s r over side
    pub three : Around left m s x link r over o.A o.B other
    pub size_is : link.size ≡ forks o.A + forks o.B + forks other + 2
    pub part_is : over.size ≡ forks o.A + forks o.B + 1
    pub tag_is : link.tag ≡ (link_of m x.name s).tag
    pub over_tag : over.tag ≡ (link_of m r.name s).tag

  -- of sides whose sizes the link counts
  leaning : (left : Bool) {m : Pooled T} {s : ℕ} {x : Ref} {link : Link} {side other : BinaryTree} {r : Ref} {over : Link}
      (o : Sides m s r over side) → Around left m s x link r over o.A o.B other → link.size ≡ forks side + forks other + 1
      → link.tag ≡ (link_of m x.name s).tag → over ≡ link_of m r.name s → Leaning left m s x link side other r over
  leaning left o three size tag i = let part = ap forks o.is in record {
    o = o;
    three = three;
    size_is = omega arith;
    part_is = o.size_is;
    tag_is = tag;
    over_tag = ap (λ (z : Link). z.tag) i;
  }

  pub left_turn : {m : Pooled T} {s : ℕ} {x : Ref} {link : Link} {l q : BinaryTree} {r : Ref} {over : Link}
      → AreLinked m s x link l q → link.back ≡ Some r → over ≡ link_of m r.name s → Leaning true m s x link l q r over
  left_turn h e i = let k = left_opened h.sides e i in leaning true k.0 k.1 h.size_is h.tag_is i

  pub right_turn : {m : Pooled T} {s : ℕ} {x : Ref} {link : Link} {l q : BinaryTree} {r : Ref} {over : Link}
      → AreLinked m s x link l q → link.forth ≡ Some r → over ≡ link_of m r.name s → Leaning false m s x link q l r over
  right_turn {l = l} {q} h e i =
      let k = right_opened h.sides e i in let size = h.size_is in let turned : forks l + forks q + 1 ≡ forks q + forks l + 1 = omega arith in
      leaning false k.0 k.1 (size ∙ turned) h.tag_is i

  -- the links that the nodes get where one rotation is enough
  pub down_put : {m : Pooled T} {s : ℕ} {x : Ref} {link : Link} {l q : BinaryTree} {r : Ref} {over : Link} (inner : Sub) {outer beside n low high : ℕ}
      (k : Leaning true m s x link l q r over) → outer ≡ height k.o.A → IsSized inner k.o.B → beside ≡ height q
      → n ≡ link.size - over.size + inner.size → low ≡ max inner.height beside + 1 → high ≡ max outer low + 1
      → IsDown m s r (record { back = over.back; forth = Some x; size = link.size; height = high; tag = over.tag })
      x (record { back = over.forth; forth = link.forth; size = n; height = low; tag = link.tag }) k.o.A k.o.B q
  down_put inner k a b d size low high =
      let all = k.size_is in let part = k.part_is in
      record { three = k.three; under = refl; low = counts (omega arith) (omega arith) k.tag_is; high = counts (omega arith) (omega arith) k.over_tag }

  pub up_put : {m : Pooled T} {s : ℕ} {x : Ref} {link : Link} {l q : BinaryTree} {r : Ref} {over : Link} (inner : Sub) {outer beside n low high : ℕ}
      (k : Leaning false m s x link q l r over) → outer ≡ height k.o.B → IsSized inner k.o.A → beside ≡ height l
      → n ≡ link.size - over.size + inner.size → low ≡ max beside inner.height + 1 → high ≡ max low outer + 1
      → IsUp m s x (record { back = link.back; forth = over.back; size = n; height = low; tag = link.tag })
      r (record { back = Some x; forth = over.forth; size = link.size; height = high; tag = over.tag }) l k.o.A k.o.B
  up_put inner k a b d size low high =
      let all = k.size_is in let part = k.part_is in
      record { three = k.three; under = refl; low = counts (omega arith) (omega arith) k.tag_is; high = counts (omega arith) (omega arith) k.over_tag }

  -- three nodes whose links count their sides
  both : {m : Pooled T} {s : ℕ} {x : Ref} {u : Link} {y : Ref} {n h : ℕ} {tag : Tag} {z : Ref} {w : Link} {A B C D : BinaryTree}
      → Four m s u.back x u.forth y w.back z w.forth A B C D → Counts u (link_of m x.name s).tag A B → Counts w (link_of m z.name s).tag C D
      → Counts (record { back = Some x; forth = Some z; size = n; height = h; tag = tag }) (link_of m y.name s).tag (Fork A x B) (Fork C z D)
      → IsBoth m s x u y (record { back = Some x; forth = Some z; size = n; height = h; tag = tag }) z w A B C D
  both f first second whole = record { four = f; back = refl; forth = refl; first = first; second = second; whole = whole }

  -- the same where there are two rotations
  pub left_both_put : {m : Pooled T} {s : ℕ} {x : Ref} {link : Link} {l q : BinaryTree} {r : Ref} {over : Link} {z : Ref} {inner : Link}
      (near far : Sub) {outer beside n j low high top : ℕ} (k : Leaning true m s x link l q r over) (u : Sides m s z inner k.o.B)
      → Four m s over.back r inner.back z inner.forth x link.forth k.o.A u.A u.B q → inner.tag ≡ (link_of m z.name s).tag
      → outer ≡ height k.o.A → IsSized near u.A → IsSized far u.B → beside ≡ height q
      → n ≡ over.size - inner.size + near.size → j ≡ link.size - over.size + far.size
      → low ≡ max outer near.height + 1 → high ≡ max far.height beside + 1 → top ≡ max low high + 1
      → IsBoth m s r (record { back = over.back; forth = inner.back; size = n; height = low; tag = over.tag })
      z (record { back = Some r; forth = Some x; size = link.size; height = top; tag = inner.tag })
      x (record { back = inner.forth; forth = link.forth; size = j; height = high; tag = link.tag }) k.o.A u.A u.B q
  left_both_put near far k u f t a b e d first second low high top =
      let all = k.size_is in let part = k.part_is in let mid = u.size_is in let whole = ap forks u.is in
      both f (counts (omega arith) (omega arith) k.over_tag) (counts (omega arith) (omega arith) k.tag_is) (counts (omega arith) (omega arith) t)

  pub right_both_put : {m : Pooled T} {s : ℕ} {x : Ref} {link : Link} {l q : BinaryTree} {r : Ref} {over : Link} {z : Ref} {inner : Link}
      (near far : Sub) {outer beside n j low high top : ℕ} (k : Leaning false m s x link q l r over) (u : Sides m s z inner k.o.A)
      → Four m s link.back x inner.back z inner.forth r over.forth l u.A u.B k.o.B → inner.tag ≡ (link_of m z.name s).tag
      → outer ≡ height k.o.B → IsSized near u.A → IsSized far u.B → beside ≡ height l
      → n ≡ link.size - over.size + near.size → j ≡ over.size - inner.size + far.size
      → low ≡ max beside near.height + 1 → high ≡ max far.height outer + 1 → top ≡ max low high + 1
      → IsBoth m s x (record { back = link.back; forth = inner.back; size = n; height = low; tag = link.tag })
      z (record { back = Some x; forth = Some r; size = link.size; height = top; tag = inner.tag })
      r (record { back = inner.forth; forth = over.forth; size = j; height = high; tag = over.tag }) l u.A u.B k.o.B
  right_both_put near far k u f t a b e d first second low high top =
      let all = k.size_is in let part = k.part_is in let mid = u.size_is in let whole = ap forks u.is in
      both f (counts (omega arith) (omega arith) k.tag_is) (counts (omega arith) (omega arith) k.over_tag) (counts (omega arith) (omega arith) t)

  -- what the calls give, which set links of the nodes us alone
  balanced : {m n : Pooled T} {s : ℕ} {l : BinaryTree} {x : Ref} {q : BinaryTree} {root : Ref} {t : BinaryTree} {us : List Ref}
      → IsRooted n s (Some root) t → Rebalanced l x q t → Keeps m n s us → ((k : ℕ) → IsOut k (nodes l ++ x ∷ nodes q) → IsOut k us) → SameTags m n s
      → (t : BinaryTree) × IsBalanced m n s l x q root t
  balanced {m} {n} {s} {t = t} {us} rooted turned keeps among tags =
      (t, record { rooted = rooted; rebalanced = turned; keeps = keeps_more s m n us _ keeps among; tags = tags })

  pub downs : {m n : Pooled T} {s : ℕ} {left right : Option Ref} {r x : Ref} {y : Link} {l q : BinaryTree} (h : AreSides m s left x right l q)
      (o : Sides m s r y l) → height q + 1 < height l → height o.B ≤ height o.A → IsRooted n s (Some r) (Fork o.A r (Fork o.B x q))
      → Keeps m n s (r ∷ x ∷ []) → SameTags m n s → (t : BinaryTree) × IsBalanced m n s l x q r t
  downs {m} {n} {s} {r = r} {x = x} {q = q} h o more higher rooted keeps tags =
      let w = subst (λ k. IsEven k × DifferByAtMost 2 (height k) (height q) × (height q + 1 < height k)) o.is (h.left_even, h.near, more) in
      subst (λ k. (t : BinaryTree) × IsBalanced m n s k x q r t) (sym o.is)
      (balanced rooted (turn_down o.A r o.B x q w.0 h.right_even w.1 w.2 higher) keeps (λ k f. out_two k (nodes o.A) r (nodes o.B) x (nodes q) f) tags)

  pub ups : {m n : Pooled T} {s : ℕ} {left right : Option Ref} {r x : Ref} {y : Link} {l q : BinaryTree} (h : AreSides m s left x right l q)
      (o : Sides m s r y q) → height l + 1 < height q → height o.A ≤ height o.B → IsRooted n s (Some r) (Fork (Fork l x o.A) r o.B)
      → Keeps m n s (x ∷ r ∷ []) → SameTags m n s → (t : BinaryTree) × IsBalanced m n s l x q r t
  ups {m} {n} {s} {r = r} {x = x} {l = l} h o more higher rooted keeps tags =
      let w = subst (λ k. IsEven k × DifferByAtMost 2 (height l) (height k) × (height l + 1 < height k)) o.is (h.right_even, h.near, more) in
      subst (λ k. (t : BinaryTree) × IsBalanced m n s l x k r t) (sym o.is)
      (balanced rooted (turn_up l x o.A r o.B h.left_even w.0 w.1 w.2 higher) keeps (λ k f. out_two_right k (nodes l) x (nodes o.A) r (nodes o.B) f) tags)

  pub left_boths : {m n : Pooled T} {s : ℕ} {left right : Option Ref} {r x z : Ref} {y v : Link} {l q : BinaryTree} (h : AreSides m s left x right l q)
      (o : Sides m s r y l) (u : Sides m s z v o.B) → height q + 1 < height l → height o.A < height o.B
      → IsRooted n s (Some z) (Fork (Fork o.A r u.A) z (Fork u.B x q)) → Keeps m n s (r ∷ z ∷ x ∷ []) → SameTags m n s
      → (t : BinaryTree) × IsBalanced m n s l x q z t
  left_boths {m} {n} {s} {r = r} {x = x} {z = z} {l = l} {q = q} h o u more higher rooted keeps tags =
      let whole : l ≡ Fork o.A r (Fork u.A z u.B) = o.is ∙ ap (Fork o.A r) u.is in
      let w = subst (λ k. IsEven k × DifferByAtMost 2 (height k) (height q) × (height q + 1 < height k)) whole (h.left_even, h.near, more) in
      subst (λ k. (t : BinaryTree) × IsBalanced m n s k x q z t) (sym whole)
      (balanced rooted (turn_left_both o.A r u.A z u.B x q w.0 h.right_even w.1 w.2 (subst (λ k. height o.A < height k) u.is higher)) keeps
      (λ k f. out_three_left k (nodes o.A) r (nodes u.A) z (nodes u.B) x (nodes q) f) tags)

  pub right_boths : {m n : Pooled T} {s : ℕ} {left right : Option Ref} {r x z : Ref} {y v : Link} {l q : BinaryTree} (h : AreSides m s left x right l q)
      (o : Sides m s r y q) (u : Sides m s z v o.A) → height l + 1 < height q → height o.B < height o.A
      → IsRooted n s (Some z) (Fork (Fork l x u.A) z (Fork u.B r o.B)) → Keeps m n s (x ∷ z ∷ r ∷ []) → SameTags m n s
      → (t : BinaryTree) × IsBalanced m n s l x q z t
  right_boths {m} {n} {s} {r = r} {x = x} {z = z} {l = l} {q = q} h o u more higher rooted keeps tags =
      let whole : q ≡ Fork (Fork u.A z u.B) r o.B = o.is ∙ ap (λ k. Fork k r o.B) u.is in
      let w = subst (λ k. IsEven k × DifferByAtMost 2 (height l) (height k) × (height l + 1 < height k)) whole (h.right_even, h.near, more) in
      subst (λ k. (t : BinaryTree) × IsBalanced m n s l x k z t) (sym whole)
      (balanced rooted (turn_right_both l x u.A z u.B r o.B h.left_even w.0 w.1 w.2 (subst (λ k. height o.B < height k) u.is higher)) keeps
      (λ k f. out_three_right k (nodes l) x (nodes u.A) z (nodes u.B) r (nodes o.B) f) tags)

  pub plains : {m n : Pooled T} {s : ℕ} {left : Option Ref} {x : Ref} {right : Option Ref} {l q : BinaryTree}
      → AreSides m s left x right l q → DifferByAtMost 1 (height l) (height q)
      → IsRooted n s (Some x) (Fork l x q) → Keeps m n s (x ∷ []) → SameTags m n s → (t : BinaryTree) × IsBalanced m n s l x q x t
  plains {x = x} {l = l} {q} h near rooted keeps tags =
      balanced rooted (turn_plain l x q h.left_even h.right_even near) keeps (λ k o. ((out_right k (nodes l) (x ∷ nodes q) o).0, tt)) tags

  pub plain_parts : {m : Pooled T} {s : ℕ} {left : Option Ref} {x : Ref} {right : Option Ref} {l q : BinaryTree}
      → AreSides m s left x right l q → Two m s left x right l q
  plain_parts h = let low = sides_low h in two h.left_is h.held h.right_is h.apart h.fits (omega arith, omega arith)

  -- the same sides by subtrees that were read
  pub sides_read : {m : Pooled T} {s : ℕ} {a b : Sub} {left : Option Ref} {x : Ref} {right : Option Ref} {l q : BinaryTree} → a ≡ read m s left → b ≡ read m s right
      → AreSides m s left x right l q → AreSides m s a.root x b.root l q × IsSized a l × IsSized b q
  sides_read e f h = (
    record {
      left_is = at_root (root_read e) h.left_is;
      held = h.held;
      right_is = at_root (root_read f) h.right_is;
      apart = h.apart;
      left_even = h.left_even;
      right_even = h.right_even;
      near = h.near;
      fits = h.fits;
    },
    sized e h.left_is,
    sized f h.right_is,
  )
