-- Nodes for tests: one more with a greater stamp, and one that comes back.
-- Cited by `rooms::add`, `rooms::pull_two` and `three::fill`.
use Rattle.std.proofs.Common.{◌≡◌, ◌<◌, ◌+◌, ◌==◌, ℕ, ℤ, Bool, true, false, cond, List, [], ◌∷◌, ◌++◌, length, length-append, append-nil, None, sym}
use Rattle.std.proofs.Common.{ap, ◌∙◌, subst, arith, refl}
use Rattle.mi_node.specs.Pool.{Pooled, ref_of, link_of, no_link, IsHeld, Keeps, taken}
use Rattle.std.specs.List.{filter}
use Rattle.mi_node.specs.Refs.{Ref, IsOut, first_of, last_of}
use Rattle.mi_node.specs.declared.link.Link.{Link}
use Rattle.mi_node.specs.declared.link.Tag.{Tag}
use Rattle.mi_node.proofs.EntryLemmas.{held_taken, link-taken, same_refl, same_name}
use Rattle.mi_node.proofs.KeepingLemmas.{absent_out}
use Rattle.mi_chain.specs.Keying.{same_nodes, hash_node, stamp_at}
use Rattle.mi_chain.specs.Chained.{AreBefore, AreChained, IsPlaced, FitsBetween}
use Rattle.test_storage.specs.Numbered.{number_keying, numbers_lawful, AreBelow, AreNumbered, AreSeenAlike}
use Rattle.mi_chain.specs.declared.chains.Chains.{Chains}
use Rattle.mi_chain.proofs.KeyingLemmas.{same_kept, hash_kept}
use Rattle.mi_chain.proofs.FrameLemmas.{chained_taken}
use Rattle.test_storage.proofs.ThreeNodeLemmas.{stamp_set, placed_alike}

below_on : (f g : Ref → ℕ) (r : Ref) (n : ℕ) (rs : List Ref) → IsOut r.name rs → ((q : Ref) → (r.name == q.name) ≡ false → g q ≡ f q) → AreBelow f n rs
    → AreBelow g n rs
below_on f g r n [] out same h = tt
below_on f g r n (q ∷ rs) out same h = (subst (λ z. z < n) (sym (same q out.0)) h.0, below_on f g r n rs out.1 same h.1)

below_more : (f : Ref → ℕ) (r : Ref) (n : ℕ) (rs : List Ref) → f r ≡ n → AreBelow f n rs → AreBelow f (n + 1) (rs ++ r ∷ [])
below_more f r n [] is h = (omega (arith, is), tt)
below_more f r n (q ∷ rs) is h = (omega (arith, h.0), below_more f r n rs is h.1)

before_all : (R : Ref → Ref → Bool) (f : Ref → ℕ) (r : Ref) (n : ℕ) (rs : List Ref) → AreBelow f n rs → AreBefore R f r n rs
before_all R f r n [] h = tt
before_all R f r n (q ∷ rs) h = ((λ e. h.0), before_all R f r n rs h.1)

-- a node may stand behind all others, with the next stamp
pub record IsNext {H : Type 0} (c : Chains H) (n : Pooled ℤ) (r : Ref) (rs : List Ref) (i : ℕ) : Type 0 where
  pub chained : AreChained c number_keying n (rs ++ [])
  pub placed : IsPlaced number_keying n c.slot r i rs []
  pub below : AreBelow (stamp_at n c.slot) i rs
  pub out : IsOut r.name rs
  pub count : length rs ≡ i

-- one that is held, and none of the others, may
module _ {H : Type 0} {c : Chains H} {m : Pooled ℤ} {r : Ref} {rs : List Ref} {i : ℕ} where
  pub next_of_held : IsHeld m r → IsOut r.name rs → i < 1000 → AreNumbered c m rs i → IsNext c m r rs i
  next_of_held held out few h =
      let nil : rs ≡ rs ++ [] = sym (append-nil rs) in record {
        chained = subst (AreChained c number_keying m) nil h.chained;
        placed = record {
          held = held;
          out = subst (IsOut r.name) nil out;
          before = before_all (same_nodes number_keying m) (stamp_at m c.slot) r i rs h.below;
          after = tt;
          few = omega (arith, length-append rs (r ∷ []), h.count, few);
        };
        below = h.below;
        out = out;
        count = h.count;
      }

-- so may one that was just taken
module _ {H : Type 0} {c : Chains H} {m n : Pooled ℤ} {r : Ref} (v : ℤ) {rs : List Ref} {i : ℕ} where
  pub next_of_taken : n ≡ taken m r v → ref_of m r.name ≡ None → i < 1000 → AreNumbered c m rs i → IsNext c n r rs i
  next_of_taken e free few h =
      let s = c.slot in let t = taken m r v in
      let out : IsOut r.name rs = absent_out m r.name rs free h.chained.buckets.held in
      let same : (q : Ref) → (r.name == q.name) ≡ false → stamp_at t s q ≡ stamp_at m s q
      = λ q o. ap (λ (l : Link). l.tag.stamp) (link-taken m r v q.name s ∙ ap (λ b. cond b no_link (link_of m q.name s)) o) in
      subst (λ z. IsNext c z r rs i) (sym e) (next_of_held (held_taken m r v) out few (record {
        chained = chained_taken c number_keying numbers_lawful m r v rs free h.chained;
        below = below_on (stamp_at m s) (stamp_at t s) r i rs out same h.below;
        count = h.count;
      }))

-- once it was put in there is one node more, with stamps below the next
module _ {H : Type 0} {c d : Chains H} {n o : Pooled ℤ} {r : Ref} {rs : List Ref} {i : ℕ} (t : Tag) where
  pub numbered_more : IsNext c n r rs i → AreChained d number_keying o (rs ++ r ∷ []) → d.slot ≡ c.slot
      → ((q : ℕ) → (link_of o q c.slot).tag ≡ cond (r.name == q) t (link_of n q c.slot).tag) → t.stamp ≡ i → AreNumbered d o (rs ++ r ∷ []) (i + 1)
  numbered_more p list slot tags is = record {
    chained = list;
    below = below_more (stamp_at o d.slot) r i rs (stamp_set n o c.slot d.slot r r t true slot (tags r.name) (same_refl r.name) ∙ is)
        (below_on (stamp_at n c.slot) (stamp_at o d.slot) r i rs p.out (λ q other. stamp_set n o c.slot d.slot r q t false slot (tags q.name) other) p.below);
    count = length-append rs (r ∷ []) ∙ omega (arith, p.count);
  }

-- where a node fits, it fits in a pool that is seen alike
pub fits_alike : {m n : Pooled ℤ} {s w : ℕ} {r : Ref} {l : Link} {xs ys : List Ref} → w ≡ s → AreSeenAlike m n s → FitsBetween number_keying m s r l xs ys
    → FitsBetween number_keying n w r l xs ys
fits_alike {m} {n} {s} {w} {r} {l} {xs} {ys} e a f =
    let nodes : same_nodes number_keying m ≡ same_nodes number_keying n = sym (same_kept number_keying m n a.values) in
    let hashes : hash_node number_keying m ≡ hash_node number_keying n = sym (hash_kept number_keying m n a.values) in
    subst (λ z. FitsBetween number_keying n z r l xs ys) (sym e) (record {
      placed = placed_alike refl a f.placed;
      hash_is = f.hash_is ∙ ap (λ h. h r) hashes;
      back_is = f.back_is ∙ ap (λ h. last_of None (filter (h r) xs)) nodes;
      forth_is = f.forth_is ∙ ap (λ h. first_of (filter (h r) ys) None) nodes;
    })

-- after the node of a name was put back with the tag that it had
pub alike_back : {m n o : Pooled ℤ} {s w : ℕ} (name : ℕ) {l : Link} {ws : List Ref} → w ≡ s → AreSeenAlike m n s → Keeps n o w ws → l ≡ link_of n name w
    → ((q : ℕ) → (link_of o q w).tag ≡ cond (name == q) l.tag (link_of n q w).tag) → AreSeenAlike m o s
alike_back {m} {n} {o} {s} {w} name {l} {ws} e a k is tags = record {
  refs = λ q. k.refs q ∙ a.refs q;
  values = λ q. k.values q ∙ a.values q;
  tags = λ q. subst (λ z. (link_of o q z).tag ≡ (link_of n q z).tag) e (tags q ∙ kept q (name == q) refl) ∙ a.tags q;
}
  where
    kept : (q : ℕ) (b : Bool) → (name == q) ≡ b → cond (name == q) l.tag (link_of n q w).tag ≡ (link_of n q w).tag
    kept q true here = ap (λ b. cond b l.tag (link_of n q w).tag) here ∙ ap (λ (z : Link). z.tag) is ∙ ap (λ z. (link_of n z w).tag) (same_name name q here)
    kept q false there = ap (λ b. cond b l.tag (link_of n q w).tag) there
