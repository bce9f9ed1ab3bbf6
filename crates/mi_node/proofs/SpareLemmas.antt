-- The free places that were given back stay among the first ones.
--     listed-..      after a change
--     spare_first      where one was given back and is free, so is the first one
-- Cited by `Pool::take`, `Storage::add_chunk`, `Storage::new`, `Storage::occupy`, `Storage::swap_value` and 1 more.
use Rattle.std.proofs.Common.{◌≡◌, ℕ, zero, suc, ◌<◌, ◌==◌, inl, inr, true, false, cond, List, [], ◌∷◌, ◌++◌, length, option_map}
use Rattle.std.proofs.Common.{slice_set, Option, Some, None, refl, sym, ap, ◌∙◌, subst, arith}
use Rattle.std.specs.Ordering.{nat_cmp}
use Rattle.std.specs.Cmp.{nat_cmp_total, unsigned_tied}
use Rattle.std.specs.FinMap.{FinMap, get, insert, empty, get-empty, get-insert}
use Rattle.mi_node.specs.Refs.{Ref}
use Rattle.mi_node.specs.Slab.{slab_entry_at, IsFreeIf, IsFreeAt}
use Rattle.mi_node.specs.Pool.{HasSpare, ref_of, node_at, last_given}
use Rattle.mi_node.specs.Seen.{seen, KeepsMark, IsSound}
use Rattle.mi_node.specs.Spares.{IsIn, IsNotIn, AreOnce, GoesOn, IsWay, AreListed}
use Rattle.mi_node.specs.declared.cell.Cell.{Cell}
use Rattle.mi_node.specs.declared.slab_entry.SlabEntry.{SlabEntry}
use Rattle.mi_node.specs.declared.slab_entry.SlabEntry.TheVariants.{Free, Held}
use Rattle.mi_node.proofs.EntryLemmas.{none_some, same_name}
use Rattle.mi_node.proofs.MapLemmas.{last_mark, get-map, entry_of, other_slab_entry, this_slab_entry}

flipped : (k q : ℕ) → (k == q) ≡ false → (q == k) ≡ false
flipped k q e = grind (arith, e)

differ : (k q : ℕ) → k ≡ q → (k == q) ≡ false → ⊥
differ k q e f = grind (arith, e, f)

module _ {T : Type 0} where
  goes_free : (n : ℕ) (o : Option (SlabEntry T)) → GoesOn n o → IsFreeIf o
  goes_free n None h = absurd h
  goes_free n (Some (Free r m)) h = refl
  goes_free n (Some (Held r v)) h = absurd h

  goes_one : (n m : ℕ) (o : Option (SlabEntry T)) → GoesOn n o → GoesOn m o → n ≡ m
  goes_one n m None h k = absurd h
  goes_one n m (Some (Free r j)) h k = sym h ∙ k
  goes_one n m (Some (Held r v)) h k = absurd h

  held_not_free : (o : Option (SlabEntry T)) (r : Ref) (v : T) → o ≡ Some (Held r v) → IsFreeIf o → ⊥
  held_not_free o r v is free = none_some v (sym (subst IsFreeIf is free))

  -- a place with a node isn't on the way
  not_on : (hs : List (SlabEntry T)) (at j : ℕ) (ks : List ℕ) (r : Ref) (v : T) → IsWay hs at ks → slab_entry_at hs j ≡ Some (Held r v) → IsNotIn j ks
  not_on hs at j [] r v way is = tt
  not_on hs at j (k ∷ ks) r v way is = (
    (elim (k == j) as (λ y. (k == j) ≡ y → (k == j) ≡ false) [
      | true ↦ λ t. absurd (held_not_free (slab_entry_at hs k) r v (ap (slab_entry_at hs) (same_name k j t) ∙ is) (goes_free way.1 (slab_entry_at hs k) way.2))
      | false ↦ λ t. t
    ]) refl,
    not_on hs way.1 j ks r v way.3 is,
  )

  -- what is done at another place leaves the way
  way_kept : (hs : List (SlabEntry T)) (at j : ℕ) (h : SlabEntry T) (ks : List ℕ) → j < length hs → IsNotIn j ks → IsWay hs at ks → IsWay (slice_set hs j h) at ks
  way_kept hs at j h [] less out way = tt
  way_kept hs at j h (k ∷ ks) less out way =
      (way.0, way.1, subst (GoesOn way.1) (sym (other_slab_entry hs j h less k out.0)) way.2, way_kept hs way.1 j h ks less out.1 way.3)

  -- a place that is free where a node was put at j was free, and isn't j
  was_free : (hs : List (SlabEntry T)) (j k : ℕ) (r : Ref) (v : T) → j < length hs → IsFreeAt (slice_set hs j (Held r v)) k → ((k == j) ≡ false) × IsFreeAt hs k
  was_free hs j k r v less free = (elim (k == j) as (λ y. (k == j) ≡ y → ((k == j) ≡ false) × IsFreeAt hs k) [
    | true ↦ λ t. absurd (held_not_free (slab_entry_at (slice_set hs j (Held r v)) k) r v
        (ap (slab_entry_at (slice_set hs j (Held r v))) (same_name k j t) ∙ this_slab_entry hs j (Held r v) less) free)
    | false ↦ λ t. (t, subst IsFreeIf (other_slab_entry hs j (Held r v) less k t) free)
  ]) refl

  pub listed-none : (hs : List (SlabEntry T)) (g : FinMap nat_cmp ℕ) (at : ℕ) → g ≡ empty → AreListed hs g at
  listed-none hs g at e = record { ks = []; way = tt; once = tt; all = λ k b f free. absurd (none_some b (sym (ap (λ m. get m k) e ∙ get-empty nat_cmp k) ∙ f)) }

  -- the first free place gets a node
  pub listed-held : (hs : List (SlabEntry T)) (g : FinMap nat_cmp ℕ) (at next : ℕ) (r : Ref) (v : T)
      → AreListed hs g at → at < length hs → GoesOn next (slab_entry_at hs at) → AreListed (slice_set hs at (Held r v)) g next
  listed-held hs g at next r v l less goes = rest l.ks l.way l.once l.all
    where
      rest : (ks : List ℕ) → IsWay hs at ks → AreOnce ks → ((k b : ℕ) → get g k ≡ Some b → IsFreeAt hs k → IsIn k ks)
          → AreListed (slice_set hs at (Held r v)) g next
      rest [] way once all = record {
        ks = [];
        way = tt;
        once = tt;
        all = λ k b e free. all k b e (was_free hs at k r v less free).1;
      }
      rest (j ∷ ks) way once all =
          let n : way.1 ≡ next = goes_one way.1 next (slab_entry_at hs j) way.2 (subst (λ k. GoesOn next (slab_entry_at hs k)) way.0 goes) in
          let out : IsNotIn at ks = subst (λ k. IsNotIn k ks) (sym way.0) once.0 in record {
            ks = ks;
            way = way_kept hs next at (Held r v) ks less out (subst (λ k. IsWay hs k ks) n way.3);
            once = once.1;
            all = λ k b e free. (let was = was_free hs at k r v less free in elim (all k b e was.1) [
              | inl is ↦ absurd (differ k at (is ∙ sym way.0) was.0)
              | inr more ↦ more
            ]);
          }

  -- a node gets another value
  pub listed-swapped : (hs : List (SlabEntry T)) (g : FinMap nat_cmp ℕ) (at j : ℕ) (q r : Ref) (w v : T)
      → AreListed hs g at → j < length hs → slab_entry_at hs j ≡ Some (Held q w) → AreListed (slice_set hs j (Held r v)) g at
  listed-swapped hs g at j q r w v l less is = record {
    ks = l.ks;
    way = way_kept hs at j (Held r v) l.ks less (not_on hs at j l.ks q w l.way is) l.way;
    once = l.once;
    all = λ k b e free. l.all k b e (was_free hs j k r v less free).1;
  }

  -- a node's place is given back, and is the first one
  pub listed-free : (hs : List (SlabEntry T)) (g : FinMap nat_cmp ℕ) (at : ℕ) (q r : Ref) (w : T)
      → AreListed hs g at → r.name < length hs → slab_entry_at hs r.name ≡ Some (Held q w)
      → AreListed (slice_set hs r.name (Free r at)) (insert g r.name r.generation) r.name
  listed-free hs g at q r w l less is = let out = not_on hs at r.name l.ks q w l.way is in record {
    ks = r.name ∷ l.ks;
    way = (
      refl,
      at,
      subst (GoesOn at) (sym (this_slab_entry hs r.name (Free r at) less)) refl,
      way_kept hs at r.name (Free r at) l.ks less out l.way,
    );
    once = (out, l.once);
    all = λ k b e free. ((elim (k == r.name) as (λ y. (k == r.name) ≡ y → IsIn k (r.name ∷ l.ks)) [
      | true ↦ λ t. inl (same_name k r.name t)
      | false ↦ λ t. inr (l.all k b
          (sym (get-insert nat_cmp_total g r.name r.generation k ∙ ap (λ y. cond y (Some r.generation) (get g k)) (unsigned_tied k r.name)
          ∙ ap (λ y. cond y (Some r.generation) (get g k)) t) ∙ e)
          (subst IsFreeIf (other_slab_entry hs r.name (Free r at) less k t) free))
    ]) refl);
  }

  way_free : (hs : List (SlabEntry T)) (at k : ℕ) (ks : List ℕ) → IsWay hs at ks → IsIn k ks → IsFreeAt hs at
  way_free hs at k [] way on = absurd on
  way_free hs at k (j ∷ ks) way on = subst (IsFreeAt hs) (sym way.0) (goes_free way.1 (slab_entry_at hs j) way.2)

  more_slab_entry : (b : ℕ) (hs fs : List (SlabEntry T)) (k : ℕ) → KeepsMark b (slab_entry_at hs k) → slab_entry_at (hs ++ fs) k ≡ slab_entry_at hs k
  more_slab_entry b [] fs k h = absurd h
  more_slab_entry b (x ∷ hs) fs zero h = refl
  more_slab_entry b (x ∷ hs) fs (suc k) h = more_slab_entry b hs fs k h

  -- where the first place isn't free, no place that was given back is: more places at the end are the first ones then
  pub listed-more : {n : ℕ} {cs : List (List Cell)} (hs fs : List (SlabEntry T)) (g : FinMap nat_cmp ℕ) (at first : ℕ)
      → IsSound n cs hs g → AreListed hs g at → (IsFreeAt hs at → ⊥) → AreListed (hs ++ fs) g first
  listed-more hs fs g at first sound l none = record {
    ks = [];
    way = tt;
    once = tt;
    all = λ k b e free. none (way_free hs at k l.ks l.way (l.all k b e (subst IsFreeIf (more_slab_entry b hs fs k (sound.marked k b e)) free)));
  }

  spare_free : (cs : List (List Cell)) (b k : ℕ) (o : Option (SlabEntry T)) → KeepsMark b o → option_map (node_at k) (entry_of cs k o) ≡ None → IsFreeIf o
  spare_free cs b k None keeps e = absurd keeps
  spare_free cs b k (Some (Free r n)) keeps e = refl
  spare_free cs b k (Some (Held r v)) keeps e = absurd cc

  pub spare_first : {n : ℕ} {cs : List (List Cell)} {hs : List (SlabEntry T)} {g : FinMap nat_cmp ℕ} {at : ℕ}
      → IsSound n cs hs g → AreListed hs g at → HasSpare (seen n cs hs g) → IsFreeAt hs at
  unfolding last_given ref_of seen
  spare_first {n} {cs} {hs} {g} {at} sound l h =
      let k = h.name in let marked : get g k ≡ Some h.node.generation = last_mark k (get g k) h.node h.given in
      way_free hs at k l.ks l.way (l.all k h.node.generation marked (spare_free cs h.node.generation k (slab_entry_at hs k) (sound.marked k h.node.generation marked)
      (ap (option_map (node_at k)) (sym (get-map cs hs k)) ∙ h.free)))
