-- The orders of indexes after their own lists changed.
-- Cited by `EraseLemmas`, `InsertedLemmas`, `PutLemmas`, `RelocateLemmas` and `TakeBackEraseLemmas`.
use Rattle.std.proofs.Common.{◌≡◌, ◌≢◌, ℕ, zero, suc, true, List, [], ◌∷◌, map, get_or, set, refl, ap, ◌∙◌, arith}
use Rattle.mi_value.specs.declared.compare.KeyPart.{KeyPart}
use Rattle.mi_catalog.specs.declared.index.Index.{Index}
use Rattle.mi_catalog.specs.declared.index.IndexKind.{IndexKind}
use Rattle.mi_catalog.specs.declared.index.IndexKind.TheVariants.{Ordered, Ranked, Hashed, Sequenced}
use Rattle.mi_catalog.specs.Kinds.{is_sequenced}
use Rattle.mi_container.specs.Data.{Node, Link, Order}
use Rattle.mi_container.specs.Data.Order.{ById, ByKey, ByHash, Listed}
use Rattle.mi_container.specs.Changes.{in_order, sorted_order}
use Rattle.mi_container.specs.Inverse.{id_of_ref, relinked}
use Rattle.mi_model.specs.Change.{stand}
use Rattle.mi_multi.specs.Physical.{order_of, orders_of}
use Rattle.mi_multi.specs.Alike.{SeqBy}

sorted_still : (ps : List KeyPart) (f : List ℕ → List ℕ) → sorted_order ps ≡ in_order f (sorted_order ps)
sorted_still [] f = refl
sorted_still (p ∷ ps) f = refl

order_by : (kind : IndexKind) (ps : List KeyPart) (f : List ℕ → List ℕ) (l u : List ℕ)
    → (is_sequenced kind ≡ true → u ≡ f l) → order_of kind ps u ≡ in_order f (order_of kind ps l)
order_by Ordered ps f l u is = sorted_still ps f
order_by Ranked ps f l u is = sorted_still ps f
order_by Hashed ps f l u is = refl
order_by Sequenced ps f l u is = ap Listed (is refl)

order_same : (o : Order) → in_order (λ l. l) o ≡ o
order_same ById = refl
order_same (ByKey ps) = refl
order_same (ByHash ps) = refl
order_same (Listed l) = refl

-- no change
pub orders_same : (os : List Order) → map (in_order (λ l. l)) os ≡ os
orders_same [] = refl
orders_same (o ∷ os) = (λ i. order_same o i ∷ orders_same os i)

-- the same change in each
pub orders_map : (f : List ℕ → List ℕ) (g : ℕ → List ℕ → List ℕ) (is : List Index) (ls us : List (List ℕ))
    → ((k : ℕ) → g k ≡ f) → SeqBy g is ls us → orders_of is us ≡ map (in_order f) (orders_of is ls)
orders_map f g [] ls us all by = refl
orders_map f g (i ∷ is) [] us all by = absurd by
orders_map f g (i ∷ is) (l ∷ ls) [] all by = absurd by
orders_map f g (i ∷ is) (l ∷ ls) (u ∷ us) all by =
    (λ j. order_by i.kind i.parts f l u (λ h. by.0 h ∙ ap (λ (w : List ℕ → List ℕ). w l) (all zero)) j
    ∷ orders_map f (λ k. g (suc k)) is ls us (λ k. all (suc k)) by.1 j)

-- one change in the index of number x, and another in all others
pub orders_set : (f h : List ℕ → List ℕ) (x : ℕ) (g : ℕ → List ℕ → List ℕ) (is : List Index) (ls us : List (List ℕ))
    → g x ≡ h → ((k : ℕ) → k ≢ x → g k ≡ f) → SeqBy g is ls us
    → orders_of is us ≡ set (map (in_order f) (orders_of is ls)) x (in_order h (get_or (orders_of is ls) x ById))
orders_set f h x g [] ls us at others by = refl
orders_set f h x g (i ∷ is) [] us at others by = absurd by
orders_set f h x g (i ∷ is) (l ∷ ls) [] at others by = absurd by
orders_set f h zero g (i ∷ is) (l ∷ ls) (u ∷ us) at others by =
    (λ j. order_by i.kind i.parts h l u (λ is_. by.0 is_ ∙ ap (λ (w : List ℕ → List ℕ). w l) at) j
    ∷ orders_map f (λ k. g (suc k)) is ls us (λ k. others (suc k) (λ e. let bad : suc k ≡ zero = e in absurd (omega arith))) by.1 j)
orders_set f h (suc x) g (i ∷ is) (l ∷ ls) (u ∷ us) at others by =
    let first : g zero ≡ f = others zero (λ e. let bad : zero ≡ suc x = e in absurd (omega arith)) in
    (λ j. order_by i.kind i.parts f l u (λ is_. by.0 is_ ∙ ap (λ (w : List ℕ → List ℕ). w l) first) j
    ∷ orders_set f h x (λ k. g (suc k)) is ls us at (λ k ne. others (suc k) (λ e. let same : k ≡ x = omega arith in ne same)) by.1 j)

-- as many links as indexes
abbrev pub Enough : List Index → List Link → Type 0
Enough [] ls = Unit {0}
Enough (i ∷ is) [] = ⊥
Enough (i ∷ is) (l ∷ ls) = Enough is ls

-- an id stands again before the neighbour that a link names
pub orders_relinked : (rows : List (ℕ × Node)) (e : ℕ) (links : List Link) (none : Link) (g : ℕ → List ℕ → List ℕ) (is : List Index) (ls us : List (List ℕ))
    → ((k : ℕ) → g k ≡ stand (id_of_ref rows (get_or links k none).forth) e) → SeqBy g is ls us
    → Enough is links → orders_of is us ≡ relinked rows e links (orders_of is ls)
orders_relinked rows e [] none g [] ls us all by long = refl
orders_relinked rows e (q ∷ links) none g [] ls us all by long = refl
orders_relinked rows e [] none g (i ∷ is) ls us all by long = absurd long
orders_relinked rows e (q ∷ links) none g (i ∷ is) [] us all by long = absurd by
orders_relinked rows e (q ∷ links) none g (i ∷ is) (l ∷ ls) [] all by long = absurd by
orders_relinked rows e (q ∷ links) none g (i ∷ is) (l ∷ ls) (u ∷ us) all by long =
    (λ j. order_by i.kind i.parts (stand (id_of_ref rows q.forth) e) l u (λ h. by.0 h ∙ ap (λ (w : List ℕ → List ℕ). w l) (all zero)) j
    ∷ orders_relinked rows e links none (λ k. g (suc k)) is ls us (λ k. all (suc k)) by.1 long j)
