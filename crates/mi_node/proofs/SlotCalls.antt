-- The two calls that turn `core`'s slots into memory and back, as steps of a walk, at any element type.
--     Places, memory      the type of slots, and what places from a block's offset on own
--     into_asks, into_gives      `into_raw_parts`: what the call asks is made of the slots, and what it leaves is their memory
--     from_asks, from_gives      `from_raw_parts`: what the call asks is made of memory, and what it leaves is slots of it
-- Each step has a share of the lifetime in which the call runs beside what is handed over, and gives it back.
-- Assumes `Logic`.
-- Cited by `Row::into_slots`, `Row::new`, `block::close`, `block::open` and `BlockSteps`.
use mathlib.Core.Path.{◌≡◌, refl, sym, subst, ap, ◌∙◌}
use mathlib.Core.Bool.{Bool}
use Prim.Native.Nat.{ℕ, ◌*◌, ◌<◌, ◌^◌}
use mathlib.Core.List.{List, [], ◌∷◌, ◌++◌}
use lib.Dec.{T}
use lib.ListN.{length}
use seplogic.Ra.Ura.{Ura}
use mir.Syntax.{w64}
use mir.Val.{Val, vint, vptr, vstruct, of_list, has_ty, WT}
use base.Logic.{emp, id⊢}
use base.Fml.{Lft, Share, Fml, ftrue, fsep, flft}
use prog.Memory.{Memory}
use prog.Routine.{Routine}
use types.Logic.{Logic}
use contract.BorrowLft.{◌⊑◌}
use contract.Monad.{Fun, fact, fact_i}
use types.Kit.{Goal, Soaks, Step, step, Seq, Item, ‵, raw, ◌⊛◌, some, later, ◌$◌, move, drop, use0, use1, split, split3, join, pick, rewrite, await}
use types.Kit.{fsplit, fsplit3, fjoin, fjoin3, fpick, feq_l, feq_i, flt_i}
use denote.RattleType.{RattleType}
use denote.Builtin.{usize}
use denote.Param.{layout}
use denote.RawPtr.{Ptr, RawPtr, block_ptr, in_block}
use denote.Steps.{only, heard, nothing}
use denote.Struct.Tuple.{Tuple}
use denote.Triple.Spec.{triple_of}
use denote.Triple.Statement.{Contract}
use Rattle.core.specs.Mem.Slots.{slots_items, slots_filled, slots_ptr, slots_len}
use Rattle.core.specs.Mem.Slots.Ownership.{slots, owned}
use Rattle.core.specs.contracts.slots.Slots.from_raw_parts as F
use Rattle.core.specs.contracts.slots.Slots.into_raw_parts as I
use Rattle.core.proofs.mem.Param.{El, el_x, R}
use Rattle.core.proofs.slots.Opens.{Sr, words_val, row_val, row_had, row_made}
use Rattle.core.proofs.slots.Places.{sz}

-- a pointer and a count, which slots are too when the program runs
abbrev pub Parts : RattleType
Parts = Tuple (RawPtr ∷ usize ∷ [])

pub parts_typed : {v : Val} (b o n : ℕ) → n < 2 ^ 64 → v ≡ row_val b o n → T (has_ty (layout Parts) v) × WT v
parts_typed b o n few e = subst (λ (u : Val). T (has_ty (layout Parts) u) × WT u) (sym e) (tt, (tt, (record { fits = few }, tt)))

module _ (E : El) where
  abbrev pub Places : RattleType
  Places = Sr E

  abbrev pub memory : ℕ → ℕ → List (el_x E) → List Bool → Fml
  memory b o xs fs = slots (R E) (block_ptr b o) xs fs

  pub places_typed : {v : Val} (b o n : ℕ) → n < 2 ^ 64 → v ≡ row_val b o n → T (has_ty (layout Places) v) × WT v
  places_typed b o n few e = subst (λ (u : Val). T (has_ty (layout Places) u) × WT u) (sym e) (tt, (tt, (record { fits = few }, tt)))

module _ (E : El) {M : Type 1} {𝓤 : Ura M} {𝓛 : Logic 𝓤} {K : Type 0} {Γ : List (Item 𝓤)} {G : Goal 𝓤 𝓛.H} where
  -- how slots are spelled is learned, and they stay
  pub spelled : K → (r : (Places E).Denot) {vs : List Val}
      → ((b o : ℕ) → slots_ptr r ≡ block_ptr b o → vs ≡ row_val b o (slots_len r) ∷ [] → slots_len r < 2 ^ 64 → slots_len r * sz E < 2 ^ 63
      → Seq K 𝓛 (‵ ((Places E).own_val r (row_val b o (slots_len r) ∷ [])) ∷ Γ) G)
      → Seq K 𝓛 (‵ ((Places E).own_val r vs) ∷ Γ) G
  spelled t r {vs} k = row_had E t r vs (λ b o at e few fit. row_made E t r b o at few fit $ k b o at e few fit)

module _ (E : El) {M : Type 1} {𝓤 : Ura M} (𝓛 : Logic 𝓤) (at_mem : Memory → base.Logic.SProp 𝓤) (run : Routine → Fun 𝓤) where
  abbrev pub Into : Contract 𝓤
  Into = triple_of 𝓛 (I.signature E.row) (I.spec E.row 𝓛 at_mem run)

  abbrev pub From : Contract 𝓤
  From = triple_of 𝓛 (F.signature E.row) (F.spec E.row 𝓛 at_mem run)

  module _ (κ : Lft) (q : Share) where
    abbrev pub into_at : (Places E).Denot → ℕ → ℕ → Into.Ghost
    into_at r b o = (((κ, tt), (q, tt), tt, (r, tt), (row_val b o (slots_len r) ∷ [], tt)), tt)

    abbrev pub from_at : ℕ → ℕ → ℕ → List (el_x E) → List Bool → From.Ghost
    from_at b o n xs fs = (((κ, tt), (q, tt), tt, (block_ptr b o, (n, tt)), (vptr b o ∷ [], (vint w64 n ∷ [], tt))), (xs, fs))

    -- the slots that are made of memory
    abbrev pub IsOf : ℕ → ℕ → ℕ → List (el_x E) → List Bool → (Places E).Denot → Type 0
    IsOf b o n xs fs r = (slots_ptr r ≡ block_ptr b o) × (slots_len r ≡ n) × (slots_items r ≡ xs) × (slots_filled r ≡ fs)

    module _ {K : Type 0} {Γ : List (Item 𝓤)} {G : Goal 𝓤 𝓛.H} where
      pub into_asks : K → (r : (Places E).Denot) (b o : ℕ) → κ ⊑ E.row.lives
          → Step K 𝓛 (raw (Into.pre (into_at r b o)) ∷ Γ) G (‵ ((Places E).own_val r (row_val b o (slots_len r) ∷ [])) ∷ ‵ (flft κ q) ∷ Γ) G
      into_asks t r b o le = step (λ s.
          nothing t $ move t (1 ∷ 0 ∷ []) $ fjoin t $
          nothing t $ move t (2 ∷ 0 ∷ []) $ join t $ join t $
          nothing t $ use0 𝓛 (raw (fact 𝓤 (κ ⊑ E.row.lives))) (fact_i 𝓤 (κ ⊑ E.row.lives) (emp 𝓤) le) $ join t $
          move t (1 ∷ []) $ join t $ use1 𝓛 (raw (Into.pre (into_at r b o))) (id⊢ 𝓤 _) $ s)

      pub into_gives : K → Soaks G → (r : (Places E).Denot) (b o : ℕ) (v : Val) → slots_ptr r ≡ block_ptr b o
          → (v ≡ row_val b o (slots_len r) → Seq K 𝓛 (‵ (memory E b o (slots_items r) (slots_filled r)) ∷ ‵ (flft κ q) ∷ Γ) G)
          → Seq K 𝓛 (raw (Into.post (into_at r b o) v) ∷ Γ) G
      into_gives t z r b o v at k =
          let Are : Parts.Denot → Type 0 = λ p. (p.0 ≡ slots_ptr r) × (p.1 ≡ slots_len r) in
          use1 𝓛 (later (some (λ (p : Parts.Denot). ((‵ (flft κ q) ⊛ ‵ ftrue) ⊛ ‵ (Parts.own_val p (v ∷ []))) ⊛ some (λ (_ : Unit {0} × Unit {0}).
          ‵ (fsep ftrue ftrue) ⊛ raw (fact 𝓤 (Are p)) ⊛ ‵ (owned (R E) (slots_ptr r) (slots_len r) (slots_items r) (slots_filled r)))))) (id⊢ 𝓤 _) $
          await t z $ pick t (λ p. split t $ split t $ split t $ move t (3 ∷ []) $ pick t (λ _. split3 t $ drop t $ heard t (Are p) (λ are.
          fsplit t $ drop t $ rewrite t 0 (λ (y : Ptr). ‵ (in_block y (slots (R E) y (slots_items r) (slots_filled r)))) at refl $
          -- [the memory; the share; nothing; the pair]
          move t (3 ∷ []) $ fpick t (λ _. fsplit t $ feq_l t (λ whole. fsplit3 t $ feq_l t (λ first. fsplit t $ feq_l t (λ second.
          drop t $ drop t $ move t (2 ∷ []) $ drop t $
          k (ap only whole ∙ (λ i. vstruct (of_list (first i ++ (second i ++ [])))) ∙ (λ i. words_val ((are.0 ∙ at) i) (are.1 i))))))))))

      pub from_asks : K → (b o n : ℕ) (xs : List (el_x E)) (fs : List Bool) → κ ⊑ E.row.lives → n ≡ length xs → n ≡ length fs
          → n < 2 ^ 64 → n * sz E < 2 ^ 63
          → Step K 𝓛 (raw (From.pre (from_at b o n xs fs)) ∷ Γ) G (‵ (memory E b o xs fs) ∷ ‵ (flft κ q) ∷ Γ) G
      from_asks t b o n xs fs le items filled few fit = step (λ s.
          let Long : Type 0 = (n ≡ length xs) × (n ≡ length fs) in
          flt_i t (n * sz E) (2 ^ 63) fit $ fjoin t $ use0 𝓛 (raw (fact 𝓤 Long)) (fact_i 𝓤 Long (emp 𝓤) (items, filled)) $ join t $
          use0 𝓛 (raw (fact 𝓤 (κ ⊑ E.row.lives))) (fact_i 𝓤 (κ ⊑ E.row.lives) (emp 𝓤) le) $ join t $
          -- [what is required; the share]
          nothing t $ flt_i t n (2 ^ 64) few $ feq_i t (List Val) (vint w64 n ∷ []) (vint w64 n ∷ []) refl $ fjoin t $
          feq_i t (List Val) (vptr b o ∷ []) (vptr b o ∷ []) refl $ fjoin3 t $ nothing t $ move t (3 ∷ 0 ∷ []) $ join t $ join t $
          join t $ use1 𝓛 (raw (From.pre (from_at b o n xs fs))) (id⊢ 𝓤 _) $ s)

      pub from_gives : K → Soaks G → (b o n : ℕ) (xs : List (el_x E)) (fs : List Bool) (v : Val)
          → ((r : (Places E).Denot) → v ≡ row_val b o n → IsOf b o n xs fs r → Seq K 𝓛 (‵ ((Places E).own_val r (row_val b o n ∷ [])) ∷ ‵ (flft κ q) ∷ Γ) G)
          → Seq K 𝓛 (raw (From.post (from_at b o n xs fs) v) ∷ Γ) G
      from_gives t z b o n xs fs v k =
          use1 𝓛 (later (some (λ (r : (Places E).Denot). ((‵ (flft κ q) ⊛ ‵ ftrue) ⊛ ‵ ((Places E).own_val r (v ∷ [])))
          ⊛ some (λ (_ : Unit {0} × (Unit {0} × Unit {0})).
          ‵ (fsep ftrue (fsep ftrue ftrue)) ⊛ raw (fact 𝓤 (IsOf b o n xs fs r)))))) (id⊢ 𝓤 _) $
          await t z $ pick t (λ r. split t $ split t $ split t $ move t (3 ∷ []) $ pick t (λ _. split t $ drop t $ heard t (IsOf b o n xs fs r) (λ is.
          -- [the share; nothing; the slots]
          move t (2 ∷ []) $ spelled E t r (λ b' o' at e few fit.
          let same : row_val b' o' (slots_len r) ≡ row_val b o n = λ i. words_val ((sym at ∙ is.0) i) (is.1 i) in
          rewrite t 0 (λ (u : Val). ‵ ((Places E).own_val r (u ∷ []))) same refl $ move t (2 ∷ []) $ drop t $ k r (ap only e ∙ same) is))))
