-- What a `Row` owns is taken apart and made, a `&mut` to one is opened and closed, and what a `&` to one shows, at any element type.
-- Assumes `Logic`.
-- Cited by `Row::at`, `Row::into_slots`, `Row::new`, `Row::replace` and `block::open`.
use mathlib.Core.Path.{◌≡◌, refl, sym, ap, ◌∙◌}
use Prim.Native.Nat.{ℕ, ◌+◌, ◌*◌, ◌<◌, ◌^◌}
use mathlib.Core.List.{List, [], ◌∷◌, ◌++◌}
use seplogic.Ra.Ura.{Ura}
use base.Fraction.{full_share}
use mir.Syntax.{Width, int_big}
use mir.Val.{Val, vint, vptr, vstruct, vcons, vnil, of_list, Fits}
use base.Logic.{ent, sep, id⊢, never, via, guard_i}
use prog.Wp.{Env}
use types.Run.{Opd}
use base.Stored.{Gv}
use base.Fml.{Lft, GName, Share, Fml, fsep, flt, flft, fobs, fauth, fbor, fobor, fhide}
use types.Logic.{Logic, sem}
use types.Kit.{Goal, Soaks, Step, step, Seq, Item, ‵, ◌⊛◌, ◌$◌, ◌∵◌, !, qed, move, keep, drop, use1, split, rewrite, fsplit, fjoin, fpick, fpack, feq_l}
use types.Kit.{feq_i, flt_l, flt_i, done}
use types.SemTy.{Body}
use denote.RattleType.{RattleType, Valss}
use denote.Memory.{cell_at, mem, hidden_shr}
use denote.RawPtr.{Ptr, RawPtr, block_ptr, ptr_val, in_block, in_a_block}
use denote.Opens.{unhide}
use denote.Steps.{opens, closes, nothing}
use denote.Struct.Lending.{lent_out}
use denote.Struct.Struct.{Struct, within}
use denote.Struct.Owning.{Owning, shape}
use Rattle.core.proofs.mem.Param.{El, R, el_x}
use Rattle.core.specs.Mem.Slots.Ownership.{slots, slots_lent}
use Rattle.core.proofs.slots.Places.{sz}
use Rattle.mi_node.specs.declared.raw.Row.{Row}
use Rattle.mi_node.specs.contracts.raw.Row as C

abbrev pub word_val : Ptr → Val
word_val p = vstruct (vcons (ptr_val p) vnil)

abbrev pub row_val : ℕ → ℕ → Val
row_val b o = word_val (block_ptr b o)

module _ (E : El) where
  abbrev pub owning : Owning
  owning = C.the_type (R E)

  abbrev pub Rr : RattleType
  Rr = C.the_row (R E)

  abbrev pub el_d : Type 0
  el_d = Row (el_x E)

  -- the pointer, as a plain struct
  abbrev pub Word : RattleType
  Word = Struct (shape owning)

  abbrev pub places : el_d → ℕ → ℕ → Fml
  places d b o = slots (R E) (block_ptr b o) d.items d.filled

module _ (E : El) {M : Type 1} {𝓤 : Ura M} {𝓛 : Logic 𝓤} {K : Type 0} {Γ : List (Item 𝓤)} {G : Goal 𝓤 𝓛.H} where
  pub row_had : K → (d : el_d E) (vs : List Val)
      → ((b o : ℕ) → d.at ≡ block_ptr b o → vs ≡ row_val b o ∷ [] → 1024 * sz E < 2 ^ 63 → Seq K 𝓛 (‵ (places E d b o) ∷ Γ) G)
      → Seq K 𝓛 (‵ ((Rr E).own_val d vs) ∷ Γ) G
  row_had t d vs k =
      fsplit t $ fpick t (λ vss. fsplit t $ feq_l t (λ all. fsplit t $ feq_l t (λ e₀. drop t $ fsplit t $ flt_l t (λ fit.
      in_a_block t d.at (λ p. in_block p (slots (R E) p d.items d.filled)) (id⊢ 𝓤 (never 𝓤)) (λ b o e.
      k b o e (all ∙ ((λ i. vstruct (of_list (e₀ i ++ [])) ∷ []) ∙ ap (λ (p : Ptr). word_val p ∷ []) e)) fit)))))

  pub row_made : K → (d : el_d E) (b o : ℕ) → d.at ≡ block_ptr b o → 1024 * sz E < 2 ^ 63
      → Step K 𝓛 (‵ ((Rr E).own_val d (row_val b o ∷ [])) ∷ Γ) G (‵ (places E d b o) ∷ Γ) G
  row_made t d b o at fit = step (λ s.
      flt_i t (1024 * sz E) (2 ^ 63) fit $ fjoin t $
      nothing t $ feq_i t (List Val) (vptr b o ∷ []) (vptr b o ∷ []) refl $ fjoin t $ feq_i t (List Val) (row_val b o ∷ []) (row_val b o ∷ []) refl $ fjoin t $
      fpack t (Valss (shape (owning E)).fields) (within (shape (owning E)) (block_ptr b o, tt) (row_val b o ∷ [])) (vptr b o ∷ [], tt) $ fjoin t $
      rewrite t 0 (λ (p : Ptr). ‵ (fsep ((Word E).own_val (
        p,
        tt,
      ) (row_val b o ∷ [])) (fsep (flt (1024 * sz E) (2 ^ 63)) (in_block p (slots (R E) p d.items d.filled))))) (sym at) refl $ s)

module _ (E : El) {M : Type 1} {𝓤 : Ura M} {𝓛 : Logic 𝓤} {K : Type 0} {Γ : List (Item 𝓤)} {G : Goal 𝓤 𝓛.H} where
  -- [the places; the pointer; the open borrow; obs; auth]
  pub row_opens : K → Soaks G → {κ : Lft} {q : Share} {γ : GName} (d : el_d E) (rb ro : ℕ)
      → ((b o : ℕ) → d.at ≡ block_ptr b o → 1024 * sz E < 2 ^ 63
      → Seq K 𝓛 (‵ (places E d b o) ∷ ‵ (cell_at full_share (Rr E).mir (row_val b o ∷ []) rb ro)
      ∷ ‵ (fobor κ q (Body (mem (Rr E)) rb ro γ)) ∷ ‵ (fobs γ ((Rr E).coded.code d)) ∷ ‵ (fauth γ ((Rr E).coded.code d)) ∷ Γ) G)
      → Seq K 𝓛 (‵ (fobs γ ((Rr E).coded.code d)) ∷ ‵ (fbor κ (Body (mem (Rr E)) rb ro γ)) ∷ ‵ (flft κ q) ∷ Γ) G
  row_opens t z d rb ro k =
      opens t z (Rr E) {h = d} rb ro (λ vs. move t (1 ∷ []) $ row_had E t d vs (λ b o e is fit.
      rewrite t 1 (λ (ws : List Val). ‵ (cell_at full_share (Rr E).mir ws rb ro)) is refl $ k b o e fit))

  pub row_closes : K → Soaks G → {κ : Lft} {q : Share} {u v : Gv} {γ : GName} (d : el_d E) (b o rb ro : ℕ) → d.at ≡ block_ptr b o → 1024 * sz E < 2 ^ 63
      → Step K 𝓛 (‵ (fobs γ ((Rr E).coded.code d)) ∷ ‵ (fbor κ (Body (mem (Rr E)) rb ro γ)) ∷ ‵ (flft κ q) ∷ Γ) G
      (‵ (places E d b o) ∷ ‵ (cell_at full_share (Rr E).mir (row_val b o ∷ []) rb ro)
      ∷ ‵ (fobor κ q (Body (mem (Rr E)) rb ro γ)) ∷ ‵ (fobs γ u) ∷ ‵ (fauth γ v) ∷ Γ) G
  row_closes t z d b o rb ro at fit = step (λ s. row_made E t d b o at fit $ move t (1 ∷ 0 ∷ []) $ closes t z (Rr E) d (row_val b o ∷ []) rb ro $ s)

-- what a `&` to a row shows: the pointer, and a `&` to each element
module _ (E : El) {M : Type 1} {𝓤 : Ura M} (𝓛 : Logic 𝓤) (κ : Lft) where
  pub shown : (d : el_d E) (b o : ℕ) → ent 𝓤 (sem 𝓛 (hidden_shr (Rr E) κ d b o)) (sep 𝓤 (sem 𝓛 (hidden_shr RawPtr κ d.at b (o + 0)))
      (sep 𝓤 (sem 𝓛 (flt (1024 * sz E) (2 ^ 63))) (sem 𝓛 (slots_lent (R E) d.at d.items d.filled κ))))
  shown d b o = qed 𝓛 (‵ (hidden_shr (Rr E) κ d b o) ∷ []) ∵
      use1 𝓛 (‵ (hidden_shr (Word E) κ (d.at, tt) b o) ⊛ ‵ (fhide (C.the_lent (R E) d d.at κ)))
      (lent_out 𝓛 (C.struct (R E)) (C.the_codes (el_x E) (R E).coded) (C.the_heap (R E)) (C.the_lent (R E)) κ d b o) $ split ! $
      unhide ! $ fsplit ! $ fsplit ! $ keep ! (0 ∷ 3 ∷ []) $ done !

module _ {M : Type 1} {𝓤 : Ura M} {𝓛 : Logic 𝓤} {K : Type 0} {Γ : List (Item 𝓤)} {V : Env 𝓤 𝓛.H} where
  -- a constant that is not small
  pub big_lit : K → {w : Width} {n : ℕ} → Fits w n → Opd K 𝓛 Γ V (int_big w n) (vint w n)
  big_lit t {w} {n} z = record { go = λ Kt h. via 𝓤 (Kt (vint w n)) h (guard_i 𝓤 (Fits w n) (Kt (vint w n)) z) }
