-- What a `Block` owns is taken apart and made. Assumes `Logic`.
-- Cited by `block::close` and `block::open`.
use mathlib.Core.Path.{◌≡◌, refl, ap, ◌∙◌}
use Prim.Native.Nat.{ℕ, ◌<◌, ◌^◌}
use mathlib.Core.List.{List, [], ◌∷◌, ◌++◌}
use lib.Dec.{T}
use seplogic.Ra.Ura.{Ura}
use mir.Syntax.{Ty, ty_ptr, ty_struct, tcons, tnil}
use mir.Val.{Val, vptr, vstruct, vcons, vnil, of_list, has_ty, WT}
use base.Logic.{id⊢, never}
use base.Fml.{Fml}
use types.Logic.{Logic}
use types.Kit.{Item, Goal, Seq, Step, step, ‵, ◌$◌, move, drop, fsplit, fjoin, fjoin3, fpick, fpack}
use types.Kit.{feq_l, feq_i}
use denote.RattleType.{RattleType, Valss}
use denote.Array.{Array}
use denote.Param.{layout}
use denote.Param.Laws.{Laws}
use mir.Syntax.{Dict}
use Rattle.core.specs.declared.alloc.Allocator.{Ghosts}
use denote.RawPtr.{Ptr, RawPtr, block_ptr, ptr_val, in_a_block}
use denote.Steps.{nothing}
use denote.Struct.Declared as Declared
use denote.Struct.Struct.{within}
use denote.Struct.Tuple.{Tuple, tuple_type}
use denote.Struct.Owning.{Owning, shape}
use Rattle.core.proofs.alloc.Calls.{α, token, Fits, handle_tells}
use Rattle.core.proofs.mem.Param.{El}
use Rattle.core.proofs.slots.Opens.{row_val}
use Rattle.std_alloc.proofs.BoxSteps.Form.{Bx, R, P}
use Rattle.std_alloc.proofs.ResultValues.{and_tt}
use Rattle.mi_node.specs.Blocks.{places_type, owned_block}
use Rattle.mi_node.proofs.SlotCalls.{Places}
use Rattle.mi_node.specs.contracts.block.Block as F

-- the box of an element type and of an allocator with its laws
abbrev pub boxed : (T : RattleType) → Laws T → (A : RattleType) → Laws A → Ghosts A.Denot → Dict → Dict → Bx
boxed T L A LA g d drops = record { row = T; laws = L; al = record { row = A; laws = LA; g = g; d = d; drops = drops } }

module _ (E : Bx) where
  -- the element type, as the steps over slots name it
  abbrev pub in_slots : El
  in_slots = record { row = E.row; laws = E.laws }

  abbrev pub Whole : RattleType
  Whole = Array (R E) 1024

  abbrev owning : Owning
  owning = F.the_type (R E) (P E) E.al.g

  abbrev pub Block : RattleType
  Block = F.the_row (R E) (P E) E.al.g

  abbrev pub block_val : Val → Ptr → Val
  block_val hv p = vstruct (vcons (ptr_val p) (vcons hv vnil))

  abbrev pub right : E.al.row.Denot → ℕ → ℕ → Fml
  right a b o = token E.al a (places_type (R E)) (block_ptr b o)

  abbrev pub block_ty : Ty
  block_ty = ty_struct owning.name (tcons ty_ptr (tcons (α E.al) tnil))

  pub block_typed : (hv : Val) (b o : ℕ) → Fits E.al hv → T (has_ty block_ty (block_val hv (block_ptr b o))) × WT (block_val hv (block_ptr b o))
  block_typed hv b o fa = (and_tt (has_ty (α E.al) hv) fa.0, (tt, (fa.1, tt)))

  abbrev pub Pair : RattleType
  Pair = Tuple (Places in_slots ∷ Block ∷ [])

  abbrev pub pair_val : Val → ℕ → ℕ → Val
  pair_val hv b o = vstruct (vcons (row_val b o 1024) (vcons (block_val hv (block_ptr b o)) vnil))

  pub pair_typed : (hv : Val) (b o : ℕ) → 1024 < 2 ^ 64 → Fits E.al hv → T (has_ty (layout Pair) (pair_val hv b o)) × WT (pair_val hv b o)
  pair_typed hv b o few fa =
      let typed = block_typed hv b o fa in
      (and_tt (has_ty block_ty (block_val hv (block_ptr b o))) typed.0, ((tt, (record { fits = few }, tt)), (typed.1, tt)))

  module _ {M : Type 1} {𝓤 : Ura M} {𝓛 : Logic 𝓤} {K : Type 0} {Γ : List (Item 𝓤)} {G : Goal 𝓤 𝓛.H} where
    -- [the right to free the block; the handle]
    pub block_had : K → (d : Block.Denot) (vs : List Val)
        → ((b o : ℕ) (hv : Val) → d.at ≡ block_ptr b o → vs ≡ block_val hv (block_ptr b o) ∷ [] → Fits E.al hv
        → Seq K 𝓛 (‵ (right d.alloc b o) ∷ ‵ (E.al.row.own_val d.alloc (hv ∷ [])) ∷ Γ) G)
        → Seq K 𝓛 (‵ (Block.own_val d vs) ∷ Γ) G
    block_had t d vs k =
        fsplit t $ fpick t (λ vss. fsplit t $ feq_l t (λ ev. fsplit t $ feq_l t (λ e₀. fsplit t $
        handle_tells E.al t d.alloc vss.1.0 (λ hv ea fa. move t (1 ∷ []) $ drop t $ move t (1 ∷ []) $
        in_a_block t d.at (λ p. owned_block (token E.al d.alloc) (R E) p) (id⊢ 𝓤 (never 𝓤)) (λ b o e. k b o hv e
        (ev ∙ ((λ i. vstruct (of_list (e₀ i ++ (ea i ++ []))) ∷ []) ∙ ap (λ (p : Ptr). block_val hv p ∷ []) e)) fa)))))

    pub block_made : K → {hv : Val} (a : E.al.row.Denot) (b o : ℕ)
        → Step K 𝓛 (‵ (Block.own_val (record { at = block_ptr b o; alloc = a }) (block_val hv (block_ptr b o) ∷ [])) ∷ Γ) G
        (‵ (right a b o) ∷ ‵ (E.al.row.own_val a (hv ∷ [])) ∷ Γ) G
    block_made t {hv} a b o = step (λ s.
        let v : Val = block_val hv (block_ptr b o) in
        nothing t $ move t (2 ∷ 0 ∷ []) $ fjoin t $ feq_i t (List Val) (vptr b o ∷ []) (vptr b o ∷ []) refl $ fjoin t $
        feq_i t (List Val) (v ∷ []) (v ∷ []) refl $ fjoin t $
        fpack t (Valss (RawPtr ∷ P E ∷ [])) (within (shape owning) (block_ptr b o, (a, tt)) (v ∷ [])) (vptr b o ∷ [], (hv ∷ [], tt)) $ fjoin t $ s)

    pub pair_made : K → (r : (Places in_slots).Denot) (d : Block.Denot) (b o : ℕ) (hv : Val)
        → Step K 𝓛 (‵ (Pair.own_val (r, d) (pair_val hv b o ∷ [])) ∷ Γ) G
        (‵ ((Places in_slots).own_val r (row_val b o 1024 ∷ [])) ∷ ‵ (Block.own_val d (block_val hv (block_ptr b o) ∷ [])) ∷ Γ) G
    pair_made t r d b o hv = step (λ s.
        let v : Val = pair_val hv b o in
        nothing t $ move t (1 ∷ 2 ∷ 0 ∷ []) $ fjoin3 t $ feq_i t (List Val) (v ∷ []) (v ∷ []) refl $ fjoin t $
        fpack t (Valss (Places in_slots ∷ Block ∷ [])) (within (Declared.shape (tuple_type (Places in_slots ∷ Block ∷ []))) (r, (d, tt)) (v ∷ [])) (
          row_val b o 1024 ∷ [],
          (block_val hv (block_ptr b o) ∷ [], tt),
        ) $ s)
