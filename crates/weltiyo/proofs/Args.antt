-- The arguments of an export that it hands on to its safe function: what type each has in either, and that it is the same. Assumes `Logic`.
-- Cited by `cursors::weltiyo_at_rank_id`, `cursors::weltiyo_field_of`, `cursors::weltiyo_find_id`, `cursors::weltiyo_first_id` and 39 more.
use Rattle.std.proofs.Common.{◌≡◌, ℕ, suc, List, [], ◌∷◌, ◌++◌, refl, ap, ap₂}
use seplogic.Ra.Ura.{Ura}
use base.Fml.{fsep}
use mir.Syntax.{Width, named}
use mir.Val.{Val}
use contract.Lifetimes.{Lfts, Within}
use types.Logic.{Logic}
use denote.Builtin.{One, SliceRefOf, SliceRefMutOf}
use denote.Exit.{yes, Last, left}
use denote.Laws.{Is, Ises, Tells, Spells, Tellss, Lawful, Lawfuls}
use denote.Plain.{UInt, uint_vals, uint_Tells, uint_Lawful}
use denote.RattleType.{RattleType, Denots, Valss, flat, owns}
use denote.Signature.{Slot, plain, types_at, meet_at}
use denote.Signed.{SInt, sint_vals, sint_Tells, sint_Lawful}
use denote.Slice.{shr_slice_vals, shr_slice_Tells, shr_slice_Lawful, mut_slice_vals, mut_slice_Tells, mut_slice_Lawful}
use denote.Triple.End.{Fins, all, lasts_of}

-- An argument of a function of n lifetimes. The safe function has one more, the engine's, which stands first.
pub record Arg (n : ℕ) : Type 3 where
  pub outer : Slot n
  pub inner : Slot (suc n)
  pub spell : (κs : Lfts n) → (outer.row κs).Denot → List Val
  pub tells : (κs : Lfts n) → Tells (outer.row κs) (Is (outer.row κs)) (spell κs)
  pub lawful : {M : Type 1} {𝓤 : Ura M} (𝓛 : Logic 𝓤) (κs : Lfts n) → Lawful 𝓛 (outer.row κs)
  pub arg : (κs : Lfts n) (α : ℕ) → (outer.row κs).Denot → (inner.row (α ∷ [], κs)).Denot
  pub fin : (κs : Lfts n) (α : ℕ) (x : (outer.row κs).Denot) → Last ((inner.row (α ∷ [], κs)).exit yes) (arg κs α x) → Last ((outer.row κs).exit yes) x
  pub own : (κs : Lfts n) (α : ℕ) (x : (outer.row κs).Denot) (vs : List Val) → (outer.row κs).own_val x vs ≡ (inner.row (α ∷ [], κs)).own_val (arg κs α x) vs
  pub end : (κs : Lfts n) (α : ℕ) (x : (outer.row κs).Denot) (w : Last ((inner.row (α ∷ [], κs)).exit yes) (arg κs α x)) → left ((inner.row (α ∷ [], κs)).exit yes) (arg κs α x) w ≡ left ((outer.row κs).exit yes) x (fin κs α x w)

module _ {n : ℕ} where
  abbrev pub number : Width → Arg n
  number w = record {
    outer = plain (λ _. UInt w);
    inner = plain (λ _. UInt w);
    spell = λ κs. uint_vals w;
    tells = λ κs. uint_Tells w;
    lawful = λ 𝓛 κs. uint_Lawful 𝓛 w;
    arg = λ κs α x. x;
    fin = λ κs α x w. w;
    own = λ κs α x vs. refl;
    end = λ κs α x w. refl;
  }

  abbrev pub signed : Width → Arg n
  signed w = record {
    outer = plain (λ _. SInt w);
    inner = plain (λ _. SInt w);
    spell = λ κs. sint_vals w;
    tells = λ κs. sint_Tells w;
    lawful = λ 𝓛 κs. sint_Lawful 𝓛 w;
    arg = λ κs α x. x;
    fin = λ κs α x w. w;
    own = λ κs α x vs. refl;
    end = λ κs α x w. refl;
  }

  -- at the lifetime j
  abbrev pub slice : (R : RattleType) → One R.mir → (j : ℕ) → Within n j → Arg n
  slice R one j ok = record {
    outer = SliceRefOf (j ∷ []) ok (plain (λ _. R)) (λ _. one);
    inner = SliceRefOf (suc j ∷ []) ok (plain (λ _. R)) (λ _. one);
    spell = λ κs. shr_slice_vals;
    tells = λ κs. shr_slice_Tells (named j) (meet_at n (j ∷ []) ok κs) R;
    lawful = λ 𝓛 κs. shr_slice_Lawful 𝓛 (named j) (meet_at n (j ∷ []) ok κs) R;
    arg = λ κs α x. x;
    fin = λ κs α x w. w;
    own = λ κs α x vs. refl;
    end = λ κs α x w. refl;
  }

  abbrev pub buffer : (R : RattleType) → One R.mir → (j : ℕ) → Within n j → Arg n
  buffer R one j ok = record {
    outer = SliceRefMutOf (j ∷ []) ok (plain (λ _. R)) (λ _. one);
    inner = SliceRefMutOf (suc j ∷ []) ok (plain (λ _. R)) (λ _. one);
    spell = λ κs. mut_slice_vals;
    tells = λ κs. mut_slice_Tells (named j) (meet_at n (j ∷ []) ok κs) R;
    lawful = λ 𝓛 κs. mut_slice_Lawful 𝓛 (named j) (meet_at n (j ∷ []) ok κs) R;
    arg = λ κs α x. x;
    fin = λ κs α x w. w;
    own = λ κs α x vs. refl;
    end = λ κs α x w. refl;
  }

  -- ---- of all
  abbrev pub outers : List (Arg n) → List (Slot n)
  outers [] = []
  outers (p ∷ ps) = p.outer ∷ outers ps

  abbrev pub inners : List (Arg n) → List (Slot (suc n))
  inners [] = []
  inners (p ∷ ps) = p.inner ∷ inners ps

  module _ (κs : Lfts n) where
    abbrev pub spells : (ps : List (Arg n)) → Spells (types_at (outers ps) κs)
    spells [] = tt
    spells (p ∷ ps) = (p.spell κs, spells ps)

    abbrev pub all_tells : (ps : List (Arg n)) → Tellss (types_at (outers ps) κs) (Ises (types_at (outers ps) κs)) (spells ps)
    all_tells [] = tt
    all_tells (p ∷ ps) = (p.tells κs, all_tells ps)

    abbrev pub lawfuls : {M : Type 1} {𝓤 : Ura M} (𝓛 : Logic 𝓤) (ps : List (Arg n)) → Lawfuls 𝓛 (types_at (outers ps) κs)
    lawfuls 𝓛 [] = tt
    lawfuls 𝓛 (p ∷ ps) = (p.lawful 𝓛 κs, lawfuls 𝓛 ps)

    module _ (α : ℕ) where
      abbrev pub args : (ps : List (Arg n)) → Denots (types_at (outers ps) κs) → Denots (types_at (inners ps) (α ∷ [], κs))
      args [] a = tt
      args (p ∷ ps) a = (p.arg κs α a.0, args ps a.1)

      abbrev pub vals : (ps : List (Arg n)) → Valss (types_at (outers ps) κs) → Valss (types_at (inners ps) (α ∷ [], κs))
      vals [] vss = tt
      vals (p ∷ ps) vss = (vss.0, vals ps vss.1)

      abbrev pub fins : (ps : List (Arg n)) (a : Denots (types_at (outers ps) κs)) → Fins (α ∷ [], κs) (inners ps) (all yes (inners ps)) (args ps a) → Fins κs (outers ps) (all yes (outers ps)) a
      fins [] a ws = tt
      fins (p ∷ ps) a ws = (p.fin κs α a.0 ws.0, fins ps a.1 ws.1)

      pub same_vals : (ps : List (Arg n)) (vss : Valss (types_at (outers ps) κs)) → flat (types_at (inners ps) (α ∷ [], κs)) (vals ps vss) ≡ flat (types_at (outers ps) κs) vss
      same_vals [] vss = refl
      same_vals (p ∷ ps) vss = ap (λ (vs : List Val). vss.0 ++ vs) (same_vals ps vss.1)

      pub same_owns : (ps : List (Arg n)) (a : Denots (types_at (outers ps) κs)) (vss : Valss (types_at (outers ps) κs)) → owns (types_at (outers ps) κs) a vss ≡ owns (types_at (inners ps) (α ∷ [], κs)) (args ps a) (vals ps vss)
      same_owns [] a vss = refl
      same_owns (p ∷ ps) a vss = ap₂ fsep (p.own κs α a.0 vss.0) (same_owns ps a.1 vss.1)

      pub same_ends : (ps : List (Arg n)) (a : Denots (types_at (outers ps) κs)) (ws : Fins (α ∷ [], κs) (inners ps) (all yes (inners ps)) (args ps a))
          → lasts_of (α ∷ [], κs) (inners ps) (all yes (inners ps)) (args ps a) ws ≡ lasts_of κs (outers ps) (all yes (outers ps)) a (fins ps a ws)
      same_ends [] a ws = refl
      same_ends (p ∷ ps) a ws = ap₂ fsep (p.end κs α a.0 ws.0) (same_ends ps a.1 ws.1)
