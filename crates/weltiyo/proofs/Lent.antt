-- What every export that lends the engine does: the engine that lies at the pointer is lent to a safe function for the call, with the arguments as they came, and lies there again after it. Assumes `Logic`.
-- Cited by `cursors::weltiyo_at_rank_id`, `cursors::weltiyo_field_of`, `cursors::weltiyo_find_id`, `cursors::weltiyo_first_id` and 39 more.
use Rattle.std.proofs.Common.{◌≡◌, ℕ, suc, List, [], ◌∷◌, ◌++◌, refl, sym, ap, ◌∙◌, MutBor}
use Rattle.std.proofs.raw_atomic.Walks.{proved}
use lib.Dec.{T}
use seplogic.Ra.Ura.{Ura}
use base.Fraction.{full_share}
use base.Logic.{SProp, ent, sep, via, id⊢, never, fst∗, guard, mono_l}
use base.Fml.{Fml, ftrue, fsep, fex, flft, flent}
use mir.Syntax.{named, Ty, ty_unit, Fn, Callee}
use mir.Raw.{raw as bare}
use mir.Val.{Val, vunit, vbool, vint, vfloat, vptr, vstruct, vcode, WT, has_ty}
use contract.Lifetimes.{Lfts, toks}
use contract.Monad.{fact}
use contract.Running.{Running, MachineTables, tables}
use prog.Model.{Model}
use prog.Wp.{WpFn, Closed}
use types.Kit.{Item, mean, given, ‵, raw, ◌⊛◌, some, later, prop, ◌$◌, ◌∵◌, !, qed, by, done, move, drop, keep, use1, use2, use3, split, split3, join, fsplit, fjoin, fpack, pick, await, regoal, rewrite, suffices, updating, now, check, group}
use types.Logic.{Logic, sem}
use types.SemTy.{Body}
use types.Tokens.{lft_new, lft_end}
use denote.Builtin.{RefMutOf}
use denote.Exit.{yes, left}
use denote.Laws.{Typed, Lawful, Is, valss, all_Typed, shows}
use denote.Lend.{lends_ref, ref_back}
use denote.Memory.{mem, part_at, lone}
use denote.RattleType.{RattleType, Denots, Valss, mirs, flat, owns}
use denote.RawPtr.{Ptr, RawPtr, block_ptr, null_ptr, in_a_block, rawptr_vals, rawptr_Tells}
use denote.Ref.{MutRef, mut_vals}
use denote.Signature.{Slot, plain, types_at}
use denote.Steps.{nothing, peeks, heard}
use denote.Triple.Clauses.{Ended, Clauses, Lasts, lasts, at_exit, closing}
use denote.Triple.End.{Kepts, Fins, Outs, all, lasts_of}
use denote.Triple.Spec.{Meets, triple_of}
use denote.Triple.Table.{framed, enters}
use denote.Triple.Walked.{Stays, AllGo, walk_of, fits_of, has_of, ends_at, says}
use Rattle.std_alloc.specs.Box.Ownership.{box_owns}
use Rattle.libc.specs.Heap.{chunk}
use Rattle.mi_embed.specs.State.{EngineState}
use Rattle.mi_embed.specs.contracts.engine.Engine.{the_row as R}
use Rattle.weltiyo.proofs.Args.{Arg, outers, inners, spells, all_tells, lawfuls, args, vals, fins, same_vals, same_owns, same_ends}

pub is_unit : (v : Val) → T (has_ty ty_unit v) → v ≡ vunit
is_unit vunit fits = refl
is_unit (vbool b) fits = absurd fits
is_unit (vint w n) fits = absurd fits
is_unit (vfloat f x) fits = absurd fits
is_unit (vptr b o) fits = absurd fits
is_unit (vstruct vs) fits = absurd fits
is_unit (vcode c) fits = absurd fits

-- of each parameter there is at exit what the callee left of it
module _ {n : ℕ} where
  abbrev pub all_left : (ss : List (Slot n)) (ks : Kepts ss) → Stays ss ks
  all_left [] ks = tt
  all_left (s ∷ ss) ks = (record { fit = λ κs x f. Unit {0}; has = λ κs x f vs. left ((s.row κs).exit ks.0) x f }, all_left ss ks.1)

  all_fit : (κs : Lfts n) (ss : List (Slot n)) (ks : Kepts ss) (a : Denots (types_at ss κs)) (ws : Fins κs ss ks a) → fits_of κs ss ks (all_left ss ks) a ws
  all_fit κs [] ks a ws = tt
  all_fit κs (s ∷ ss) ks a ws = (tt, all_fit κs ss ks.1 a.1 ws.1)

  all_had : (κs : Lfts n) (ss : List (Slot n)) (ks : Kepts ss) (a : Denots (types_at ss κs)) (ws : Fins κs ss ks a) (vss : Valss (types_at ss κs)) → lasts_of κs ss ks a ws ≡ has_of κs ss ks (all_left ss ks) a ws vss
  all_had κs [] ks a ws vss = refl
  all_had κs (s ∷ ss) ks a ws vss = ap (fsep (left ((s.row κs).exit ks.0) a.0 ws.0)) (all_had κs ss ks.1 a.1 ws.1 vss.1)

all_go : {M : Type 1} {𝓤 : Ura M} (𝓛 : Logic 𝓤) (n : ℕ) (ss : List (Slot n)) (ks : Kepts ss) → AllGo 𝓛 n ss ks (all_left ss ks)
all_go 𝓛 n [] ks = tt
all_go 𝓛 n (s ∷ ss) ks = ((λ κs x f vs fits. 𝓛.laws.⇛_intro _), all_go 𝓛 n ss ks.1)

-- a local of the type can hold the value
abbrev pub Fits : Ty → Val → Type 0
Fits τ v = T (has_ty τ v) × WT v

module _ {M : Type 1} {𝓤 : Ura M} where
  abbrev pub after : Ty → (Val → SProp 𝓤) → Val → Item 𝓤
  after τ K v = later (given (Fits τ v) (raw (K v)))

alone_fits : (τs : List Ty) (v : Val) → Typed τs (v ∷ []) → Fits (lone τs) v
alone_fits [] v t = absurd t
alone_fits (τ ∷ []) v t = t.0
alone_fits (τ ∷ σ ∷ τs) v t = absurd t.1

module _ {M : Type 1} {𝓤 : Ura M} (𝓛 : Logic 𝓤) (𝓜 : Model 𝓤 𝓛.H) (𝓡 : Running 𝓤 𝓛.H 𝓜) where
  open 𝓛 use {H}

  abbrev 𝓣 : MachineTables 𝓤 H 𝓜
  𝓣 = tables 𝓤 H 𝓜 𝓡 𝓡.env

  -- what the call of k at the pointer and the values vs is to leave: K of its result, once that is stored
  abbrev pub Asked : Callee → Ty → List Val → ℕ → ℕ → (Val → SProp 𝓤) → SProp 𝓤
  Asked k τ vs b o K = 𝓣.C k (vptr b o ∷ vs) (λ v. mean 𝓛 (after τ K v))

  -- the function e hands the pointer and the values vs on to k, and answers what k answers
  abbrev pub Forwards : Fn → Callee → Ty → List Val → Type 2
  Forwards e k τ vs = (b o : ℕ) (K : Val → SProp 𝓤) → ent 𝓤 (Asked k τ vs b o K) (WpFn 𝓤 H 𝓣.C 𝓣.Λ e (vptr b o ∷ vs) K)

  module _ (n : ℕ) (ts : List (Arg n)) (V : RattleType) where
    abbrev ps : List (Slot n)
    ps = outers ts

    abbrev ps' : List (Slot (suc n))
    ps' = inners ts

    -- the export, and the safe function
    abbrev Outer : Ended
    Outer = record { signature = record { lifetimes = n; outlives = []; params = plain (λ _. RawPtr) ∷ ps; result = plain (λ _. V) }; kept = (yes, all yes ps) }

    abbrev Inner : Ended
    Inner = record { signature = record { lifetimes = suc n; outlives = []; params = RefMutOf (0 ∷ []) tt (plain (λ _. R)) (λ κs. tt) ∷ ps'; result = plain (λ _. V) }; kept = (yes, all yes ps') }

    -- what each says of its return
    module _ (told : (κs : Lfts n) (a : Ptr × Denots (types_at ps κs)) → EngineState → V.Denot → Outs κs Outer.signature.params Outer.kept → SProp 𝓤)
        (said : (κs : Lfts (suc n)) (a : MutBor EngineState × Denots (types_at ps' κs)) → Unit {0} → V.Denot → Outs κs Inner.signature.params Inner.kept → SProp 𝓤) where
      abbrev c : Clauses 𝓤 Outer
      c = λ κs a. record { ghost = EngineState; requires = λ h. sem 𝓛 (box_owns chunk R a.0 h); ensures = told κs a }

      abbrev d : Clauses 𝓤 Inner
      d = λ κs a. record { ghost = Unit {0}; requires = λ _. sem 𝓛 ftrue; ensures = said κs a }

      pub lent : Lawful 𝓛 V → (k : Callee) (e : Fn) → Closed 𝓤 H 𝓣.C 𝓣.Λ k e → (k' : Callee) → Meets 𝓛 Inner.signature (𝓣.C k') (closing 𝓛 Inner d)
          → ((κs : Lfts n) (a : Denots (types_at ps κs)) → Typed (mirs (types_at ps κs)) (flat (types_at ps κs) (valss (types_at ps κs) (spells κs ts) a)) → Forwards e k' (lone V.mir) (flat (types_at ps κs) (valss (types_at ps κs) (spells κs ts) a)))
          → ((κs : Lfts n) (α : ℕ) (a : Denots (types_at ps κs)) (loan : MutBor EngineState) (r : V.Denot) (w : EngineState) (ws : Fins (α ∷ [], κs) ps' (all yes ps') (args κs α ts a)) (p : Ptr)
          → ent 𝓤 (sep 𝓤 (said (α ∷ [], κs) (loan, args κs α ts a) tt r (at_exit Inner (α ∷ [], κs) (loan, args κs α ts a) (w, ws))) (sem 𝓛 (box_owns chunk R p w))) (told κs (p, a) loan.now r (at_exit Outer κs (p, a) (tt, fins κs α ts a ws))))
          → Meets 𝓛 Outer.signature (𝓣.C k) (closing 𝓛 Outer c)
      lent lawful k e closed k' met forwards tell =
          let hs = all_left Outer.signature.params Outer.kept in let W = walk_of 𝓛 Outer hs c in
          proved 𝓛 Outer hs c 𝓜 𝓡 (all_go 𝓛 n Outer.signature.params Outer.kept) k e closed (λ κs. (rawptr_vals, spells κs ts)) (λ κs. (rawptr_Tells, all_tells κs ts)) (λ κs qs bounds a h are.
          let Rs = types_at ps κs in let vss : Valss Rs = valss Rs (spells κs ts) a.1 in
          let y : Ptr → W.Ghost = λ p. ((κs, qs, bounds, (p, a.1), (rawptr_vals p, vss)), h) in
          qed 𝓛 ((raw (toks 𝓛 n κs qs) ⊛ ‵ (owns (RawPtr ∷ Rs) a (y a.0).0.4)) ∷ ‵ (box_owns chunk R a.0 h) ∷ []) ∵ split ! $ move ! (1 ∷ []) $ fsplit ! $ drop ! $ move ! (2 ∷ []) $
          in_a_block ! a.0 (λ p. box_owns chunk R p h) (fst∗ 𝓤 (never 𝓤) (sem 𝓛 (chunk (bare (lone R.mir)) null_ptr))) (λ b o is_at.
          regoal ! (λ p. prop (WpFn 𝓤 H 𝓣.C 𝓣.Λ e (rawptr_vals p ++ flat Rs vss) (W.post (y p)))) is_at refl $
          let P : Val → SProp 𝓤 = W.post (y (block_ptr b o)) in let K : Val → SProp 𝓤 = λ v. H.⇛ (guard 𝓤 (Fits (lone V.mir) v) (P v)) in
          suffices ! _ (forwards κs a.1 (all_Typed 𝓛 Rs (lawfuls κs 𝓛 ts) a.1 vss are.1) b o P) $ suffices ! _ (enters 𝓤 H 𝓜 𝓣 k' (vptr b o ∷ flat Rs vss) K) $ updating ! $
          fsplit ! $
          -- [the engine; the right to free; the other parameters; the tokens]
          lft_new ! tt (λ α. move ! (1 ∷ []) $ use1 𝓛 (later (some (λ (γ : ℕ). ‵ ((MutRef (named 0) (α ∷ []) R).own_val (record { ref_ptr = (b, o); ghost_name = γ; now = h }) (vptr b o ∷ [])) ⊛ ‵ (flent (α ∷ []) (Body (mem R) b o γ)))))
          (lends_ref 𝓛 R (named 0) (α ∷ []) h b o) $ await ! tt $ pick ! (λ γ. split ! $
          -- [the loan; what the lender keeps; the token of α; the right to free; the other parameters; the tokens]
          let loan : MutBor EngineState = record { ref_ptr = (b, o); ghost_name = γ; now = h } in let G = triple_of 𝓛 Inner.signature (closing 𝓛 Inner d) in
          let a' = args κs α ts a.1 in let Rs' = types_at ps' (α ∷ [], κs) in let z : G.Ghost = (((α ∷ [], κs), (full_share, qs), tt, (loan, a'), (mut_vals loan, vals κs α ts vss)), tt) in
          rewrite ! 4 (λ (F : Fml). ‵ F) (same_owns κs α ts a.1 vss) refl $ move ! (0 ∷ 4 ∷ []) $ fjoin ! $ move ! (2 ∷ 4 ∷ []) $ join ! $ move ! (1 ∷ []) $ move ! (1 ∷ 0 ∷ []) $ join ! $ nothing ! $ move ! (1 ∷ 0 ∷ []) $
          use2 𝓛 (raw (G.pre z)) (id⊢ 𝓤 _) $
          -- [what the call asks; what the lender keeps; the right to free]
          now ! $ regoal ! (λ vs. prop (𝓣.C k' (vptr b o ∷ vs) K)) (sym (same_vals κs α ts vss)) refl $
          let S : SProp 𝓤 = sep 𝓤 (sem 𝓛 (flent (α ∷ []) (Body (mem R) b o γ))) (sem 𝓛 (chunk (bare (lone R.mir)) (block_ptr b o))) in
          by ! (via 𝓤 (sep 𝓤 (𝓣.C k' (G.args z) (G.post z)) S) (mono_l 𝓤 S (met z)) (framed 𝓤 H 𝓜 𝓣 k' (G.args z) (G.post z) K S (λ v.
          qed 𝓛 (later (some (λ (r : V.Denot). ((‵ (flft (α ∷ []) full_share) ⊛ raw (toks 𝓛 n κs qs)) ⊛ ‵ (V.own_val r (v ∷ []))) ⊛
          some (λ (ws : Lasts Inner z.0.0 z.0.3). ‵ (lasts Inner z.0.0 z.0.3 ws) ⊛ raw (said z.0.0 z.0.3 tt r (at_exit Inner z.0.0 z.0.3 ws))))) ∷ ‵ (flent (α ∷ []) (Body (mem R) b o γ)) ∷ ‵ (chunk (bare (lone R.mir)) (block_ptr b o)) ∷ []) ∵
          updating ! $ await ! tt $ pick ! (λ r. split ! $ split ! $ split ! $ lft_end ! tt $ move ! (2 ∷ []) $ peeks ! V (Is V) (shows 𝓛 V) r (v ∷ []) (λ is.
          move ! (3 ∷ []) $ pick ! (λ ws. split ! $ fsplit ! $ fsplit ! $
          -- [the loan's last value; its borrow; what is left of the others; what is said; the result; α is over; the tokens; what the lender keeps; the right to free]
          move ! (5 ∷ 7 ∷ 0 ∷ []) $ use3 𝓛 (later (‵ (part_at R full_share ws.0 b o))) (ref_back 𝓛 R (α ∷ []) γ ws.0 b o) $ await ! tt $
          now ! $ check ! (alone_fits V.mir v (lawful.typed r (v ∷ []) is)) $ move ! (0 ∷ 6 ∷ []) $ fjoin ! $ move ! (3 ∷ 0 ∷ []) $ use2 𝓛 (raw (told κs (block_ptr b o, a.1) h r (at_exit Outer κs (block_ptr b o, a.1) (tt, fins κs α ts a.1 ws.1)))) (tell κs α a.1 loan r ws.0 ws.1 (block_ptr b o)) $
          -- [what is told; the loan's borrow; what is left of the others; the result; the tokens]
          rewrite ! 2 (λ (F : Fml). ‵ F) (same_ends κs α ts a.1 ws.1 ∙ all_had κs ps (all yes ps) a.1 (fins κs α ts a.1 ws.1) vss) refl $
          suffices ! _ (ends_at 𝓛 Outer hs c (y (block_ptr b o)) v r (tt, fins κs α ts a.1 ws.1) (tt, all_fit κs ps (all yes ps) a.1 (fins κs α ts a.1 ws.1))) $
          keep ! (2 ∷ 4 ∷ 3 ∷ 0 ∷ []) $ nothing ! $ fjoin ! $ move ! (1 ∷ 0 ∷ []) $ group ! 3 $ done !))))))))))

module _ {M : Type 1} {𝓤 : Ura M} (𝓛 : Logic 𝓤) where
  -- the engine has changed, and this holds of what it is now
  pub changes : (φ : EngineState → Type 0) (w : EngineState) (p : Ptr) → ent 𝓤 (sep 𝓤 (fact 𝓤 (φ w)) (sem 𝓛 (box_owns chunk R p w))) (sem 𝓛 (fex EngineState (λ h. fex (φ h) (λ _. box_owns chunk R p h))))
  changes φ w p = qed 𝓛 (raw (fact 𝓤 (φ w)) ∷ ‵ (box_owns chunk R p w) ∷ []) ∵ heard ! _ (λ holds.
      fpack ! (φ w) (λ _. box_owns chunk R p w) holds $ fpack ! EngineState (λ h. fex (φ h) (λ _. box_owns chunk R p h)) w $ done !)

  -- the same, where it is said in two clauses
  pub changes_both : (φ ψ : EngineState → Type 0) (w : EngineState) (p : Ptr)
      → ent 𝓤 (sep 𝓤 (sep 𝓤 (fact 𝓤 (φ w)) (fact 𝓤 (ψ w))) (sem 𝓛 (box_owns chunk R p w))) (sem 𝓛 (fex EngineState (λ h. fex (φ h × ψ h) (λ _. box_owns chunk R p h))))
  changes_both φ ψ w p = qed 𝓛 ((raw (fact 𝓤 (φ w)) ⊛ raw (fact 𝓤 (ψ w))) ∷ ‵ (box_owns chunk R p w) ∷ []) ∵ split ! $ heard ! _ (λ holds. heard ! _ (λ too.
      fpack ! (φ w × ψ w) (λ _. box_owns chunk R p w) (holds, too) $ fpack ! EngineState (λ h. fex (φ h × ψ h) (λ _. box_owns chunk R p h)) w $ done !))

  -- the same, where it is said in three
  pub changes_thrice : (φ ψ χ : EngineState → Type 0) (w : EngineState) (p : Ptr)
      → ent 𝓤 (sep 𝓤 (sep 𝓤 (fact 𝓤 (φ w)) (sep 𝓤 (fact 𝓤 (ψ w)) (fact 𝓤 (χ w)))) (sem 𝓛 (box_owns chunk R p w))) (sem 𝓛 (fex EngineState (λ h. fex (φ h × ψ h × χ h) (λ _. box_owns chunk R p h))))
  changes_thrice φ ψ χ w p = qed 𝓛 ((raw (fact 𝓤 (φ w)) ⊛ raw (fact 𝓤 (ψ w)) ⊛ raw (fact 𝓤 (χ w))) ∷ ‵ (box_owns chunk R p w) ∷ []) ∵ split3 ! $ heard ! _ (λ holds. heard ! _ (λ too. heard ! _ (λ last.
      fpack ! (φ w × ψ w × χ w) (λ _. box_owns chunk R p w) (holds, too, last) $ fpack ! EngineState (λ h. fex (φ h × ψ h × χ h) (λ _. box_owns chunk R p h)) w $ done !)))

  -- the engine is now g
  pub becomes : (g w : EngineState) (p : Ptr) → ent 𝓤 (sep 𝓤 (fact 𝓤 (w ≡ g)) (sem 𝓛 (box_owns chunk R p w))) (sem 𝓛 (box_owns chunk R p g))
  becomes g w p = qed 𝓛 (raw (fact 𝓤 (w ≡ g)) ∷ ‵ (box_owns chunk R p w) ∷ []) ∵ heard ! _ (λ is. rewrite ! 0 (λ (x : EngineState). ‵ (box_owns chunk R p x)) is refl $ done !)

  -- the engine is what it was, and this holds
  pub stays : (φ : Type 0) (h w : EngineState) (p : Ptr) → ent 𝓤 (sep 𝓤 (sep 𝓤 (fact 𝓤 (w ≡ h)) (fact 𝓤 φ)) (sem 𝓛 (box_owns chunk R p w))) (sep 𝓤 (sem 𝓛 (box_owns chunk R p h)) (fact 𝓤 φ))
  stays φ h w p = qed 𝓛 ((raw (fact 𝓤 (w ≡ h)) ⊛ raw (fact 𝓤 φ)) ∷ ‵ (box_owns chunk R p w) ∷ []) ∵ split ! $ heard ! _ (λ same. heard ! _ (λ holds.
      rewrite ! 0 (λ (x : EngineState). ‵ (box_owns chunk R p x)) same refl $ says ! holds $ done !))
