-- What `open_engine` gives is handed over: its address through `out`, its status as the result, and the engine to the caller. Assumes `Logic`.
use Rattle.std.proofs.Common.{List, [], ◌∷◌, ◌++◌, refl, ap, subst, w32, w64}
use Rattle.std.proofs.raw_atomic.Walks.{proved_at}
use base.Fraction.{full_share}
use base.Logic.{SProp, id⊢}
use base.Fml.{ftrue, fex, flft}
use mir.Syntax.{named}
use mir.Val.{Val, vint}
use contract.Monad.{fact}
use contract.Running.{tables}
use prog.Wp.{WpFn}
use types.Kit.{‵, raw, ◌⊛◌, some, later, prop, ◌$◌, ◌∵◌, !, qed, done, move, keep, drop, use1, use2, split, join, fsplit, fsplit3, fpack, feq_i, feq_l, pick, await, rewrite, regoal, suffices, group}
use types.Run.{enter, of_opd, stop, fld, store, assigns, no_more, and_then, returns}
use types.ByLocal.{alloc_all, pass_all, free_all, look_at, get, get_in, through, sets, lands_as}
use types.Part.{sub, whole}
use denote.Builtin.{u8, u32, u64, SliceRefOf}
use denote.Exit.{yes}
use denote.Laws.{Is, Typed, shows}
use denote.Memory.{cell_at}
use denote.Plain.{uint_Makes, uint_vals, uint_Tells}
use denote.RattleType.{owns}
use denote.RawPtr.{RawPtr, ptr_val}
use denote.Ref.{mut_Tells}
use denote.Signature.{plain, types_at}
use denote.Slice.{ShrSlice, shr_slice_vals, shr_slice_Tells}
use denote.Steps.{nothing, owned, heard, only, opens, closes, peeks}
use denote.Triple.Call.{calls_at}
use denote.Triple.Clauses.{Lasts, lasts}
use denote.Triple.Spec.{triple_of}
use denote.Triple.Table.{framed}
use denote.Triple.Walked.{Stays, walk_of, stay_dropped, Goes-dropped, stay_ref, Goes-ref, ends_at}
use Rattle.core.proofs.alloc.Calls.{handle_tells}
use Rattle.core.proofs.atomic.Steps.{Ptr-Good}
use Rattle.std.specs.contracts.alloc.Global as heap
use Rattle.std.proofs.alloc.Global.TheLaws as heap_laws
use Rattle.std.specs.contracts.impls.GlobalAllocator.TheImpl.{ghosts}
use Rattle.mi_embed.specs.State.{EngineState}
use Rattle.mi_embed.specs.contracts.engine.Engine.{the_row as R}
use Rattle.weltiyo.specs.Handle.{engine_where, TellsOpening}
use Rattle.weltiyo.proofs.Values.{al, Opened, opened_out}
use Rattle.weltiyo.proofs.opened.Opened.TheLaws as opened_laws
use Rattle.weltiyo.specs.contracts.weltiyo_open as f
use Rattle.weltiyo.proofs.weltiyo_open.Statement.{statement}
use Rattle.weltiyo.proofs.weltiyo_open.Code as code
use Rattle.weltiyo.specs.contracts.open_engine as g
use Rattle.weltiyo.proofs.open_engine.Met.{met}

abbrev stayed : Stays f.ended.signature.params f.ended.kept
stayed = (stay_dropped _ yes, (stay_dropped _ yes, (stay_dropped _ yes, (stay_ref (1 ∷ []) tt (plain (λ _. RawPtr)), tt))))

pub weltiyo_open_spec : {M : Type 1} → statement M
weltiyo_open_spec 𝓤 𝓛 𝓜 𝓡 wired =
    let H = 𝓛.H in let c = f.clauses 𝓛 𝓜.mem 𝓡.returns in let 𝓣 = tables 𝓤 H 𝓜 𝓡 𝓡.env in let Z = heap.the_row in let LZ = heap_laws.the_row_laws in let fn = code.function in
    proved_at 𝓛 f.ended stayed c 𝓜 𝓡 (
      Goes-dropped 𝓛 2 (plain (λ _. heap.the_row)) yes (λ κs x w. refl),
      (
        Goes-dropped 𝓛 2 (SliceRefOf (0 ∷ []) tt (plain (λ _. u8)) (λ κs. tt)) yes (λ κs x w. refl),
        (Goes-dropped 𝓛 2 (plain (λ _. u64)) yes (λ κs x w. refl), (Goes-ref 𝓛 2 1 tt (plain (λ _. RawPtr)), tt)),
      ),
    )
    f.Key.name fn (code.unfolded 𝓤 H 𝓜 𝓡 wired) (λ z are.
    let κ = z.0.0.0 in let q = z.0.1.0 in let ρ = z.0.0.1.0 in let p = z.0.1.1.0 in
    let a = z.0.3.0 in let schema = z.0.3.1.0 in let secret = z.0.3.1.1.0 in let out = z.0.3.1.1.1.0 in let b = out.ref_ptr.0 in let o = out.ref_ptr.1 in
    let Post : Val → SProp 𝓤 = (walk_of 𝓛 f.ended stayed c).post z in let Run : List Val → SProp 𝓤 = λ ws. WpFn 𝓤 H 𝓣.C 𝓣.Λ fn ws Post in
    let is_schema = shr_slice_Tells (named 0) κ u8 schema z.0.4.1.0 are.1.0 in let is_secret = uint_Tells w64 secret z.0.4.1.1.0 are.1.1.0 in
    let is_out = mut_Tells (named 1) ρ RawPtr out z.0.4.1.1.1.0 are.1.1.1.0 in
    qed 𝓛 (((‵ (flft κ q) ⊛ ‵ (flft ρ p) ⊛ ‵ ftrue) ⊛ ‵ (owns (types_at f.signature.params z.0.0) z.0.3 z.0.4)) ∷ ‵ ftrue ∷ []) ∵
    split ! $ move ! (1 ∷ []) $ fsplit ! $ handle_tells (al R Z LZ ghosts) ! a z.0.4.0 (λ h eh gh. move ! (1 ∷ []) $
    fsplit ! $ rewrite ! 0 (λ (us : List Val). ‵ ((ShrSlice (named 0) κ u8).own_val schema us)) is_schema refl $ move ! (1 ∷ []) $
    fsplit ! $ drop ! $ fsplit ! $
    move ! (4 ∷ []) $ split ! $ move ! (1 ∷ []) $ split ! $ keep ! (2 ∷ 0 ∷ 3 ∷ 5 ∷ 6 ∷ []) $
    -- [the schema's token; the token of out; out; the schema; the handle]
    regoal ! (λ (us : List Val). prop (Run (us ++ (z.0.4.1.0 ++ (z.0.4.1.1.0 ++ (z.0.4.1.1.1.0 ++ [])))))) eh refl $
    regoal ! (λ (us : List Val). prop (Run (h ∷ (us ++ (z.0.4.1.1.0 ++ (z.0.4.1.1.1.0 ++ [])))))) is_schema refl $
    regoal ! (λ (us : List Val). prop (Run (h ∷ (shr_slice_vals schema ++ (us ++ (z.0.4.1.1.1.0 ++ [])))))) is_secret refl $
    regoal ! (λ (us : List Val). prop (Run (h ∷ (shr_slice_vals schema ++ (uint_vals w64 secret ++ (us ++ [])))))) is_out refl $
    enter ! 𝓣.C 𝓣.Λ fn _ Post $ alloc_all ! (λ l. pass_all ! refl (gh, ((tt, (tt, (record { fits = are.1.0.0.1.0 }, tt))), ((tt, record { fits = are.1.1.0.1 }), ((tt, tt), tt)))) $
    let G = triple_of 𝓛 g.signature (g.spec 𝓛 𝓜.mem 𝓡.returns) in
    let y : G.Ghost = (((κ, tt), (q, tt), tt, (a, (schema, (secret, tt))), (h ∷ [], (shr_slice_vals schema, (uint_vals w64 secret, tt)))), tt) in
    nothing ! $ owned ! u64 _ (uint_Makes 𝓛 w64) secret _ (refl, are.1.1.0.1) $ join ! $ move ! (4 ∷ 0 ∷ []) $ join ! $ move ! (4 ∷ 0 ∷ []) $ join ! $
    nothing ! $ move ! (2 ∷ 0 ∷ []) $ join ! $ join ! $ nothing ! $ move ! (1 ∷ 0 ∷ []) $ use2 𝓛 (raw (G.pre y)) (id⊢ 𝓤 _) $
    calls_at ! (framed 𝓤 H 𝓜 𝓣) G (met 𝓤 𝓛 𝓜 𝓡 (code.calls-weltiyo::open_engine 𝓡.env wired)) y
    (and_then ! (get ! refl) (and_then ! (get ! refl) (and_then ! (get ! refl) (no_more !)))) (λ u.
    use1 𝓛 (later (some (λ (r : Opened.Denot). ((‵ (flft κ q) ⊛ ‵ ftrue) ⊛ ‵ (Opened.own_val r (u ∷ []))) ⊛
    some (λ (ws : Lasts g.ended y.0.0 y.0.3). ‵ (lasts g.ended y.0.0 y.0.3 ws) ⊛ raw (fact 𝓤 (TellsOpening schema.now r.status r.engine)))))) (id⊢ 𝓤 _) $
    await ! tt $ pick ! (λ r. split ! $ split ! $ move ! (2 ∷ []) $ pick ! (λ ws. split ! $ drop ! $ heard ! _ (λ tells. move ! (1 ∷ []) $
    peeks ! Opened (Is Opened) (shows 𝓛 Opened) r (u ∷ []) (λ is. opened_out ! r (u ∷ []) (λ eu fits.
    -- [where the engine is; the schema's token; the token of out; out]
    let good = (subst (Typed Opened.mir) eu ((opened_laws.the_row_laws.lawful 𝓛).typed r (u ∷ []) is)).0 in
    lands_as ! (ap only eu) refl good $
    sets ! (of_opd ! (get_in ! (fld ! refl (stop !)) (sub ! 0 refl (whole !)))) refl (Ptr-Good r.at) $
    sets ! (of_opd ! (get_in ! (fld ! refl (stop !)) (sub ! 1 refl (whole !)))) refl (tt, record { fits = fits }) $
    sets ! (of_opd ! (get ! refl)) refl (Ptr-Good r.at) $
    move ! (3 ∷ []) $ fsplit3 ! $ move ! (1 ∷ 2 ∷ 5 ∷ []) $ opens ! tt RawPtr b o (λ us. move ! (1 ∷ []) $ feq_l ! (λ was.
    rewrite ! 0 (λ (xs : List Val). ‵ (cell_at full_share RawPtr.mir xs b o)) was refl $
    assigns ! (of_opd ! (get ! refl)) (through ! refl (stop !)) (store ! 0 refl (Ptr-Good r.at)) $
    feq_i ! (List Val) (ptr_val r.at ∷ []) (ptr_val r.at ∷ []) refl $ move ! (1 ∷ 0 ∷ []) $ closes ! tt RawPtr r.at (ptr_val r.at ∷ []) b o $
    -- [two parts of out; its token; its first part; where the engine is; the schema's token]
    sets ! (of_opd ! (get ! refl)) refl (tt, record { fits = fits }) $
    returns ! (look_at ! 0 refl) $ free_all ! refl $ keep ! (3 ∷ 0 ∷ 1 ∷ 2 ∷ 4 ∷ 5 ∷ []) $ group ! 3 $
    suffices ! _ (ends_at 𝓛 f.ended stayed c z (vint w32 r.status) r.status (tt, (tt, (tt, (r.at, tt)))) (tt, (tt, (tt, (tt, tt))))) $
    move ! (2 ∷ []) $ fpack ! (TellsOpening schema.now r.status r.engine) (λ _. engine_where r.status r.at r.engine) tells $
    fpack ! EngineState (λ engine. fex (TellsOpening schema.now r.status engine) (λ _. engine_where r.status r.at engine)) r.engine $
    owned ! u32 _ (uint_Makes 𝓛 w32) r.status _ (refl, fits) $
    nothing ! $ move ! (3 ∷ 0 ∷ []) $ join ! $ nothing ! $ join ! $ nothing ! $ join ! $ nothing ! $ join ! $
    move ! (4 ∷ []) $ split ! $ move ! (5 ∷ 1 ∷ []) $ join ! $ move ! (1 ∷ 0 ∷ []) $ join ! $ group ! 3 $ done !)))))))))))
