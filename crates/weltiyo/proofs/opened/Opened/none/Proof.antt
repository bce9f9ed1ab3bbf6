-- `none` owns nothing, and its address is null. Assumes `Logic`.
use Rattle.std.proofs.Common.{◌<◌, [], ◌∷◌, refl, lit<, w32}
use Rattle.std.proofs.raw_atomic.Walks.{proved}
use mir.Val.{vint}
use contract.Monad.{fact}
use base.Fml.{Fml}
use types.Kit.{‵, raw, ◌$◌, ◌∵◌, !, qed, done, drop, join, feq_i, rewrite, suffices}
use types.Run.{enter, lit, no_more, and_then, returns}
use types.ByLocal.{alloc_all, pass_all, free_all, look_at, get, sets}
use types.Part.{agg}
use denote.Builtin.{u32}
use denote.Exit.{yes}
use denote.Plain.{uint_vals, uint_Tells}
use denote.RawPtr.{Ptr, null_ptr, ptr_val}
use denote.Signature.{plain}
use denote.Steps.{nothing, heard}
use denote.Triple.Entry.{on_entry}
use denote.Triple.Walked.{Stays, walk_of, says, stay_dropped, Goes-dropped, ends_at}
use Rattle.weltiyo.proofs.Values.{both, nobody, nowhere, Opened, opened_in}
use Rattle.weltiyo.specs.contracts.opened.Opened.none as f
use Rattle.weltiyo.proofs.opened.Opened.none.Statement.{statement}
use Rattle.weltiyo.proofs.opened.Opened.none.Code as code

abbrev stayed : Stays f.ended.signature.params f.ended.kept
stayed = (stay_dropped _ yes, tt)

pub none_spec : {M : Type 1} → statement M
none_spec 𝓤 𝓛 𝓜 𝓡 wired =
    let c = f.clauses 𝓛 𝓜.mem 𝓡.returns in let W = walk_of 𝓛 f.ended stayed c in
    proved 𝓛 f.ended stayed c 𝓜 𝓡 (Goes-dropped 𝓛 0 (plain (λ _. u32)) yes (λ κs x w. refl), tt)
    f.Key.name code.function (code.unfolded 𝓤 𝓛.H 𝓜 𝓡 wired)
    (λ κs. (uint_vals w32, tt)) (λ κs. (uint_Tells w32, tt)) (λ κs qs bounds a _ are.
    let n = a.0 in let y : W.Ghost = ((κs, qs, bounds, a, (uint_vals w32 n, tt)), tt) in
    let made : Opened.Denot = record { at = null_ptr; status = n; engine = nobody } in
    qed 𝓛 (raw (on_entry 𝓛 f.signature κs qs a y.0.4) ∷ raw (fact 𝓤 (0 < n)) ∷ []) ∵ drop ! $ heard ! _ (λ some.
    enter ! _ _ _ _ _ $ alloc_all ! (λ l. pass_all ! refl ((tt, record { fits = are.0.1 }), tt) $
    sets ! (agg ! (and_then ! (lit ! tt) (and_then ! (get ! refl) (no_more !)))) refl (tt, (record { fits = lit< tt }, (record { fits = are.0.1 }, tt))) $
    returns ! (look_at ! 0 refl) $ free_all ! refl $
    suffices ! _ (ends_at 𝓛 f.ended stayed c y (both (ptr_val null_ptr) (vint w32 n)) made (tt, tt) (tt, tt)) $ says ! refl $
    feq_i ! Ptr null_ptr null_ptr refl $ rewrite ! 0 (λ (F : Fml). ‵ F) (nowhere n nobody some) refl $
    opened_in ! made are.0.1 $ nothing ! $ nothing ! $ join ! $ nothing ! $ done !)))
