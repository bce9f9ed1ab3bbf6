-- One event more behind those that were done, and the first that wasn't.
-- Cited by `events::drive`.
use Rattle.std.proofs.Common.{◌≡◌, ℕ, ◌+◌, ◌<◌, List, [], ◌∷◌, ◌++◌, length, map, take, get_or, refl, sym, ap, ◌∙◌, subst}
use Rattle.std.specs.Prelude.{option_map}
use Rattle.std.proofs.lemmas.List.{take-map, map_more}
use Rattle.std.proofs.lemmas.Option.{slice_get-map, slice_get_read}
use Rattle.mi_hub.specs.Run.{HubState, Done, AllDone}
use Rattle.mi_hub.specs.Drive.{event_of, NotDone, Stopped}
use Rattle.mi_hub.specs.declared.events.Event.{Event as Given}
use Rattle.mi_hub.specs.declared.fault.HubFault.{HubFault}
use Rattle.mi_hub.proofs.PieceLemmas.{one, run_append}

module _ (events : List Given) (i : ℕ) (e : Given) (inside : i < length events) (is : e ≡ get_or events i e) (old mid new : HubState) (first later : List ℕ)
    (so_far : AllDone old (map event_of (take i events)) first mid) where
  pub run_next : Done mid (event_of e) later new → AllDone old (map event_of (take (i + 1) events)) (first ++ later) new
  run_next done =
      subst (λ es. AllDone old es (first ++ later) new)
      (sym (map_more event_of events i e inside ∙ ap (λ x. map event_of (take i events) ++ event_of x ∷ []) (sym is)))
      (run_append Done (map event_of (take i events)) (event_of e ∷ []) old mid new first later so_far (one Done (event_of e) mid new later done))

  pub stopped_here : (fault : HubFault) → NotDone mid (event_of e) fault later new → Stopped old (map event_of events) i fault (first ++ later) new
  stopped_here fault not_done = record {
    event = event_of e;
    there = slice_get-map event_of events i ∙ ap (λ o. option_map event_of o) (slice_get_read events (length events) i e refl inside is);
    mid = mid;
    first = first;
    later = later;
    run = subst (λ es. AllDone old es first mid) (sym (take-map event_of i events)) so_far;
    not_done = not_done;
    written = refl;
  }
