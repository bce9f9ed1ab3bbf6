-- Bytes that are fed in pieces are lines that are asked, so the law of lines speaks of them.
-- Cited by `laws::undo_bytes_take_back`.
use Rattle.std.proofs.Common.{◌≡◌, ℕ, zero, suc, List, [], ◌∷◌, ◌++◌, length, replicate, option_to_list, Some, codes}
use Rattle.std.proofs.Common.{refl, sym, ap, ◌∙◌, subst, inl}
use Rattle.mi_protocol.specs.Replies.{reply_text}
use Rattle.mi_commands.specs.Asked.{Asked, text}
use Rattle.mi_commands.specs.Answer.{answer, MayGive}
use Rattle.mi_commands.specs.Holder.{HeldDatabase}
use Rattle.mi_commands.specs.Undone.{undo_lines, start_line, UndoLinesTakeBack}
use Rattle.mi_hub.specs.Ended.{ended}
use Rattle.mi_hub.specs.Lines.{Rest, lines_from, rest_from}
use Rattle.mi_hub.specs.Connections.{rest_at, with_rest}
use Rattle.mi_hub.specs.Served.{InTurn, Served, sent}
use Rattle.mi_hub.specs.Run.{HubState, AllDone}
use Rattle.mi_hub.proofs.LineLemmas.{ended_nil, from_unended, from_ended, cut_in_two}
use Rattle.mi_hub.proofs.ConnectionLemmas.{rest_at-with_rest}
use Rattle.mi_hub.proofs.ServedLemmas.{served_more}
use Rattle.mi_replay.specs.Acts.{AllActs, Acts}
use Rattle.mi_replay.specs.Journal.{undo_line}
use Rattle.mi_replay.specs.UndoneBytes.{fed, joined, Feeds, start_bytes, undo_bytes, UndoBytesTakeBack, UndoBytesAreGiven}

-- ---- bytes

module _ (conn : ℕ) where
  fed_served : (pieces : List (List ℕ)) (r : Rest) (old new : HubState) (out : List ℕ) → rest_at conn old.attached ≡ Some r
      → AllDone old (fed conn pieces) out new → Served (MayGive conn) old.held (lines_from r (joined pieces)) out new.held
  fed_served [] r old new out here p =
      subst (λ ls. Served (MayGive conn) old.held ls out new.held) (sym (from_unended r [] ended_nil).0)
      (record { replies = []; in_turn = ap (λ (s : HubState). s.held) p.1; written = p.0 })
  fed_served (bytes ∷ pieces) r old new out here p =
      let is : p.3.0 ≡ r = same (sym p.3.1 ∙ here) in
      let asked : Served (MayGive conn) old.held (lines_from r bytes) p.1 p.0.held
      = subst (λ q. Served (MayGive conn) old.held (lines_from q bytes) p.1 p.0.held) is p.3.2 in
      let left : rest_at conn p.0.attached ≡ Some (rest_from r bytes)
      = ap (rest_at conn) p.3.3 ∙ rest_at-with_rest conn (rest_from p.3.0 bytes) p.3.0 old.attached p.3.1 ∙ ap (λ q. Some (rest_from q bytes)) is in
      subst (λ ls. Served (MayGive conn) old.held ls out new.held) (sym (cut_in_two r bytes (joined pieces)).0)
      (subst (λ o. Served (MayGive conn) old.held (lines_from r bytes ++ lines_from (rest_from r bytes) (joined pieces)) o new.held) (sym p.5)
      (served_more (MayGive conn) asked (fed_served pieces (rest_from r bytes) p.0 new p.2 left p.4)))
    where
      same : {A : Type 0} {x y : A} → Some x ≡ Some y → x ≡ y
      same k = cc

  feeds_served : (old new : HubState) (bytes out : List ℕ) → Feeds old conn bytes out new
      → Served (MayGive conn) old.held (lines_from (Some []) bytes) out new.held
  feeds_served old new bytes out p = subst (λ bs. Served (MayGive conn) old.held (lines_from (Some []) bs) out new.held) p.whole
      (fed_served p.pieces (Some []) old new out p.at_line p.done)

  -- any lines may be given replies
  given : (lines : List Asked) (old : HeldDatabase) → (replies : List (List ℕ)) × (new : HeldDatabase) × InTurn (MayGive conn) old lines replies new
  given [] old = ([], old, refl)
  given (line ∷ lines) old =
      let a = answer old conn line in
      let later = given lines a.1 in
      (reply_text old.database.catalog a.0 ∷ later.0, later.1, (a.1, inl (refl, refl), later.2))

  fed_given : (pieces : List (List ℕ)) (r : Rest) (old : HubState) → rest_at conn old.attached ≡ Some r
      → (out : List ℕ) × (new : HubState) × AllDone old (fed conn pieces) out new
  fed_given [] r old here = ([], old, (refl, refl))
  fed_given (bytes ∷ pieces) r old here =
      let one = given (lines_from r bytes) old.held in
      let mid : HubState = record { held = one.1; attached = with_rest conn (rest_from r bytes) old.attached } in
      let later = fed_given pieces (rest_from r bytes) mid (rest_at-with_rest conn (rest_from r bytes) r old.attached here) in (
        sent one.0 ++ later.0,
        later.1,
        (
          mid,
          sent one.0,
          later.0,
          (r, here, record { replies = one.0; in_turn = one.2; written = refl }, refl),
          later.2,
          refl,
        ),
      )

-- ---- the lines of such bytes

unended_start : ended (codes "{\"cmd\":\"start\"}") ≡ []
unfolding ended
unended_start = refl

unended_undo : ended (codes "{\"cmd\":\"undo\"}") ≡ []
unfolding ended
unended_undo = refl

lines_of_start : lines_from (Some []) start_bytes ≡ text (codes "{\"cmd\":\"start\"}") ∷ []
lines_of_start = (from_ended (Some []) (codes "{\"cmd\":\"start\"}") [] unended_start).0
    ∙ ap (λ ls. text (codes "{\"cmd\":\"start\"}") ∷ ls) (from_unended (Some []) [] ended_nil).0

lines_of_undos : (k : ℕ) → lines_from (Some []) (undo_bytes k) ≡ replicate k undo_line
lines_of_undos zero = (from_unended (Some []) [] ended_nil).0
lines_of_undos (suc k) = (from_ended (Some []) (codes "{\"cmd\":\"undo\"}") (undo_bytes k) unended_undo).0 ∙ ap (λ ls. undo_line ∷ ls) (lines_of_undos k)

-- ---- lines

module _ (conn : ℕ) where
  one_act : (line : Asked) (replies : List (List ℕ)) (old new : HeldDatabase) → InTurn (MayGive conn) old (line ∷ []) replies new
      → (reply : List ℕ) × MayGive conn old line reply new
  one_act line [] old new p = absurd p
  one_act line (reply ∷ []) old new p = (reply, subst (λ s. MayGive conn old line reply s) (sym p.2) p.1)
  one_act line (reply ∷ other ∷ replies) old new p = absurd p.2

  undo_acts : (k : ℕ) (replies : List (List ℕ)) (old new : HeldDatabase) → InTurn (MayGive conn) old (replicate k undo_line) replies new
      → (length replies ≡ k) × AllActs old (undo_lines conn replies) new
  undo_acts zero [] old new p = (refl, p)
  undo_acts zero (reply ∷ replies) old new p = absurd p
  undo_acts (suc k) [] old new p = absurd p
  undo_acts (suc k) (reply ∷ replies) old new p =
      let later = undo_acts k replies p.0 new p.2 in (ap suc later.0, (p.0, p.1, later.1))

-- ---- the law

pub undo_bytes_take_back : UndoLinesTakeBack → UndoBytesTakeBack
undo_bytes_take_back of_lines s u t v first last k events out starts opened above free feeds =
    let start = feeds_served first s u start_bytes starts.out starts.feeds in
    let asked = one_act first (text (codes "{\"cmd\":\"start\"}")) start.replies s.held u.held
    (subst (λ ls. InTurn (MayGive first) s.held ls start.replies u.held) lines_of_start start.in_turn) in
    let undos = feeds_served last t v (undo_bytes k) out feeds in
    let acts = undo_acts last k undos.replies t.held v.held
    (subst (λ ls. InTurn (MayGive last) t.held ls undos.replies v.held) (lines_of_undos k) undos.in_turn) in
    let back = of_lines s.held u.held t.held v.held (start_line first asked.0) opened.acts opened.run last k undos.replies
    (asked.1, starts.accepted) opened.stays above free acts.0 acts.1 in record {
      tables = back.tables;
      revision = back.revision;
      catalog = back.catalog;
      accepted = undos.written ∙ ap sent back.accepted;
    }

pub undo_bytes_are_given : UndoBytesAreGiven
undo_bytes_are_given t last k pieces here whole =
    let fed_all = fed_given last pieces (Some []) t here in
    (fed_all.0, fed_all.1, record { at_line = here; pieces = pieces; whole = whole; done = fed_all.2 })
