-- Whoever holds sessions is attached: each answer keeps that, and so does each event.
-- Cited by `Hub::ask`, `Hub::attach`, `Hub::close`, `Hub::feed` and `Hub::leave`.
use Rattle.std.proofs.Common.{◌≡◌, ℕ, ◌-◌, min, List, [], ◌∷◌, ◌++◌, Bool, true, false, cond, nat_eq, nat_le, get_or, set, remove}
use Rattle.std.proofs.Common.{Option, Some, None, IsSome, is_some, Result, Ok, Err, OnOk, OnErr, refl, sym, ap, ◌∙◌, subst, inl, inr, arith}
use Rattle.mi_value.specs.declared.refusal.Refusal.{Refusal}
use Rattle.mi_protocol.specs.Lines.{command_line}
use Rattle.mi_protocol.specs.declared.command.Command.{Command}
use Rattle.mi_commands.specs.Asked.{Asked, text, too_long}
use Rattle.mi_hub.specs.Lines.{Rest}
use Rattle.mi_commands.specs.Holder.{HeldDatabase, one_more, one_less, at_most, without_holder, released}
use Rattle.mi_commands.specs.Performed.{holder_after, Move, stays, one_up, one_down, down_to, to_nobody, lets_go, if_accepted, moved, effect}
use Rattle.mi_commands.specs.Answer.{command_answer, command_of, answer, MayGive}
use Rattle.mi_hub.specs.Served.{InTurn, Served, CutOff}
use Rattle.mi_hub.specs.Connections.{rest_at, with_rest, others, holder_is_attached}
use Rattle.mi_hub.specs.Places.{StandsAt}
use Rattle.mi_commands.specs.declared.holder.Holder.{Holder}
use Rattle.mi_hub.specs.declared.connection.Connection.{Connection}
use Rattle.mi_hub.specs.Run.{HubState}
use Rattle.mi_hub.proofs.ConnectionLemmas.{rest_at-others, some_with_rest, some_append, others-with_rest}
use Rattle.mi_hub.proofs.RunLemmas.{element, remove-set}

-- ---- the moves of the holder

module _ (cs : List Connection) where
  either : (b : Bool) (o p : Option Holder) → holder_is_attached o cs ≡ true → holder_is_attached p cs ≡ true → holder_is_attached (cond b o p) cs ≡ true
  either true o p h k = h
  either false o p h k = k

  more : (conn : ℕ) (o : Option Holder) → IsSome (rest_at conn cs) → holder_is_attached o cs ≡ true → holder_is_attached (one_more conn o) cs ≡ true
  more conn None here h = here
  more conn (Some x) here h = h

  less : (o : Option Holder) → holder_is_attached o cs ≡ true → holder_is_attached (one_less o) cs ≡ true
  less None h = refl
  less (Some x) h = either (nat_le x.held 1) None (Some (record { conn = x.conn; held = x.held - 1 })) refl h

  most : (opened : ℕ) (o : Option Holder) → holder_is_attached o cs ≡ true → holder_is_attached (at_most opened o) cs ≡ true
  most opened None h = refl
  most opened (Some x) h = either (nat_eq opened 0) None (Some (record { conn = x.conn; held = min x.held opened })) refl h

  without : (conn : ℕ) (o : Option Holder) → holder_is_attached o cs ≡ true → holder_is_attached (without_holder conn o) cs ≡ true
  without conn None h = refl
  without conn (Some x) h = either (nat_eq x.conn conn) None (Some x) refl h

  where_accepted : (answer : Result ℕ Refusal) (move : Option Holder → Option Holder) (o : Option Holder)
      → holder_is_attached (move o) cs ≡ true → holder_is_attached o cs ≡ true → holder_is_attached (holder_after answer move o) cs ≡ true
  where_accepted (Ok n) move o h k = h
  where_accepted (Err e) move o h k = k

  -- ---- answers
  module _ (conn : ℕ) (here : IsSome (rest_at conn cs)) where
    by_move : (m : Move) (o : Option Holder) → holder_is_attached o cs ≡ true → holder_is_attached (moved conn m o) cs ≡ true
    by_move stays o h = h
    by_move one_up o h = more conn o here h
    by_move one_down o h = less o h
    by_move (down_to opened) o h = most opened o h
    by_move to_nobody o h = refl
    by_move lets_go o h = without conn o h
    by_move (if_accepted answer m) o h = where_accepted answer (moved conn m) o (by_move m o h) h

    by_bound : (s : HeldDatabase) (c : Result Command Refusal) → holder_is_attached s.holder cs ≡ true
        → holder_is_attached (command_answer s conn c).1.holder cs ≡ true
    by_bound s (Ok c) h = by_move (effect s.database c).move s.holder h
    by_bound s (Err e) h = h

    by_answer : (s : HeldDatabase) (line : Asked) → holder_is_attached s.holder cs ≡ true → holder_is_attached (answer s conn line).1.holder cs ≡ true
    by_answer s (text t) h = by_bound s (command_of s conn (command_line t)) h
    by_answer s too_long h = h

    pub by_reply : (s t : HeldDatabase) (line : Asked) (reply : List ℕ) → MayGive conn s line reply t
        → holder_is_attached s.holder cs ≡ true → holder_is_attached t.holder cs ≡ true
    by_reply s t line reply (inl p) h = ap (λ (u : HeldDatabase). holder_is_attached u.holder cs) p.1 ∙ by_answer s line h
    by_reply s t line reply (inr p) h = ap (λ (u : HeldDatabase). holder_is_attached u.holder cs) p.1.1 ∙ h

    in_turn : (lines : List Asked) (replies : List (List ℕ)) (s t : HeldDatabase) → InTurn (MayGive conn) s lines replies t
        → holder_is_attached s.holder cs ≡ true → holder_is_attached t.holder cs ≡ true
    in_turn [] [] s t p h = ap (λ (u : HeldDatabase). holder_is_attached u.holder cs) p ∙ h
    in_turn [] (r ∷ replies) s t p h = absurd p
    in_turn (l ∷ lines) [] s t p h = absurd p
    in_turn (l ∷ lines) (r ∷ replies) s t p h = in_turn lines replies p.0 t p.2 (by_reply s p.0 l r p.1 h)

    served_holder : (lines : List Asked) (out : List ℕ) (s t : HeldDatabase) → Served (MayGive conn) s lines out t
        → holder_is_attached s.holder cs ≡ true → holder_is_attached t.holder cs ≡ true
    served_holder lines out s t p h = in_turn lines p.replies s t p.in_turn h

    cut_holder : (lines : List Asked) (out : List ℕ) (s t : HeldDatabase) → CutOff (MayGive conn) s lines out t
        → holder_is_attached s.holder cs ≡ true → holder_is_attached t.holder cs ≡ true
    cut_holder lines out s t p h = in_turn (p.asked ++ p.line ∷ []) (p.replies ++ p.reply ∷ []) s t p.in_turn h

-- ---- events

gone_holder : (conn : ℕ) (o : Option Holder) (cs : List Connection) → holder_is_attached o cs ≡ true
    → holder_is_attached (without_holder conn o) (others conn cs) ≡ true
gone_holder conn None cs h = refl
gone_holder conn (Some x) cs h = by_test (nat_eq x.conn conn) refl
  where
    apart : (a b : ℕ) → nat_eq a b ≡ false → b ≡ a → ⊥
    apart a b e k = grind arith

    by_test : (b : Bool) → nat_eq x.conn conn ≡ b → holder_is_attached (cond b None (Some x)) (others conn cs) ≡ true
    by_test true e = refl
    by_test false e = ap is_some (rest_at-others x.conn conn cs (apart x.conn conn e)) ∙ h

more_attached : (o : Option Holder) (cs ds : List Connection) → holder_is_attached o cs ≡ true → holder_is_attached o (cs ++ ds) ≡ true
more_attached None cs ds h = refl
more_attached (Some x) cs ds h = some_append x.conn cs ds h

another_rest : (conn : ℕ) (r : Rest) (o : Option Holder) (cs : List Connection)
    → holder_is_attached o cs ≡ true → holder_is_attached o (with_rest conn r cs) ≡ true
another_rest conn r None cs h = refl
another_rest conn r (Some x) cs h = some_with_rest x.conn conn r cs ∙ h

-- ---- the hub's own calls: its fields, and the state that they are

pub pushed_holder : (b : Bool) (o : Option Holder) (cs ds new : List Connection)
    → new ≡ cond b (cs ++ ds) cs → holder_is_attached o cs ≡ true → holder_is_attached o new ≡ true
pushed_holder true o cs ds new is h = ap (holder_is_attached o) is ∙ more_attached o cs ds h
pushed_holder false o cs ds new is h = ap (holder_is_attached o) is ∙ h

module _ (conn at : ℕ) (old : HubState) (h : HeldDatabase) (cs : List Connection) (view : record { held = h; attached = cs } ≡ old) where
  pub left_holder : (new : HeldDatabase) (ds : List Connection) → remove old.attached at ≡ others conn old.attached → holder_is_attached h.holder cs ≡ true
      → new ≡ released conn h → ds ≡ remove cs at → holder_is_attached new.holder ds ≡ true
  left_holder new ds there kept left removed =
      let gone = subst (λ (s : HubState). remove s.attached at ≡ others conn s.attached) (sym view) there in
      ap (λ (u : HeldDatabase). holder_is_attached u.holder ds) left
      ∙ ap (holder_is_attached (without_holder conn h.holder)) (removed ∙ gone) ∙ gone_holder conn h.holder cs kept

  module _ (stands : StandsAt conn at old.attached) where
    stands_here : StandsAt conn at cs
    stands_here = subst (λ (s : HubState). StandsAt conn at s.attached) (sym view) stands

    pub lines_holder : {T E : Type 0} (W V : List ℕ → Type 0) (new : HeldDatabase) (lines : List Asked) (r : Result T E)
        → OnOk r ((out : List ℕ) × W out × Served (MayGive conn) h lines out new) → OnErr r ((out : List ℕ) × V out × CutOff (MayGive conn) h lines out new)
        → holder_is_attached h.holder cs ≡ true → holder_is_attached new.holder cs ≡ true
    lines_holder W V new lines (Ok v) ok err kept = served_holder cs conn
        (ap is_some (stands_here.rest (record { id = 0; rest = None }))) lines ok.0 h new ok.2 kept
    lines_holder W V new lines (Err e) ok err kept = cut_holder cs conn
        (ap is_some (stands_here.rest (record { id = 0; rest = None }))) lines err.0 h new err.2 kept

    module _ (x : Connection) (is : x ≡ get_or cs at x) (kept_rest : Rest) where
      another : set cs at (record { id = x.id; rest = kept_rest }) ≡ with_rest conn kept_rest cs
      another = ap (λ n. set cs at (record { id = n; rest = kept_rest })) (element conn at cs x stands_here is).0 ∙ stands_here.written kept_rest

      pub fed_holder : (o : Option Holder) → holder_is_attached o cs ≡ true → holder_is_attached o (set cs at (record { id = x.id; rest = kept_rest })) ≡ true
      fed_holder o kept = ap (holder_is_attached o) another ∙ another_rest conn kept_rest o cs kept

      pub fed_leaves : remove (set cs at (record { id = x.id; rest = kept_rest })) at ≡ others conn (set cs at (record { id = x.id; rest = kept_rest }))
      fed_leaves = remove-set cs at (record { id = x.id; rest = kept_rest }) ∙ stands_here.removed
          ∙ sym (ap (others conn) another ∙ others-with_rest conn kept_rest cs)
