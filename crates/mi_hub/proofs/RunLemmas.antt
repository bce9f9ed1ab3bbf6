-- From what a call does to one connection, to the event that it is.
-- Cited by `Hub::attach`, `Hub::close`, `Hub::cut`, `Hub::feed` and `HolderLemmas`.
use Rattle.std.proofs.Common.{◌≡◌, ℕ, zero, suc, List, [], ◌∷◌, get_or, set, remove, Option, Some, None}
use Rattle.std.proofs.Common.{is_some, true, MatchOption, option_to_list, refl, sym, ap, ◌∙◌, subst}
use Rattle.mi_hub.specs.Lines.{Rest, lines_from, rest_from, last_line}
use Rattle.mi_commands.specs.Holder.{HeldDatabase, released}
use Rattle.mi_hub.specs.Connections.{rest_at, with_rest}
use Rattle.mi_hub.specs.Places.{StandsAt}
use Rattle.mi_commands.specs.Answer.{MayGive}
use Rattle.mi_hub.specs.Served.{Served, CutOff}
use Rattle.mi_hub.specs.Run.{HubState, piece, close, Done, Failed}
use Rattle.mi_hub.specs.declared.connection.Connection.{Connection}

pub neither : {A B : Type 0} → (A → ⊥) → (B → ⊥) → (A → B) × (B → A)
neither f g = (λ a. absurd (f a), λ b. absurd (g b))

pub not_none : {A : Type 0} {o : Option A} {x : A} → o ≡ Some x → o ≡ None → ⊥
not_none p q = none_some (sym p ∙ q)
  where
    none_some : {A : Type 0} {x : A} → Some x ≡ None → ⊥
    none_some h = cc

pub found_there : (o : Option ℕ) (conn : ℕ) (cs : List Connection) → MatchOption o (rest_at conn cs ≡ None) (λ i. StandsAt conn i cs)
    → is_some o ≡ true → (d : Connection) → (r : Rest) × (rest_at conn cs ≡ Some r)
found_there None conn cs p h d = absurd (false_true h)
  where
    false_true : is_some {T = ℕ} None ≡ true → ⊥
    false_true k = cc
found_there (Some i) conn cs p h d = ((get_or cs i d).rest, p.rest d)

pub element : (conn at : ℕ) (cs : List Connection) (x : Connection) → StandsAt conn at cs → x ≡ get_or cs at x → (x.id ≡ conn) × (rest_at conn cs ≡ Some x.rest)
element conn at cs x p is = (ap (λ (z : Connection). z.id) is ∙ p.same x, p.rest x ∙ ap (λ (z : Connection). Some z.rest) (sym is))

pub remove-set : {A : Type 0} (xs : List A) (i : ℕ) (y : A) → remove (set xs i y) i ≡ remove xs i
remove-set [] i y = refl
remove-set (x ∷ xs) zero y = refl
remove-set (x ∷ xs) (suc i) y = ap (λ zs. x ∷ zs) (remove-set xs i y)

-- a piece was fed to the connection that stands at this place
pub piece_done : (conn at : ℕ) (old : HubState) (before new : HeldDatabase) (cs : List Connection) (x : Connection) (bytes out : List ℕ) (kept : Rest)
    → record { held = before; attached = cs } ≡ old → StandsAt conn at old.attached → x ≡ get_or cs at x
    → Served (MayGive conn) before (lines_from x.rest bytes) out new → kept ≡ rest_from x.rest bytes
    → Done old (piece conn bytes) out (record { held = new; attached = set cs at (record { id = x.id; rest = kept }) })
piece_done conn at old before new cs x bytes out kept view stands is served rest =
    subst (λ (s : HubState). StandsAt conn at s.attached
    → Done s (piece conn bytes) out (record { held = new; attached = set cs at (record { id = x.id; rest = kept }) }))
    view
    (λ p. let e = element conn at cs x p is in (
      x.rest,
      e.1,
      served,
      ap (λ n. set cs at (record { id = n; rest = kept })) e.0 ∙ p.written kept ∙ ap (λ r. with_rest conn r cs) rest,
    )) stands

-- the writer failed while a piece was fed to it
pub piece_failed : (conn at : ℕ) (old new : HubState) (before mid : HeldDatabase) (cs : List Connection) (x y : Connection) (bytes out : List ℕ)
    → record { held = before; attached = cs } ≡ old → StandsAt conn at old.attached → x ≡ get_or cs at x
    → CutOff (MayGive conn) before (lines_from x.rest bytes) out mid → new ≡ record { held = released conn mid; attached = remove (set cs at y) at }
    → Failed old (piece conn bytes) out new
piece_failed conn at old new before mid cs x y bytes out view stands is cut left =
    subst (λ (s : HubState). StandsAt conn at s.attached → Failed s (piece conn bytes) out new) view
    (λ p. let e = element conn at cs x p is in (
      x.rest,
      mid,
      e.1,
      cut,
      left ∙ ap (λ ds. record { held = released conn mid; attached = ds }) (remove-set cs at y ∙ p.removed),
    )) stands

-- the writer failed while a connection was closed
pub close_failed : (conn at : ℕ) (old new : HubState) (before mid : HeldDatabase) (cs : List Connection) (x : Connection) (out : List ℕ)
    → record { held = before; attached = cs } ≡ old → StandsAt conn at old.attached → x ≡ get_or cs at x
    → CutOff (MayGive conn) before (option_to_list (last_line x.rest)) out mid → new ≡ record { held = released conn mid; attached = remove cs at }
    → Failed old (close conn) out new
close_failed conn at old new before mid cs x out view stands is cut left =
    subst (λ (s : HubState). StandsAt conn at s.attached → Failed s (close conn) out new) view
    (λ p. let e = element conn at cs x p is in (
      x.rest,
      mid,
      e.1,
      cut,
      left ∙ ap (λ ds. record { held = released conn mid; attached = ds }) p.removed,
    )) stands
