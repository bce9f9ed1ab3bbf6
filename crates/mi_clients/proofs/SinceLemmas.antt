-- With which of its lines a connection last began to hold sessions, over steps one behind another.
-- Cited by `asking::ask_lines`, `clients::serve`, `ServedLemmas` and `TellLemmas`.
use Rattle.std.proofs.Common.{◌≡◌, ℕ, List, [], ◌∷◌, ◌++◌, Bool, true, false, ◌&&◌, cond, nat_eq, refl, sym, ap, ◌∙◌}
use Rattle.mi_clients.specs.Client.{KnowsSince}
use Rattle.mi_clients.specs.Input.{count_on}
use Rattle.mi_clients.specs.Steps.{Step, comes, asks, denies, tells, undoes, goes, line_by, asked_by, begins_by, since_after, AllTell}
use Rattle.mi_clients.specs.declared.client.Client.{Client}
use Rattle.mi_clients.proofs.InputLemmas.{count_join}
use Rattle.mi_clients.proofs.ClientsLemmas.{front_none, back_none}

pub since_join : (k n s : ℕ) (xs ys : List Step)
    → since_after k n s (xs ++ ys) ≡ since_after k (count_on n (asked_by k xs)) (since_after k n s xs) ys
since_join k n s [] ys = refl
since_join k n s (x ∷ xs) ys =
    since_join k (count_on n (line_by k x)) (cond (begins_by k x) (count_on n (line_by k x)) s) xs ys
    ∙ ap (λ m. since_after k m (since_after k n s (x ∷ xs)) ys) (sym (count_join n (line_by k x) (asked_by k xs)))

-- ---- steps in which it asks nothing

quiet_begins : (b : ℕ) (bs : List ℕ) (began c : Bool) → cond c (b ∷ bs) [] ≡ [] → (c && began) ≡ false
quiet_begins b bs began true none = cc
quiet_begins b bs began false none = refl

step_quiet : (k : ℕ) (step : Step) → line_by k step ≡ [] → begins_by k step ≡ false
step_quiet k (comes conn) none = refl
step_quiet k (asks conn [] reply began) none = refl
step_quiet k (asks conn (b ∷ bs) reply began) none = quiet_begins b bs began (nat_eq conn k) none
step_quiet k (denies conn line reply) none = refl
step_quiet k (tells conn line text) none = refl
step_quiet k (undoes conn reply) none = refl
step_quiet k (goes conn) none = refl

pub since_quiet : (k n s : ℕ) (steps : List Step) → asked_by k steps ≡ [] → since_after k n s steps ≡ s
since_quiet k n s [] none = refl
since_quiet k n s (x ∷ xs) none =
    ap (λ b. since_after k (count_on n (line_by k x)) (cond b (count_on n (line_by k x)) s) xs)
    (step_quiet k x (front_none (line_by k x) (asked_by k xs) none))
    ∙ since_quiet k (count_on n (line_by k x)) s xs (back_none (line_by k x) (asked_by k xs) none)

-- nobody begins to hold sessions by a line that the service answers
since_told : (k n s : ℕ) (steps : List Step) → AllTell steps → since_after k n s steps ≡ s
since_told k n s [] p = refl
since_told k n s (comes j ∷ steps) p = absurd p
since_told k n s (asks j line reply began ∷ steps) p = absurd p
since_told k n s (denies j line reply ∷ steps) p = absurd p
since_told k n s (tells j line text ∷ steps) p = since_told k (count_on n (cond (nat_eq j k) line [])) s steps p
since_told k n s (undoes j reply ∷ steps) p = absurd p
since_told k n s (goes j ∷ steps) p = absurd p

-- ---- one connection

-- a line more
pub since_more : (k conn n s m t u : ℕ) (steps : List Step) (step : Step) (taken : List ℕ) → k ≡ conn → m ≡ count_on n taken
    → t ≡ since_after conn n s steps → asked_by conn steps ≡ taken → u ≡ since_after k m t (step ∷ [])
    → u ≡ since_after conn n s (steps ++ step ∷ [])
since_more k conn n s m t u steps step taken same count since asked is =
    is ∙ ap (λ j. since_after j m t (step ∷ [])) same
    ∙ ap (λ x. since_after conn x t (step ∷ [])) (count ∙ ap (count_on n) (sym asked))
    ∙ ap (λ x. since_after conn (count_on n (asked_by conn steps)) x (step ∷ [])) since
    ∙ sym (since_join conn n s steps (step ∷ []))

-- its lines are asked, and then its sessions may be undone
pub since_served : (k conn n s m t u v : ℕ) (xs ys : List Step) → k ≡ conn → m ≡ n → t ≡ s → u ≡ since_after k m t xs → asked_by conn ys ≡ []
    → v ≡ u → v ≡ since_after conn n s (xs ++ ys)
since_served k conn n s m t u v xs ys same count since is quiet still =
    still ∙ is ∙ ap (λ j. since_after j m t xs) same ∙ ap (λ x. since_after conn x t xs) count ∙ ap (λ x. since_after conn n x xs) since
    ∙ sym (since_join conn n s xs ys ∙ since_quiet conn (count_on n (asked_by conn xs)) (since_after conn n s xs) ys quiet)

module _ {S : Type 0} where
  -- others ask, before it or behind it
  pub knows_front : (xs ys : List Step) (old new : Client S) → asked_by old.conn xs ≡ [] → KnowsSince ys old new → KnowsSince (xs ++ ys) old new
  knows_front xs ys old new none p =
      p ∙ sym (since_join old.conn old.input.lines old.input.since xs ys
      ∙ ap (λ t. since_after old.conn (count_on old.input.lines t) (since_after old.conn old.input.lines old.input.since xs) ys) none
      ∙ ap (λ s. since_after old.conn old.input.lines s ys) (since_quiet old.conn old.input.lines old.input.since xs none))

  pub knows_behind : (xs ys : List Step) (old new : Client S) → asked_by old.conn ys ≡ [] → KnowsSince xs old new → KnowsSince (xs ++ ys) old new
  knows_behind xs ys old new none p =
      p ∙ sym (since_join old.conn old.input.lines old.input.since xs ys ∙ since_quiet old.conn _ _ ys none)

  -- the service tells something, and it stays known
  pub knows_told : (xs ys : List Step) (old mid new : Client S) → AllTell ys → new.input.since ≡ mid.input.since → KnowsSince xs old mid
      → KnowsSince (xs ++ ys) old new
  knows_told xs ys old mid new all same p =
      same ∙ p ∙ sym (since_join old.conn old.input.lines old.input.since xs ys ∙ since_told old.conn _ _ ys all)
