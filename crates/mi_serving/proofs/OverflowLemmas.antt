-- Who has no place in the list.
-- Cited by `Overflow::keep`, `service::serve` and `service::turn`.
use Rattle.std.proofs.Common.{◌≡◌, inl, inr, ◌≤◌, ◌<◌, ℕ, nat_lt, Bool, true, false, not, is_some, List, [], ◌∷◌, ◌++◌, Option, Some, None, refl, sym, ap, subst, ◌∙◌, arith}
use Rattle.mi_hub.specs.Run.{HubState}
use Rattle.mi_clients.specs.declared.client.Client.{Client}
use Rattle.mi_clients.specs.declared.clients.ConnectOutcome.{ConnectOutcome}
use Rattle.mi_clients.specs.declared.clients.ConnectOutcome.TheVariants.{Connected, Refused}
use Rattle.mi_clients.specs.Clients.{Admits}
use Rattle.mi_clients.specs.Status.{IsStatus}
use Rattle.mi_clients.specs.Beside.{Attended, InPlace}
use Rattle.mi_clients.proofs.StepLemmas.{makes_then}
use Rattle.mi_clients.proofs.ServedLemmas.{in_from, in_to, in_join}
use Rattle.mi_serving.specs.declared.link.Link.{Link}
use Rattle.mi_serving.specs.declared.overflow.Comer.{Comer}
use Rattle.mi_serving.specs.declared.overflow.Overflow.{Overflow}
use Rattle.mi_serving.specs.Overflow.{WaitsUpTo, Waits, IsPlaced}
use Rattle.mi_serving.specs.Turns.{Goes, AllUpTo, IsTurn}

-- nobody stands in a place that is free
pub free_none : (free : Bool) (o : Option (Client Link)) → free ≡ not (is_some o) → not free ≡ false → o ≡ None
free_none free None is not_taken = refl
free_none free (Some c) is not_taken = let bad : false ≡ true = sym not_taken ∙ ap not is in cc

pub less_not : (m n : ℕ) → m < n → ¬ (nat_lt m n ≡ false)
less_not m n lt is = let less : nat_lt m n ≡ true = grind (arith, lt) in (let bad : true ≡ false = sym less ∙ is in cc)

-- who was attended to beside these connections was so beside the same ones, and what became of the place is the same
pub attended_there : (after stays : Option (List ℕ)) (lacks : Bool) (room : ℕ) (segment : Option ℕ) (seconds : ℕ) (hub : HubState) (schema : List ℕ) (clients rows : List (Client Link))
    (o p q : Option (Client Link)) → clients ≡ rows → q ≡ p
    → InPlace (λ was last. (status : List ℕ) × IsStatus after stays lacks room segment seconds clients hub status
    × Attended (λ _. None) (λ _. None) status schema was last) o p
    → InPlace (λ was last. (status : List ℕ) × IsStatus after stays lacks room segment seconds rows hub status
    × Attended (λ _. None) (λ _. None) status schema was last) o q
attended_there after stays lacks room segment seconds hub schema clients rows o p q same there is =
    subst (λ r. InPlace (λ was last. (status : List ℕ) × IsStatus after stays lacks room segment seconds r hub status
    × Attended (λ _. None) (λ _. None) status schema was last) o q) same
    (subst (λ r. InPlace (λ was last. (status : List ℕ) × IsStatus after stays lacks room segment seconds clients hub status
    × Attended (λ _. None) (λ _. None) status schema was last) o r) (sym there) is)

-- ---- numbers

pub waits_more : (last more : ℕ) (o : Option Comer) → last ≤ more → WaitsUpTo last o → WaitsUpTo more o
waits_more last more None le is = tt
waits_more last more (Some c) le is = omega (arith, le, is)

pub waits_none : (last : ℕ) (o : Option Comer) → o ≡ None → WaitsUpTo last o
waits_none last o none = subst (WaitsUpTo last) (sym none) tt

waits_still : (last : ℕ) (c : Comer) (o : Option Comer) → c.conn ≤ last → Waits c o → WaitsUpTo last o
waits_still last c None le is = absurd is
waits_still last c (Some d) le is = subst (λ n. n ≤ last) (sym is.0) le

pub waits_placed : (last : ℕ) (o : Option Comer) (old new : Overflow) (hub mid : HubState) (olds news : List (Client Link)) → old.comer ≡ o
    → WaitsUpTo last o → IsPlaced o old new hub mid olds news → WaitsUpTo last new.comer
waits_placed last None old new hub mid olds news none le p = waits_none last new.comer (ap (λ (x : Overflow). x.comer) p.0 ∙ none)
waits_placed last (Some c) old new hub mid olds news some le (inl admitted) = waits_none last new.comer admitted.1
waits_placed last (Some c) old new hub mid olds news some le (inr kept) = elim kept.3 [
  | inl still ↦ waits_still last c new.comer le still.1
  | inr stands ↦ waits_none last new.comer stands.0
]

up_to_seated : (last : ℕ) (clients : List (Client Link)) (client : Client Link) → AllUpTo last clients → client.conn ≤ last → AllUpTo last (clients ++ client ∷ [])
up_to_seated last clients client all le = λ c here. elim (in_join clients (client ∷ []) c (in_from (clients ++ client ∷ []) c here)) [
  | inl old ↦ all c (in_to clients c old)
  | inr comer ↦ elim comer [
    | inl same ↦ subst (λ (x : Client Link). x.conn ≤ last) same le
    | inr none ↦ absurd none
  ]
]

up_to_admits : (last conn : ℕ) (link : Link) (hub mid : HubState) (olds news : List (Client Link)) → conn ≤ last → AllUpTo last olds → (a : ConnectOutcome)
    → Admits conn link hub mid olds news a → AllUpTo last news
up_to_admits last conn link hub mid olds news le all Connected p =
    subst (AllUpTo last) (sym p.1) (up_to_seated last olds p.0 all (subst (λ n. n ≤ last) (sym p.2) le))
up_to_admits last conn link hub mid olds news le all (Refused fault) p = subst (AllUpTo last) (sym p.2) all

pub up_to_placed : (last : ℕ) (o : Option Comer) (old new : Overflow) (hub mid : HubState) (olds news : List (Client Link)) → WaitsUpTo last o
    → AllUpTo last olds → IsPlaced o old new hub mid olds news → AllUpTo last news
up_to_placed last None old new hub mid olds news le all p = subst (AllUpTo last) (sym p.2) all
up_to_placed last (Some c) old new hub mid olds news le all (inl admitted) =
    up_to_admits last c.conn c.link hub mid olds news le all admitted.3 admitted.4
up_to_placed last (Some c) old new hub mid olds news le all (inr kept) = subst (AllUpTo last) (sym kept.2) all

-- what a turn does are steps
pub goes_turn : (schema : List ℕ) (seconds : ℕ) (old new : HubState) (a b stays : Option (List ℕ)) (lacks : Bool) (room : ℕ) (segment : Option ℕ)
    (olds news : List (Client Link)) (o p : Overflow)
    → IsTurn schema seconds old new a b stays lacks room segment olds news o p → Goes old new a b
goes_turn schema seconds old new a b stays lacks room segment olds news o p t =
    (t.first ++ t.comes, makes_then t.first t.comes old t.mid new a t.kept b t.makes t.admits)
