-- Lists that are read one by one: what was read so far, and what is to come, is all.
-- Cited by `edits::edits_of`.
use Rattle.std.proofs.Common.{◌≡◌, ◌∙◌, ℕ, ◌+◌, ◌<◌, List, [], ◌∷◌, ◌++◌, length, drop, get_or, Option, Some, None, option_map, Result, Ok, Err, refl, sym, ap, subst, append_assoc}
use Rattle.std.proofs.lemmas.List.{drop_more}
use Rattle.std.specs.Option.{ok_or}
use Rattle.std.specs.Result.{IsErrAnd, MatchResult}
use Rattle.mi_request.specs.Answers.{IsAnswer}
use Rattle.mi_protocol.proofs.AnswerLemmas.{refused}
use Rattle.mi_value.specs.declared.refusal.Refusal.{Refusal}
use Rattle.mi_embed.specs.Cells.{before_all}

pub is_made : {A : Type 0} {v : A} (e : Refusal) (o : Option A) → ok_or o e ≡ Ok v → o ≡ Some v
is_made e (Some v) is = cc
is_made e None is = absurd (cc)

-- nothing in front
pub nothing_in_front : {A : Type 0} (r : Option (List A)) → option_map (λ vs. [] ++ vs) r ≡ r
nothing_in_front None = refl
nothing_in_front (Some vs) = refl

moved_front : {A : Type 0} (front : List A) (v : A) (r : Option (List A))
    → option_map (λ vs. (front ++ v ∷ []) ++ vs) r ≡ option_map (λ vs. front ++ vs) (before_all (Some v) r)
moved_front front v None = refl
moved_front front v (Some vs) = ap Some (append_assoc front (v ∷ []) vs)

-- `reads` reads all by `one`
abbrev pub ReadsBy : {A C : Type 0} → (C → Option A) → (List C → Option (List A)) → Type 0
ReadsBy {A} {C} one reads = (c : C) (cs : List C) → reads (c ∷ cs) ≡ before_all (one c) (reads cs)

-- one more is read
pub read_more : {A C : Type 0} (one : C → Option A) (reads : List C → Option (List A)) → ReadsBy one reads
    → (cells : List C) (i : ℕ) (d : C) (front made : List A) (v : A) → i < length cells → made ≡ front ++ v ∷ [] → one (get_or cells i d) ≡ Some v
    → option_map (λ vs. front ++ vs) (reads (drop i cells)) ≡ reads cells → option_map (λ vs. made ++ vs) (reads (drop (i + 1) cells)) ≡ reads cells
read_more {A} {C} one reads step cells i d front made v there pushed good before =
    let rest = drop (i + 1) cells in
    ap (λ (ws : List A). option_map (λ vs. ws ++ vs) (reads rest)) pushed ∙ moved_front front v (reads rest)
    ∙ ap (λ (o : Option A). option_map (λ vs. front ++ vs) (before_all o (reads rest))) (sym good)
    ∙ ap (λ (o : Option (List A)). option_map (λ vs. front ++ vs) o) (sym (step (get_or cells i d) rest))
    ∙ ap (λ (cs : List C). option_map (λ vs. front ++ vs) (reads cs)) (sym (drop_more cells i d there)) ∙ before

-- one that is none
pub read_none : {A C : Type 0} (one : C → Option A) (reads : List C → Option (List A)) → ReadsBy one reads
    → (cells : List C) (i : ℕ) (d : C) (front : List A) → i < length cells
    → option_map (λ vs. front ++ vs) (reads (drop i cells)) ≡ reads cells → one (get_or cells i d) ≡ None → reads cells ≡ None
read_none {A} {C} one reads step cells i d front there before none =
    let rest = drop (i + 1) cells in
    sym before ∙ ap (λ (cs : List C). option_map (λ vs. front ++ vs) (reads cs)) (drop_more cells i d there)
    ∙ ap (λ (o : Option (List A)). option_map (λ vs. front ++ vs) o) (step (get_or cells i d) rest ∙ ap (λ (o : Option A). before_all o (reads rest)) none)

-- where one is refused all are
pub refused_all : {A B V : Type 0} (r : Result V Refusal) (P : V → Type 0) (x missing : Refusal) (part : Option A) (whole : Option B)
    → IsErrAnd r (λ e. e ≡ x) → (part ≡ None → whole ≡ None) → IsAnswer (Err x) (ok_or part missing)
    → MatchResult r P (λ e. IsAnswer (Err e) (ok_or whole missing))
refused_all (Ok v) P x missing part whole is none h = absurd is
refused_all {A} {B} (Err e) P x missing part whole is none h =
    subst (λ (y : Refusal). IsAnswer {A = B} (Err y) (ok_or whole missing)) (sym is) (refused (Err x) x x missing part whole refl refl none h)
