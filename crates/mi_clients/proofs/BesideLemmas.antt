-- The connection beside those of a list: it is read, a line of it is answered, and what it is owed is sent.
-- Cited by `Beside::judge`, `Beside::serve`, `beside::answer`, `beside::attend` and `beside::turn_away`.
use Rattle.std.proofs.Common.{◌≡◌, ◌⊎◌, inl, inr, ◌<◌, ◌≤◌, ℕ, Bool, true, false, not, cond, List, [], ◌∷◌, ◌++◌, length, Option, Some, None, refl, sym, ap, subst, ◌∙◌, append-nil, arith}
use Rattle.std.specs.Io.KnownBytes.{Consumes, Keeps, IsAtEnd}
use Rattle.mi_hub.specs.Ended.{ended}
use Rattle.mi_hub.specs.OneLine.{IsWholeLine}
use Rattle.mi_durable.specs.HeldReplies.{bytes_of}
use Rattle.mi_clients.specs.Client.{owed, Owes, IsServed, HasRoom, HasNoLine, MayAsk, IsAsked, IsOver, IsWhole, IsAsFar, HasSent, Hears, AsksWhatCame, ends_after}
use Rattle.mi_clients.specs.Beside.{is_other, shut, IsFarBehind, Tells, Answers, Attended, InPlace, Stays, IsJudgedBeside, JudgedThere}
use Rattle.mi_clients.specs.ServiceLines.{is_service}
use Rattle.mi_clients.specs.Input.{waiting, count_on}
use Rattle.mi_clients.specs.Lines.{Ends}
use Rattle.mi_clients.specs.Output.{unsent, Sends}
use Rattle.mi_clients.specs.declared.client.Client.{Client}
use Rattle.mi_clients.specs.declared.client.Phase.{Phase}
use Rattle.mi_clients.specs.declared.client.Phase.TheVariants.{Open, Ended, Drained, Broken}
use Rattle.mi_clients.specs.declared.client.TheConstants.{MOST_UNSENT}
use Rattle.mi_clients.specs.declared.input.Input.{Input}
use Rattle.mi_clients.proofs.ServedLemmas.{whether, ended_open, asked_open, broken_open, owes_none, served_then, served_by, served_owes, served_sends, came_sent}
use Rattle.mi_clients.proofs.TellLemmas.{came_more, owes_passed}

more_than : (m n : ℕ) → ¬ (n ≤ m) → m < n
more_than m n above = omega (arith, above)

broken_ended : (p : Phase) → p ≡ Broken → p ≡ Ended → ⊥
broken_ended p is other = cc

-- ---- how far it is behind a line

shut_open : (p : Phase) → shut p ≡ Open → ⊥
shut_open Open e = cc
shut_open Ended e = cc
shut_open Drained e = cc
shut_open Broken e = cc

pub other_some : (line : List ℕ) → ¬ (line ≡ []) → is_other line ≡ not (is_service line)
other_some [] some = absurd (some refl)
other_some (b ∷ bs) some = refl

-- one that is broken stays so, and another one is shut behind another line
pub shut_broken : (own : Bool) (p q : Phase) → q ≡ cond own p (shut p) → p ≡ Broken → q ≡ Broken
shut_broken true p q is broken = is ∙ broken
shut_broken false p q is broken = is ∙ ap shut broken

pub shut_open_one : (p q : Phase) → q ≡ shut p → p ≡ Open → q ≡ Ended
shut_open_one p q is was = is ∙ ap shut was

pub open_sound : (p : Phase) → p ≡ Open → ¬ (p ≡ Broken)
open_sound p was broken = cc

pub shut_behind : (own other : Bool) (p q r : Phase) → other ≡ not own → r ≡ cond own q (shut q) → q ≡ p → r ≡ cond other (shut p) p
shut_behind true other p q r not_own is same = is ∙ same ∙ sym (ap (λ t. cond t (shut p) p) not_own)
shut_behind false other p q r not_own is same = is ∙ ap shut same ∙ sym (ap (λ t. cond t (shut p) p) not_own)

module _ {S : Type 0} (line : List ℕ) (b c : Client S) where
  behind_open : IsFarBehind line b c → c.phase ≡ Open → b.phase ≡ Open
  behind_open (inl broken) is = absurd (broken_open c.phase broken is)
  behind_open (inr same) is = go (is_other line) same
    where
      go : (t : Bool) → c.phase ≡ cond t (shut b.phase) b.phase → b.phase ≡ Open
      go true shuts = absurd (shut_open b.phase (sym shuts ∙ is))
      go false stays = sym stays ∙ is

  behind_broken : IsFarBehind line b c → b.phase ≡ Broken → c.phase ≡ Broken
  behind_broken (inl broken) is = broken
  behind_broken (inr same) is = go (is_other line) same
    where
      go : (t : Bool) → c.phase ≡ cond t (shut b.phase) b.phase → c.phase ≡ Broken
      go true shuts = shuts ∙ ap shut is
      go false stays = stays ∙ is

  behind_shut : IsFarBehind line b c → is_other line ≡ true → c.phase ≡ Open → ⊥
  behind_shut (inl broken) other is = broken_open c.phase broken is
  behind_shut (inr same) other is = shut_open b.phase (sym (same ∙ ap (λ t. cond t (shut b.phase) b.phase) other) ∙ is)

module _ {S : Type 0} where
  -- what a connection was given it is owed still, where it is only read no more
  pub owes_then : (given : List ℕ) (a b c : Client S) → Owes given a b → c.conn ≡ b.conn → c.stream ≡ b.stream → owed c ≡ owed b
      → (b.phase ≡ Broken → c.phase ≡ Broken) → Owes given a c
  owes_then given a b c p conn stream same breaks = record {
    conn = conn ∙ p.conn;
    stream = stream ∙ p.stream;
    lost = p.lost;
    bytes = p.bytes ∙ ap (λ t. t ++ p.lost) (sym same);
    whole = elim p.whole [ inl broken ↦ inl (breaks broken) | inr none ↦ inr none ];
    broken = λ is. (breaks (p.broken is).0, (p.broken is).1);
  }

  same_some : (c x : Client S) → ◌≡◌ {A = Option (Client S)} (Some x) (Some c) → c ≡ x
  same_some c x is = cc

  -- what was read waits
  pub came_read : (remaining : S → Option (List ℕ)) (a b : Client S) (piece : List ℕ) → Consumes (remaining a.stream) (remaining b.stream) piece
      → (¬ (a.phase ≡ Open) → piece ≡ [])
      → (b.phase ≡ Broken) ⊎ (Hears (waiting a.input ++ piece) [] a b
      ⊎ ((b.phase ≡ Ended) × (piece ≡ []) × IsAtEnd (remaining b.stream) × Ends (waiting a.input) (waiting b.input)))
      → (b.phase ≡ Open → a.phase ≡ Open) → b.input.lines ≡ a.input.lines → AsksWhatCame remaining [] a b
  came_read remaining a b piece read shut came opens lines = (
    piece,
    read,
    λ no. (shut no, λ is. no (opens is)),
    elim came [
      | inl broken ↦ inl (broken, refl)
      | inr (inl hears) ↦ inr (inl hears)
      | inr (inr ends) ↦ inr (inr (λ is. ended_open b.phase ends.0 is, ends.1, whether (remaining a.stream) _ ends.2, ends.3))
    ],
    lines,
  )

  -- who is in the place stays there, or goes
  pub stays_there : (P : Client S → Client S → Type 0) (o : Option (Client S)) (c d : Client S) → o ≡ Some c → P c d → ¬ IsOver d → InPlace P o (Some d)
  stays_there P None c d is p stays = cc
  stays_there P (Some x) c d is p stays = (d, subst (λ y. P y d) (same_some c x is) p, (refl, stays))

  pub goes_there : (P : Client S → Client S → Type 0) (o q : Option (Client S)) (c d : Client S) → o ≡ Some c → q ≡ None → P c d → IsOver d
      → InPlace P o q
  goes_there P None q c d is none p over = none
  goes_there P (Some x) q c d is none p over = (d, subst (λ y. P y d) (same_some c x is) p, subst (Stays d) (sym none) over)

  pub judged_there : (limit : Option ℕ) (now : ℕ) (o : Option (Client S)) (c d : Client S) → o ≡ Some c → IsJudgedBeside limit now c d
      → JudgedThere limit now o (Some d)
  judged_there limit now None c d is p = cc
  judged_there limit now (Some x) c d is p = (d, refl, subst (λ y. IsJudgedBeside limit now y d) (same_some c x is) p)

  -- why no line is answered
  pub why_none : (c : Client S) {X : Type 0} → ¬ MayAsk c → IsAsked c → (c.phase ≡ Broken) ⊎ (HasNoLine c ⊎ (¬ HasRoom c ⊎ X))
  why_none c never (inl broken) = inl broken
  why_none c never (inr (inl none)) = inr (inl none)
  why_none c never (inr (inr (inl full))) = inr (inr (inl full))
  why_none c never (inr (inr (inr may))) = absurd (never may.0)

  pub answers_none : (status schema : List ℕ) (a b : Client S) → b.conn ≡ a.conn → b.stream ≡ a.stream → b.output ≡ a.output → b.phase ≡ a.phase
      → b.input ≡ a.input → b.held ≡ a.held → b.ends ≡ a.ends
      → (a.phase ≡ Broken) ⊎ (HasNoLine b ⊎ (¬ HasRoom a ⊎ ¬ (bytes_of a.held ≡ []))) → Answers status schema a b
  answers_none status schema a b conn stream output phase input held ends why = record {
    line = [];
    text = [];
    tells = inl (refl, refl);
    owes = record {
      conn = conn;
      stream = stream;
      lost = [];
      bytes = sym (ap (λ o. (unsent o ++ bytes_of b.held) ++ []) output ∙ ap (λ h. (unsent a.output ++ bytes_of h) ++ []) held);
      whole = inr refl;
      broken = λ is. (phase ∙ is, refl);
    };
    far = inr phase;
    waits = ap waiting (sym input);
    first = ap (λ (i : Input). i.is_first) input;
    counts = ap (λ (i : Input). i.lines) input;
    held = held;
    ends = ends;
    sound = λ is. refl;
    none = λ is. why;
  }

  -- it is settled where all its lines are answered, and then it is sent what it is owed
  module _ (contents remaining : S → Option (List ℕ)) (status schema : List ℕ) (a b c d e : Client S) where
    pub attended : AsksWhatCame remaining [] a b → IsServed contents [] a b → b.held ≡ a.held → b.ends ≡ a.ends → owed b ≡ owed a
        → Answers status schema b c
        → (d ≡ c) ⊎ ((d.phase ≡ Drained) × IsWhole c) → d.input ≡ c.input → d.conn ≡ c.conn → d.stream ≡ c.stream → d.held ≡ c.held
        → d.output ≡ c.output → d.ends ≡ c.ends
        → Sends contents d.stream e.stream (owed d) (owed e) → Keeps (remaining d.stream) (remaining e.stream) → IsAsFar d e → e.input ≡ d.input
        → e.conn ≡ d.conn → e.held ≡ d.held → e.ends ≡ d.ends → HasSent e → Attended contents remaining status schema a e
    attended came read held ends still p settled input conn stream same_held output same_ends sends keeps far sent_input sent_conn sent_held sent_ends sent = record {
      line = p.line;
      text = p.text;
      tells = p.tells;
      served = served_by contents (p.text ++ []) p.text a e (append-nil p.text)
          (served_then contents p.text [] a c e (served_then contents [] p.text a b c read (served_owes contents p.text b c p.owes))
          (served_sends contents c e (sent_conn ∙ conn) sends_it (λ is. goes_broken (settled_broken settled is))));
      asked = came_sent remaining p.line a d e
          (came_more remaining [] p.line a b d came (stream ∙ p.owes.stream) (p.waits ∙ ap (λ i. p.line ++ waiting i) (sym input))
          (ap (λ (i : Input). i.is_first) input ∙ p.first) (ap (λ (i : Input). i.lines) input ∙ p.counts) (was_open settled p.far)
          (λ is. (settled_broken settled (behind_broken p.line b c p.far is), p.sound is)))
          keeps sent_input far;
      held = sent_held ∙ same_held ∙ p.held ∙ held;
      ends = sent_ends ∙ same_ends ∙ p.ends ∙ ap (λ o. ends_after o p.line) ends;
      shuts = λ other is. stays_shut settled other (was_open_there far is);
      none = λ is. elim (p.none is) [
        | inl broken ↦ inl (goes_broken (settled_broken settled (behind_broken p.line b c p.far broken)))
        | inr (inl none) ↦ inr (inl (ap (λ i. ended (waiting i)) (sent_input ∙ input) ∙ none))
        | inr (inr (inl full)) ↦ inr (inr (inl (subst (λ t. MOST_UNSENT < length t) still (more_than MOST_UNSENT (length (owed b)) full))))
        | inr (inr (inr some)) ↦ inr (inr (inr (λ no. some (ap bytes_of held ∙ no))))
      ];
      sent = sent;
    }
      where
        same_owed : owed d ≡ owed c
        same_owed = ap (λ o. unsent o ++ bytes_of d.held) output ∙ ap (λ h. unsent c.output ++ bytes_of h) same_held

        sends_it : Sends contents c.stream e.stream (owed c) (owed e)
        sends_it = subst (λ s. Sends contents s e.stream (owed c) (owed e)) stream (subst (λ t. Sends contents d.stream e.stream t (owed e)) same_owed sends)

        goes_broken : d.phase ≡ Broken → e.phase ≡ Broken
        goes_broken is = elim far [ inl broken ↦ broken | inr same ↦ same ∙ is ]

        settled_broken : (d ≡ c) ⊎ ((d.phase ≡ Drained) × IsWhole c) → c.phase ≡ Broken → d.phase ≡ Broken
        settled_broken (inl same) is = ap (λ (x : Client S). x.phase) same ∙ is
        settled_broken (inr all) is = absurd (broken_ended c.phase is all.1.0)

        was_open_there : IsAsFar d e → e.phase ≡ Open → d.phase ≡ Open
        was_open_there (inl broken) is = absurd (broken_open e.phase broken is)
        was_open_there (inr same) is = sym same ∙ is

        stays_shut : (d ≡ c) ⊎ ((d.phase ≡ Drained) × IsWhole c) → is_other p.line ≡ true → d.phase ≡ Open → ⊥
        stays_shut (inr all) other is = asked_open d.phase all.0 is
        stays_shut (inl same) other is = behind_shut p.line b c p.far other (ap (λ (x : Client S). x.phase) (sym same) ∙ is)

        was_open : (d ≡ c) ⊎ ((d.phase ≡ Drained) × IsWhole c) → IsFarBehind p.line b c → d.phase ≡ Open → b.phase ≡ Open
        was_open (inr all) q is = absurd (asked_open d.phase all.0 is)
        was_open (inl same) q is = behind_open p.line b c q (ap (λ (x : Client S). x.phase) (sym same) ∙ is)
