-- What the service tells, one step behind another, and over a list.
-- Cited by `Client::service_line`, `asking::ask_line`, `beside::answer`, `beside::turn_away`, `clients::ask_all`, 12 more and `mi_serving`.
use Rattle.std.proofs.Common.{◌≡◌, ◌⊎◌, inl, inr, ℕ, ℤ, ◌<◌, List, [], ◌∷◌, ◌++◌, length, codes, nat_eq, cond, Bool, true, false, Option, is_some, Result, Ok, Err, refl, sym, ap, ◌∙◌, subst, append-nil, append_assoc, arith}
use Rattle.std.specs.Prelude.{IfOk, IfSome, OnOk, is_ok}
use Rattle.std.specs.Result.{result_ok}
use Rattle.std.specs.List.{All}
use Rattle.std.specs.Io.KnownBytes.{Consumes, IsAtEnd}
use Rattle.mi_hub.specs.Ended.{ended}
use Rattle.mi_hub.specs.Run.{HubState}
use Rattle.mi_replay.specs.Acts.{Act}
use Rattle.mi_durable.specs.HeldReplies.{bytes_of}
use Rattle.mi_durable.specs.Journals.{IsWholeLine}
use Rattle.mi_durable.specs.Durable.{holder_conn}
use Rattle.mi_model.specs.Database.{Database}
use Rattle.mi_log.specs.declared.log.LogState.{LogState}
use Rattle.mi_clients.specs.Output.{unsent}
use Rattle.mi_clients.specs.ServiceLines.{is_service, asks_status, asks_schema, ended_in, done_line, form_line, told_to}
use Rattle.mi_clients.specs.Status.{listed, connection_text, database_text, status_line, IsStatus}
use Rattle.mi_clients.specs.Heard.{heard}
use Rattle.mi_clients.specs.Input.{waiting, count_on}
use Rattle.mi_clients.specs.Lines.{SameLines, Ends}
use Rattle.mi_clients.specs.Client.{owed, Owes, HasRoom, MayTell, IsAsked, IsHeard, AsksWhatCame, KnowsSince, IsAsFar, ends_after, Takes, GoesOn, IsWhole, BreaksWith, IsSame, IsRead, IsServed}
use Rattle.mi_clients.specs.Clients.{EachServed, EachAsked, EachTakes, EachSame, EachRead, OpenOnlyAsk, NoneIsWhole, AllBreakWith, TellsWhatIs, Joins}
use Rattle.mi_clients.specs.Steps.{Step, comes, asks, denies, tells, undoes, goes, given_to, asked_by, told_by, reply_to, GivesOnly, GivesNone, AsksOnly, AsksNone, OnlyAsks}
use Rattle.mi_clients.specs.Steps.{AreAsks, AreUndos, AreTells, AllTell, TellsNone, TellsSo, DoneBy, Makes}
use Rattle.mi_clients.specs.declared.client.Client.{Client}
use Rattle.mi_clients.specs.declared.client.Phase.{Phase}
use Rattle.mi_clients.specs.declared.client.Phase.TheVariants.{Open, Broken}
use Rattle.mi_clients.proofs.SinceLemmas.{knows_front, knows_told}
use Rattle.mi_clients.proofs.InputLemmas.{unended_back, same_front, first_newline, count_join}
use Rattle.mi_clients.proofs.ClientsLemmas.{same_test, true_false, front_none, back_none, zip_weaker, zip_then, zip_all}
use Rattle.mi_clients.proofs.StepLemmas.{makes_then}
use Rattle.mi_clients.proofs.ServedLemmas.{IsIn, in_from, in_to, in_join, zip_both, new_before, asked_join, told_join, only_then, given_behind, served_by}
use Rattle.mi_clients.proofs.StreamLemmas.{whole_before}

-- ---- lines of the service

-- where the first line is none of the service's, no line of it comes first
pub other_line : (w line rest : List ℕ) → IsWholeLine line → is_service line ≡ false → w ≡ line ++ rest
    → (own : List ℕ) × (more : List ℕ) × IsWholeLine own × (is_service own ≡ true) × (w ≡ own ++ more) → ⊥
other_line w line rest whole other is (own, more, also, own_is, same) =
    let both : (whole.0 ++ 10 ∷ []) ++ rest ≡ (also.0 ++ 10 ∷ []) ++ more =
    ap (λ l. l ++ rest) (sym whole.1) ∙ sym is ∙ same ∙ ap (λ l. l ++ more) also.1 in
    let one : line ≡ own = whole.1 ∙ ap (λ t. t ++ 10 ∷ []) (same_front whole.0 also.0 rest more whole.2 also.2 both) ∙ sym also.1 in
    true_false (is_service own) own_is (sym (ap is_service one) ∙ other)

-- bytes that begin with a line have a newline
pub line_waits : (w line rest : List ℕ) → IsWholeLine line → w ≡ line ++ rest → ended w ≡ [] → ⊥
line_waits w line rest whole is none =
    first_newline 10 rest refl (unended_back whole.0 (10 ∷ rest)
    (sym (ap ended (is ∙ ap (λ l. l ++ rest) whole.1 ∙ append_assoc whole.0 (10 ∷ []) rest)) ∙ none))

-- a line has a byte at least
pub line_some : (line : List ℕ) → IsWholeLine line → ¬ (line ≡ [])
line_some line whole none = some_byte whole.0 (sym whole.1 ∙ none)
  where
    some_byte : (t : List ℕ) → t ++ 10 ∷ [] ≡ [] → ⊥
    some_byte [] e = cc
    some_byte (x ∷ t) e = cc

bytes_some : (x : ℕ) (xs : List ℕ) → ¬ (x ∷ xs ≡ [])
bytes_some x xs e = cc

-- and so has what is told to it
pub told_some : (status schema line : List ℕ) → ¬ (status ≡ []) → ¬ (schema ≡ []) → ¬ (told_to status schema line ≡ [])
told_some status schema line p q = by_three (asks_status line) (asks_schema line) (is_some (ended_in line))
  where
    by_three : (a b c : Bool) → ¬ (cond a status (cond b schema (cond c done_line form_line)) ≡ [])
    by_three true b c = p
    by_three false true c = q
    by_three false false true = bytes_some _ _
    by_three false false false = bytes_some _ _

pub schema_some : (bytes : List ℕ) → 0 < length bytes → ¬ (bytes ≡ [])
schema_some [] some e = absurd (omega arith)
schema_some (x ∷ xs) some e = bytes_some x xs e

-- texts one behind another
pub three_joined : (o a b c p q n : List ℕ) → p ≡ o ++ a → q ≡ p ++ b → n ≡ q ++ c → n ≡ o ++ (a ++ (b ++ c))
three_joined o a b c p q n ep eq en =
    en ∙ ap (λ x. x ++ c) (eq ∙ ap (λ x. x ++ b) ep ∙ append_assoc o a b) ∙ append_assoc o (a ++ b) c ∙ ap (λ x. o ++ x) (append_assoc a b c)

pub four_joined : (o a b c d p q r n : List ℕ) → p ≡ o ++ a → q ≡ p ++ b → r ≡ q ++ c → n ≡ r ++ d → n ≡ o ++ (a ++ (b ++ (c ++ d)))
four_joined o a b c d p q r n ep eq er en =
    en ∙ ap (λ x. x ++ d) (three_joined o a b c p q r ep eq er) ∙ append_assoc o (a ++ (b ++ c)) d
    ∙ ap (λ x. o ++ x) (append_assoc a (b ++ c) d ∙ ap (λ z. a ++ z) (append_assoc b c d))

pub six_joined : (o a b c d e f p q r s t n : List ℕ) → p ≡ o ++ a → q ≡ p ++ b → r ≡ q ++ c → s ≡ r ++ d → t ≡ s ++ e → n ≡ t ++ f
    → n ≡ o ++ (a ++ (b ++ (c ++ (d ++ (e ++ f)))))
six_joined o a b c d e f p q r s t n ep eq er es et en =
    let two : q ≡ o ++ (a ++ b) = eq ∙ ap (λ x. x ++ b) ep ∙ append_assoc o a b in
    let three : r ≡ o ++ (a ++ (b ++ c)) = er ∙ ap (λ x. x ++ c) two ∙ append_assoc o (a ++ b) c ∙ ap (λ x. o ++ x) (append_assoc a b c) in
    let right : (x y : List ℕ) → (a ++ (b ++ (c ++ x))) ++ y ≡ a ++ (b ++ (c ++ (x ++ y))) =
    λ x y. append_assoc a (b ++ (c ++ x)) y ∙ ap (λ z. a ++ z) (append_assoc b (c ++ x) y ∙ ap (λ z. b ++ z) (append_assoc c x y)) in
    let four : s ≡ o ++ (a ++ (b ++ (c ++ d))) =
    es ∙ ap (λ x. x ++ d) three ∙ append_assoc o (a ++ (b ++ c)) d
    ∙ ap (λ x. o ++ x) (append_assoc a (b ++ c) d ∙ ap (λ z. a ++ z) (append_assoc b c d)) in
    let five : t ≡ o ++ (a ++ (b ++ (c ++ (d ++ e)))) =
    et ∙ ap (λ x. x ++ e) four ∙ append_assoc o (a ++ (b ++ (c ++ d))) e ∙ ap (λ x. o ++ x) (right d e) in
    en ∙ ap (λ x. x ++ f) five ∙ append_assoc o (a ++ (b ++ (c ++ (d ++ e)))) f
    ∙ ap (λ x. o ++ x) (right (d ++ e) f ∙ ap (λ z. a ++ (b ++ (c ++ z))) (append_assoc d e f))

-- what holds of one that is Ok, of one of two texts
pub on_ok_of : {T E : Type 0} (r : Result T E) (n a b : List ℕ) → n ≡ cond (is_ok r) a b → OnOk r (n ≡ a)
on_ok_of (Ok v) n a b e = e
on_ok_of (Err x) n a b e = tt

-- what an answer that is Ok is, is some
pub told_some_of : {X E : Type 0} (P Q : X → Type 0) (r : Result X E) → IfOk r P → ((x : X) → P x → Q x) → IfSome (result_ok r) Q
told_some_of P Q (Ok x) p f = f x p
told_some_of P Q (Err e) p f = tt

-- the parts of a status, one behind another
pub status_joined : {S : Type 0} (clients : List (Client S)) (s : HubState) (j : LogState) (up : ℕ) (ms : List (Option ℕ)) (h : Option ℕ) (d : Database) (old a b new : List ℕ)
    → h ≡ holder_conn s.held.holder → d ≡ s.held.database → a ≡ old ++ codes "{\"connections\":["
    → b ≡ a ++ listed (connection_text h) 0 clients → new ≡ b ++ database_text h j up ms d → new ≡ old ++ status_line clients s j up ms
status_joined clients s j up ms h d old a b new eh ed ea eb en =
    let k = codes "{\"connections\":[" in
    let cs = listed (connection_text h) 0 clients in
    let db = database_text h j up ms d in
    en ∙ ap (λ t. t ++ db) (eb ∙ ap (λ t. t ++ cs) ea) ∙ append_assoc (old ++ k) cs db ∙ append_assoc old k (cs ++ db)
    ∙ ap (λ x. old ++ (k ++ (listed (connection_text x) 0 clients ++ database_text x j up ms d))) eh
    ∙ ap (λ x. old ++ (k ++ (listed (connection_text (holder_conn s.held.holder)) 0 clients ++ database_text (holder_conn s.held.holder) j up ms x))) ed

-- ---- steps in which nothing is told

pub quiet_join : (xs ys : List Step) → TellsNone xs → TellsNone ys → TellsNone (xs ++ ys)
quiet_join [] ys p q = q
quiet_join (comes j ∷ xs) ys p q = quiet_join xs ys p q
quiet_join (asks j line reply began ∷ xs) ys p q = quiet_join xs ys p q
quiet_join (denies j line reply ∷ xs) ys p q = quiet_join xs ys p q
quiet_join (tells j line text ∷ xs) ys p q = absurd p
quiet_join (undoes j reply ∷ xs) ys p q = quiet_join xs ys p q
quiet_join (goes j ∷ xs) ys p q = quiet_join xs ys p q

pub asks_quiet : (conn : ℕ) (steps : List Step) (taken given : List ℕ) → AreAsks conn steps taken given → TellsNone steps
asks_quiet conn [] taken given p = tt
asks_quiet conn (comes j ∷ steps) taken given p = absurd p
asks_quiet conn (asks j line reply began ∷ steps) taken given p = asks_quiet conn steps p.1 p.2 p.3
asks_quiet conn (denies j line reply ∷ steps) taken given p = asks_quiet conn steps p.1 p.2 p.3
asks_quiet conn (tells j line text ∷ steps) taken given p = absurd p
asks_quiet conn (undoes j reply ∷ steps) taken given p = absurd p
asks_quiet conn (goes j ∷ steps) taken given p = absurd p

pub undos_quiet : (conn : ℕ) (steps : List Step) → AreUndos conn steps → TellsNone steps
undos_quiet conn [] p = tt
undos_quiet conn (comes j ∷ steps) p = absurd p
undos_quiet conn (asks j line reply began ∷ steps) p = absurd p
undos_quiet conn (denies j line reply ∷ steps) p = absurd p
undos_quiet conn (tells j line text ∷ steps) p = absurd p
undos_quiet conn (undoes j reply ∷ steps) p = undos_quiet conn steps p.1
undos_quiet conn (goes j ∷ steps) p = absurd p

-- where nobody is given anything nothing is told
pub none_quiet : (steps : List Step) (acts : List Act) (old new : HubState) → DoneBy old steps acts new → GivesNone steps → TellsNone steps
none_quiet [] acts old new p none = tt
none_quiet (comes j ∷ steps) acts old new p none = none_quiet steps p.2 p.0 new p.4 none
none_quiet (asks j line reply began ∷ steps) acts old new p none =
    none_quiet steps p.2 p.0 new p.4 (λ k. back_none (reply_to k (asks j line reply began)) (given_to k steps) (none k))
none_quiet (denies j line reply ∷ steps) acts old new p none =
    none_quiet steps p.2 p.0 new p.4 (λ k. back_none (reply_to k (denies j line reply)) (given_to k steps) (none k))
none_quiet (tells j line text ∷ steps) acts old new p none =
    absurd (p.3.3 (front_none text (given_to j steps) (sym (ap (λ b. cond b text [] ++ given_to j steps) (same_test j)) ∙ none j)))
none_quiet (undoes j reply ∷ steps) acts old new p none = none_quiet steps p.2 p.0 new p.4 none
none_quiet (goes j ∷ steps) acts old new p none = none_quiet steps p.2 p.0 new p.4 none

pub quiet_so : (status schema : List ℕ) (steps : List Step) → TellsNone steps → TellsSo status schema steps
quiet_so status schema [] p = tt
quiet_so status schema (comes j ∷ steps) p = quiet_so status schema steps p
quiet_so status schema (asks j line reply began ∷ steps) p = quiet_so status schema steps p
quiet_so status schema (denies j line reply ∷ steps) p = quiet_so status schema steps p
quiet_so status schema (tells j line text ∷ steps) p = absurd p
quiet_so status schema (undoes j reply ∷ steps) p = quiet_so status schema steps p
quiet_so status schema (goes j ∷ steps) p = quiet_so status schema steps p

pub so_join : (status schema : List ℕ) (xs ys : List Step) → TellsSo status schema xs → TellsSo status schema ys → TellsSo status schema (xs ++ ys)
so_join status schema [] ys p q = q
so_join status schema (comes j ∷ xs) ys p q = so_join status schema xs ys p q
so_join status schema (asks j line reply began ∷ xs) ys p q = so_join status schema xs ys p q
so_join status schema (denies j line reply ∷ xs) ys p q = so_join status schema xs ys p q
so_join status schema (tells j line text ∷ xs) ys p q = (p.0, so_join status schema xs ys p.1 q)
so_join status schema (undoes j reply ∷ xs) ys p q = so_join status schema xs ys p q
so_join status schema (goes j ∷ xs) ys p q = so_join status schema xs ys p q

-- ---- steps in which something is told

pub tells_only : (conn : ℕ) (steps : List Step) → AreTells conn steps → GivesOnly conn steps
tells_only conn [] p = λ k other. refl
tells_only conn (comes j ∷ steps) p = absurd p
tells_only conn (asks j line reply began ∷ steps) p = absurd p
tells_only conn (denies j line reply ∷ steps) p = absurd p
tells_only conn (tells j line text ∷ steps) p = λ k other.
    ap (λ n. cond (nat_eq n k) text [] ++ given_to k steps) p.0
    ∙ ap (λ b. cond b text [] ++ given_to k steps) other
    ∙ tells_only conn steps p.1 k other
tells_only conn (undoes j reply ∷ steps) p = absurd p
tells_only conn (goes j ∷ steps) p = absurd p

pub tells_asked : (conn : ℕ) (steps : List Step) → AreTells conn steps → AsksOnly conn steps
tells_asked conn [] p = λ k other. refl
tells_asked conn (comes j ∷ steps) p = absurd p
tells_asked conn (asks j line reply began ∷ steps) p = absurd p
tells_asked conn (denies j line reply ∷ steps) p = absurd p
tells_asked conn (tells j line text ∷ steps) p = λ k other.
    ap (λ n. cond (nat_eq n k) line [] ++ asked_by k steps) p.0
    ∙ ap (λ b. cond b line [] ++ asked_by k steps) other
    ∙ tells_asked conn steps p.1 k other
tells_asked conn (undoes j reply ∷ steps) p = absurd p
tells_asked conn (goes j ∷ steps) p = absurd p

pub tells_all : (conn : ℕ) (steps : List Step) → AreTells conn steps → AllTell steps
tells_all conn [] p = tt
tells_all conn (comes j ∷ steps) p = absurd p
tells_all conn (asks j line reply began ∷ steps) p = absurd p
tells_all conn (denies j line reply ∷ steps) p = absurd p
tells_all conn (tells j line text ∷ steps) p = tells_all conn steps p.1
tells_all conn (undoes j reply ∷ steps) p = absurd p
tells_all conn (goes j ∷ steps) p = absurd p

pub tell_join : (xs ys : List Step) → AllTell xs → AllTell ys → AllTell (xs ++ ys)
tell_join [] ys p q = q
tell_join (comes j ∷ xs) ys p q = absurd p
tell_join (asks j line reply began ∷ xs) ys p q = absurd p
tell_join (denies j line reply ∷ xs) ys p q = absurd p
tell_join (tells j line text ∷ xs) ys p q = tell_join xs ys p q
tell_join (undoes j reply ∷ xs) ys p q = absurd p
tell_join (goes j ∷ xs) ys p q = absurd p

-- nobody comes or goes meanwhile
tell_alone : (k : ℕ) (steps : List Step) → AllTell steps → OnlyAsks k steps
tell_alone k [] p = tt
tell_alone k (comes j ∷ steps) p = absurd p
tell_alone k (asks j line reply began ∷ steps) p = absurd p
tell_alone k (denies j line reply ∷ steps) p = absurd p
tell_alone k (tells j line text ∷ steps) p = tell_alone k steps p
tell_alone k (undoes j reply ∷ steps) p = absurd p
tell_alone k (goes j ∷ steps) p = absurd p

-- and each line that is asked is told something
tell_lines : (k : ℕ) (steps : List Step) → AllTell steps → told_by k steps ≡ asked_by k steps
tell_lines k [] p = refl
tell_lines k (comes j ∷ steps) p = absurd p
tell_lines k (asks j line reply began ∷ steps) p = absurd p
tell_lines k (denies j line reply ∷ steps) p = absurd p
tell_lines k (tells j line text ∷ steps) p = ap (λ t. cond (nat_eq j k) line [] ++ t) (tell_lines k steps p)
tell_lines k (undoes j reply ∷ steps) p = absurd p
tell_lines k (goes j ∷ steps) p = absurd p

-- one step
pub tells_one_given : (conn : ℕ) (line text : List ℕ) → given_to conn (tells conn line text ∷ []) ≡ text
tells_one_given conn line text = ap (λ b. cond b text [] ++ []) (same_test conn) ∙ append-nil text

pub tells_one_asked : (conn : ℕ) (line text : List ℕ) → asked_by conn (tells conn line text ∷ []) ≡ line
tells_one_asked conn line text = ap (λ b. cond b line [] ++ []) (same_test conn) ∙ append-nil line

-- ---- one connection

-- what it has asked to end is that of the line, which has a byte
pub ended_some : (before : Option ℕ) (line : List ℕ) → ¬ (line ≡ []) → ended_in line ≡ ends_after before line
ended_some before [] some = absurd (some refl)
ended_some before (b ∷ bs) some = refl

broken_open : (p : Phase) → p ≡ Broken → p ≡ Open → ⊥
broken_open p h k = cc

module _ {S : Type 0} where
  was_open : (a b : Client S) → IsAsFar a b → b.phase ≡ Open → a.phase ≡ Open
  was_open a b (inl broken) is = absurd (broken_open b.phase broken is)
  was_open a b (inr same) is = sym same ∙ is

  still_broken : (a b : Client S) → IsAsFar a b → a.phase ≡ Broken → b.phase ≡ Broken
  still_broken a b (inl broken) is = broken
  still_broken a b (inr same) is = same ∙ is

  -- one that is as it was
  pub takes_none : (c : Client S) → ¬ MayTell c → Takes [] c c
  takes_none c never = record {
    conn = refl;
    stream = refl;
    waits = refl;
    first = refl;
    counts = refl;
    since = refl;
    far = inr refl;
    lines = refl;
    ends = refl;
    other = λ also. (refl, refl);
    told = λ may. absurd (never may);
  }

  -- one that is told something to its line
  pub takes_line : (line : List ℕ) (a b : Client S) → MayTell a → ¬ (line ≡ []) → b.conn ≡ a.conn → b.stream ≡ a.stream
      → waiting a.input ≡ line ++ waiting b.input → b.input.is_first ≡ a.input.is_first → b.input.lines ≡ count_on a.input.lines line
      → b.input.since ≡ a.input.since → IsAsFar a b → b.has_lines ≡ a.has_lines → b.ends ≡ ended_in line → Takes line a b
  takes_line line a b may some conn stream waits first counts since far lines ends = record {
    conn = conn;
    stream = stream;
    waits = waits;
    first = first;
    counts = counts;
    since = since;
    far = far;
    lines = lines;
    ends = ends ∙ ended_some a.ends line some;
    other = λ no. absurd (no may);
    told = λ also. inr some;
  }

  -- replies that were held, and a text behind them, are handed out, or it is broken
  pub owes_given : (text held : List ℕ) (a b : Client S) → ¬ (a.phase ≡ Broken) → held ≡ bytes_of a.held → bytes_of b.held ≡ [] → b.conn ≡ a.conn
      → b.stream ≡ a.stream → ((b.phase ≡ Broken) × (unsent b.output ≡ unsent a.output))
      ⊎ ((b.phase ≡ a.phase) × (unsent b.output ≡ unsent a.output ++ (held ++ text))) → Owes text a b
  owes_given text held a b sound is none conn stream (inl broken) = record {
    conn = conn;
    stream = stream;
    lost = held ++ text;
    bytes = append_assoc (unsent a.output) (bytes_of a.held) text ∙ ap (λ t. unsent a.output ++ (t ++ text)) (sym is)
        ∙ ap (λ t. t ++ (held ++ text)) (sym (append-nil (unsent a.output)) ∙ ap (λ t. t ++ []) (sym broken.1) ∙ ap (λ t. unsent b.output ++ t) (sym none));
    whole = inl broken.0;
    broken = λ was. absurd (sound was);
  }
  owes_given text held a b sound is none conn stream (inr more) = record {
    conn = conn;
    stream = stream;
    lost = [];
    bytes = append_assoc (unsent a.output) (bytes_of a.held) text ∙ ap (λ t. unsent a.output ++ (t ++ text)) (sym is) ∙ sym more.1
        ∙ sym (append-nil (unsent b.output)) ∙ ap (λ t. unsent b.output ++ t) (sym none) ∙ sym (append-nil (owed b));
    whole = inr refl;
    broken = λ was. absurd (sound was);
  }

  -- what it owes doesn't change by what waits of it
  pub owes_passed : (g : List ℕ) (a c : Client S) {b : Client S} → Owes g b c → b.conn ≡ a.conn → b.stream ≡ a.stream → owed b ≡ owed a
      → b.phase ≡ a.phase → Owes g a c
  owes_passed g a c p conn stream same phase = record {
    conn = p.conn ∙ conn;
    stream = p.stream ∙ stream;
    lost = p.lost;
    bytes = ap (λ t. t ++ g) (sym same) ∙ p.bytes;
    whole = p.whole;
    broken = λ was. p.broken (phase ∙ was);
  }

  -- it is asked of the tables, and told what it asks of the service
  heard_one : (xs ys : List Step) (a b : Client S) → IsAsked a → Takes (asked_by a.conn ys) a b → AllTell ys → IsHeard (xs ++ ys) b
  heard_one xs ys a b (inl broken) p all = inl (still_broken a b p.far broken)
  heard_one xs ys a b (inr (inl none)) p all =
      inr (inl (unended_back (asked_by a.conn ys) (waiting b.input) (ap ended (sym p.waits) ∙ none)))
  heard_one xs ys a b (inr (inr (inl full))) p all =
      inr (inr (inl (subst (λ (x : Client S). ¬ HasRoom x) (sym (p.other (λ may. full may.0.2)).0) full)))
  heard_one xs ys a b (inr (inr (inr may))) p all = elim (p.told may) [
    | inl broken ↦ inl broken
    | inr some ↦ inr (inr (inr (λ none. some (
        sym (tell_lines a.conn ys all) ∙ ap (λ k. told_by k ys) (sym p.conn)
        ∙ back_none (told_by b.conn xs) (told_by b.conn ys) (sym (told_join b.conn xs ys) ∙ none)))))
  ]

  -- what came is asked, or waits, and then more is taken of what waits
  pub came_more : (remaining : S → Option (List ℕ)) (taken more : List ℕ) (x y z : Client S) → AsksWhatCame remaining taken x y → z.stream ≡ y.stream
      → waiting y.input ≡ more ++ waiting z.input → z.input.is_first ≡ y.input.is_first → z.input.lines ≡ count_on y.input.lines more
      → (z.phase ≡ Open → y.phase ≡ Open) → (y.phase ≡ Broken → (z.phase ≡ Broken) × (more ≡ [])) → AsksWhatCame remaining (taken ++ more) x z
  came_more remaining taken more x y z p stream waits first counts opens breaks = (
    p.0,
    subst (λ s. Consumes (remaining x.stream) (remaining s) p.0) (sym stream) p.1,
    λ no. ((p.2 no).0, λ is. (p.2 no).1 (opens is)),
    elim p.3 [
      | inl broken ↦ inl (
        (breaks broken.0).0,
        ap (λ t. t ++ more) broken.1 ∙ (breaks broken.0).1,
      )
      | inr (inl lines) ↦ inr (inl (
        subst (SameLines (heard x.input.is_first (waiting x.input ++ p.0))) moved lines.0,
        first ∙ lines.1,
        λ last is. lines.2 last (opens is),
      ))
      | inr (inr ends) ↦ inr (inr (
        λ is. ends.0 (opens is),
        ends.1,
        subst (λ s. IfSome (remaining x.stream) (λ _. IsAtEnd (remaining s))) (sym stream) ends.2,
        subst (Ends (waiting x.input)) moved ends.3,
      ))
    ],
    counts ∙ ap (λ n. count_on n more) p.4 ∙ sym (count_join x.input.lines taken more),
  )
    where
      moved : taken ++ waiting y.input ≡ (taken ++ more) ++ waiting z.input
      moved = ap (λ w. taken ++ w) waits ∙ sym (append_assoc taken more (waiting z.input))

  -- it is asked of the tables or told
  came_told : (remaining : S → Option (List ℕ)) (taken more : List ℕ) (x y z : Client S) → AsksWhatCame remaining taken x y → Takes more y z
      → AsksWhatCame remaining (taken ++ more) x z
  came_told remaining taken more x y z p q =
      came_more remaining taken more x y z p q.stream q.waits q.first q.counts (was_open y z q.far)
      (λ is. (still_broken y z q.far is, (q.other (λ may. may.0.0 is)).1))

  -- ---- a list

  pub each_heard : (xs ys : List Step) (b m : List (Client S)) → All (λ c. IsAsked c) b → EachTakes ys b m → AllTell ys → All (λ c. IsHeard (xs ++ ys) c) m
  each_heard xs ys b m asked takes all =
      zip_all (λ c. IsAsked c) (λ c. IsHeard (xs ++ ys) c) b m
      (zip_weaker (λ x y. Takes (asked_by x.conn ys) x y) (λ x y. IsAsked x → IsHeard (xs ++ ys) y) (λ x y p was. heard_one xs ys x y was p all) b m takes) asked

  pub each_came_told : (contents remaining : S → Option (List ℕ)) (xs ys : List Step) (a b m : List (Client S)) → EachServed contents xs a b
      → EachAsked remaining xs a b → EachTakes ys b m → AllTell ys → EachAsked remaining (xs ++ ys) a m
  each_came_told contents remaining xs ys a b m served asked takes all =
      let first : Client S → Client S → Type 0 = λ x y. IsServed contents (given_to x.conn xs) x y in
      let came : Client S → Client S → Type 0 = λ x y. AsksWhatCame remaining (asked_by x.conn xs) x y × KnowsSince xs x y in
      let more : Client S → Client S → Type 0 = λ x y. Takes (asked_by x.conn ys) x y in
      zip_then (λ x y. first x y × came x y) more (λ x y. AsksWhatCame remaining (asked_by x.conn (xs ++ ys)) x y × KnowsSince (xs ++ ys) x y)
      (λ x y z p q. (
        subst (λ t. AsksWhatCame remaining t x z)
            (ap (λ k. asked_by x.conn xs ++ asked_by k ys) p.0.conn ∙ sym (asked_join x.conn xs ys))
            (came_told remaining (asked_by x.conn xs) (asked_by y.conn ys) x y z p.1.0 q),
        knows_told xs ys x y z all q.since p.1.1,
      ))
      a b m (zip_both first came a b served asked) takes

  pub opens_told : (xs ys : List Step) (b m : List (Client S)) → OpenOnlyAsk xs b → EachTakes ys b m → AllTell ys → OpenOnlyAsk (xs ++ ys) m
  opens_told xs ys [] [] p q all = tt
  opens_told xs ys [] (z ∷ m) p q all = absurd q
  opens_told xs ys (y ∷ b) [] p q all = absurd q
  opens_told xs ys (y ∷ b) (z ∷ m) p q all = (
    λ on. subst (λ k. OnlyAsks k (xs ++ ys)) (sym q.0.conn) (only_then y.conn xs ys (p.0 (was_on on)) (tell_alone y.conn ys all)),
    opens_told xs ys b m p.1 q.1 all,
  )
    where
      was_on : GoesOn z → GoesOn y
      was_on (inl is) = inl (was_open y z q.0.far is)
      was_on (inr some) = inr (λ none. some (unended_back (asked_by y.conn ys) (waiting z.input) (ap ended (sym q.0.waits) ∙ none)))

  pub whole_told : (ys : List Step) (b m : List (Client S)) → NoneIsWhole b → EachTakes ys b m → NoneIsWhole m
  whole_told ys b m none takes =
      zip_all (λ c. ¬ IsWhole c) (λ c. ¬ IsWhole c) b m
      (zip_weaker (λ x y. Takes (asked_by x.conn ys) x y) (λ x y. ¬ IsWhole x → ¬ IsWhole y) (λ x y p. whole_before x y p.far p.lines) b m takes) none

  pub same_told : (handle : S → ℤ) (ys : List Step) (a b m : List (Client S)) → EachSame handle a b → EachTakes ys b m → EachSame handle a m
  same_told handle ys a b m same takes =
      zip_then (λ x y. IsSame handle x y) (λ x y. Takes (asked_by x.conn ys) x y) (λ x y. IsSame handle x y)
      (λ x y z p q. (q.conn ∙ p.0, ap handle q.stream ∙ p.1)) a b m same takes

  pub read_told : (reads : S → Option ℕ) (ys : List Step) (a b m : List (Client S)) → EachRead reads a b → EachTakes ys b m → EachRead reads a m
  read_told reads ys a b m read takes =
      zip_then (λ x y. IsRead reads x y) (λ x y. Takes (asked_by x.conn ys) x y) (λ x y. IsRead reads x y)
      (λ x y z p q wants. ap reads q.stream ∙ p wants) a b m read takes

  pub breaks_told : (has_failed : S → Bool) (ys : List Step) (b m : List (Client S)) → AllBreakWith has_failed b → EachTakes ys b m → AllBreakWith has_failed m
  breaks_told has_failed ys b m breaks takes =
      zip_all (λ c. BreaksWith has_failed c) (λ c. BreaksWith has_failed c) b m
      (zip_weaker (λ x y. Takes (asked_by x.conn ys) x y) (λ x y. BreaksWith has_failed x → BreaksWith has_failed y)
      (λ x y p was failed. still_broken x y p.far (was (ap has_failed (sym p.stream) ∙ failed))) b m takes) breaks

  -- ---- what is told is so

  module _ (contents : S → Option (List ℕ)) (schema : List ℕ) (seconds : ℕ) where
    -- more is done behind it
    pub is_told_on : (xs ys : List Step) (start : HubState) (before : Option (List ℕ)) (lacks after : Bool) (segment now : Option ℕ) (olds : List (Client S))
        → TellsWhatIs contents schema seconds xs start before lacks segment olds → TellsNone ys → after ≡ lacks → now ≡ segment
        → TellsWhatIs contents schema seconds (xs ++ ys) start before after now olds
    is_told_on xs ys start before lacks after segment now olds p quiet same number = record {
      first = p.first;
      later = p.later ++ ys;
      parts = ap (λ zs. zs ++ ys) p.parts ∙ append_assoc p.first p.later ys;
      hub = p.hub;
      appended = p.appended;
      stays = p.stays;
      room = p.room;
      makes = p.makes;
      clients = p.clients;
      attends = p.attends;
      from = p.from;
      status = p.status;
      «is» = subst (λ b. IsStatus p.appended p.stays b p.room now seconds p.clients p.hub p.status) (sym same)
          (subst (λ n. IsStatus p.appended p.stays lacks p.room n seconds p.clients p.hub p.status) (sym number) p.«is»);
      told = so_join p.status schema xs ys p.told (quiet_so p.status schema ys quiet);
    }

    -- some come before it
    pub is_told_joined : (xs ys : List Step) (start mid : HubState) (before between : Option (List ℕ)) (lacks : Bool) (segment : Option ℕ) (olds joined : List (Client S))
        → Makes xs start mid before between → GivesNone xs → Joins olds joined → TellsWhatIs contents schema seconds ys mid between lacks segment joined
        → AsksNone xs → TellsWhatIs contents schema seconds (xs ++ ys) start before lacks segment olds
    is_told_joined xs ys start mid before between lacks segment olds joined makes none joins p quiet = record {
      first = xs ++ p.first;
      later = p.later;
      parts = ap (λ zs. xs ++ zs) p.parts ∙ sym (append_assoc xs p.first p.later);
      hub = p.hub;
      appended = p.appended;
      stays = p.stays;
      room = p.room;
      makes = makes_then xs p.first start mid p.hub before between p.appended makes p.makes;
      clients = p.clients;
      attends = p.attends;
      from = λ c h. let r = p.from c h in (
        r.0,
        elim r.1 [
          | inl here ↦ elim (in_join olds joins.0 r.0 (subst (IsIn r.0) joins.1 (in_from joined r.0 here))) [
            | inl old ↦ inl (in_to olds r.0 old)
            | inr comer ↦ inr (joins.2 r.0 (in_to joins.0 r.0 comer))
          ]
          | inr came ↦ inr (new_before r.0 olds joined joins.0 joins.1 came)
        ],
        served_by contents (given_to r.0.conn p.first) (given_to r.0.conn (xs ++ p.first)) r.0 c (sym (given_behind r.0.conn xs p.first none)) r.2,
        r.3 ∙ ap (count_on r.0.input.lines)
            (sym (asked_join r.0.conn xs p.first ∙ ap (λ t. t ++ asked_by r.0.conn p.first) (quiet r.0.conn))),
        knows_front xs p.first r.0 c (quiet r.0.conn) r.4,
      );
      status = p.status;
      «is» = p.«is»;
      told = so_join p.status schema xs ys (quiet_so p.status schema xs (none_quiet xs makes.acts start mid makes.done none)) p.told;
    }
