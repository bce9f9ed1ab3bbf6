-- What connections are owed and sent, one step behind another, and over a list.
-- Cited by `asking::ask_lines`, `asking::disconnect`, `asking::finish`, `beside::attend`, `clients::ask_all`, 11 more and `mi_serving`.
use Rattle.std.proofs.Common.{◌≡◌, ◌⊎◌, inl, inr, ℕ, zero, suc, ◌<◌, List, [], ◌∷◌, ◌++◌, length, nat_eq, cond, ◌≤◌, Option, Some, None, false, refl, sym, ap, ◌∙◌, subst}
use Rattle.std.proofs.Common.{Result, Ok, Err}
use Rattle.std.proofs.Common.{append-nil, append_assoc, arith}
use Rattle.std.proofs.lemmas.List.{length-append, get_or_default}
use Rattle.std.specs.Prelude.{slice_set, slice_index_or, OnOk, IfOk, IfSome}
use Rattle.std.specs.List.{remove, All, AllZip, Contains}
use Rattle.std.specs.Io.KnownBytes.{Appends, Consumes, Keeps, IsAtEnd}
use Rattle.std.proofs.KnownBytes.{Appends-nil, Appends-trans, Consumes-kept, Keeps-refl, Keeps-trans}
use Rattle.mi_clients.specs.Client.{owed, Owes, IsServed, HasRoom, IsAsked, IsHeard, AsksAll, AsksWithin, Hears, AsksWhatCame, KnowsSince, IsAsFar, HasSent, IsSent, IsOver, IsWhole, GoesOn, IsWoken}
use Rattle.mi_clients.specs.Input.{waiting, count_on}
use Rattle.mi_clients.specs.declared.client.TheConstants.{MOST_UNSENT}
use Rattle.mi_hub.specs.Ended.{ended}
use Rattle.mi_clients.specs.Lines.{SameLines, Ends}
use Rattle.mi_clients.specs.Heard.{heard}
use Rattle.mi_clients.specs.Output.{Sends}
use Rattle.mi_durable.specs.HeldReplies.{bytes_of}
use Rattle.mi_clients.specs.Clients.{ids, inputs, IsNoneOf, AllDiffer, EachServed, EachAsked, EachUnread, StayersAsked, EachAsFar, OpenOnlyAsk, AllOnlyAsk, StayersOnlyAsk, EachWoken, IsNew, Joins, LetsGo, NoneIsOver, Serves}
use Rattle.mi_clients.specs.Steps.{Step, comes, asks, denies, tells, undoes, goes, reply_to, given_to, GivesOnly, GivesNone, AreAsks, AreUndos}
use Rattle.mi_clients.specs.Steps.{line_by, asked_by, told_line, told_by, AsksOnly, AsksNone, OnlyAsks, LeavesOthers}
use Rattle.mi_clients.specs.declared.client.Client.{Client}
use Rattle.mi_clients.specs.declared.input.Input.{Input}
use Rattle.mi_clients.specs.declared.client.Phase.{Phase}
use Rattle.mi_clients.specs.declared.client.Phase.TheVariants.{Open, Ended, Drained, Broken}
use Rattle.mi_clients.proofs.InputLemmas.{unended_back}
use Rattle.mi_clients.proofs.SinceLemmas.{knows_front, knows_behind}
use Rattle.mi_clients.proofs.StepLemmas.{none_more}
use Rattle.mi_clients.proofs.ClientsLemmas.{same_test, turned, none_at, front_none, back_none}

-- what follows from two facts of an Ok
pub on_ok_both : {T E P Q R : Type 0} (r : Result T E) → (P → Q → R) → OnOk r P → OnOk r Q → OnOk r R
on_ok_both (Ok v) f p q = f p q
on_ok_both (Err e) f p q = tt

-- what follows from three facts of an Ok
pub on_ok_all : {T E P Q R W : Type 0} (r : Result T E) → (P → Q → R → W) → OnOk r P → OnOk r Q → OnOk r R → OnOk r W
on_ok_all (Ok v) f p q s = f p q s
on_ok_all (Err e) f p q s = tt

-- and from four
pub on_ok_four : {T E P Q R V W : Type 0} (r : Result T E) → (P → Q → R → V → W) → OnOk r P → OnOk r Q → OnOk r R → OnOk r V → OnOk r W
on_ok_four (Ok v) f p q s t = f p q s t
on_ok_four (Err e) f p q s t = tt

-- what follows from a fact of the value of an Ok and another
pub if_ok_with : {T E Q : Type 0} {P R : T → Type 0} (r : Result T E) → ((v : T) → P v → Q → R v) → IfOk r P → OnOk r Q → IfOk r R
if_ok_with (Ok v) f p q = f v p q
if_ok_with (Err e) f p q = tt

-- ---- what is given in steps

pub given_join : (k : ℕ) (xs ys : List Step) → given_to k (xs ++ ys) ≡ given_to k xs ++ given_to k ys
given_join k [] ys = refl
given_join k (x ∷ xs) ys =
    ap (λ t. reply_to k x ++ t) (given_join k xs ys) ∙ sym (append_assoc (reply_to k x) (given_to k xs) (given_to k ys))

pub given_front : (k : ℕ) (xs ys : List Step) → GivesNone ys → given_to k (xs ++ ys) ≡ given_to k xs
given_front k xs ys none = given_join k xs ys ∙ ap (λ t. given_to k xs ++ t) (none k) ∙ append-nil (given_to k xs)

pub given_behind : (k : ℕ) (xs ys : List Step) → GivesNone xs → given_to k (xs ++ ys) ≡ given_to k ys
given_behind k xs ys none = given_join k xs ys ∙ ap (λ t. t ++ given_to k ys) (none k)

pub none_join : (xs ys : List Step) → GivesNone xs → GivesNone ys → GivesNone (xs ++ ys)
none_join xs ys p q = λ k. given_behind k xs ys p ∙ q k

only_join : (conn : ℕ) (xs ys : List Step) → GivesOnly conn xs → GivesNone ys → GivesOnly conn (xs ++ ys)
only_join conn xs ys p q = λ k other. given_front k xs ys q ∙ p k other

-- to the one that asks, the replies to its lines
pub asks_given : (conn : ℕ) (steps : List Step) (taken given : List ℕ) → AreAsks conn steps taken given → given_to conn steps ≡ given
asks_given conn [] taken given p = sym p.1
asks_given conn (comes k ∷ steps) taken given p = absurd p
asks_given conn (asks k line reply began ∷ steps) taken given p =
    ap (λ n. cond (nat_eq n conn) reply [] ++ given_to conn steps) p.0
    ∙ ap (λ b. cond b reply [] ++ given_to conn steps) (same_test conn)
    ∙ ap (λ t. reply ++ t) (asks_given conn steps p.1 p.2 p.3) ∙ sym p.5
asks_given conn (denies k line reply ∷ steps) taken given p =
    ap (λ n. cond (nat_eq n conn) reply [] ++ given_to conn steps) p.0
    ∙ ap (λ b. cond b reply [] ++ given_to conn steps) (same_test conn)
    ∙ ap (λ t. reply ++ t) (asks_given conn steps p.1 p.2 p.3) ∙ sym p.5
asks_given conn (tells k line text ∷ steps) taken given p = absurd p
asks_given conn (undoes k reply ∷ steps) taken given p = absurd p
asks_given conn (goes k ∷ steps) taken given p = absurd p

asks_only : (conn : ℕ) (steps : List Step) (taken given : List ℕ) → AreAsks conn steps taken given → GivesOnly conn steps
asks_only conn [] taken given p = λ k other. refl
asks_only conn (comes k ∷ steps) taken given p = absurd p
asks_only conn (asks j line reply began ∷ steps) taken given p = λ k other.
    ap (λ n. cond (nat_eq n k) reply [] ++ given_to k steps) p.0
    ∙ ap (λ b. cond b reply [] ++ given_to k steps) other
    ∙ asks_only conn steps p.1 p.2 p.3 k other
asks_only conn (denies j line reply ∷ steps) taken given p = λ k other.
    ap (λ n. cond (nat_eq n k) reply [] ++ given_to k steps) p.0
    ∙ ap (λ b. cond b reply [] ++ given_to k steps) other
    ∙ asks_only conn steps p.1 p.2 p.3 k other
asks_only conn (tells k line text ∷ steps) taken given p = absurd p
asks_only conn (undoes k reply ∷ steps) taken given p = absurd p
asks_only conn (goes k ∷ steps) taken given p = absurd p

-- who hears an undo's reply: nobody
pub undos_none : (conn : ℕ) (steps : List Step) → AreUndos conn steps → GivesNone steps
undos_none conn [] p = λ k. refl
undos_none conn (comes k ∷ steps) p = absurd p
undos_none conn (asks k line reply began ∷ steps) p = absurd p
undos_none conn (denies k line reply ∷ steps) p = absurd p
undos_none conn (tells k line text ∷ steps) p = absurd p
undos_none conn (undoes j reply ∷ steps) p = λ k. undos_none conn steps p.1 k
undos_none conn (goes k ∷ steps) p = absurd p

-- nobody is given anything by one that comes or goes
pub goes_none_given : (conn : ℕ) → GivesNone (goes conn ∷ [])
goes_none_given conn = λ k. refl

pub comes_none_given : (conn : ℕ) → GivesNone (comes conn ∷ [])
comes_none_given conn = λ k. refl

pub nothing_given : GivesNone []
nothing_given = λ k. refl

-- ---- what is asked in steps

pub asked_join : (k : ℕ) (xs ys : List Step) → asked_by k (xs ++ ys) ≡ asked_by k xs ++ asked_by k ys
asked_join k [] ys = refl
asked_join k (x ∷ xs) ys =
    ap (λ t. line_by k x ++ t) (asked_join k xs ys) ∙ sym (append_assoc (line_by k x) (asked_by k xs) (asked_by k ys))

pub asks_taken : (conn : ℕ) (steps : List Step) (taken given : List ℕ) → AreAsks conn steps taken given → asked_by conn steps ≡ taken
asks_taken conn [] taken given p = sym p.0
asks_taken conn (comes k ∷ steps) taken given p = absurd p
asks_taken conn (asks k line reply began ∷ steps) taken given p =
    ap (λ n. cond (nat_eq n conn) line [] ++ asked_by conn steps) p.0
    ∙ ap (λ b. cond b line [] ++ asked_by conn steps) (same_test conn)
    ∙ ap (λ t. line ++ t) (asks_taken conn steps p.1 p.2 p.3) ∙ sym p.4
asks_taken conn (denies k line reply ∷ steps) taken given p =
    ap (λ n. cond (nat_eq n conn) line [] ++ asked_by conn steps) p.0
    ∙ ap (λ b. cond b line [] ++ asked_by conn steps) (same_test conn)
    ∙ ap (λ t. line ++ t) (asks_taken conn steps p.1 p.2 p.3) ∙ sym p.4
asks_taken conn (tells k line text ∷ steps) taken given p = absurd p
asks_taken conn (undoes k reply ∷ steps) taken given p = absurd p
asks_taken conn (goes k ∷ steps) taken given p = absurd p

pub undos_taken : (conn k : ℕ) (steps : List Step) → AreUndos conn steps → asked_by k steps ≡ []
undos_taken conn k [] p = refl
undos_taken conn k (comes j ∷ steps) p = absurd p
undos_taken conn k (asks j line reply began ∷ steps) p = absurd p
undos_taken conn k (denies j line reply ∷ steps) p = absurd p
undos_taken conn k (tells j line text ∷ steps) p = absurd p
undos_taken conn k (undoes j reply ∷ steps) p = undos_taken conn k steps p.1
undos_taken conn k (goes j ∷ steps) p = absurd p

pub taken_in : (conn : ℕ) (xs ys : List Step) (taken given : List ℕ) → AreAsks conn xs taken given → AreUndos conn ys
    → asked_by conn (xs ++ ys) ≡ taken
taken_in conn xs ys taken given p q =
    asked_join conn xs ys ∙ ap (λ t. t ++ asked_by conn ys) (asks_taken conn xs taken given p)
    ∙ ap (λ t. taken ++ t) (undos_taken conn conn ys q) ∙ append-nil taken

-- one asks, and its sessions are undone: no other asks
asks_only_lines : (conn : ℕ) (steps : List Step) (taken given : List ℕ) → AreAsks conn steps taken given → AsksOnly conn steps
asks_only_lines conn [] taken given p = λ k other. refl
asks_only_lines conn (comes k ∷ steps) taken given p = absurd p
asks_only_lines conn (asks j line reply began ∷ steps) taken given p = λ k other.
    ap (λ n. cond (nat_eq n k) line [] ++ asked_by k steps) p.0
    ∙ ap (λ b. cond b line [] ++ asked_by k steps) other
    ∙ asks_only_lines conn steps p.1 p.2 p.3 k other
asks_only_lines conn (denies j line reply ∷ steps) taken given p = λ k other.
    ap (λ n. cond (nat_eq n k) line [] ++ asked_by k steps) p.0
    ∙ ap (λ b. cond b line [] ++ asked_by k steps) other
    ∙ asks_only_lines conn steps p.1 p.2 p.3 k other
asks_only_lines conn (tells k line text ∷ steps) taken given p = absurd p
asks_only_lines conn (undoes k reply ∷ steps) taken given p = absurd p
asks_only_lines conn (goes k ∷ steps) taken given p = absurd p

pub serve_asks_only : (conn : ℕ) (xs ys : List Step) (taken given : List ℕ) → AreAsks conn xs taken given → AreUndos conn ys → AsksOnly conn (xs ++ ys)
serve_asks_only conn xs ys taken given p q = λ k other.
    asked_join k xs ys ∙ ap (λ t. t ++ asked_by k ys) (asks_only_lines conn xs taken given p k other) ∙ undos_taken conn k ys q

-- what is told in steps
pub told_join : (k : ℕ) (xs ys : List Step) → told_by k (xs ++ ys) ≡ told_by k xs ++ told_by k ys
told_join k [] ys = refl
told_join k (x ∷ xs) ys =
    ap (λ t. told_line k x ++ t) (told_join k xs ys) ∙ sym (append_assoc (told_line k x) (told_by k xs) (told_by k ys))

-- nobody asks
pub nothing_asked : AsksNone []
nothing_asked = λ k. refl

pub quiet_join : (xs ys : List Step) → AsksNone xs → AsksNone ys → AsksNone (xs ++ ys)
quiet_join xs ys p q = λ k. asked_join k xs ys ∙ ap (λ t. t ++ asked_by k ys) (p k) ∙ q k

pub goes_asks_none : (conn : ℕ) (ys : List Step) → AreUndos conn ys → AsksNone (ys ++ goes conn ∷ [])
goes_asks_none conn ys q = quiet_join ys (goes conn ∷ []) (λ k. undos_taken conn k ys q) (λ k. refl)

-- none of these connections asks
abbrev AllQuiet : List Step → List ℕ → Type 0
AllQuiet steps [] = Unit {0}
AllQuiet steps (k ∷ ks) = (asked_by k steps ≡ []) × AllQuiet steps ks

quiet_none : (ks : List ℕ) → AllQuiet [] ks
quiet_none [] = tt
quiet_none (k ∷ ks) = (refl, quiet_none ks)

quiet_more : (conn : ℕ) (xs ys : List Step) (ks : List ℕ) → AllQuiet xs ks → AsksOnly conn ys → IsNoneOf conn ks → AllQuiet (xs ++ ys) ks
quiet_more conn xs ys [] p only none = tt
quiet_more conn xs ys (k ∷ ks) p only none = (
  asked_join k xs ys ∙ ap (λ t. t ++ asked_by k ys) p.0 ∙ only k (turned k conn none.0),
  quiet_more conn xs ys ks p.1 only none.1,
)

-- what holds whether it is asked or not
pub whether : (o : Option (List ℕ)) (P : Type 0) → P → IfSome o (λ _. P)
whether None P p = tt
whether (Some x) P p = p

-- ---- who only asks in steps

pub only_then : (k : ℕ) (xs ys : List Step) → OnlyAsks k xs → OnlyAsks k ys → OnlyAsks k (xs ++ ys)
only_then k [] ys p q = q
only_then k (comes j ∷ xs) ys p q = (p.0, only_then k xs ys p.1 q)
only_then k (asks j line reply began ∷ xs) ys p q = only_then k xs ys p q
only_then k (denies j line reply ∷ xs) ys p q = only_then k xs ys p q
only_then k (tells j line text ∷ xs) ys p q = only_then k xs ys p q
only_then k (undoes j reply ∷ xs) ys p q = (p.0, only_then k xs ys p.1 q)
only_then k (goes j ∷ xs) ys p q = (p.0, only_then k xs ys p.1 q)

only_asks : (conn k : ℕ) (steps : List Step) (taken given : List ℕ) → AreAsks conn steps taken given → OnlyAsks k steps
only_asks conn k [] taken given p = tt
only_asks conn k (comes j ∷ steps) taken given p = absurd p
only_asks conn k (asks j line reply began ∷ steps) taken given p = only_asks conn k steps p.1 p.2 p.3
only_asks conn k (denies j line reply ∷ steps) taken given p = only_asks conn k steps p.1 p.2 p.3
only_asks conn k (tells j line text ∷ steps) taken given p = absurd p
only_asks conn k (undoes j reply ∷ steps) taken given p = absurd p
only_asks conn k (goes j ∷ steps) taken given p = absurd p

undos_others : (conn : ℕ) (steps : List Step) → AreUndos conn steps → LeavesOthers conn steps
undos_others conn [] p = λ k other. tt
undos_others conn (comes j ∷ steps) p = absurd p
undos_others conn (asks j line reply began ∷ steps) p = absurd p
undos_others conn (denies j line reply ∷ steps) p = absurd p
undos_others conn (tells j line text ∷ steps) p = absurd p
undos_others conn (undoes j reply ∷ steps) p = λ k other. (ap (λ n. nat_eq n k) p.0 ∙ other, undos_others conn steps p.1 k other)
undos_others conn (goes j ∷ steps) p = absurd p

-- one asks, and its sessions are undone
pub asks_others : (conn : ℕ) (xs ys : List Step) (taken given : List ℕ) → AreAsks conn xs taken given → AreUndos conn ys → LeavesOthers conn (xs ++ ys)
asks_others conn xs ys taken given p q = λ k other. only_then k xs ys (only_asks conn k xs taken given p) (undos_others conn ys q k other)

-- its sessions are undone, and it goes
pub goes_others : (conn : ℕ) (ys : List Step) → AreUndos conn ys → LeavesOthers conn (ys ++ goes conn ∷ [])
goes_others conn ys q = λ k other. only_then k ys (goes conn ∷ []) (undos_others conn ys q k other) (other, tt)

-- one asks, and none is undone
pub asks_alone : (conn : ℕ) (xs ys : List Step) (taken given : List ℕ) → AreAsks conn xs taken given → ys ≡ [] → OnlyAsks conn (xs ++ ys)
asks_alone conn xs ys taken given p none =
    only_then conn xs ys (only_asks conn conn xs taken given p) (subst (OnlyAsks conn) (sym none) tt)

-- the same of several connections
pub only_none : (ks : List ℕ) → AllOnlyAsk [] ks
only_none [] = tt
only_none (k ∷ ks) = (tt, only_none ks)

pub only_others : (conn : ℕ) (steps : List Step) (ks : List ℕ) → LeavesOthers conn steps → IsNoneOf conn ks → AllOnlyAsk steps ks
only_others conn steps [] others none = tt
only_others conn steps (k ∷ ks) others none = (others k (turned k conn none.0), only_others conn steps ks others none.1)

pub all_only_then : (xs ys : List Step) (ks : List ℕ) → AllOnlyAsk xs ks → AllOnlyAsk ys ks → AllOnlyAsk (xs ++ ys) ks
all_only_then xs ys [] p q = tt
all_only_then xs ys (k ∷ ks) p q = (only_then k xs ys p.0 q.0, all_only_then xs ys ks p.1 q.1)

only_front : (steps : List Step) (ks js : List ℕ) → AllOnlyAsk steps (ks ++ js) → AllOnlyAsk steps ks
only_front steps [] js p = tt
only_front steps (k ∷ ks) js p = (p.0, only_front steps ks js p.1)

-- ---- one connection

-- what two are given, the second behind the first; something is lost of the first only where the second is nothing
joined : (a b c g h l m : List ℕ) → a ++ g ≡ b ++ l → b ++ h ≡ c ++ m → (h ≡ []) ⊎ (l ≡ []) → a ++ (g ++ h) ≡ c ++ (m ++ l)
joined a b c g h l m p q (inl none) =
    ap (λ t. a ++ (g ++ t)) none ∙ ap (λ t. a ++ t) (append-nil g) ∙ p
    ∙ ap (λ t. t ++ l) (sym (append-nil b) ∙ ap (λ t. b ++ t) (sym none) ∙ q) ∙ append_assoc c m l
joined a b c g h l m p q (inr none) =
    sym (append_assoc a g h) ∙ ap (λ t. t ++ h) (p ∙ ap (λ t. b ++ t) none ∙ append-nil b) ∙ q
    ∙ ap (λ t. c ++ t) (sym (ap (λ t. m ++ t) none ∙ append-nil m))

-- the same where a front of each is sent
joined_sent : (a b c g h l m s t : List ℕ) → a ++ g ≡ s ++ (b ++ l) → b ++ h ≡ t ++ (c ++ m) → (h ≡ []) ⊎ (l ≡ [])
    → a ++ (g ++ h) ≡ (s ++ t) ++ (c ++ (m ++ l))
joined_sent a b c g h l m s t p q none =
    let first : a ++ g ≡ (s ++ b) ++ l = p ∙ sym (append_assoc s b l) in
    let second : (s ++ b) ++ h ≡ ((s ++ t) ++ c) ++ m =
    append_assoc s b h ∙ ap (λ x. s ++ x) q ∙ sym (append_assoc s t (c ++ m)) ∙ sym (append_assoc (s ++ t) c m) in
    joined a (s ++ b) ((s ++ t) ++ c) g h l m first second none ∙ append_assoc (s ++ t) c (m ++ l)

either_none : {b c : Phase} {h l : List ℕ} → (b ≡ Broken) ⊎ (l ≡ []) → (b ≡ Broken → (c ≡ Broken) × (h ≡ [])) → (h ≡ []) ⊎ (l ≡ [])
either_none (inl is) more = inl (more is).1
either_none (inr none) more = inr none

whole_then : {b c : Phase} {h : List ℕ} (l m : List ℕ) → (b ≡ Broken) ⊎ (l ≡ []) → (c ≡ Broken) ⊎ (m ≡ [])
    → (b ≡ Broken → (c ≡ Broken) × (h ≡ [])) → (c ≡ Broken) ⊎ (m ++ l ≡ [])
whole_then l m (inl is) q more = inl (more is).0
whole_then l m (inr none) (inl is) more = inl is
whole_then l m (inr none) (inr all) more = inr (ap (λ t. t ++ l) all ∙ none)

heads : (x y : Input) (xs ys : List Input) → x ∷ xs ≡ y ∷ ys → x ≡ y
heads x y xs ys e = cc

pub asked_open : (p : Phase) → p ≡ Drained → p ≡ Open → ⊥
asked_open p h k = cc

pub broken_open : (p : Phase) → p ≡ Broken → p ≡ Open → ⊥
broken_open p h k = cc

pub ended_open : (p : Phase) → p ≡ Ended → p ≡ Open → ⊥
ended_open p h k = cc

module _ {S : Type 0} where
  pub owes_none : (c : Client S) → Owes [] c c
  owes_none c = record {
    conn = refl;
    stream = refl;
    lost = [];
    bytes = refl;
    whole = inr refl;
    broken = λ is. (is, refl);
  }

  owes_then : (g h : List ℕ) (a b c : Client S) → Owes g a b → Owes h b c → Owes (g ++ h) a c
  owes_then g h a b c p q = record {
    conn = q.conn ∙ p.conn;
    stream = q.stream ∙ p.stream;
    lost = q.lost ++ p.lost;
    bytes = joined (owed a) (owed b) (owed c) g h p.lost q.lost p.bytes q.bytes (either_none p.whole q.broken);
    whole = whole_then p.lost q.lost p.whole q.whole q.broken;
    broken = λ is. let mid = p.broken is in let last = q.broken mid.0 in (last.0, ap (λ t. t ++ h) mid.1 ∙ last.1);
  }

  -- behind a reply that is owed nothing more is given
  pub owes_more : (g h : List ℕ) (a b c d : Client S) → Owes g a b → Owes h b c → Owes [] c d → Owes (g ++ h) a d
  owes_more g h a b c d p q r =
      subst (λ t. Owes t a d) (append-nil (g ++ h)) (owes_then (g ++ h) [] a c d (owes_then g h a b c p q) r)

  -- a reply is owed to one that isn't broken
  pub owes_reply : (out : List ℕ) (a b : Client S) → b.conn ≡ a.conn → b.stream ≡ a.stream → owed b ≡ owed a ++ out → ¬ (a.phase ≡ Broken) → Owes out a b
  owes_reply out a b conn stream is sound = record {
    conn = conn;
    stream = stream;
    lost = [];
    bytes = sym is ∙ sym (append-nil (owed b));
    whole = inr refl;
    broken = λ broken. absurd (sound broken);
  }

  -- one whose sessions may have been undone is asked still
  pub asked_still : (a b : Client S) {X : Type 0} → (b ≡ a) ⊎ ((b.phase ≡ Drained) × X) → IsAsked a → IsAsked b
  asked_still a b (inl same) p = subst (λ (x : Client S). IsAsked x) (sym same) p
  asked_still a b (inr all) p = inr (inl (b.all_asked all.0))

  -- what is owed to one that isn't broken is what was, and the replies to its lines
  pub room_left : (a b : Client S) (steps : List Step) (taken given : List ℕ) → AreAsks a.conn steps taken given → Owes given a b
      → ¬ (b.phase ≡ Broken) → HasRoom b → length (owed a ++ given_to a.conn steps) ≤ MOST_UNSENT
  room_left a b steps taken given own p sound room = elim p.whole [
    | inl broken ↦ absurd (sound broken)
    | inr none ↦ subst (λ t. length t ≤ MOST_UNSENT)
        (sym (append-nil (owed b)) ∙ ap (λ t. owed b ++ t) (sym none) ∙ sym p.bytes ∙ ap (λ t. owed a ++ t) (sym (asks_given a.conn steps taken given own)))
        room
  ]

  -- ---- how far it is

  pub far_then : (a b c : Client S) → IsAsFar a b → IsAsFar b c → IsAsFar a c
  far_then a b c p (inl broken) = inl broken
  far_then a b c (inl broken) (inr same) = inl (same ∙ broken)
  far_then a b c (inr before) (inr same) = inr (same ∙ before)

  not_ended : (c d : Client S) {X : Type 0} → (d ≡ c) ⊎ ((d.phase ≡ Drained) × X) → d.phase ≡ Open → c.phase ≡ Open
  not_ended c d (inl same) is = ap (λ (x : Client S). x.phase) (sym same) ∙ is
  not_ended c d (inr all) is = absurd (asked_open d.phase all.0 is)

  -- one that is open then was open before
  pub open_before : (b c d : Client S) {X : Type 0} → IsAsFar b c → (d ≡ c) ⊎ ((d.phase ≡ Drained) × X) → d.phase ≡ Open → b.phase ≡ Open
  open_before b c d (inl broken) settled is = absurd (broken_open c.phase broken (not_ended c d settled is))
  open_before b c d (inr same) settled is = sym same ∙ not_ended c d settled is

  -- one that goes on then went on before
  pub went_on : (b c d : Client S) (taken : List ℕ) {X : Type 0} → waiting b.input ≡ taken ++ waiting c.input → IsAsFar b c
      → (d ≡ c) ⊎ ((d.phase ≡ Drained) × X) → d.input ≡ c.input → GoesOn d → GoesOn b
  went_on b c d taken waits far settled input (inl is) = inl (open_before b c d far settled is)
  went_on b c d taken waits far settled input (inr some) =
      inr (λ none. some (ap (λ i. ended (waiting i)) input ∙ unended_back taken (waiting c.input) (ap ended (sym waits) ∙ none)))

  -- and no session of it was undone
  pub on_alone : (c d : Client S) (ys : List Step) {X : Type 0} → (d ≡ c) ⊎ ((d.phase ≡ Drained) × X) → (¬ IsWhole c → ys ≡ [])
      → d.input ≡ c.input → GoesOn d → ys ≡ []
  on_alone c d ys settled none input (inl is) = none (λ whole. ended_open c.phase whole.0 (not_ended c d settled is))
  on_alone c d ys settled none input (inr some) = none (λ whole. some (ap (λ i. ended (waiting i)) input ∙ c.lines whole.1))

  -- what was read is asked or waits
  pub came_whole : (remaining : S → Option (List ℕ)) (a b c d : Client S) (xs : List Step) (taken given t piece : List ℕ) {X : Type 0}
      → Consumes (remaining a.stream) (remaining b.stream) piece → (¬ (a.phase ≡ Open) → piece ≡ [])
      → (b.phase ≡ Broken) ⊎ (Hears (waiting a.input ++ piece) [] a b
      ⊎ ((b.phase ≡ Ended) × (piece ≡ []) × IsAtEnd (remaining b.stream) × Ends (waiting a.input) (waiting b.input)))
      → (b.phase ≡ Open → a.phase ≡ Open) → c.input.is_first ≡ b.input.is_first
      → waiting b.input ≡ taken ++ waiting c.input → AsksWithin b xs → AreAsks b.conn xs taken given → IsAsFar b c → Owes given b c → Owes [] c d
      → d.input ≡ c.input → (d ≡ c) ⊎ ((d.phase ≡ Drained) × X) → t ≡ taken → b.input.lines ≡ a.input.lines
      → c.input.lines ≡ count_on b.input.lines taken → AsksWhatCame remaining t a d
  came_whole remaining a b c d xs taken given t piece read shut came opens first waits within own far owes more input settled is kept counts = (
    piece,
    subst (λ s. Consumes (remaining a.stream) (remaining s) piece) (sym (more.stream ∙ owes.stream)) read,
    λ no. (shut no, λ is_open. no (opens (open_before b c d far settled is_open))),
    elim came [
      | inl broken ↦ inl ((more.broken (owes.broken broken).0).0, is ∙ nothing broken within)
      | inr (inl same) ↦ inr (inl (
        subst (SameLines (heard a.input.is_first (waiting a.input ++ piece))) waits_all same.0,
        ap (λ (i : Input). i.is_first) input ∙ first ∙ same.1,
        λ last is_open. same.2 last (open_before b c d far settled is_open),
      ))
      | inr (inr ends) ↦ inr (inr (
        λ is_open. ended_open b.phase ends.0 (open_before b c d far settled is_open),
        ends.1,
        whether (remaining a.stream) _ (subst (λ s. IsAtEnd (remaining s)) (sym (more.stream ∙ owes.stream)) ends.2),
        subst (Ends (waiting a.input)) waits_all ends.3,
      ))
    ],
    ap (λ (i : Input). i.lines) input ∙ counts ∙ ap (λ n. count_on n taken) kept ∙ ap (count_on a.input.lines) (sym is),
  )
    where
      waits_all : waiting b.input ≡ t ++ waiting d.input
      waits_all = waits ∙ ap (λ x. x ++ waiting c.input) (sym is) ∙ ap (λ i. t ++ waiting i) (sym input)

      nothing : b.phase ≡ Broken → AsksWithin b xs → taken ≡ []
      nothing broken (inl none) = (subst (λ zs. AreAsks b.conn zs taken given) none own).0
      nothing broken (inr some) = absurd (some.0 broken)

  -- ---- what is sent

  pub sent_all : (a b : Client S) → HasSent b → bytes_of a.held ≡ [] → b.held ≡ a.held → IsSent b
  sent_all a b (inl broken) none same = inl broken
  sent_all a b (inr sent) none same = inr (ap bytes_of same ∙ none, sent)

  module _ (contents : S → Option (List ℕ)) where
    served_same : (c : Client S) (g : List ℕ) → g ≡ [] → IsServed contents g c c
    served_same c g none = record {
      conn = refl;
      sent = [];
      lost = [];
      taken = Appends-nil (contents c.stream);
      bytes = ap (λ t. owed c ++ t) none;
      whole = inr refl;
      broken = λ is. (is, none);
    }

    pub served_then : (g h : List ℕ) (a b c : Client S) → IsServed contents g a b → IsServed contents h b c → IsServed contents (g ++ h) a c
    served_then g h a b c p q = record {
      conn = q.conn ∙ p.conn;
      sent = p.sent ++ q.sent;
      lost = q.lost ++ p.lost;
      taken = Appends-trans _ _ _ p.sent q.sent p.taken q.taken;
      bytes = joined_sent (owed a) (owed b) (owed c) g h p.lost q.lost p.sent q.sent p.bytes q.bytes (either_none p.whole q.broken);
      whole = whole_then p.lost q.lost p.whole q.whole q.broken;
      broken = λ is. let mid = p.broken is in let last = q.broken mid.0 in (last.0, ap (λ t. t ++ h) mid.1 ∙ last.1);
    }

    pub served_by : (g h : List ℕ) (a b : Client S) → g ≡ h → IsServed contents g a b → IsServed contents h a b
    served_by g h a b is p = subst (λ t. IsServed contents t a b) is p

    pub served_owes : (g : List ℕ) (a b : Client S) → Owes g a b → IsServed contents g a b
    served_owes g a b p = record {
      conn = p.conn;
      sent = [];
      lost = p.lost;
      taken = subst (λ s. Appends (contents a.stream) (contents s) []) (sym p.stream) (Appends-nil (contents a.stream));
      bytes = p.bytes;
      whole = p.whole;
      broken = p.broken;
    }

    -- what is owed goes to its own stream
    pub served_sends : (a b : Client S) → b.conn ≡ a.conn → Sends contents a.stream b.stream (owed a) (owed b) → (a.phase ≡ Broken → b.phase ≡ Broken)
        → IsServed contents [] a b
    served_sends a b conn p broken = record {
      conn = conn;
      sent = p.0;
      lost = [];
      taken = p.1;
      bytes = append-nil (owed a) ∙ p.2 ∙ ap (λ t. p.0 ++ t) (sym (append-nil (owed b)));
      whole = inr refl;
      broken = λ is. (broken is, refl);
    }

    -- a read sends and owes nothing
    pub served_read : (a b : Client S) → b.conn ≡ a.conn → Keeps (contents a.stream) (contents b.stream) → owed b ≡ owed a
        → (a.phase ≡ Broken → b.phase ≡ Broken) → IsServed contents [] a b
    served_read a b conn kept same broken = served_sends a b conn ([], none_more _ _ kept, sym same) broken

    -- a connection whose stream is read, whose lines are asked, and whose sessions may be undone then
    pub served_whole : (a b c d : Client S) (xs ys : List Step) (taken given : List ℕ) → IsServed contents [] a b → AreAsks a.conn xs taken given
        → Owes given b c → AreUndos a.conn ys → Owes [] c d
        → GivesOnly a.conn (xs ++ ys) × IsServed contents (given_to a.conn (xs ++ ys)) a d
    served_whole a b c d xs ys taken given first own second undone third =
        let none = undos_none a.conn ys undone in
        let all : given ++ [] ≡ given_to a.conn (xs ++ ys) =
        append-nil given ∙ sym (asks_given a.conn xs taken given own) ∙ sym (given_front a.conn xs ys none) in (
          only_join a.conn xs ys (asks_only a.conn xs taken given own) none,
          served_by (given ++ []) (given_to a.conn (xs ++ ys)) a d all
              (served_then given [] a c d (served_then [] given a b c first (served_owes given b c second)) (served_owes [] c d third)),
        )

-- ---- a list

none_front : (k : ℕ) (xs ys : List ℕ) → IsNoneOf k (xs ++ ys) → IsNoneOf k xs
none_front k [] ys p = tt
none_front k (x ∷ xs) ys p = (p.0, none_front k xs ys p.1)

-- c stands in the list
abbrev pub IsIn : {S : Type 0} → Client S → List (Client S) → Type 0
IsIn c [] = ⊥
IsIn c (x ∷ clients) = (x ≡ c) ⊎ IsIn c clients

module _ {S : Type 0} where
  in_at : (clients : List (Client S)) (c : Client S) (k : ℕ) → k < length clients → slice_index_or clients k c ≡ c → IsIn c clients
  in_at [] c k lt is = absurd (omega arith)
  in_at (x ∷ clients) c zero lt is = inl is
  in_at (x ∷ clients) c (suc k) lt is = inr (in_at clients c k (omega arith) is)

  pub in_from : (clients : List (Client S)) (c : Client S) → Contains clients c → IsIn c clients
  in_from clients c p = in_at clients c p.0 p.1 p.2

  pub in_to : (clients : List (Client S)) (c : Client S) → IsIn c clients → Contains clients c
  in_to [] c p = absurd p
  in_to (x ∷ clients) c (inl is) = (zero, omega arith, is)
  in_to (x ∷ clients) c (inr p) = let q = in_to clients c p in (suc q.0, omega (arith, q.1), q.2)

  pub in_join : (a b : List (Client S)) (c : Client S) → IsIn c (a ++ b) → IsIn c a ⊎ IsIn c b
  in_join [] b c p = inr p
  in_join (x ∷ a) b c (inl is) = inl (inl is)
  in_join (x ∷ a) b c (inr p) = elim (in_join a b c p) [ inl q ↦ inl (inr q) | inr q ↦ inr q ]

  in_front : (a b : List (Client S)) (c : Client S) → IsIn c a → IsIn c (a ++ b)
  in_front [] b c p = absurd p
  in_front (x ∷ a) b c (inl is) = inl is
  in_front (x ∷ a) b c (inr p) = inr (in_front a b c p)

  in_less : (clients : List (Client S)) (i : ℕ) (c : Client S) → IsIn c (remove clients i) → IsIn c clients
  in_less [] zero c p = absurd p
  in_less [] (suc i) c p = absurd p
  in_less (y ∷ clients) zero c p = inr p
  in_less (y ∷ clients) (suc i) c (inl is) = inl is
  in_less (y ∷ clients) (suc i) c (inr p) = inr (in_less clients i c p)

  in_more : (clients : List (Client S)) (i : ℕ) (d c : Client S) → i < length clients → IsIn c clients → IsIn c (remove clients i) ⊎ (slice_index_or clients i d ≡ c)
  in_more [] i d c lt p = absurd p
  in_more (y ∷ clients) zero d c lt (inl is) = inr is
  in_more (y ∷ clients) zero d c lt (inr p) = inl p
  in_more (y ∷ clients) (suc i) d c lt (inl is) = inl (inl is)
  in_more (y ∷ clients) (suc i) d c lt (inr p) = elim (in_more clients i d c (omega arith) p) [ inl q ↦ inl (inr q) | inr is ↦ inr is ]

  -- what holds of two rows, place by place
  pub zip_from : (R : Client S → Client S → Type 0) (a b : List (Client S)) (new : Client S) → AllZip R a b → IsIn new b → (old : Client S) × IsIn old a × R old new
  zip_from R [] [] new p h = absurd h
  zip_from R [] (y ∷ b) new p h = absurd p
  zip_from R (x ∷ a) [] new p h = absurd p
  zip_from R (x ∷ a) (y ∷ b) new p (inl is) = (x, inl refl, subst (R x) is p.0)
  zip_from R (x ∷ a) (y ∷ b) new p (inr h) = let r = zip_from R a b new p.1 h in (r.0, inr r.1, r.2)

  pub zip_both : (P Q : Client S → Client S → Type 0) (a b : List (Client S)) → AllZip P a b → AllZip Q a b → AllZip (λ x y. P x y × Q x y) a b
  zip_both P Q [] [] p q = tt
  zip_both P Q [] (y ∷ b) p q = absurd p
  zip_both P Q (x ∷ a) [] p q = absurd p
  zip_both P Q (x ∷ a) (y ∷ b) p q = ((p.0, q.0), zip_both P Q a b p.1 q.1)

  -- what holds of each that stands in a list
  all_from : (P : Client S → Type 0) (clients : List (Client S)) → ((c : Client S) → Contains clients c → P c) → All P clients
  all_from P clients f = λ k d within.
      let c = slice_index_or clients k d in f c (k, within, get_or_default clients k c d within)

  pub all_left : (P : Client S → Type 0) (olds news : List (Client S)) → LetsGo olds news → All P olds → All P news
  all_left P olds news left all = all_from P news (λ c h. let there = left.from c h in subst P there.2 (all there.0 c there.1))

  -- ---- how far a list is

  pub far_none : (clients : List (Client S)) → EachAsFar clients clients
  far_none [] = tt
  far_none (y ∷ clients) = (inr refl, far_none clients)

  pub far_set : (olds clients : List (Client S)) (i : ℕ) (d x : Client S) → i < length clients → IsAsFar (slice_index_or clients i d) x → EachAsFar olds clients
      → EachAsFar olds (slice_set clients i x)
  far_set [] [] i d x lt one p = absurd (omega arith)
  far_set [] (y ∷ clients) i d x lt one p = absurd p
  far_set (o ∷ olds) [] i d x lt one p = absurd p
  far_set (o ∷ olds) (y ∷ clients) zero d x lt one p = (far_then o y x p.0 one, p.1)
  far_set (o ∷ olds) (y ∷ clients) (suc i) d x lt one p = (p.0, far_set olds clients i d x (omega arith) one p.1)

  -- ---- what came of each

  -- it holds too where others ask in front of these steps, or behind them
  abbrev pub Front : (List Step → Client S → Client S → Type 0) → Type 0
  Front Came = (xs ys : List Step) (old new : Client S) → asked_by old.conn xs ≡ [] → Came ys old new → Came (xs ++ ys) old new

  abbrev pub Behind : (List Step → Client S → Client S → Type 0) → Type 0
  Behind Came = (xs ys : List Step) (old new : Client S) → asked_by old.conn ys ≡ [] → Came xs old new → Came (xs ++ ys) old new

  -- so does what is said of the lines that it asks
  pub taken_front : (Came : List ℕ → Client S → Client S → Type 0) → Front (λ zs old new. Came (asked_by old.conn zs) old new)
  taken_front Came = λ xs ys old new none p.
      subst (λ t. Came t old new) (sym (asked_join old.conn xs ys ∙ ap (λ t. t ++ asked_by old.conn ys) none)) p

  pub taken_behind : (Came : List ℕ → Client S → Client S → Type 0) → Behind (λ zs old new. Came (asked_by old.conn zs) old new)
  taken_behind Came = λ xs ys old new none p.
      subst (λ t. Came t old new)
      (sym (asked_join old.conn xs ys ∙ ap (λ t. asked_by old.conn xs ++ t) none ∙ append-nil (asked_by old.conn xs))) p

  -- what came is asked, and since which line it holds sessions is known
  abbrev pub CameKnown : (S → Option (List ℕ)) → List Step → Client S → Client S → Type 0
  CameKnown remaining zs old new = AsksWhatCame remaining (asked_by old.conn zs) old new × KnowsSince zs old new

  pub known_front : (remaining : S → Option (List ℕ)) → Front (λ zs old new. CameKnown remaining zs old new)
  known_front remaining = λ xs ys old new none p.
      (taken_front (λ t o y. AsksWhatCame remaining t o y) xs ys old new none p.0, knows_front xs ys old new none p.1)

  pub known_behind : (remaining : S → Option (List ℕ)) → Behind (λ zs old new. CameKnown remaining zs old new)
  known_behind remaining = λ xs ys old new none p.
      (taken_behind (λ t o y. AsksWhatCame remaining t o y) xs ys old new none p.0, knows_behind xs ys old new none p.1)

  -- of the first so many of a list this holds with what each asks in these steps, and the others are as they were and ask nothing
  abbrev pub AskedTo : (List Step → Client S → Client S → Type 0) → List Step → ℕ → List (Client S) → List (Client S) → Type 0
  AskedTo Came steps zero olds clients = (clients ≡ olds) × AllQuiet steps (ids olds)
  AskedTo Came steps (suc i) [] [] = Unit {0}
  AskedTo Came steps (suc i) [] (y ∷ clients) = ⊥
  AskedTo Came steps (suc i) (o ∷ olds) [] = ⊥
  AskedTo Came steps (suc i) (o ∷ olds) (y ∷ clients) =
      (y.conn ≡ o.conn) × Came steps o y × AskedTo Came steps i olds clients

  pub asked_to_none : (Came : List Step → Client S → Client S → Type 0) (clients : List (Client S)) → AskedTo Came [] 0 clients clients
  asked_to_none Came clients = (refl, quiet_none (ids clients))

  pub asked_to_set : (Came : List Step → Client S → Client S → Type 0) → Front Came → Behind Came → (xs ys : List Step) (olds clients : List (Client S)) (i : ℕ) (d x : Client S) → AllDiffer (ids clients)
      → i < length clients → AsksOnly (slice_index_or clients i d).conn ys → x.conn ≡ (slice_index_or clients i d).conn
      → Came ys (slice_index_or clients i d) x → AskedTo Came xs i olds clients
      → AskedTo Came (xs ++ ys) (suc i) olds (slice_set clients i x)
  asked_to_set Came front behind xs ys olds [] i d x differ lt only same came p = absurd (omega arith)
  asked_to_set Came front behind xs ys olds (y ∷ clients) zero d x differ lt only same came p =
      let quiet : AllQuiet xs (ids (y ∷ clients)) = subst (λ os. AllQuiet xs (ids os)) (sym p.0) p.1 in
      subst (λ os. AskedTo Came (xs ++ ys) 1 os (x ∷ clients)) p.0 (
        same,
        front xs ys y x quiet.0 came,
        (refl, quiet_more y.conn xs ys (ids clients) quiet.1 only differ.0),
      )
  asked_to_set Came front behind xs ys [] (y ∷ clients) (suc i) d x differ lt only same came p = absurd p
  asked_to_set Came front behind xs ys (o ∷ olds) (y ∷ clients) (suc i) d x differ lt only same came p = (
    p.0,
    behind xs ys o y
        (only o.conn (subst (λ k. nat_eq (slice_index_or clients i d).conn k ≡ false) p.0 (none_at y.conn clients i d (omega arith) differ.0))) p.1,
    asked_to_set Came front behind xs ys olds clients i d x differ.1 (omega arith) only same came p.2,
  )

  pub asked_to_all : (Came : List Step → Client S → Client S → Type 0) (steps : List Step) (olds clients : List (Client S)) (i : ℕ) → AskedTo Came steps i olds clients
      → length clients ≤ i → AllZip (λ x y. Came steps x y) olds clients
  asked_to_all Came steps olds [] zero p le = subst (λ os. AllZip (λ x y. Came steps x y) os []) p.0 tt
  asked_to_all Came steps olds (y ∷ clients) zero p le = absurd (omega arith)
  asked_to_all Came steps [] [] (suc i) p le = tt
  asked_to_all Came steps [] (y ∷ clients) (suc i) p le = absurd p
  asked_to_all Came steps (o ∷ olds) [] (suc i) p le = absurd p
  asked_to_all Came steps (o ∷ olds) (y ∷ clients) (suc i) p le = (p.1, asked_to_all Came steps olds clients i p.2 (omega arith))

  pub unread_none : (remaining : S → Option (List ℕ)) (clients : List (Client S)) → EachUnread remaining clients clients
  unread_none remaining [] = tt
  unread_none remaining (y ∷ clients) = (Keeps-refl _, unread_none remaining clients)

  pub unread_set : (remaining : S → Option (List ℕ)) (olds clients : List (Client S)) (i : ℕ) (d x : Client S) → i < length clients
      → Keeps (remaining (slice_index_or clients i d).stream) (remaining x.stream) → EachUnread remaining olds clients
      → EachUnread remaining olds (slice_set clients i x)
  unread_set remaining [] [] i d x lt one p = absurd (omega arith)
  unread_set remaining [] (y ∷ clients) i d x lt one p = absurd p
  unread_set remaining (o ∷ olds) [] i d x lt one p = absurd p
  unread_set remaining (o ∷ olds) (y ∷ clients) zero d x lt one p = (Keeps-trans _ _ _ p.0 one, p.1)
  unread_set remaining (o ∷ olds) (y ∷ clients) (suc i) d x lt one p = (p.0, unread_set remaining olds clients i d x (omega arith) one p.1)

  -- one was asked what came of it, and then replies are sent
  pub came_sent : (remaining : S → Option (List ℕ)) (taken : List ℕ) (x y z : Client S) → AsksWhatCame remaining taken x y
      → Keeps (remaining y.stream) (remaining z.stream) → z.input ≡ y.input → IsAsFar y z → AsksWhatCame remaining taken x z
  came_sent remaining taken x y z p kept same far = (
    p.0,
    Consumes-kept (remaining x.stream) (remaining y.stream) (remaining z.stream) p.0 p.1 kept,
    λ no. ((p.2 no).0, λ is. (p.2 no).1 (was_open far is)),
    elim p.3 [
      | inl broken ↦ inl (still_broken far broken.0, broken.1)
      | inr (inl lines) ↦ inr (inl (
        subst (λ i. SameLines (heard x.input.is_first (waiting x.input ++ p.0)) (taken ++ waiting i)) (sym same) lines.0,
        ap (λ (i : Input). i.is_first) same ∙ lines.1,
        λ last is. lines.2 last (was_open far is),
      ))
      | inr (inr ends) ↦ inr (inr (
        λ is. ends.0 (was_open far is),
        ends.1,
        end_kept (remaining x.stream) (remaining y.stream) (remaining z.stream) p.0 p.1 kept ends.2,
        subst (λ i. Ends (waiting x.input) (taken ++ waiting i)) (sym same) ends.3,
      ))
    ],
    ap (λ (i : Input). i.lines) same ∙ p.4,
  )
    where
      still_broken : IsAsFar y z → y.phase ≡ Broken → z.phase ≡ Broken
      still_broken (inl broken) is = broken
      still_broken (inr also) is = also ∙ is

      was_open : IsAsFar y z → z.phase ≡ Open → y.phase ≡ Open
      was_open (inl broken) is = absurd (broken_open z.phase broken is)
      was_open (inr also) is = sym also ∙ is

      end_kept : (a b c : Option (List ℕ)) (piece : List ℕ) → Consumes a b piece → Keeps b c → IfSome a (λ _. IsAtEnd b) → IfSome a (λ _. IsAtEnd c)
      end_kept None b c piece p q e = tt
      end_kept (Some v) None c piece p q e = absurd p
      end_kept (Some v) (Some w) None piece p q e = absurd q
      end_kept (Some v) (Some w) (Some u) piece p q e = q ∙ e

  -- the same of a list, of which others go
  each_came_sent : (contents remaining : S → Option (List ℕ)) (steps : List Step) (a b d : List (Client S)) → EachAsked remaining steps a b
      → EachServed contents [] b d → EachServed contents steps a b → EachUnread remaining b d → inputs d ≡ inputs b → EachAsFar b d
      → AllZip (λ old new. (new.conn ≡ old.conn) × CameKnown remaining steps old new) a d
  each_came_sent contents remaining steps [] [] [] p sent served kept same far = tt
  each_came_sent contents remaining steps [] [] (z ∷ d) p sent served kept same far = absurd sent
  each_came_sent contents remaining steps [] (y ∷ b) d p sent served kept same far = absurd p
  each_came_sent contents remaining steps (x ∷ a) [] d p sent served kept same far = absurd p
  each_came_sent contents remaining steps (x ∷ a) (y ∷ b) [] p sent served kept same far = absurd sent
  each_came_sent contents remaining steps (x ∷ a) (y ∷ b) (z ∷ d) p sent served kept same far = (
    (
      sent.0.conn ∙ served.0.conn,
      (
        came_sent remaining (asked_by x.conn steps) x y z p.0.0 kept.0 (cc) far.0,
        ap (λ (i : Input). i.since) (heads z.input y.input (inputs d) (inputs b) same) ∙ p.0.1,
      ),
    ),
    each_came_sent contents remaining steps a b d p.1 sent.1 served.1 kept.1 (cc) far.1,
  )

  pub stayers_asked : (contents remaining : S → Option (List ℕ)) (xs ys : List Step) (a b d e : List (Client S)) → EachAsked remaining xs a b
      → EachServed contents [] b d → EachServed contents xs a b → EachUnread remaining b d → inputs d ≡ inputs b → EachAsFar b d → LetsGo d e
      → AsksNone ys → StayersAsked remaining (xs ++ ys) a e
  stayers_asked contents remaining xs ys a b d e came sent served kept same far left quiet = λ new h.
      let all = each_came_sent contents remaining xs a b d came sent served kept same far in
      let r = zip_from (λ old new. (new.conn ≡ old.conn) × CameKnown remaining xs old new) a d new all (in_from d new (left.from new h)) in
      let known = known_behind remaining xs ys r.0 new (quiet r.0.conn) r.2.1 in
      (r.0, in_to a r.0 r.1, r.2.0, known.0, known.1)

  -- ---- those that were told

  pub woken_same : (c : Client S) → IsWoken c c
  woken_same c = record { conn = refl; stream = refl; input = refl; held = refl; output = refl; phase = refl; has_lines = refl }

  woken_then : (a b c : Client S) → IsWoken a b → IsWoken b c → IsWoken a c
  woken_then a b c p q = record {
    conn = q.conn ∙ p.conn;
    stream = q.stream ∙ p.stream;
    input = q.input ∙ p.input;
    held = q.held ∙ p.held;
    output = q.output ∙ p.output;
    phase = q.phase ∙ p.phase;
    has_lines = q.has_lines ∙ p.has_lines;
  }

  pub each_woken_none : (clients : List (Client S)) → EachWoken clients clients
  each_woken_none [] = tt
  each_woken_none (y ∷ clients) = (woken_same y, each_woken_none clients)

  pub each_woken_set : (olds clients : List (Client S)) (i : ℕ) (d x : Client S) → i < length clients → IsWoken (slice_index_or clients i d) x → EachWoken olds clients
      → EachWoken olds (slice_set clients i x)
  each_woken_set [] [] i d x lt one p = absurd (omega arith)
  each_woken_set [] (y ∷ clients) i d x lt one p = absurd p
  each_woken_set (o ∷ olds) [] i d x lt one p = absurd p
  each_woken_set (o ∷ olds) (y ∷ clients) zero d x lt one p = (woken_then o y x p.0 one, p.1)
  each_woken_set (o ∷ olds) (y ∷ clients) (suc i) d x lt one p = (p.0, each_woken_set olds clients i d x (omega arith) one p.1)

  pub each_woken_then : (a b c : List (Client S)) → EachWoken a b → EachWoken b c → EachWoken a c
  each_woken_then [] [] c p q = q
  each_woken_then [] (y ∷ b) c p q = absurd p
  each_woken_then (x ∷ a) [] c p q = absurd p
  each_woken_then (x ∷ a) (y ∷ b) [] p q = absurd q
  each_woken_then (x ∷ a) (y ∷ b) (z ∷ c) p q = (woken_then x y z p.0 q.0, each_woken_then a b c p.1 q.1)

  -- ---- those that go on only ask

  pub opens_none : (clients : List (Client S)) → OpenOnlyAsk [] clients
  opens_none [] = tt
  opens_none (y ∷ clients) = (λ is. tt, opens_none clients)

  -- another one asks, or goes
  opens_other : (xs ys : List Step) (conn : ℕ) (clients : List (Client S)) → LeavesOthers conn ys → IsNoneOf conn (ids clients) → OpenOnlyAsk xs clients
      → OpenOnlyAsk (xs ++ ys) clients
  opens_other xs ys conn [] others none p = tt
  opens_other xs ys conn (y ∷ clients) others none p = (
    λ is. only_then y.conn xs ys (p.0 is) (others y.conn (turned y.conn conn none.0)),
    opens_other xs ys conn clients others none.1 p.1,
  )

  -- one is served
  pub opens_set : (xs ys : List Step) (clients : List (Client S)) (i : ℕ) (d x : Client S) → AllDiffer (ids clients) → i < length clients
      → LeavesOthers (slice_index_or clients i d).conn ys → x.conn ≡ (slice_index_or clients i d).conn
      → (GoesOn x → GoesOn (slice_index_or clients i d)) → (GoesOn x → OnlyAsks (slice_index_or clients i d).conn ys)
      → OpenOnlyAsk xs clients → OpenOnlyAsk (xs ++ ys) (slice_set clients i x)
  opens_set xs ys [] i d x differ lt others same before own p = absurd (omega arith)
  opens_set xs ys (y ∷ clients) zero d x differ lt others same before own p = (
    λ is. subst (λ k. OnlyAsks k (xs ++ ys)) (sym same) (only_then y.conn xs ys (p.0 (before is)) (own is)),
    opens_other xs ys y.conn clients others differ.0 p.1,
  )
  opens_set xs ys (y ∷ clients) (suc i) d x differ lt others same before own p = (
    λ is. only_then y.conn xs ys (p.0 is) (others y.conn (none_at y.conn clients i d (omega arith) differ.0)),
    opens_set xs ys clients i d x differ.1 (omega arith) others same before own p.1,
  )

  -- one goes
  pub opens_less : (xs ys : List Step) (clients : List (Client S)) (i : ℕ) (d : Client S) → AllDiffer (ids clients) → i < length clients
      → LeavesOthers (slice_index_or clients i d).conn ys → OpenOnlyAsk xs clients → OpenOnlyAsk (xs ++ ys) (remove clients i)
  opens_less xs ys [] i d differ lt others p = absurd (omega arith)
  opens_less xs ys (y ∷ clients) zero d differ lt others p = opens_other xs ys y.conn clients others differ.0 p.1
  opens_less xs ys (y ∷ clients) (suc i) d differ lt others p = (
    λ is. only_then y.conn xs ys (p.0 is) (others y.conn (none_at y.conn clients i d (omega arith) differ.0)),
    opens_less xs ys clients i d differ.1 (omega arith) others p.1,
  )

  opens_at : (steps : List Step) (clients : List (Client S)) (c : Client S) → OpenOnlyAsk steps clients → IsIn c clients → GoesOn c → OnlyAsks c.conn steps
  opens_at steps [] c p h = absurd h
  opens_at steps (y ∷ clients) c p (inl is) = subst (λ (x : Client S). GoesOn x → OnlyAsks x.conn steps) is p.0
  opens_at steps (y ∷ clients) c p (inr h) = opens_at steps clients c p.1 h

  opens_from : (steps : List Step) (clients : List (Client S)) → ((c : Client S) → IsIn c clients → GoesOn c → OnlyAsks c.conn steps) → OpenOnlyAsk steps clients
  opens_from steps [] f = tt
  opens_from steps (y ∷ clients) f = (f y (inl refl), opens_from steps clients (λ c h. f c (inr h)))

  -- replies are sent
  opens_sent : (contents : S → Option (List ℕ)) (xs : List Step) (b d : List (Client S)) → EachServed contents [] b d → EachAsFar b d
      → inputs d ≡ inputs b → OpenOnlyAsk xs b → OpenOnlyAsk xs d
  opens_sent contents xs [] [] sent far same p = tt
  opens_sent contents xs [] (z ∷ d) sent far same p = absurd sent
  opens_sent contents xs (y ∷ b) [] sent far same p = absurd sent
  opens_sent contents xs (y ∷ b) (z ∷ d) sent far same p = (
    λ on. subst (λ k. OnlyAsks k xs) (sym sent.0.conn) (p.0 (was_on far.0 (cc) on)),
    opens_sent contents xs b d sent.1 far.1 (cc) p.1,
  )
    where
      was_open : IsAsFar y z → z.phase ≡ Open → y.phase ≡ Open
      was_open (inl broken) is = absurd (broken_open z.phase broken is)
      was_open (inr same) is = sym same ∙ is

      was_on : IsAsFar y z → z.input ≡ y.input → GoesOn z → GoesOn y
      was_on far same (inl is) = inl (was_open far is)
      was_on far same (inr some) = inr (λ none. some (ap (λ i. ended (waiting i)) same ∙ none))

  -- those that go on have asked, replies were sent, and others have gone
  pub opens_all : (contents : S → Option (List ℕ)) (xs ys : List Step) (b d e : List (Client S)) → EachServed contents [] b d → EachAsFar b d
      → inputs d ≡ inputs b → OpenOnlyAsk xs b → LetsGo d e → OpenOnlyAsk ys e → OpenOnlyAsk (xs ++ ys) e
  opens_all contents xs ys b d e sent far same p left q = opens_from (xs ++ ys) e (λ c h on.
      only_then c.conn xs ys (opens_at xs d c (opens_sent contents xs b d sent far same p) (in_from d c (left.from c (in_to e c h))) on) (opens_at ys e c q h on))

  -- one that stands in a list of which each only asks
  only_at : (steps : List Step) (clients : List (Client S)) (c : Client S) → AllOnlyAsk steps (ids clients) → IsIn c clients → OnlyAsks c.conn steps
  only_at steps [] c p h = absurd h
  only_at steps (y ∷ clients) c p (inl is) = subst (λ (x : Client S). OnlyAsks x.conn steps) is p.0
  only_at steps (y ∷ clients) c p (inr h) = only_at steps clients c p.1 h

  -- ---- those that stay in the list

  module _ (contents : S → Option (List ℕ)) where
    pub each_none : (steps : List Step) (clients : List (Client S)) → GivesNone steps → EachServed contents steps clients clients
    each_none steps [] none = tt
    each_none steps (y ∷ clients) none = (served_same contents y (given_to y.conn steps) (none y.conn), each_none steps clients none)

    each_other : (steps : List Step) (conn : ℕ) (clients : List (Client S)) → GivesOnly conn steps → IsNoneOf conn (ids clients)
        → EachServed contents steps clients clients
    each_other steps conn [] only p = tt
    each_other steps conn (y ∷ clients) only p = (
      served_same contents y (given_to y.conn steps) (only y.conn (turned y.conn conn p.0)),
      each_other steps conn clients only p.1,
    )

    -- one is served, and the others are given nothing
    pub each_set : (steps : List Step) (clients : List (Client S)) (i : ℕ) (d x : Client S) → AllDiffer (ids clients) → i < length clients
        → GivesOnly (slice_index_or clients i d).conn steps
        → IsServed contents (given_to (slice_index_or clients i d).conn steps) (slice_index_or clients i d) x → EachServed contents steps clients (slice_set clients i x)
    each_set steps [] i d x differ lt only p = absurd (omega arith)
    each_set steps (y ∷ clients) zero d x differ lt only p = (p, each_other steps y.conn clients only differ.0)
    each_set steps (y ∷ clients) (suc i) d x differ lt only p = (
      served_same contents y (given_to y.conn steps) (only y.conn (none_at y.conn clients i d (omega arith) differ.0)),
      each_set steps clients i d x differ.1 (omega arith) only p,
    )

    pub each_then : (xs ys : List Step) (a b c : List (Client S)) → EachServed contents xs a b → EachServed contents ys b c
        → EachServed contents (xs ++ ys) a c
    each_then xs ys [] [] [] p q = tt
    each_then xs ys [] [] (z ∷ c) p q = absurd q
    each_then xs ys [] (y ∷ b) c p q = absurd p
    each_then xs ys (x ∷ a) [] c p q = absurd p
    each_then xs ys (x ∷ a) (y ∷ b) [] p q = absurd q
    each_then xs ys (x ∷ a) (y ∷ b) (z ∷ c) p q = (
      served_by contents (given_to x.conn xs ++ given_to y.conn ys) (given_to x.conn (xs ++ ys)) x z
          (ap (λ k. given_to x.conn xs ++ given_to k ys) p.0.conn ∙ sym (given_join x.conn xs ys))
          (served_then contents (given_to x.conn xs) (given_to y.conn ys) x y z p.0 q.0),
      each_then xs ys a b c p.1 q.1,
    )

    -- whether all is asked doesn't change where nobody is given more, behind or before
    asks_front : (xs ys : List Step) (old new : Client S) → GivesNone ys → AsksAll xs old new → AsksAll (xs ++ ys) old new
    asks_front xs ys old new none (inl no_line) = inl no_line
    asks_front xs ys old new none (inr (inl full)) =
        inr (inl (subst (λ t. MOST_UNSENT < length (owed old ++ t)) (sym (given_front old.conn xs ys none)) full))
    asks_front xs ys old new none (inr (inr told)) =
        inr (inr (λ no. told (front_none (told_by old.conn xs) (told_by old.conn ys) (sym (told_join old.conn xs ys) ∙ no))))

    asks_behind : (xs ys : List Step) (old new : Client S) → GivesNone xs → AsksAll ys old new → AsksAll (xs ++ ys) old new
    asks_behind xs ys old new none (inl no_line) = inl no_line
    asks_behind xs ys old new none (inr (inl full)) =
        inr (inl (subst (λ t. MOST_UNSENT < length (owed old ++ t)) (sym (given_behind old.conn xs ys none)) full))
    asks_behind xs ys old new none (inr (inr told)) =
        inr (inr (λ no. told (back_none (told_by old.conn xs) (told_by old.conn ys) (sym (told_join old.conn xs ys) ∙ no))))

    -- the middle one is heard, and then replies are sent: of one that isn't broken all lines are asked
    asks_one : (steps : List Step) (old mid new : Client S) → IsServed contents (given_to old.conn steps) old mid → IsHeard steps mid
        → IsServed contents [] mid new → new.input ≡ mid.input → ¬ (new.phase ≡ Broken) → AsksAll steps old new
    asks_one steps old mid new p (inl broken) q same sound = absurd (sound (q.broken broken).0)
    asks_one steps old mid new p (inr (inl none)) q same sound = inl (ap (λ i. ended (waiting i)) same ∙ none)
    asks_one steps old mid new p (inr (inr (inl full))) q same sound =
        inr (inl (more_than MOST_UNSENT (length (owed mid)) _ full
        (within_length p.sent (owed mid) p.lost (owed old ++ given_to old.conn steps) p.bytes)))
      where
        more_than : (m k n : ℕ) → ¬ (k ≤ m) → k ≤ n → m < n
        more_than m k n above le = omega (arith, above, le)

        within_length : (s m l all : List ℕ) → all ≡ s ++ (m ++ l) → length m ≤ length all
        within_length s m l all is = omega (arith, ap length is, length-append s (m ++ l), length-append m l)
    asks_one steps old mid new p (inr (inr (inr told))) q same sound = inr (inr (subst (λ k. ¬ (told_by k steps ≡ [])) p.conn told))

    -- The same of a list.
    each_asked : (xs : List Step) (a b d : List (Client S)) → EachServed contents xs a b → All (λ c. IsHeard xs c) b → EachServed contents [] b d → inputs d ≡ inputs b
        → AllZip (λ old new. ¬ (new.phase ≡ Broken) → AsksAll xs old new) a d
    each_asked xs [] [] [] p q r same = tt
    each_asked xs [] [] (z ∷ d) p q r same = absurd r
    each_asked xs [] (y ∷ b) d p q r same = absurd p
    each_asked xs (x ∷ a) [] d p q r same = absurd p
    each_asked xs (x ∷ a) (y ∷ b) [] p q r same = absurd r
    each_asked xs (x ∷ a) (y ∷ b) (z ∷ d) p q r same = (
      asks_one xs x y z p.0 (q 0 y (omega arith)) r.0 (cc),
      each_asked xs a b d p.1 (λ k e within. q (suc k) e (omega (arith, within))) r.1 (cc),
    )

    -- and nobody is given more
    each_asked_still : (xs ys : List Step) (a d : List (Client S)) → GivesNone ys
        → AllZip (λ old new. ¬ (new.phase ≡ Broken) → AsksAll xs old new) a d
        → AllZip (λ old new. ¬ (new.phase ≡ Broken) → AsksAll (xs ++ ys) old new) a d
    each_asked_still xs ys [] [] none p = tt
    each_asked_still xs ys [] (z ∷ d) none p = absurd p
    each_asked_still xs ys (x ∷ a) [] none p = absurd p
    each_asked_still xs ys (x ∷ a) (z ∷ d) none p = (
      λ sound. asks_front xs ys x z none (p.0 sound),
      each_asked_still xs ys a d none p.1,
    )

    each_to : (steps : List Step) (a b : List (Client S)) (old : Client S) → EachServed contents steps a b → IsIn old a
        → (new : Client S) × IsIn new b × IsServed contents (given_to old.conn steps) old new
    each_to steps [] [] old p h = absurd h
    each_to steps [] (y ∷ b) old p h = absurd p
    each_to steps (x ∷ a) [] old p h = absurd p
    each_to steps (x ∷ a) (y ∷ b) old p (inl is) = (y, inl refl, subst (λ c. IsServed contents (given_to c.conn steps) c y) is p.0)
    each_to steps (x ∷ a) (y ∷ b) old p (inr h) = let r = each_to steps a b old p.1 h in (r.0, inr r.1, r.2)

  -- ---- those that go

  over_none : (clients : List (Client S)) (c : Client S) → NoneIsOver clients → Contains clients c → ¬ IsOver c
  over_none clients c stay h = λ over. stay h.0 c h.1 (subst (λ (x : Client S). IsOver x) (sym h.2) over)

  pub lets_none : (clients : List (Client S)) → LetsGo clients clients
  lets_none clients = record { from = λ c h. h; to = λ c h. inl h }

  pub lets_one : (olds clients : List (Client S)) (i : ℕ) (d : Client S) → LetsGo olds clients → i < length clients → IsOver (slice_index_or clients i d)
      → LetsGo olds (remove clients i)
  lets_one olds clients i d p lt over = record {
    from = λ c h. p.from c (in_to clients c (in_less clients i c (in_from (remove clients i) c h)));
    to = λ c h. elim (p.to c h) [
      | inl here ↦ elim (in_more clients i d c lt (in_from clients c here)) [
        | inl stays ↦ inl (in_to (remove clients i) c stays)
        | inr is ↦ inr (subst (λ (x : Client S). IsOver x) is over)
      ]
      | inr gone ↦ inr gone
    ];
  }

  -- ---- those that come

  ids_join : (a b : List (Client S)) → ids (a ++ b) ≡ ids a ++ ids b
  ids_join [] b = refl
  ids_join (x ∷ a) b = ap (λ ks. x.conn ∷ ks) (ids_join a b)

  pub new_before : (c : Client S) (a b comers : List (Client S)) → b ≡ a ++ comers → IsNew c b → IsNew c a
  new_before c a b comers is p = (p.0, p.1, p.2, none_front c.conn (ids a) (ids comers) (subst (IsNoneOf c.conn) (ap ids is ∙ ids_join a comers) p.3), p.4, p.5, p.6)

  -- those that were there before the others came
  pub only_before : (steps : List Step) (a b : List (Client S)) → Joins a b → AllOnlyAsk steps (ids b) → AllOnlyAsk steps (ids a)
  only_before steps a b joins p = only_front steps (ids a) (ids joins.0) (subst (AllOnlyAsk steps) (ap ids joins.1 ∙ ids_join a joins.0) p)

  -- some come, and then those that are there are served
  pub stayers_ask : (xs ys : List Step) (a c : List (Client S)) → AllOnlyAsk xs (ids a) → OpenOnlyAsk ys c → StayersOnlyAsk (xs ++ ys) a c
  stayers_ask xs ys a c p q = λ old new here there same on.
      only_then new.conn xs ys (subst (λ k. OnlyAsks k xs) (sym same) (only_at xs a old p (in_from a old here))) (opens_at ys c new q (in_from c new there) on)

  nobody : (c : Client S) → Contains [] c → ⊥
  nobody c h = in_from [] c h

  pub joins_none : (clients : List (Client S)) → Joins clients clients
  joins_none clients = ([], sym (append-nil clients), λ c h. absurd (nobody c h))

  pub joins_one : (clients : List (Client S)) (comer : Client S) → IsNew comer clients → Joins clients (clients ++ comer ∷ [])
  joins_one clients comer new = (
    comer ∷ [],
    refl,
    λ c h. elim (in_from (comer ∷ []) c h) [
      | inl is ↦ subst (λ (x : Client S). IsNew x clients) is new
      | inr none ↦ absurd none
    ],
  )

  pub joins_then : (a b c : List (Client S)) → Joins a b → Joins b c → Joins a c
  joins_then a b c p q = (
    p.0 ++ q.0,
    q.1 ∙ ap (λ t. t ++ q.0) p.1 ∙ append_assoc a p.0 q.0,
    λ x h. elim (in_join p.0 q.0 x (in_from (p.0 ++ q.0) x h)) [
      | inl first ↦ p.2 x (in_to p.0 x first)
      | inr second ↦ new_before x a b p.0 p.1 (q.2 x (in_to q.0 x second))
    ],
  )

  -- ---- all of them

  module _ (contents : S → Option (List ℕ)) where
    -- all are asked, replies are sent, and those that are over go
    pub serves_each : (xs ys : List Step) (a b d e : List (Client S)) → GivesNone ys → EachServed contents xs a b → All (λ c. IsHeard xs c) b
        → EachServed contents [] b d → inputs d ≡ inputs b → LetsGo d e → NoneIsOver e → Serves contents (xs ++ ys) a e
    serves_each xs ys a b d e none asked all sent same left stay =
        let each : EachServed contents (xs ++ ys) a d = each_then contents xs ys a b d asked (each_then contents [] ys b d d sent (each_none contents ys d none)) in
        let served : Client S → Client S → Type 0 = λ old new. IsServed contents (given_to old.conn (xs ++ ys)) old new in
        let asks : Client S → Client S → Type 0 = λ old new. ¬ (new.phase ≡ Broken) → AsksAll (xs ++ ys) old new in
        let both = zip_both served asks a d each (each_asked_still contents xs ys a d none (each_asked contents xs a b d asked all sent same)) in record {
          from = λ new h.
              let r = zip_from (λ old new. served old new × asks old new) a d new both (in_from d new (left.from new h)) in
              (r.0, inl (in_to a r.0 r.1), r.2.0, r.2.1 (λ broken. over_none e new stay h (inl broken)));
          to = λ old h. let r = each_to contents (xs ++ ys) a d old each (in_from a old h) in (r.0, left.to r.0 (in_to d r.0 r.1), r.2);
        }

    pub serves_joined : (xs ys : List Step) (a b c : List (Client S)) → GivesNone xs → Joins a b → Serves contents ys b c → Serves contents (xs ++ ys) a c
    serves_joined xs ys a b c none joins p = record {
      from = λ new h. let r = p.from new h in (
        r.0,
        elim r.1 [
          | inl here ↦ elim (in_join a joins.0 r.0 (subst (IsIn r.0) joins.1 (in_from b r.0 here))) [
            | inl old ↦ inl (in_to a r.0 old)
            | inr comer ↦ inr (joins.2 r.0 (in_to joins.0 r.0 comer))
          ]
          | inr came ↦ inr (new_before r.0 a b joins.0 joins.1 came)
        ],
        served_by contents (given_to r.0.conn ys) (given_to r.0.conn (xs ++ ys)) r.0 new (sym (given_behind r.0.conn xs ys none)) r.2,
        asks_behind contents xs ys r.0 new none r.3,
      );
      to = λ old h. let r = p.to old (in_to b old (subst (IsIn old) (sym joins.1) (in_front a joins.0 old (in_from a old h)))) in (
        r.0,
        r.1,
        served_by contents (given_to old.conn ys) (given_to old.conn (xs ++ ys)) old r.0 (sym (given_behind old.conn xs ys none)) r.2,
      );
    }
