-- The numbers that are matched of the program's command line.
-- Cited by `words::values`.
use Rattle.std.proofs.Common.{◌≡◌, ◌∙◌, ◌<◌, ◌≤◌, ap, ℕ, Bool, true, false, List, [], ◌∷◌, length}
use Rattle.std.proofs.Common.{Option, Some, None, refl, sym, subst, inl, inr, arith, zero, suc, codes}
use Rattle.std.specs.Prelude.{Result, Ok, Err, is_some, slice_index}
use Rattle.std.specs.List.{slice_index_or}
use Rattle.std.specs.Str.{bytes_eq}
use Rattle.std.specs.Str.Parse.{ParsesUnsigned, ExplainsUnsignedError, HasUnsignedDigitsIfOk}
use Rattle.std.specs.declared.num.ParseIntError.{ParseIntError}
use Rattle.std.proofs.lemmas.List.{length-map}
use Rattle.std.proofs.Math.ListN.{get_or-map}
use Rattle.mi_value.specs.declared.limits.TheConstants.{MAX_CONNECTIONS}
use Rattle.clap.specs.Facts.{args_of}
use Rattle.clap.specs.Matches.{found_of, one_text, ReadsOne}
use Rattle.clap.specs.Lexer.{without_minus}
use Rattle.clap.specs.Values.{IsUnsignedIn}
use Rattle.clap.specs.Walk.{Rule, rule_of, one_of, rows_of}
use Rattle.clap.proofs.WalkLemmas.{one_text-rows}
use Rattle.clap.specs.declared.builder.arg.Arg.{Arg}
use Rattle.clap.specs.declared.builder.command.Command.{Command}
use Rattle.clap.specs.declared.builder.value_parser.ValueParser.{ValueParser}
use Rattle.clap.specs.declared.parser.matches.ArgMatches.{ArgMatches}
use Rattle.clap.proofs.CallerReads.{signed_reads}
use Rattle.mi_program.specs.Words.{program_options, port_parser, clients_parser, AreGiven, IsNumber, go_together}
use Rattle.mi_program.proofs.MatchedLemmas.{IsOnly, IsTaken, taken}

-- the options of the program's command line
abbrev options : List Rule
options = program_options.top.rules

-- Option k is of this id, which no other and no flag of the parser's own has, and of this parser.
pub record IsOption (k : ℕ) (id : List ℕ) (q : ValueParser) : Type 0 where
  pub there : k < 4
  pub id_is : (r : Rule) → (slice_index_or options k r).id ≡ id
  parser_is : (r : Rule) → (slice_index_or options k r).parser ≡ Some q
  case_is : (r : Rule) → (slice_index_or options k r).ignore_case ≡ false
  pub alone : (j : ℕ) (r : Rule) → j < 4 → bytes_eq (slice_index_or options j r).id id ≡ true → j ≡ k
  pub named : id ≡ [] → ⊥
  no_help : id ≡ codes "help" → ⊥
  no_version : id ≡ codes "version" → ⊥

-- a text that is read of such an option passed its parser
number_taken : (m : ArgMatches) → AreGiven m → (k : ℕ) (id : List ℕ) (q : ValueParser) → IsOption k id q
    → (read : List ℕ) → one_text (found_of m) id ≡ Some read → IsTaken false q read
number_taken m given k id q o read is = go (args_of c) refl
  where
    c : Command
    c = given.0

    count : length (args_of c) ≡ 4
    count = sym (length-map (args_of c) rule_of) ∙ ap (λ a. length a.top.rules) given.1.is

    at : (j : ℕ) (d : Arg) → rule_of (slice_index_or (args_of c) j d) ≡ slice_index_or options j (rule_of d)
    at j d = sym (get_or-map rule_of (args_of c) j d) ∙ ap (λ a. slice_index_or a.top.rules j (rule_of d)) given.1.is

    own_id : (d : Arg) → (slice_index_or (args_of c) k d).id.now ≡ id
    own_id d = ap (λ (r : Rule). r.id) (at k d) ∙ o.id_is (rule_of d)

    only : (d : Arg) → IsOnly c k d
    only d = record {
      there = subst (λ n. k < n) (sym count) o.there;
      alone = λ j e lt same. o.alone j (rule_of e) (subst (λ n. j < n) count lt)
          (ap (λ (r : Rule). bytes_eq r.id id) (sym (at j e)) ∙ (ap (bytes_eq (slice_index_or (args_of c) j e).id.now) (sym (own_id d)) ∙ same));
      own = λ auto. elim auto [
        | inl h ↦ o.no_help (sym (own_id d) ∙ h)
        | inr h ↦ o.no_version (sym (own_id d) ∙ h)
      ];
    }

    with_default : (d : Arg) → IsTaken false q read
    with_default d =
        let got = taken c m given.2 k d (only d) given.1.plain given.1.local (λ e. o.named (sym (own_id d) ∙ e))
        q (ap (λ (r : Rule). r.parser) (at k d) ∙ o.parser_is (rule_of d)) read
        (ap (one_text (found_of m)) (own_id d) ∙ is) in
        subst (λ (b : Bool). IsTaken b q read) (ap (λ (r : Rule). r.ignore_case) (at k d) ∙ o.case_is (rule_of d)) got

    go : (xs : List Arg) → args_of c ≡ xs → IsTaken false q read
    go [] none =
        let bad : 0 < 0 = subst (λ n. 0 < n) (sym count ∙ ap length none) (omega arith) in
        absurd (omega arith)
    go (x ∷ xs) some = with_default x

-- an option by its facts, whose first letter is none that `help` and `version` begin with
option_at : (k n : ℕ) (t : List ℕ) (q : ValueParser) → k < 4 → ((r : Rule) → (slice_index_or options k r).id ≡ n ∷ t)
    → ((r : Rule) → ((slice_index_or options k r).parser ≡ Some q) × ((slice_index_or options k r).ignore_case ≡ false))
    → ((j : ℕ) (r : Rule) → j < 4 → bytes_eq (slice_index_or options j r).id (n ∷ t) ≡ true → j ≡ k)
    → (n ≡ 0 → ⊥) → (n ≡ 104 → ⊥) → (n ≡ 118 → ⊥) → IsOption k (n ∷ t) q
option_at k n t q there id rest alone none help version = record {
  there = there;
  id_is = id;
  parser_is = λ r. (rest r).0;
  case_is = λ r. (rest r).1;
  alone = alone;
  named = λ e. none (ap (λ u. slice_index u 0) e);
  no_help = λ e. help (ap (λ u. slice_index u 0) e);
  no_version = λ e. version (ap (λ u. slice_index u 0) e);
}

-- what holds of each of the four options
each_option : (P : ℕ → Type 0) → P 0 → P 1 → P 2 → P 3 → (j : ℕ) → j < 4 → P j
each_option P a b c d zero lt = a
each_option P a b c d (suc zero) lt = b
each_option P a b c d (suc (suc zero)) lt = c
each_option P a b c d (suc (suc (suc zero))) lt = d
each_option P a b c d (suc (suc (suc (suc n)))) lt = absurd (omega arith)

listen_option : IsOption 2 (codes "listen") port_parser
listen_option = option_at 2 108 _ port_parser (omega arith) (λ r. refl) (λ r. (refl, refl))
    (λ j r. each_option (λ i. bytes_eq (slice_index_or options i r).id (codes "listen") ≡ true → i ≡ 2) (λ e. cc) (λ e. cc) (λ e. refl) (λ e. cc) j)
    (λ e. absurd (omega arith)) (λ e. absurd (omega arith)) (λ e. absurd (omega arith))

clients_option : IsOption 3 (codes "clients") clients_parser
clients_option = option_at 3 99 _ clients_parser (omega arith) (λ r. refl) (λ r. (refl, refl))
    (λ j r. each_option (λ i. bytes_eq (slice_index_or options i r).id (codes "clients") ≡ true → i ≡ 3) (λ e. cc) (λ e. cc) (λ e. cc) (λ e. refl) j)
    (λ e. absurd (omega arith)) (λ e. absurd (omega arith)) (λ e. absurd (omega arith))

-- a port that was matched is read
port_read : (E : Type 0) (G : List ℕ → Result ℕ E → Type 0) → ((u : List ℕ) (x : Result ℕ E) → G u x → ParsesUnsigned 16 10 u x)
    → (value : Option (List ℕ)) (read : Option ℕ) → (value ≡ None → read ≡ None) → ((t : List ℕ) → value ≡ Some t → ReadsOne G t read)
    → ((t : List ℕ) → value ≡ Some t → IsTaken false port_parser t) → IsNumber 1 65535 value read
port_read E G parses None read none some passed = subst (IsNumber 1 65535 None) (sym (none refl)) tt
port_read E G parses (Some t) read none some passed =
    let from = passed t refl in
    let text : ReadsOne G (without_minus from.0) read = subst (λ u. ReadsOne G u read) from.1 (some t refl) in
    let got = signed_reads E G 16 1 65535 from.0 read text parses (omega arith) from.2 in
    let value : ReadsOne G t (Some got.0) = subst (ReadsOne G t) got.1 (some t refl) in
    subst (IsNumber 1 65535 (Some t)) (sym got.1) ((parses t (Ok got.0) value).1, got.2, got.3)

-- and a number of clients
count_read : (E : Type 0) (G : List ℕ → Result ℕ E → Type 0) → ((u : List ℕ) (x : Result ℕ E) → G u x → ParsesUnsigned 64 10 u x)
    → (value : Option (List ℕ)) (read : Option ℕ) → (value ≡ None → read ≡ None) → ((t : List ℕ) → value ≡ Some t → ReadsOne G t read)
    → ((t : List ℕ) → value ≡ Some t → IsTaken false clients_parser t) → IsNumber 1 MAX_CONNECTIONS value read
count_read E G parses None read none some passed = subst (IsNumber 1 MAX_CONNECTIONS None) (sym (none refl)) tt
count_read E G parses (Some t) (Some n) none some passed =
    let from = passed t refl in
    let bounds = subst (λ u. IsUnsignedIn 1 MAX_CONNECTIONS u) (sym from.1) from.2 in
    let is = (parses t (Ok n) (some t refl)).1 in
    (is, subst (λ k. 1 ≤ k) (sym is) bounds.2, subst (λ k. k ≤ MAX_CONNECTIONS) (sym is) bounds.3)
count_read E G parses (Some t) None none some passed =
    let from = passed t refl in
    let bounds = subst (λ u. IsUnsignedIn 1 MAX_CONNECTIONS u) (sym from.1) from.2 in
    let why = some t refl in
    absurd (parses t (Err why.0) why.1 (bounds.0, bounds.1))

-- a number that was matched is there exactly where a text is
pub number_there : (low high : ℕ) (value : Option (List ℕ)) (read : Option ℕ) → IsNumber low high value read → is_some read ≡ is_some value
number_there low high None None is = refl
number_there low high (Some t) (Some n) is = refl
number_there low high None (Some n) is = absurd is
number_there low high (Some t) None is = absurd is

-- the rules between options at equal tests
pub together : (a b : Bool) (c d : Bool) (e f : Bool) → a ≡ b → c ≡ d → e ≡ f → go_together a c e ≡ go_together b d f
together a b c d e f ab cd ef = ap (λ x. go_together x c e) ab ∙ (ap (λ x. go_together b x e) cd ∙ ap (λ x. go_together b d x) ef)

-- how a number of so many bits is read from a text
abbrev Parses : ℕ → List ℕ → Result ℕ ParseIntError → Type 0
Parses bits text r = ParsesUnsigned bits 10 text r × ExplainsUnsignedError 10 text r × HasUnsignedDigitsIfOk text r

-- what is read of `--listen`, and of `--clients`
pub listen_read : (m : ArgMatches) → AreGiven m → (read : Option ℕ) → (one_text (found_of m) (codes "listen") ≡ None → read ≡ None)
    → ((t : List ℕ) → one_text (found_of m) (codes "listen") ≡ Some t → ReadsOne (Parses 16) t read)
    → IsNumber 1 65535 (one_of (codes "listen") (rows_of (found_of m))) read
listen_read m given read none some = subst (λ (v : Option (List ℕ)). IsNumber 1 65535 v read) (one_text-rows (found_of m) (codes "listen"))
    (port_read _ (Parses 16) (λ u x g. g.0) _ read none some (λ t is. number_taken m given 2 (codes "listen") port_parser listen_option t is))

pub clients_read : (m : ArgMatches) → AreGiven m → (read : Option ℕ) → (one_text (found_of m) (codes "clients") ≡ None → read ≡ None)
    → ((t : List ℕ) → one_text (found_of m) (codes "clients") ≡ Some t → ReadsOne (Parses 64) t read)
    → IsNumber 1 MAX_CONNECTIONS (one_of (codes "clients") (rows_of (found_of m))) read
clients_read m given read none some = subst (λ (v : Option (List ℕ)). IsNumber 1 MAX_CONNECTIONS v read) (one_text-rows (found_of m) (codes "clients"))
    (count_read _ (Parses 64) (λ u x g. g.0) _ read none some (λ t is. number_taken m given 3 (codes "clients") clients_parser clients_option t is))
