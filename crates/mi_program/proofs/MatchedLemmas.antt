-- What was matched of an option that is a number: it passed its bounds, and the typed getters read it.
-- Cited by `words::command`, `words::matched`, `words::parse`, `NumberLemmas` and `mi_serving`.
use Rattle.std.proofs.Common.{◌||◌, ◌&&◌, ◌≡◌, ◌∙◌, ◌<◌, ap, ap₂, ℕ, Bool, true, false, List, []}
use Rattle.std.proofs.Common.{◌∷◌, length, Option, Some, None, refl, sym, subst, inl, inr, arith}
use Rattle.std.specs.List.{All, slice_index_or}
use Rattle.std.specs.Str.{bytes_eq}
use Rattle.std.specs.Prelude.{option_map, slice_get, unwrap_or, Result, Ok, Err, IfOk, IfErr}
use Rattle.std.proofs.lemmas.List.Elements.{All-get_or}
use Rattle.std.specs.Borrow.{Bor}
use Rattle.std.proofs.lemmas.Slice.Eq.{bytes_eq-Decides}
use Rattle.clap.specs.Facts.{args_of, groups_of, Entry, EntryPasses, ValuesPass, PassesArg, HasReading, parser_of, parser_of_value}
use Rattle.clap.specs.Built.{IsPlain, IsPlainArg, IsParsedFrom, IsAuto}
use Rattle.clap.specs.Matches.{matched_of, one_text, found_of}
use Rattle.clap.specs.declared.parser.matches.Found.{Found}
use Rattle.clap.specs.Values.{Accepts, read_as, reading_of}
use Rattle.clap.specs.declared.builder.value_parser.Reading.{Reading}
use Rattle.clap.proofs.CallerLemmas.{added_plain, entry_by_id, same_rules_by_id}
use Rattle.clap.specs.Words.{App, Rule, AddsArg, app_of, rule_of, with_rule, rows_of, matches_of}
use Rattle.clap.specs.Faults.{fault_of, is_free_app, is_simple_and_free}
use Rattle.clap.specs.Simple.{built, is_simple}
use Rattle.mi_program.specs.Words.{HasOptions, IsRefusal}
use Rattle.mi_program.specs.declared.words.WordsFault.{WordsFault}
use Rattle.clap.specs.declared.builder.arg.Arg.{Arg}
use Rattle.clap.specs.declared.builder.command.Command.{Command}
use Rattle.clap.specs.declared.builder.command.Command.TheViews.{out-Command}
use Rattle.clap.specs.declared.builder.value_parser.ValueParser.{ValueParser}
use Rattle.clap.specs.declared.parser.matches.ArgMatches.{ArgMatches}
use Rattle.clap.specs.declared.parser.matches.MatchedArg.{MatchedArg}

-- the entry of an id that is no group's: its values passed the parsers of the arguments of this id, and are read as one of them says
entry_passes : (c : Command) (f : Found) (id : List ℕ) (x : MatchedArg) → ValuesPass c f → groups_of c ≡ [] → (id ≡ [] → ⊥) → matched_of f id ≡ Some x
    → All (λ v. PassesArg c id v.now) x.vals.items × HasReading c id x.reading
entry_passes c f id x values no_groups named found = go (entry_by_id (EntryPasses c) f.entries.items id x values found)
  where
    go : ((e : Entry) × (e.1 ≡ x) × (bytes_eq e.0.now id ≡ true) × EntryPasses c e) → All (λ v. PassesArg c id v.now) x.vals.items × HasReading c id x.reading
    go got =
        let key : got.0.0.now ≡ id = (bytes_eq-Decides got.0.0.now id).0 got.2 in
        let no_group : got.0.1.is_group ≡ true → ⊥ = λ g. elim (got.3.3 g) [
          | inl empty ↦ named (sym key ∙ empty)
          | inr lots ↦
              let bad : 0 < 0 = rw no_groups at lots in
              absurd (omega arith)
        ] in
        let vals : All (λ v. PassesArg c id v.now) x.vals.items = elim got.3.0 [
          | inl g ↦ absurd (no_group g)
          | inr all ↦ subst (λ (w : List ℕ). All (λ v. PassesArg c w v.now) x.vals.items) key (rw got.1 at all)
        ] in
        let how : HasReading c id x.reading = elim got.3.4 [
          | inl g ↦ absurd (no_group g)
          | inr h ↦ subst (λ (w : List ℕ). HasReading c w x.reading) key (rw got.1 at h)
        ] in
        (vals, how)

-- an argument of the caller's, at place k: no other has its id, and building adds none of its id
pub record IsOnly (old : Command) (k : ℕ) (d : Arg) : Type 0 where
  pub there : k < length (args_of old)
  pub alone : (j : ℕ) (e : Arg) → j < length (args_of old)
      → bytes_eq (slice_index_or (args_of old) j e).id.now (slice_index_or (args_of old) k d).id.now ≡ true → j ≡ k
  pub own : IsAuto (slice_index_or (args_of old) k d) → ⊥

-- what passes an argument of its id passes its parser
passes_own : (old : Command) (m : ArgMatches) (p : IsParsedFrom old m) (k : ℕ) (d : Arg) → IsOnly old k d
    → (q : ValueParser) → (slice_index_or (args_of old) k d).value_parser ≡ Some q
    → (text : List ℕ) → PassesArg p.built (slice_index_or (args_of old) k d).id.now text
    → Accepts (slice_index_or (args_of old) k d).ignore_case q text
passes_own old m p k d only q parser text pass =
    let s = same_rules_by_id old m p k d only.there only.alone only.own pass.0 pass.1 pass.2 pass.3 pass.4.0 in
    let is_q : parser_of pass.1 ≡ q = ap parser_of_value (s.parser q parser) in
    subst (λ (b : Bool). Accepts b q text) s.ignore_case (subst (λ (w : ValueParser). Accepts pass.1.ignore_case w text) is_q pass.4.1)

-- and is read as its parser says
reads_own : (old : Command) (m : ArgMatches) (p : IsParsedFrom old m) (k : ℕ) (d : Arg) → IsOnly old k d
    → (q : ValueParser) → (slice_index_or (args_of old) k d).value_parser ≡ Some q
    → (how : Reading) → HasReading p.built (slice_index_or (args_of old) k d).id.now how → how ≡ reading_of q
reads_own old m p k d only q parser how any =
    let s = same_rules_by_id old m p k d only.there only.alone only.own any.0 any.1 any.2 any.3 any.4.0 in
    let is_q : parser_of any.1 ≡ q = ap parser_of_value (s.parser q parser) in
    sym any.4.1 ∙ ap reading_of is_q

-- A text that a typed getter reads of such an argument is one that its parser took.
abbrev pub IsTaken : Bool → ValueParser → List ℕ → Type 0
IsTaken ignore_case q read = (text : List ℕ) × (read ≡ read_as (reading_of q) text) × Accepts ignore_case q text

pub taken : (old : Command) (m : ArgMatches) (p : IsParsedFrom old m) (k : ℕ) (d : Arg) → IsOnly old k d
    → IsPlain old → (out-Command old).has_globals ≡ false → ((slice_index_or (args_of old) k d).id.now ≡ [] → ⊥)
    → (q : ValueParser) → (slice_index_or (args_of old) k d).value_parser ≡ Some q
    → (read : List ℕ) → one_text (found_of m) (slice_index_or (args_of old) k d).id.now ≡ Some read
    → IsTaken (slice_index_or (args_of old) k d).ignore_case q read
taken old m p k d only plain globals named q parser read is = go (matched_of (found_of m) id) refl is
  where
    id : List ℕ
    id = (slice_index_or (args_of old) k d).id.now

    first : (how : Reading) (vs : List (Bor (List ℕ))) → All (λ v. PassesArg p.built id v.now) vs → how ≡ reading_of q
        → option_map (λ s. read_as how s.now) (slice_get vs 0) ≡ Some read → IsTaken (slice_index_or (args_of old) k d).ignore_case q read
    first how [] all by got = cc
    first how (v ∷ vs) all by got = (
      v.now,
      ap (λ (o : Option (List ℕ)). unwrap_or o read) (sym got) ∙ ap (λ (h : Reading). read_as h v.now) by,
      passes_own old m p k d only q parser v.now (All-get_or (λ v. PassesArg p.built id v.now) (v ∷ vs) 0 v (omega arith) all),
    )

    go : (o : Option MatchedArg) → matched_of (found_of m) id ≡ o → one_text (found_of m) id ≡ Some read
        → IsTaken (slice_index_or (args_of old) k d).ignore_case q read
    go None e h =
        let bad : None ≡ Some read = rw e at h in
        cc
    go (Some x) e h =
        let parsed = p.parsed (p.from.globals ∙ globals) in
        let both = entry_passes p.built (found_of m) id x parsed.values (p.from.plain plain).1 named e in
        first x.reading x.vals.items both.0 (reads_own old m p k d only q parser x.reading both.1) (rw e at h)

-- a command with one more option
pub stands_more : (old new : Command) (a : Arg) (app : App) (r : Rule) → AddsArg old a new
    → HasOptions old app → rule_of a ≡ r → IsPlainArg a → a.global ≡ false
    → HasOptions new (with_rule app r)
stands_more old new a app r added stands is plain local = record {
  is = added.shape local ∙ ap₂ with_rule stands.is is;
  plain = added_plain old new a added stands.plain plain;
  local = added.globals ∙ ap₂ (λ (x y : Bool). x || y) stands.local local;
}

-- what a command matches, where its options are these
pub command_matched : (c : Command) (app : App) (words : List (List ℕ)) (r : Result ArgMatches WordsFault) → HasOptions c app
    → IfOk r (λ m. (fault_of (app_of c) words ≡ []) × (rows_of (found_of m) ≡ matches_of (app_of c) words) × IsParsedFrom c m)
    → IfOk r (λ m. (fault_of app words ≡ []) × (rows_of (found_of m) ≡ matches_of app words) × ((d : Command) × HasOptions d app × IsParsedFrom d m))
command_matched c app words (Ok m) stands p = (
  ap (λ (a : App). fault_of a words) (sym stands.is) ∙ p.0,
  p.1 ∙ ap (λ (a : App). matches_of a words) stands.is,
  (c, stands, p.2),
)
command_matched c app words (Err fault) stands p = tt

pub command_refused : (c : Command) (app : App) (words : List (List ℕ)) (r : Result ArgMatches WordsFault) → HasOptions c app
    → IfErr r (IsRefusal (fault_of (app_of c) words) (matches_of (app_of c) words)) → IfErr r (IsRefusal (fault_of app words) (matches_of app words))
command_refused c app words (Ok m) stands p = tt
command_refused c app words (Err fault) stands p = subst (λ (a : App). IsRefusal (fault_of a words) (matches_of a words) fault) stands.is p

-- a command that is simple and has no rule between options is simple
pub simple_of : (app : App) → is_simple_and_free app ≡ true → is_simple app ≡ true
simple_of app both = left (is_simple app) (is_free_app (built app)) both
  where
    left : (a b : Bool) → (a && b) ≡ true → a ≡ true
    left true b h = refl
    left false b h = h
