-- The program's command line, and what words say by it.
use Rattle.std.specs.Prelude.{◌≡◌, ◌≢◌, ◌&&◌, ◌≤◌, ⊤, ℕ, pos, Bool, false, not, if◌then◌else◌}
use Rattle.std.specs.Prelude.{List, [], Option, Some, None, is_some, codes, bytes_eq, option_map}
use Rattle.std.specs.Str.Parse.{digits_value, without_leading_plus}
use Rattle.clap.specs.Built.{IsPlain, IsParsedFrom}
use Rattle.clap.specs.declared.builder.command.Command.{Command}
use Rattle.clap.specs.declared.builder.command.Command.TheViews.{out-Command}
use Rattle.clap.specs.declared.parser.matches.ArgMatches.{ArgMatches}
use Rattle.clap.specs.declared.builder.value_parser.ValueParser.{ValueParser}
use Rattle.clap.specs.declared.builder.value_parser.ValueParser.TheVariants as vp
use Rattle.mi_value.specs.declared.limits.TheConstants.{MAX_CONNECTIONS}
use Rattle.std.specs.Option.{option_map_or}
use Rattle.std.specs.String.{string_bytes}
use Rattle.clap.specs.Words.{App, Row, Rule, app_of, new_app, new_rule, with_rule, first_of, one_of, kind_of, IsAmong, Kinds}
use Rattle.clap.specs.declared.builder.ArgAction.TheVariants.{Set, SetTrue}
use Rattle.clap.specs.declared.error.kind.ErrorKind.TheVariants.{OutOfMemory}
use Rattle.mi_program.specs.declared.words.Options.{Options}
use Rattle.mi_program.specs.declared.words.WordsFault.{WordsFault}
use Rattle.mi_program.specs.declared.words.WordsFault.TheVariants.{Parse, Rules, Memory}

-- an option `--name VALUE`
abbrev pub option_rule : List ℕ → Rule
option_rule name = record (new_rule name) { long = Some name; action = Some Set; value_names = 1 }

-- an option `--name` that is there or not
abbrev pub flag_rule : List ℕ → Rule
flag_rule name = record (new_rule name) { long = Some name; action = Some SetTrue }

-- an option `--name N` of a number that this parser takes
abbrev pub number_rule : List ℕ → ValueParser → Rule
number_rule name parser = record (option_rule name) { parser = Some parser }

-- ports are 1 to 65535, clients 1 to as many as can be attached
abbrev pub port_parser : ValueParser
port_parser = vp.Signed (pos 1) (pos 65535)

abbrev pub clients_parser : ValueParser
clients_parser = vp.Unsigned 1 MAX_CONNECTIONS

-- the options that the program knows
abbrev pub program_options : App
program_options = with_rule (with_rule (with_rule (with_rule (new_app (codes "mi_server")) (option_rule (codes "schema"))) (flag_rule (codes "check")))
    (number_rule (codes "listen") port_parser)) (number_rule (codes "clients") clients_parser)

-- A command has these options, and none of them excludes another.
pub record HasOptions (c : Command) (app : App) : Type 0 where
  pub is : app_of c ≡ app
  pub plain : IsPlain c
  pub local : (out-Command c).has_globals ≡ false

-- These matches come of the program's command line.
abbrev pub AreGiven : ArgMatches → Type 0
AreGiven m = (c : Command) × HasOptions c program_options × IsParsedFrom c m

-- a flag that was matched as true
abbrev pub is_set : Option (List ℕ) → Bool
is_set value = option_map_or (λ text. bytes_eq text (codes "true")) value false

-- the rules between options: `--listen` and `--clients` go together, and `--check` stands with neither
abbrev pub go_together : Bool → Bool → Bool → Bool
go_together listen clients check = if listen then clients && not check else not clients

abbrev pub keeps_rules : List Row → Bool
keeps_rules rows = go_together (is_some (one_of (codes "listen") rows)) (is_some (one_of (codes "clients") rows)) (is_set (one_of (codes "check") rows))

-- what words ask for: a check, a port that is listened on, a schema's file
abbrev pub asks_check : List Row → Bool
asks_check rows = is_set (one_of (codes "check") rows)

abbrev pub asks_port : List Row → Bool
asks_port rows = is_some (one_of (codes "listen") rows)

abbrev pub names_schema : List Row → Bool
names_schema rows = is_some (first_of (codes "schema") rows)

-- a number that was matched, within its bounds
abbrev pub IsNumber : ℕ → ℕ → Option (List ℕ) → Option ℕ → Type 0
IsNumber low high None None = ⊤
IsNumber low high (Some text) (Some n) = (n ≡ digits_value 10 (without_leading_plus text)) × (low ≤ n) × (n ≤ high)
IsNumber low high value n = ⊥

-- both, or nothing
abbrev pub both : Option ℕ → Option ℕ → Option (ℕ × ℕ)
both (Some m) (Some n) = Some (m, n)
both m n = None

-- The options are the values that were matched.
pub record AreValues (options : Options) (rows : List Row) : Type 0 where
  pub schema : option_map string_bytes options.schema ≡ first_of (codes "schema") rows
  pub check : options.check ≡ is_set (one_of (codes "check") rows)
  pub listen : (port clients : Option ℕ) × IsNumber 1 65535 (one_of (codes "listen") rows) port
      × IsNumber 1 MAX_CONNECTIONS (one_of (codes "clients") rows) clients
      × (options.listen ≡ both port clients)

-- The words are refused by one of these kinds, or break a rule between options, or there is no memory for reading them.
abbrev pub IsRefusal : Kinds → List Row → WordsFault → Type 0
IsRefusal kinds rows (Parse e) = (kind_of e ≢ OutOfMemory) × IsAmong (kind_of e) kinds
IsRefusal kinds rows Rules = (kinds ≡ []) × (keeps_rules rows ≡ false)
IsRefusal kinds rows Memory = ⊤
