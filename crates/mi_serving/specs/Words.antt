-- What the words of the command line ask for.
use Rattle.std.specs.Prelude.{◌≡◌, ◌||◌, ◌&&◌, not, ℕ, List, Bool, true, false, if◌then◌else◌, Option, Some, None, is_some, option_map, codes, bytes_eq, pos}
use Rattle.std.specs.String.{string_bytes}
use Rattle.clap.specs.Words.{App, Row, with_rule, new_app, first_of, one_of}
use Rattle.clap.specs.declared.builder.value_parser.ValueParser.{ValueParser}
use Rattle.clap.specs.declared.builder.value_parser.ValueParser.TheVariants as vp
use Rattle.mi_clients.specs.declared.silence.Limits.{Limits}
use Rattle.mi_recovery.specs.declared.device.Keeping.{Keeping}
use Rattle.mi_recovery.specs.declared.device.Keeping.TheVariants.{Synced, Unsynced}
use Rattle.mi_program.specs.Words.{option_rule, flag_rule, number_rule, is_set, IsNumber}
use Rattle.mi_serving.specs.declared.move_words.MoveWords.{MoveWords}
use Rattle.mi_serving.specs.declared.words.Options.{Options}
use Rattle.mi_serving.specs.declared.words.Addresses.{Addresses}
use Rattle.mi_serving.specs.declared.words.JournalWords.{JournalWords}
use Rattle.mi_serving.specs.declared.words.SyncMode.{SyncMode}
use Rattle.mi_serving.specs.declared.words.TheConstants.{MOST_SECONDS, SEGMENT_BYTES, LEAST_SEGMENT, MOST_SEGMENT}
use Rattle.mi_serving.specs.declared.words.SyncMode.TheVariants.{Always, Turn, Never}

-- what is done of a sync of a journal
abbrev pub keeping_by : SyncMode → Keeping
keeping_by Always = Synced
keeping_by Turn = Synced
keeping_by Never = Unsynced

-- what is done of a sync of the journal that the words name, where they name one
abbrev pub keeping_of : Option JournalWords → Keeping
keeping_of None = Unsynced
keeping_of (Some words) = keeping_by words.sync

-- how many bytes of text a segment of that has before the next one is begun
abbrev pub segment_bytes_of : Option JournalWords → ℕ
segment_bytes_of None = 18446744073709551615
segment_bytes_of (Some words) = words.segment_bytes

-- whether each line is to be synced by itself
abbrev pub syncs_each : SyncMode → Bool
syncs_each Always = true
syncs_each Turn = false
syncs_each Never = false

-- whether each line of a journal is to be synced by itself
abbrev pub asks_each : Option JournalWords → Bool
asks_each None = false
asks_each (Some words) = syncs_each words.sync

-- ports are 0 to 65535
abbrev pub port_parser : ValueParser
port_parser = vp.Signed (pos 0) (pos 65535)

-- seconds are 1 to 1,000,000
abbrev pub seconds_parser : ValueParser
seconds_parser = vp.Unsigned 1 MOST_SECONDS

-- bytes of a segment are 4,096 to 2^40
abbrev pub segment_parser : ValueParser
segment_parser = vp.Unsigned LEAST_SEGMENT MOST_SEGMENT

-- options, and those of the journal that is kept
abbrev pub with_journal : App → App
with_journal app =
    with_rule (with_rule (with_rule app (option_rule (codes "journal"))) (option_rule (codes "sync"))) (number_rule (codes "segment-bytes") segment_parser)

-- options, and those that limit how long connections may be silent
abbrev pub with_limits : App → App
with_limits app = with_rule (with_rule app (number_rule (codes "hold-seconds") seconds_parser)) (number_rule (codes "idle-seconds") seconds_parser)

-- options, and those that say where the service listens
abbrev pub with_places : App → App
with_places app = with_rule (with_rule app (number_rule (codes "listen") port_parser)) (option_rule (codes "unix"))

-- options, and those that put a journal under another schema
abbrev pub with_moving : App → App
with_moving app = with_rule (with_rule app (option_rule (codes "rebase-to"))) (option_rule (codes "new-schema"))

-- the options that the service knows
abbrev pub service_options : App
service_options =
    with_limits (with_moving (with_rule (with_journal (with_places (with_rule (new_app (codes "mi_service")) (option_rule (codes "schema")))))
    (flag_rule (codes "rebase"))))

-- when lines are made to stay by this word: with no word once a turn
abbrev pub sync_of : List ℕ → Option SyncMode
sync_of word = if bytes_eq word (codes "always") then Some Always
    else (if bytes_eq word (codes "turn") then Some Turn else (if bytes_eq word (codes "never") then Some Never else None))

abbrev pub sync_by : Option (List ℕ) → Option SyncMode
sync_by None = Some Turn
sync_by (Some word) = sync_of word

-- the journal that these words of `--journal` and `--sync` name, or none
abbrev pub IsJournal : Option (List ℕ) → Option (List ℕ) → Option JournalWords → Type 0
IsJournal None None journal = journal ≡ None
IsJournal None (Some word) journal = ⊥
IsJournal (Some file) word None = ⊥
IsJournal (Some file) word (Some journal) = (string_bytes journal.file ≡ file) × (sync_by word ≡ Some journal.sync)

-- the bytes of a segment that a word says, or none without a word
abbrev pub IsSegmentBytes : Option (List ℕ) → Option ℕ → Type 0
IsSegmentBytes word bytes = IsNumber LEAST_SEGMENT MOST_SEGMENT word bytes

-- so many bytes, or 64 MiB where none are said
abbrev pub bytes_or_default : Option ℕ → ℕ
bytes_or_default None = SEGMENT_BYTES
bytes_or_default (Some bytes) = bytes

-- a journal's segments have so many bytes; without a journal none are said
abbrev pub HasBytes : Option ℕ → Option JournalWords → Type 0
HasBytes bytes None = bytes ≡ None
HasBytes bytes (Some journal) = journal.segment_bytes ≡ bytes_or_default bytes

-- where these words of `--rebase-to` and `--new-schema` put a journal, or none
abbrev pub IsMove : Option (List ℕ) → Option (List ℕ) → Option MoveWords → Type 0
IsMove None None words = words ≡ None
IsMove None (Some schema) words = ⊥
IsMove (Some file) None words = ⊥
IsMove (Some file) (Some schema) None = ⊥
IsMove (Some file) (Some schema) (Some words) = (string_bytes words.file ≡ file) × (string_bytes words.schema ≡ schema)

-- the port that a word says, or none without a word
abbrev pub IsPort : Option (List ℕ) → Option ℕ → Type 0
IsPort word port = IsNumber 0 65535 word port

-- `--listen` is the port, `--unix` the path
pub record AreAddresses (rows : List Row) (addresses : Addresses) : Type 0 where
  pub port : IsPort (one_of (codes "listen") rows) addresses.port
  pub unix : option_map string_bytes addresses.unix ≡ first_of (codes "unix") rows

-- whether there is a port or a path
abbrev pub listens : Addresses → Bool
listens addresses = is_some addresses.port || is_some addresses.unix

-- a rebase, and one to a new journal, has a journal and listens nowhere; a service listens somewhere; only one of them is asked for
abbrev pub is_task : Bool → Bool → Bool → Bool → Bool
is_task rebase moves listens journal = if rebase || moves then not (rebase && moves) && not listens && journal else listens

-- the seconds that a word says, or none without a word
abbrev pub IsSeconds : Option (List ℕ) → Option ℕ → Type 0
IsSeconds word seconds = IsNumber 1 MOST_SECONDS word seconds

-- `--hold-seconds` is of the holder of sessions, `--idle-seconds` of the others
pub record AreLimits (rows : List Row) (limits : Limits) : Type 0 where
  pub hold : IsSeconds (one_of (codes "hold-seconds") rows) limits.hold
  pub idle : IsSeconds (one_of (codes "idle-seconds") rows) limits.idle

-- The options are the values that were matched.
pub record AreValues (options : Options) (rows : List Row) : Type 0 where
  pub schema : option_map string_bytes options.schema ≡ first_of (codes "schema") rows
  pub addresses : AreAddresses rows options.addresses
  pub journal : IsJournal (first_of (codes "journal") rows) (first_of (codes "sync") rows) options.journal
  pub segments : (bytes : Option ℕ) × IsSegmentBytes (one_of (codes "segment-bytes") rows) bytes × HasBytes bytes options.journal
  pub limits : AreLimits rows options.limits
  pub rebase : options.rebase ≡ is_set (one_of (codes "rebase") rows)
  pub moving : IsMove (first_of (codes "rebase-to") rows) (first_of (codes "new-schema") rows) options.moving
  pub task : is_task options.rebase (is_some options.moving) (listens options.addresses) (is_some options.journal) ≡ true
