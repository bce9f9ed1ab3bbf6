-- Failures, their exit statuses and their lines on the third stream.
use Rattle.std.specs.Prelude.{ℕ, List, ◌++◌, codes, Option, Some, None}
use Rattle.mi_schema.specs.Words.{fault_word}
use Rattle.mi_schema.specs.declared.fault.SchemaFault.{SchemaFault}
use Rattle.mi_program.specs.declared.failure.Failure.{Failure}
use Rattle.mi_program.specs.declared.failure.Failure.TheVariants.{SchemaFile, Schema, Read, Write, Listen, Accept, Memory, Turns}
use Rattle.mi_hub.specs.declared.fault.ServeFault.{ServeFault}
use Rattle.mi_hub.specs.declared.fault.ServeFault.TheVariants as serving
use Rattle.mi_program.specs.declared.words.WordsFault.{WordsFault}
use Rattle.mi_program.specs.declared.words.WordsFault.TheVariants as words

-- the failure that a schema's fault is
abbrev pub failure_of : SchemaFault → Failure
failure_of fault = Schema fault

-- the failure that a fault of serving is
abbrev pub served_failure : ServeFault → Failure
served_failure serving.Read = Read
served_failure serving.Write = Write
served_failure serving.Accept = Accept
served_failure serving.Memory = Memory
served_failure serving.Turns = Turns

-- 3 where the schema is at fault, else 4
abbrev pub status_of : Failure → ℕ
status_of SchemaFile = 3
status_of (Schema fault) = 3
status_of Read = 4
status_of Write = 4
status_of Listen = 4
status_of Accept = 4
status_of Memory = 4
status_of Turns = 4

-- 2 where the words are refused, 4 where there was no memory for reading them
abbrev pub status_of_words : WordsFault → ℕ
status_of_words (words.Parse e) = 2
status_of_words words.Rules = 2
status_of_words words.Memory = 4

-- what a failure is of
abbrev pub failure_kind : Failure → List ℕ
failure_kind SchemaFile = codes "schema: "
failure_kind (Schema fault) = codes "schema: "
failure_kind Read = codes "fault: "
failure_kind Write = codes "fault: "
failure_kind Listen = codes "fault: "
failure_kind Accept = codes "fault: "
failure_kind Memory = codes "fault: "
failure_kind Turns = codes "fault: "

abbrev pub failure_word : Failure → List ℕ
failure_word SchemaFile = codes "file"
failure_word (Schema fault) = fault_word fault
failure_word Read = codes "read"
failure_word Write = codes "write"
failure_word Listen = codes "listen"
failure_word Accept = codes "accept"
failure_word Memory = codes "memory"
failure_word Turns = codes "turns"

abbrev pub failure_line : Failure → List ℕ
failure_line failure = failure_kind failure ++ (failure_word failure ++ codes "\n")

abbrev pub usage_line : List ℕ
usage_line = codes "usage: --listen and --clients go together; --check stands alone\n"

-- the line of arguments of which one isn't UTF-8
abbrev pub arguments_line : List ℕ
arguments_line = codes "error: an argument isn't UTF-8\n"

-- the line of words that give no options, but where it is the parser's own text
abbrev pub words_line : WordsFault → Option (List ℕ)
words_line (words.Parse e) = None
words_line words.Rules = Some usage_line
words_line words.Memory = Some (failure_line Memory)
