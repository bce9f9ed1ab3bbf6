-- The line that tells the status of a service: its connections, and who of them holds sessions. Then how many sessions are open, how far the
-- journal is, how much memory and how many rows each table has, and since how many seconds it is there. With connection 2 alone, which holds
-- the one session over an empty table:
-- {"connections":[{"holds":true,"lines":1,"number":2,"since":1,"unsent":0}],"depth":1,"holder":2,
-- "journal":{"bytes":119,"full":false,"room":1196016,"segment":1,"synced":119},"ok":true,"tables":[{"memory":70000,"name":"accounts","size":0}],
-- "uptime":60,"version":"0.1.0"}
use Rattle.std.specs.Prelude.{◌≡◌, ◌⊎◌, ℕ, ◌+◌, List, [], ◌∷◌, ◌++◌, length, Bool, true, false, ◌==◌, if◌then◌else◌, Option, Some, None, codes, decimal, get_or, IfSome}
use Rattle.std.specs.Option.{option_map_or}
use Rattle.mi_catalog.specs.Shape.{Shape}
use Rattle.mi_model.specs.Database.{Database, table_of, depth}
use Rattle.mi_model.specs.Table.{size}
use Rattle.mi_hub.specs.Run.{HubState}
use Rattle.mi_log.specs.declared.log.LogState.{LogState}
use Rattle.mi_durable.specs.Durable.{holder_conn, is_conn}
use Rattle.mi_clients.specs.Client.{owed}
use Rattle.mi_clients.specs.declared.client.Client.{Client}

-- a comma stands before each but the first
abbrev pub comma_before : ℕ → List ℕ
comma_before n = if n == 0 then [] else codes ","

-- the texts of a list's items, each with its place, from this place on
abbrev pub listed : {A : Type 0} → (ℕ → A → List ℕ) → ℕ → List A → List ℕ
listed text n [] = []
listed text n (x ∷ xs) = comma_before n ++ (text n x ++ listed text (n + 1) xs)

abbrev pub flag_text : Bool → List ℕ
flag_text true = codes "true"
flag_text false = codes "false"

-- with which of its lines a connection began to hold sessions, where it holds some
abbrev pub since_text : {S : Type 0} → Option ℕ → Client S → List ℕ
since_text holder c = if is_conn holder c.conn then decimal c.input.since else codes "null"

-- how many bytes of its replies are unsent
abbrev pub unsent_text : {S : Type 0} → Client S → List ℕ
unsent_text c = codes ",\"unsent\":" ++ (decimal (length (owed c)) ++ codes "}")

-- a connection's number, since which line it holds sessions, and how many bytes of its replies are unsent
abbrev pub number_text : {S : Type 0} → Option ℕ → Client S → List ℕ
number_text holder c = decimal c.conn ++ (codes ",\"since\":" ++ (since_text holder c ++ unsent_text c))

-- a connection: whether it holds sessions, how many lines it has asked, its number, since which line it holds sessions, and how many bytes of its
-- replies are unsent
abbrev pub connection_text : {S : Type 0} → Option ℕ → ℕ → Client S → List ℕ
connection_text holder n c =
    codes "{\"holds\":" ++ (flag_text (is_conn holder c.conn) ++ (codes ",\"lines\":" ++ (decimal c.input.lines
    ++ (codes ",\"number\":" ++ number_text holder c))))

-- a number, where there is one
abbrev pub number_or_null : Option ℕ → List ℕ
number_or_null None = codes "null"
number_or_null (Some n) = decimal n

-- a table's name, and how many rows it has
abbrev pub rows_text : Database → ℕ → Shape → List ℕ
rows_text d n s = codes ",\"name\":\"" ++ (s.table_name ++ (codes "\",\"size\":" ++ (decimal (size (table_of d n)) ++ codes "}")))

-- a table: how many bytes of memory it takes, its name, and how many rows it has; each table's memory is the one at its place
abbrev pub table_text : Database → List (Option ℕ) → ℕ → Shape → List ℕ
table_text d memories n s = codes "{\"memory\":" ++ (number_or_null (get_or memories n None) ++ rows_text d n s)

-- how many bytes of a journal stay, where it is synced and counts them
abbrev pub synced_text : Option ℕ → List ℕ
synced_text synced = codes ",\"synced\":" ++ (number_or_null synced ++ codes "}")

-- for how many bytes a journal has room, the number of its segment, where it has one, and how many of its bytes stay
abbrev pub room_text : LogState → List ℕ
room_text j = codes ",\"room\":" ++ (decimal j.room ++ (codes ",\"segment\":" ++ (number_or_null j.segment ++ synced_text j.synced)))

-- a journal, where one is kept: how many bytes it has, whether it lacks room, for how many bytes it has some, the number of its segment, and how many of
-- its bytes stay
abbrev pub journal_text : LogState → List ℕ
journal_text j =
    option_map_or (λ n. codes "{\"bytes\":" ++ (decimal n ++ (codes ",\"full\":" ++ (flag_text j.is_full ++ room_text j)))) j.bytes (codes "null")

-- how many sessions of a database are open, who holds some, and its journal
abbrev pub sessions_text : Option ℕ → LogState → Database → List ℕ
sessions_text holder j d =
    codes "],\"depth\":" ++ (decimal (depth d) ++ (codes ",\"holder\":" ++ (number_or_null holder ++ (codes ",\"journal\":" ++ journal_text j))))

-- since how many seconds a service is there, and which one it is
abbrev pub end_text : ℕ → List ℕ
end_text seconds = codes "],\"uptime\":" ++ (decimal seconds ++ codes ",\"version\":\"0.1.0\"}\n")

-- what is said of a database, some of whose sessions this connection may hold, of its journal, and of its tables' memory, so many seconds after
-- a start
abbrev pub database_text : Option ℕ → LogState → ℕ → List (Option ℕ) → Database → List ℕ
database_text holder j seconds memories d =
    sessions_text holder j d ++ (codes ",\"ok\":true,\"tables\":[" ++ (listed (table_text d memories) 0 d.catalog.tables ++ end_text seconds))

-- the status of a service with these connections over this hub, of its journal, and of its tables' memory, so many seconds after its start
abbrev pub status_line : {S : Type 0} → List (Client S) → HubState → LogState → ℕ → List (Option ℕ) → List ℕ
status_line clients s j seconds memories =
    codes "{\"connections\":[" ++ (listed (connection_text (holder_conn s.held.holder)) 0 clients
    ++ database_text (holder_conn s.held.holder) j seconds memories s.held.database)

-- a line tells that status by some memory of each table: how much it is isn't said by any definition
abbrev pub TellsStatus : {S : Type 0} → List (Client S) → HubState → LogState → ℕ → List ℕ → Type 0
TellsStatus clients s j seconds line =
    (memories : List (Option ℕ)) × (length memories ≡ length s.held.database.catalog.tables) × (line ≡ status_line clients s j seconds memories)

-- what is told where memory for a status is refused
abbrev pub memory_line : List ℕ
memory_line = codes "{\"error\":\"memory\",\"ok\":false}\n"

-- a count is of these bytes, where both are told
abbrev pub Counts : Option (List ℕ) → Option ℕ → Type 0
Counts told count = IfSome count (λ n. IfSome told (λ bytes. n ≡ length bytes))

-- A log's state, where this was appended, this stays, the log lacks room or doesn't, it has some for so many bytes, and its segment has this number.
-- Where it counts bytes and tells them, they are as many.
abbrev pub IsStateOf : Option (List ℕ) → Option (List ℕ) → Bool → ℕ → Option ℕ → LogState → Type 0
IsStateOf appended stays lacks room segment j =
    (j.is_full ≡ lacks) × (j.room ≡ room) × (j.segment ≡ segment) × Counts appended j.bytes × Counts stays j.synced

-- a line tells that status, so many seconds after the start, with a journal to which this was appended, of which this stays, that lacks room or doesn't,
-- has some for so many bytes, and whose segment has this number; or that memory for it is refused
abbrev pub IsStatus : {S : Type 0} → Option (List ℕ) → Option (List ℕ) → Bool → ℕ → Option ℕ → ℕ → List (Client S) → HubState → List ℕ → Type 0
IsStatus appended stays lacks room segment seconds clients s line =
    ((j : LogState) × IsStateOf appended stays lacks room segment j × TellsStatus clients s j seconds line) ⊎ (line ≡ memory_line)
