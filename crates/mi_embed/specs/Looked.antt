-- What look-ups with values tell is the answer of their commands, whoever asks: the number, the row, the rows, or the first refusal.
use Rattle.std.specs.Prelude.{◌≡◌, ℕ, Bool, List, Option, Result, Ok, Err}
use Rattle.mi_value.specs.declared.value.Value.{Value}
use Rattle.mi_value.specs.declared.refusal.Refusal.{Refusal}
use Rattle.mi_catalog.specs.Key.{Row}
use Rattle.mi_protocol.specs.Replies as say
use Rattle.mi_protocol.specs.Replies.{Said}
use Rattle.mi_commands.specs.Holder.{HeldDatabase}
use Rattle.mi_embed.specs.declared.cell.Cell.{Cell}
use Rattle.mi_embed.specs.Calls as call
use Rattle.mi_embed.specs.Calls.{Call, call_answer}
use Rattle.mi_embed.specs.LookUps as look
use Rattle.mi_embed.specs.Pages as page
use Rattle.mi_embed.specs.Pages.{Rows}
use Rattle.mi_embed.specs.Shown.{got}
use Rattle.mi_embed.specs.CallResults.{number_told, told_of}

-- a row of an id, or a refusal, is said
abbrev pub SaysRow : ℕ → Result (List Value) Refusal → Said → Type 0
SaysRow id (Ok row) said = (table : ℕ) × (said ≡ say.shown table id row)
SaysRow id (Err e) said = (table : ℕ) × (said ≡ say.refused table e)

abbrev pub SaysFound : Result Row Refusal → Said → Type 0
SaysFound (Ok r) said = SaysRow r.0 (Ok r.1) said
SaysFound (Err e) said = SaysRow 0 (Err e) said

-- a page is said, or a refusal
abbrev pub SaysPage : Result Rows Refusal → Said → Type 0
SaysPage (Ok p) said = (table : ℕ) × (said ≡ say.rows table p.0 p.1)
SaysPage (Err e) said = (table : ℕ) × (said ≡ say.refused table e)

-- what the command of a call says to a connection
abbrev pub said_to : HeldDatabase → ℕ → Call → Said
said_to s conn k = (call_answer s conn k).0

pub record LookUpsAnswer : Type 0 where
  pub size : (s : HeldDatabase) (conn n : ℕ) → number_told (look.size_by s n) ≡ told_of (said_to s conn (call.size n))
  pub count : (s : HeldDatabase) (conn n x : ℕ) (key : List Cell) (texts : List ℕ)
      → number_told (look.count_by s n x key texts) ≡ told_of (said_to s conn (call.count n x key texts))
  pub rank : (s : HeldDatabase) (conn n x id : ℕ) → number_told (look.rank_by s n x id) ≡ told_of (said_to s conn (call.rank n x id))
  pub lower_rank : (s : HeldDatabase) (conn n x : ℕ) (key : List Cell) (texts : List ℕ)
      → number_told (look.lower_rank_by s n x key texts) ≡ told_of (said_to s conn (call.lower_rank n x key texts))
  pub upper_rank : (s : HeldDatabase) (conn n x : ℕ) (key : List Cell) (texts : List ℕ)
      → number_told (look.upper_rank_by s n x key texts) ≡ told_of (said_to s conn (call.upper_rank n x key texts))
  pub get : (s : HeldDatabase) (conn n id : ℕ) → SaysRow id (got s n id) (said_to s conn (call.get n id))
  pub find : (s : HeldDatabase) (conn n x : ℕ) (key : List Cell) (texts : List ℕ)
      → SaysFound (look.find_by s n x key texts) (said_to s conn (call.find n x key texts))
  pub nth : (s : HeldDatabase) (conn n x place : ℕ) → SaysFound (look.nth_by s n x place) (said_to s conn (call.nth n x place))
  pub range : (s : HeldDatabase) (conn n x lower : ℕ) (lower_key : List Cell) (upper : ℕ) (upper_key : List Cell) (texts : List ℕ) (reverse : Bool) (limit : ℕ)
      → SaysPage (page.range_by s n x lower lower_key upper upper_key texts reverse limit)
      (said_to s conn (call.range n x lower lower_key upper upper_key texts reverse limit))
  pub list : (s : HeldDatabase) (conn n x : ℕ) (after : Option ℕ) (limit : ℕ)
      → SaysPage (page.list_by s n x after limit) (said_to s conn (call.list n x after limit))
