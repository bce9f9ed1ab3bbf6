-- Whoever holds sessions holds one at least, where it was so before. At first nobody holds any. And a number keeps its stream.
use Rattle.std.specs.Prelude.{◌≡◌, ◌≤◌, ℕ, ℤ, List, Option}
use Rattle.std.specs.List.{All, Contains}
use Rattle.mi_commands.specs.Asked.{Asked}
use Rattle.mi_commands.specs.Holder.{HeldDatabase}
use Rattle.mi_hub.specs.Run.{HubState}
use Rattle.mi_replay.specs.Replayed.{replayed}
use Rattle.mi_clients.specs.Steps.{Step, Makes, HoldsSome}
use Rattle.mi_clients.specs.Clients.{ids, AllDiffer, SameStreams}
use Rattle.mi_clients.specs.declared.client.Client.{Client}

-- so it is behind all steps of a service
abbrev pub HoldersHoldSome : Type 0
HoldersHoldSome = (steps : List Step) (old new : HubState) (before after : Option (List ℕ)) → Makes steps old new before after
    → HoldsSome old.held.holder → HoldsSome new.held.holder

-- and behind the lines of a journal that are asked again
abbrev pub ReplaysHoldSome : Type 0
ReplaysHoldSome = (lines : List Asked) (s : HeldDatabase) → HoldsSome s.holder → HoldsSome (replayed lines s).holder

-- Streams that stay where rows follow one another stay over all of them.
abbrev pub StreamsGoOn : {S : Type 0} → (S → ℤ) → Type 0
StreamsGoOn {S} handle = (last more : ℕ) (a b c : List (Client S)) → last ≤ more → SameStreams handle last a b → SameStreams handle more b c
    → SameStreams handle last a c

-- A number that was given to a connection keeps its stream.
abbrev pub NumbersKeepStreams : {S : Type 0} → (S → ℤ) → Type 0
NumbersKeepStreams {S} handle = (last : ℕ) (olds news : List (Client S)) → AllDiffer (ids olds) → All (λ c. c.conn ≤ last) olds
    → SameStreams handle last olds news
    → (old new : Client S) → Contains olds old → Contains news new → new.conn ≡ old.conn → handle new.stream ≡ handle old.stream
