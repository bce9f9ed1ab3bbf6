use Rattle.std.proofs.Common.{◌≡◌, ◌++◌, ℕ, List, length}
use Rattle.mi_durable.specs.Durable.{hub_of, log_of, IsSettled}
use Rattle.mi_clients.specs.Steps.{Step, Makes, AreAsks, since_after}
use Rattle.mi_clients.specs.Input.{waiting, count_on}
use Rattle.mi_clients.specs.Client.{Owes, IsAsFar, AsksWithin, MayAsk}
use Rattle.mi_clients.proofs.asking.ask_lines.Given as goal

-- the lines so far are the first of what waited, and their replies are owed
abbrev pub invariant-lines : goal.invariant-lines
invariant-lines g l = record {
  attached : (hub_of l.durable).attached ≡ (hub_of l.fn.durable).attached;
  settled : IsSettled g.L.Log.appended g.L.Log.synced l.durable;
  steps : List Step;
  taken : List ℕ;
  given : List ℕ;
  own : AreAsks l.fn.client.conn steps taken given;
  input : waiting l.fn.client.input ≡ taken ++ waiting l.client.input;
  owes : Owes given l.fn.client l.client;
  far : IsAsFar l.fn.client l.client;
  within : AsksWithin l.fn.client steps;
  first : l.client.input.is_first ≡ l.fn.client.input.is_first;
  lines : l.client.input.lines ≡ count_on l.fn.client.input.lines taken;
  since : l.client.input.since ≡ since_after l.fn.client.conn l.fn.client.input.lines l.fn.client.input.since steps;
  idle : ¬ MayAsk l.fn.client → l.client ≡ l.fn.client;
  makes : Makes steps (hub_of l.fn.durable) (hub_of l.durable) (g.L.Log.appended (log_of l.fn.durable)) (g.L.Log.appended (log_of l.durable));
}

abbrev pub decreases-lines : goal.decreases-lines
decreases-lines g l = length (waiting l.client.input)
