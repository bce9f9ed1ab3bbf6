-- What is read is the request of the line, and a short line is read where its letter says.
use Rattle.std.proofs.Common.{◌≡◌, ◌∷◌, [], List, ℕ, Option, Some, codes, option_map, ◌∙◌}
use Rattle.std.specs.Prelude.{IfSome}
use Rattle.mi_request.specs.Short.{short_line, asked_short}
use Rattle.mi_request.specs.ShortCode.{IsRead, Template, a_name, perhaps_name, a_whole}
use Rattle.mi_request.specs.declared.request.ShortRequest.{ShortRequest}
use Rattle.mi_request.proofs.ShortLemmas.{by_letter, by_no_letter, read_short, short_there}
use Rattle.mi_request.proofs.WordLemmas.{read-lines}
use Rattle.mi_request.proofs.request.ShortRequest.of.Goals as goal

-- a request that is read has this line
has_line : (command : List ℕ) (hs : Template) (line : List ℕ) (o : Option ShortRequest) → IsRead command hs line (option_map asked_short o)
    → IfSome o (λ r. short_line (asked_short r) ≡ Some line)
has_line command hs line o read = read_short (λ q. short_line q ≡ Some line) o (read-lines command hs line (option_map asked_short o) read)

pub returns-in-116-clause-value : goal.returns-in-116-clause-value
returns-in-116-clause-value c = has_line (codes "get") ((codes "table", perhaps_name) ∷ (codes "id", a_whole) ∷ []) c.args.line.now c.get.result c.get.ensures

pub returns-in-116-clause-whole : goal.returns-in-116-clause-whole
returns-in-116-clause-whole c r is =
    short_there c.get.result (by_letter c.args.line.now 116 c.in-116.is r is (option_map asked_short c.get.result) c.get.ensures)

pub returns-in-110-clause-value : goal.returns-in-110-clause-value
returns-in-110-clause-value c = has_line (codes "rank") ((codes "table", perhaps_name) ∷ (codes "index", a_name) ∷ (codes "id", a_whole) ∷ []) c.args.line.now c.rank.result c.rank.ensures

pub returns-in-110-clause-whole : goal.returns-in-110-clause-whole
returns-in-110-clause-whole c r is =
    short_there c.rank.result (by_letter c.args.line.now 110 c.in-110.is r is (option_map asked_short c.rank.result) c.rank.ensures)

pub returns-in-109-clause-value : goal.returns-in-109-clause-value
returns-in-109-clause-value c = has_line (codes "commit") ((codes "revision", a_whole) ∷ []) c.args.line.now c.commit.result c.commit.ensures

pub returns-in-109-clause-whole : goal.returns-in-109-clause-whole
returns-in-109-clause-whole c r is =
    short_there c.commit.result (by_letter c.args.line.now 109 c.in-109.is r is (option_map asked_short c.commit.result) c.commit.ensures)

pub returns-in-104-clause-value : goal.returns-in-104-clause-value
returns-in-104-clause-value c = has_line (codes "nth") ((codes "table", perhaps_name) ∷ (codes "index", a_name) ∷ (codes "n", a_whole) ∷ []) c.args.line.now c.nth.result c.nth.ensures

pub returns-in-104-clause-whole : goal.returns-in-104-clause-whole
returns-in-104-clause-whole c r is =
    short_there c.nth.result (by_letter c.args.line.now 104 c.in-104.is r is (option_map asked_short c.nth.result) c.nth.ensures)

pub returns-in-122-clause-value : goal.returns-in-122-clause-value
returns-in-122-clause-value c = has_line (codes "size") ((codes "table", perhaps_name) ∷ []) c.args.line.now c.size.result c.size.ensures

pub returns-in-122-clause-whole : goal.returns-in-122-clause-whole
returns-in-122-clause-whole c r is =
    short_there c.size.result (by_letter c.args.line.now 122 c.in-122.is r is (option_map asked_short c.size.result) c.size.ensures)

pub returns-in_default-clause-whole : goal.returns-in_default-clause-whole
returns-in_default-clause-whole c r is =
    let o = c.in_default.in_default-own.rest in
    c.without_members.ensures.whole ∙ by_no_letter c.args.line.now r is o.0.0.0.0.1 o.0.0.0.1 o.0.0.1 o.0.1 o.1
