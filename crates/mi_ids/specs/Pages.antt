-- What a map of pages says of the ids: page n has the ids from 64 * n on.
--     slot_of         what a page says of one of its places
--     of_pages        the entries of all pages, each under its id
--     NoneIsEmpty     each page has an entry
use Rattle.std.specs.Prelude.{◌≡◌, ℕ, zero, suc, ◌+◌, ◌*◌, ◌<◌, ◌==◌, Bool, cond, List, [], ◌∷◌, Option, Some, None, slice_index_or}
use Rattle.std.specs.Int.{bit_at}
use Rattle.std.specs.Ordering.{nat_cmp}
use Rattle.std.specs.FinMap.{FinMap, empty, insert, remove}
use Rattle.std.specs.Map.{lookup}
use Rattle.mi_node.specs.Refs.{Ref}
use Rattle.mi_ids.specs.declared.entry.IdEntry.{IdEntry}
use Rattle.mi_ids.specs.declared.page.Page.{Page}

-- what stands at a place that isn't there
abbrev pub nobody : Ref
nobody = record { name = 0; generation = 0 }

-- the entry of a place, from whether it has one, whether it is live, and its node
abbrev pub place : Bool → Bool → Ref → Option IdEntry
place there live node = cond there (Some (record { node = node; live = live })) None

-- the entry at place k of a page
unfoldable pub slot_of : Page → ℕ → Option IdEntry
slot_of p k = place (bit_at p.present k == 1) (bit_at p.live k == 1) (slice_index_or p.nodes k nobody)

-- m with this at k, or nothing at k
abbrev pub with_slot : FinMap nat_cmp IdEntry → ℕ → Option IdEntry → FinMap nat_cmp IdEntry
with_slot m k None = remove m k
with_slot m k (Some e) = insert m k e

-- m with f at the first n ids from base on
abbrev pub with_slots : FinMap nat_cmp IdEntry → ℕ → (ℕ → Option IdEntry) → ℕ → FinMap nat_cmp IdEntry
with_slots m base f zero = m
with_slots m base f (suc n) = with_slot (with_slots m base f n) (base + n) (f n)

-- the entries of all pages
unfoldable pub of_pages : List (ℕ × Page) → FinMap nat_cmp IdEntry
of_pages [] = empty
of_pages (e ∷ es) = with_slots (of_pages es) (64 * e.0) (slot_of e.1) 64

-- a page with an entry, so one of its bits is set
abbrev pub IsUsed : Page → Type 0
IsUsed p = 0 < p.present

-- each page has an entry
abbrev pub NoneIsEmpty : List (ℕ × Page) → Type 0
NoneIsEmpty es = (n : ℕ) (p : Page) → lookup (λ k. n == k) es ≡ Some p → IsUsed p
