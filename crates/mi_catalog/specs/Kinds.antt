-- What the kinds of index can do.
use Rattle.std.specs.Prelude.{Bool, true, false}
use Rattle.mi_catalog.specs.declared.index.IndexKind.{IndexKind}
use Rattle.mi_catalog.specs.declared.index.IndexKind.TheVariants.{Ordered, Ranked, Hashed, Sequenced}

-- an index with keys
abbrev pub has_keys : IndexKind → Bool
has_keys Ordered = true
has_keys Ranked = true
has_keys Hashed = true
has_keys Sequenced = false

-- an index in an order of its own
abbrev pub is_sequenced : IndexKind → Bool
is_sequenced Ordered = false
is_sequenced Ranked = false
is_sequenced Hashed = false
is_sequenced Sequenced = true

-- an index in the order of its keys
abbrev pub is_sorted : IndexKind → Bool
is_sorted Ordered = true
is_sorted Ranked = true
is_sorted Hashed = false
is_sorted Sequenced = false

-- an index that commands ask for ranks
abbrev pub is_ranked : IndexKind → Bool
is_ranked Ordered = false
is_ranked Ranked = true
is_ranked Hashed = false
is_ranked Sequenced = false

-- an index in which only whole keys are looked up
abbrev pub is_hashed : IndexKind → Bool
is_hashed Ordered = false
is_hashed Ranked = false
is_hashed Hashed = true
is_hashed Sequenced = false

-- every index but a hashed one shows one list
abbrev pub shows_one_list : IndexKind → Bool
shows_one_list Ordered = true
shows_one_list Ranked = true
shows_one_list Hashed = false
shows_one_list Sequenced = true
