-- JSON objects by their members, and what a member may be.
use Rattle.std.specs.Prelude.{ℕ, ℤ, pos, negsuc, List, Bool, true, ◌&&◌, Option, Some, None, option_map, option_and_then, bytes_eq}
use Rattle.std.specs.List.{list_any}
use Rattle.serde_json.specs.Data.{Data, Members, no_members, member}
use Rattle.serde_json.specs.Find.{get_member, as_number, as_i64}

-- no member has another name than these
unfoldable pub has_only : List (List ℕ) → Members → Bool
has_only names no_members = true
has_only names (member k d ms) = list_any (λ n. bytes_eq k n) names && has_only names ms

-- a number that is not negative
abbrev pub not_negative : ℤ → Option ℕ
not_negative (pos n) = Some n
not_negative (negsuc n) = None

-- a whole number from 0 to 2^63 - 1
abbrev pub natural : Data → Option ℕ
natural d = option_and_then not_negative (option_and_then as_i64 (as_number d))

-- a member that must be there, read by its kind
abbrev pub needed : {A : Type 0} → (Data → Option A) → List ℕ → Members → Option A
needed kind name ms = option_and_then kind (get_member name ms)

abbrev pub if_there : {A : Type 0} → (Data → Option A) → Option Data → Option (Option A)
if_there kind None = Some None
if_there kind (Some d) = option_map Some (kind d)

-- a member that may be absent, read by its kind where it is there
abbrev pub optional : {A : Type 0} → (Data → Option A) → List ℕ → Members → Option (Option A)
optional kind name ms = if_there kind (get_member name ms)

abbrev pub default_if : {A : Type 0} → A → (Data → Option A) → Option Data → Option A
default_if a kind None = Some a
default_if a kind (Some d) = kind d

-- a member that may be absent, which is then this, read by its kind where it is there
abbrev pub default : {A : Type 0} → A → (Data → Option A) → List ℕ → Members → Option A
default a kind name ms = default_if a kind (get_member name ms)

-- all of two parts, or none
abbrev pub option_map₂ : {A B C : Type 0} → (A → B → C) → Option A → Option B → Option C
option_map₂ f (Some a) b = option_map (f a) b
option_map₂ f None b = None

-- all of three parts, or none
abbrev pub option_map₃ : {A B C D : Type 0} → (A → B → C → D) → Option A → Option B → Option C → Option D
option_map₃ f (Some a) b c = option_map₂ (f a) b c
option_map₃ f None b c = None

-- all of four parts, or none
abbrev pub option_map₄ : {A B C D E : Type 0} → (A → B → C → D → E) → Option A → Option B → Option C → Option D → Option E
option_map₄ f (Some a) b c d = option_map₃ (f a) b c d
option_map₄ f None b c d = None

-- all of five parts, or none
abbrev pub option_map₅ : {A B C D E F : Type 0} → (A → B → C → D → E → F) → Option A → Option B → Option C → Option D → Option E → Option F
option_map₅ f (Some a) b c d e = option_map₄ (f a) b c d e
option_map₅ f None b c d e = None

-- all of six parts, or none
