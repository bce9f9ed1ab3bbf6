-- The numbers and the journal that the words name.
-- Cited by `move_words::move_words`, `words::port`, `words::seconds`, `words::segment_bytes` and `words::values`.
use Rattle.std.proofs.Common.{◌≡◌, ◌≤◌, ℕ, List, false, Option, Some, None, refl, sym, subst, ◌∙◌}
use Rattle.mi_serving.specs.declared.words.JournalWords.{JournalWords}
use Rattle.mi_serving.specs.declared.move_words.MoveWords.{MoveWords}
use Rattle.mi_serving.specs.Words.{IsJournal, IsMove}
use Rattle.mi_program.specs.Words.{IsNumber}
use Rattle.std.specs.Prelude.{Result, is_some, option_and_then}
use Rattle.std.specs.Str.Parse.{ParsesUnsigned, ExplainsUnsignedError, HasUnsignedDigitsIfOk}
use Rattle.std.specs.declared.num.ParseIntError.{ParseIntError}
use Rattle.clap.specs.Matches.{ReadsOne, matched_of, one_text}
use Rattle.clap.specs.declared.parser.matches.Found.{Found}

-- how a number of so many bits is read from a text
abbrev Parses : ℕ → List ℕ → Result ℕ ParseIntError → Type 0
Parses bits text r = ParsesUnsigned bits 10 text r × ExplainsUnsignedError 10 text r × HasUnsignedDigitsIfOk text r

-- a journal that is named by the same words
pub named_by : (file file2 sync sync2 : Option (List ℕ)) (journal : Option JournalWords) → file ≡ file2 → sync ≡ sync2 → IsJournal file sync journal
    → IsJournal file2 sync2 journal
named_by file file2 sync sync2 journal a b p =
    subst (λ f. IsJournal f sync2 journal) a (subst (λ w. IsJournal file w journal) b p)

-- where a journal is put by the same words
pub moved_by : (file file2 schema schema2 : Option (List ℕ)) (words : Option MoveWords) → file ≡ file2 → schema ≡ schema2 → IsMove file schema words
    → IsMove file2 schema2 words
moved_by file file2 schema schema2 words a b p =
    subst (λ f. IsMove f schema2 words) a (subst (λ s. IsMove file s words) b p)

-- a number that was read stands in the words
pub number_read : (bits low high : ℕ) (value word : Option (List ℕ)) (count : ℕ) → value ≡ word → low ≤ count → count ≤ high
    → (value ≡ None → Some count ≡ None) → ((t : List ℕ) → value ≡ Some t → ReadsOne (Parses bits) t (Some count)) → IsNumber low high word (Some count)
number_read bits low high value word count is least most none some = subst (λ w. IsNumber low high w (Some count)) is (go value none some)
  where
    go : (value : Option (List ℕ)) → (value ≡ None → Some count ≡ None) → ((t : List ℕ) → value ≡ Some t → ReadsOne (Parses bits) t (Some count))
        → IsNumber low high value (Some count)
    go None none some =
        let bad : Some count ≡ None = none refl in
        cc
    go (Some t) none some = ((some t refl).0.1, least, most)

-- and where the option isn't there none does
pub number_none : (low high : ℕ) (f : Found) (id : List ℕ) (word : Option (List ℕ)) → one_text f id ≡ word → is_some (matched_of f id) ≡ false
    → IsNumber low high word None
number_none low high f id word is none = subst (λ w. IsNumber low high w None) (sym (go _ (matched_of f id) none) ∙ is) tt
  where
    go : {A B : Type 0} (get : A → Option B) (o : Option A) → is_some o ≡ false → option_and_then get o ≡ None
    go get None none = refl
    go get (Some a) none = cc
