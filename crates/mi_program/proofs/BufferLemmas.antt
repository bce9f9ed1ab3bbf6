-- Bytes that wait behind what a stream has taken.
-- Cited by `Buffered::pass` and `Buffered::send_out`.
use Rattle.std.proofs.Common.{◌≡◌, ℕ, ◌+◌, ◌≤◌, List, [], ◌++◌, length, take, drop, Option, Result}
use Rattle.std.proofs.Common.{Ok, Err, sym, ap, ◌∙◌, subst, append-nil, arith}
use Rattle.std.proofs.lemmas.List.{take-append-drop, drop-drop, drop_all, take_all}
use Rattle.std.proofs.KnownBytes.{Appends-nil, Appends-trans, Appends-kept, Keeps-refl, Keeps-trans}
use Rattle.std.proofs.KnownBytes.{append_known-kept, append_known-moved, append_known-passed}
use Rattle.std.specs.Io.KnownBytes.{append_known, Appends, Keeps, WriteAppends}

-- the stream takes a front of what waits
pub front_goes : (a b c : Option (List ℕ)) (gathered left : List ℕ) (sent n : ℕ)
    → left ≡ drop sent gathered → Keeps a (append_known b (drop sent gathered)) → Appends b c (take n left)
    → Keeps a (append_known c (drop (sent + n) gathered))
front_goes a b c gathered left sent n is kept taken =
    let parts : drop sent gathered ≡ take n left ++ drop (sent + n) gathered =
    sym (take-append-drop n (drop sent gathered)) ∙ ap (λ t. take n (drop sent gathered) ++ t) (drop-drop n sent gathered)
    ∙ ap (λ t. take n t ++ drop (sent + n) gathered) (sym is) in
    Keeps-trans a (append_known b (drop sent gathered)) (append_known c (drop (sent + n) gathered)) kept
    (append_known-moved b c (take n left) (drop (sent + n) gathered) (drop sent gathered) taken parts)

-- where nothing waits the stream takes bytes
pub stream_takes : {E : Type 0} (b c : Option (List ℕ)) (waiting : List ℕ) (r : Result ℕ E) (buf : List ℕ) → waiting ≡ [] → WriteAppends b c r buf
    → WriteAppends (append_known b waiting) (append_known c waiting) r buf
stream_takes b c waiting (Ok n) buf none taken =
    subst (λ t. Appends (append_known b waiting) (append_known c waiting) t) (append-nil (take n buf))
    (append_known-passed (append_known b waiting) b c waiting waiting (take n buf) [] (Keeps-refl _) none taken (sym (append-nil waiting)))
stream_takes b c waiting (Err e) buf none kept = append_known-kept b c waiting kept

kept_then : (a b c : Option (List ℕ)) (xs : List ℕ) → Keeps a b → Appends b c xs → Appends a c xs
kept_then a b c xs kept more = Appends-trans a b c [] xs (none_more a b kept) more
  where
    none_more : (a b : Option (List ℕ)) → Keeps a b → Appends a b []
    none_more a b k = Appends-kept a a b [] (Appends-nil a) k

-- all of the bytes wait
pub all_taken : (a b c : Option (List ℕ)) (buf : List ℕ) (n : ℕ) → n ≡ length buf → Keeps a b → Appends b c buf → Appends a c (take n buf)
all_taken a b c buf n is kept more = subst (Appends a c) (sym (take_all n buf (whole n (length buf) is))) (kept_then a b c buf kept more)
  where
    whole : (m k : ℕ) → m ≡ k → k ≤ m
    whole m k e = omega arith

pub none_waits : (gathered : List ℕ) (sent : ℕ) → gathered ≡ [] → drop sent gathered ≡ []
none_waits gathered sent none = ap (drop sent) none ∙ drop_all sent [] (omega arith)
