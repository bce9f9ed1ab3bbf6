-- How lines asked one after another come together.
-- Cited by `serve::serve_line`, `serve::serve_piece`, `OneLineLemmas`, `PieceLemmas` and `mi_replay`.
use Rattle.std.proofs.Common.{◌≡◌, ℕ, ◌<◌, List, [], ◌∷◌, ◌++◌, option_to_list, length, take, refl, sym, ap, ◌∙◌, subst, append_assoc, append-nil, Some}
use Rattle.std.proofs.lemmas.Grind.{flat_map-append}
use Rattle.mi_hub.specs.Ended.{ended}
use Rattle.mi_commands.specs.Asked.{Asked}
use Rattle.mi_hub.specs.Lines.{Rest, ended_line, extended, lines_from, rest_from}
use Rattle.mi_hub.specs.Served.{InTurn, with_newline, sent, Served, CutOff}
use Rattle.mi_hub.proofs.LineLemmas.{from_ended, from_unended}

module _ {S : Type 0} (Gives : S → Asked → List ℕ → S → Type 0) where
  in_turn_append : (xs : List Asked) (rs : List (List ℕ)) (ys : List Asked) (qs : List (List ℕ)) (old mid new : S)
      → InTurn Gives old xs rs mid → InTurn Gives mid ys qs new → InTurn Gives old (xs ++ ys) (rs ++ qs) new
  in_turn_append [] [] ys qs old mid new p q = subst (λ s. InTurn Gives s ys qs new) p q
  in_turn_append [] (r ∷ rs) ys qs old mid new p q = absurd p
  in_turn_append (x ∷ xs) [] ys qs old mid new p q = absurd p
  in_turn_append (x ∷ xs) (r ∷ rs) ys qs old mid new p q = (p.0, p.1, in_turn_append xs rs ys qs p.0 mid new p.2 q)

  pub served_none : (s : S) → Served Gives s [] [] s
  served_none s = record { replies = []; in_turn = refl; written = refl }

  pub served_one : (old new : S) (line : Asked) (reply : List ℕ) → Gives old line reply new → Served Gives old (line ∷ []) (with_newline reply) new
  served_one old new line reply step = record {
    replies = reply ∷ [];
    in_turn = (new, step, refl);
    written = sym (append-nil (with_newline reply));
  }

  pub served_more : {old mid new : S} {xs ys : List Asked} {out more : List ℕ} → Served Gives old xs out mid
      → Served Gives mid ys more new → Served Gives old (xs ++ ys) (out ++ more) new
  served_more {old} {mid} {new} {xs} {ys} {out} {more} p q = record {
    replies = p.replies ++ q.replies;
    in_turn = in_turn_append xs p.replies ys q.replies old mid new p.in_turn q.in_turn;
    written = ap (λ t. t ++ more) p.written ∙ ap (λ t. sent p.replies ++ t) q.written ∙ sym (flat_map-append with_newline p.replies q.replies);
  }

  pub cut_one : (old new : S) (line : Asked) (reply : List ℕ) (n : ℕ) → Gives old line reply new
      → n < length (with_newline reply) → CutOff Gives old (line ∷ []) (take n (with_newline reply)) new
  cut_one old new line reply n step short = record {
    asked = [];
    line = line;
    dropped = [];
    parts = refl;
    replies = [];
    reply = reply;
    in_turn = (new, step, refl);
    front = n;
    short = short;
    written = refl;
  }

  cut_dropped : {old new : S} {xs : List Asked} {out : List ℕ} (ys : List Asked) → CutOff Gives old xs out new → CutOff Gives old (xs ++ ys) out new
  cut_dropped ys p = record {
    asked = p.asked;
    line = p.line;
    dropped = p.dropped ++ ys;
    parts = ap (λ ls. ls ++ ys) p.parts ∙ append_assoc p.asked (p.line ∷ p.dropped) ys;
    replies = p.replies;
    reply = p.reply;
    in_turn = p.in_turn;
    front = p.front;
    short = p.short;
    written = p.written;
  }

  pub cut_more : {old mid new : S} {xs ys : List Asked} {out more : List ℕ} → Served Gives old xs out mid
      → CutOff Gives mid ys more new → CutOff Gives old (xs ++ ys) (out ++ more) new
  cut_more {old} {mid} {new} {xs} {ys} {out} {more} p q = record {
    asked = xs ++ q.asked;
    line = q.line;
    dropped = q.dropped;
    parts = ap (λ ls. xs ++ ls) q.parts ∙ sym (append_assoc xs q.asked (q.line ∷ q.dropped));
    replies = p.replies ++ q.replies;
    reply = q.reply;
    in_turn = subst (λ ls. InTurn Gives old ls ((p.replies ++ q.replies) ++ q.reply ∷ []) new) (sym (append_assoc xs q.asked (q.line ∷ [])))
        (subst (λ rs. InTurn Gives old (xs ++ (q.asked ++ q.line ∷ [])) rs new) (sym (append_assoc p.replies q.replies (q.reply ∷ [])))
        (in_turn_append xs p.replies (q.asked ++ q.line ∷ []) (q.replies ++ q.reply ∷ []) old mid new p.in_turn q.in_turn));
    front = q.front;
    short = q.short;
    written = ap (λ t. t ++ more) p.written ∙ ap (λ t. sent p.replies ++ t) q.written
        ∙ sym (append_assoc (sent p.replies) (sent q.replies) _)
        ∙ ap (λ t. t ++ take q.front (with_newline q.reply)) (sym (flat_map-append with_newline p.replies q.replies));
  }

-- What a loop over a piece has done: these lines were asked, and those of what is left follow.
pub record SoFar {S : Type 0} (Gives : S → Asked → List ℕ → S → Type 0) (old : S) (out : List ℕ)
    (now : S) (rest piece_rest : Rest) (left piece : List ℕ) : Type 0 where
  pub done : List Asked
  pub served : Served Gives old done out now
  pub lines : done ++ lines_from rest left ≡ lines_from piece_rest piece
  pub kept : rest_from rest left ≡ rest_from piece_rest piece

module _ {S : Type 0} (Gives : S → Asked → List ℕ → S → Type 0) where
  -- one more line was asked
  pub so_far_more : {old mid now : S} {out more : List ℕ} {rest piece_rest : Rest} (front back : List ℕ) {left piece : List ℕ}
      → SoFar Gives old out mid rest piece_rest left piece → ended front ≡ [] → left ≡ front ++ 10 ∷ back
      → Served Gives mid (option_to_list (ended_line (extended rest front))) more now → SoFar Gives old (out ++ more) now (Some []) piece_rest back piece
  so_far_more {rest = rest} front back p h is q =
      let line = option_to_list (ended_line (extended rest front)) in
      let cut = from_ended rest front back h in record {
        done = p.done ++ line;
        served = served_more Gives p.served q;
        lines = append_assoc p.done line (lines_from (Some []) back) ∙ ap (λ ls. p.done ++ ls) (sym cut.0 ∙ ap (lines_from rest) (sym is)) ∙ p.lines;
        kept = sym cut.1 ∙ ap (rest_from rest) (sym is) ∙ p.kept;
      }

  -- the writer failed at one more line
  pub so_far_cut : {old mid now : S} {out more : List ℕ} {rest piece_rest : Rest} (front back : List ℕ) {left piece : List ℕ}
      → SoFar Gives old out mid rest piece_rest left piece → ended front ≡ [] → left ≡ front ++ 10 ∷ back
      → CutOff Gives mid (option_to_list (ended_line (extended rest front))) more now → CutOff Gives old (lines_from piece_rest piece) (out ++ more) now
  so_far_cut {old} {mid} {now} {out} {more} {rest} {piece_rest} front back {left} {piece} p h is q =
      let line = option_to_list (ended_line (extended rest front)) in
      let cut = from_ended rest front back h in
      subst (λ ls. CutOff Gives old ls (out ++ more) now) (ap (λ ls. p.done ++ ls) (sym cut.0 ∙ ap (lines_from rest) (sym is)) ∙ p.lines)
      (cut_more Gives p.served (cut_dropped Gives (lines_from (Some []) back) q))

  -- no line ends in what is left
  pub so_far_all : {old now : S} {out : List ℕ} {rest piece_rest : Rest} {left piece : List ℕ}
      → SoFar Gives old out now rest piece_rest left piece → ended left ≡ [] → Served Gives old (lines_from piece_rest piece) out now
  so_far_all {old} {now} {out} {rest} {piece_rest} {left} {piece} p h =
      subst (λ ls. Served Gives old ls out now) (sym (append-nil p.done) ∙ ap (λ ls. p.done ++ ls) (sym (from_unended rest left h).0) ∙ p.lines) p.served

  pub so_far_rest : {old now : S} {out : List ℕ} {rest piece_rest : Rest} {left piece : List ℕ}
      → SoFar Gives old out now rest piece_rest left piece → ended left ≡ [] → extended rest left ≡ rest_from piece_rest piece
  so_far_rest {rest = rest} {left = left} p h = sym (from_unended rest left h).1 ∙ p.kept

module _ {S : Type 0} (Gives : S → Asked → List ℕ → S → Type 0) where
  in_turn_split : (xs ys : List Asked) (rs : List (List ℕ)) (old new : S) → InTurn Gives old (xs ++ ys) rs new
      → (mid : S) × (ps : List (List ℕ)) × (qs : List (List ℕ)) × InTurn Gives old xs ps mid × InTurn Gives mid ys qs new × (rs ≡ ps ++ qs)
  in_turn_split [] ys rs old new p = (old, [], rs, refl, p, refl)
  in_turn_split (x ∷ xs) ys [] old new p = absurd p
  in_turn_split (x ∷ xs) ys (r ∷ rs) old new p =
      let q = in_turn_split xs ys rs p.0 new p.2 in (q.0, r ∷ q.1, q.2, (p.0, p.1, q.3), q.4, ap (λ ts. r ∷ ts) q.5)

  pub served_split : {old new : S} (xs ys : List Asked) {out : List ℕ} → Served Gives old (xs ++ ys) out new
      → (mid : S) × (first : List ℕ) × (later : List ℕ) × Served Gives old xs first mid × Served Gives mid ys later new × (out ≡ first ++ later)
  served_split {old} {new} xs ys p =
      let q = in_turn_split xs ys p.replies old new p.in_turn in (
        q.0,
        sent q.1,
        sent q.2,
        record { replies = q.1; in_turn = q.3; written = refl },
        record { replies = q.2; in_turn = q.4; written = refl },
        p.written ∙ ap sent q.5 ∙ flat_map-append with_newline q.1 q.2,
      )
