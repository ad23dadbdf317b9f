-- What a buffer holds after writes: one write, and one behind the other.
use Rattle.std.proofs.Common.{◌≡◌, ℕ, ◌+◌, ◌<◌, ◌≤◌, List, [], ◌∷◌, ◌++◌, length, set, refl, ap, ◌∙◌, add-one, arith, length-append, append_assoc}
use Rattle.std.proofs.lemmas.List.{set_split}
use Rattle.std.proofs.lemmas.List.Edits.{paste_all, length-paste, paste-paste}
use Rattle.writing.specs.Writing.{put_at, after_write}

module _ (b : List ℕ) (at : ℕ) (xs : List ℕ) where
  pub length_put : at + length xs ≤ length b → length (put_at b at xs) ≡ length b
  length_put room = rw (← paste_all b at xs (length xs) refl) (length-paste b at xs (length xs) room (omega arith))

  -- two writes one behind the other are one
  pub put_put : (ys : List ℕ) → at ≤ length b → put_at (put_at b at xs) (at + length xs) ys ≡ put_at b at (xs ++ ys)
  put_put ys inside =
      rw (← paste_all b at xs (length xs) refl, ← paste_all _ (at + length xs) ys (length ys) refl, ← paste_all b at (xs ++ ys) (length (xs ++ ys)) refl, length-append xs ys)
      (paste-paste b at xs ys (length xs) (length ys) refl refl inside)

  -- one byte behind them
  pub set_behind : (x : ℕ) → at + length xs < length b → set (put_at b at xs) (at + length xs) x ≡ put_at b at (xs ++ x ∷ [])
  set_behind x room =
      let same = length_put (omega arith) in
      rw (set_split (put_at b at xs) (at + length xs) x (omega arith), ← add-one (at + length xs)) (put_put (x ∷ []) (omega arith))

-- what fits is written
pub fitting : (b : List ℕ) (at : ℕ) (xs : List ℕ) → at + length xs ≤ length b → after_write b at xs ≡ put_at b at xs
fitting b at xs room = search (arith)

-- a write behind another, where both fit, is one write of both
pub after_put : (b : List ℕ) (at : ℕ) (xs ys : List ℕ) → at + length xs + length ys ≤ length b → after_write (put_at b at xs) (at + length xs) ys ≡ put_at b at (xs ++ ys)
after_put b at xs ys room =
    let same = length_put b at xs (omega arith) in
    fitting (put_at b at xs) (at + length xs) ys (omega arith) ∙ put_put b at xs ys (omega arith)

-- one byte behind them, and a write behind that
pub after_byte : (b : List ℕ) (at : ℕ) (xs : List ℕ) (x : ℕ) (ys : List ℕ) → at + length xs + 1 + length ys ≤ length b →
    after_write (set (put_at b at xs) (at + length xs) x) (at + length xs + 1) ys ≡ put_at b at (xs ++ x ∷ ys)
after_byte b at xs x ys room =
    let long = length-append xs (x ∷ []) in
    let end : at + length xs + 1 ≡ at + length (xs ++ x ∷ []) = omega arith in
    rw (set_behind b at xs x (omega arith), end) (after_put b at (xs ++ x ∷ []) ys (omega arith)) ∙ ap (put_at b at) (append_assoc xs (x ∷ []) ys)
