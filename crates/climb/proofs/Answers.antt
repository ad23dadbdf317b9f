-- The order of answers.
use Rattle.std.proofs.Common.{◌≡◌, ℕ, ◌≤◌, Some, None, Option, arith}
use Rattle.climb.specs.Answers.{AtMost}
use Rattle.climb.specs.Answers.AtMost.{over, within}

pub most_trans : {a b c : Option ℕ} → AtMost a b → AtMost b c → AtMost a c
most_trans h over = over
most_trans (within h) (within k) = within (omega arith)

pub most_refl : (o : Option ℕ) → AtMost o o
most_refl None = over
most_refl (Some n) = let h : n ≤ n = omega arith in within h

pub most_le : {m n : ℕ} → AtMost (Some m) (Some n) → m ≤ n
most_le (within h) = h

pub most_zero : (o : Option ℕ) → AtMost (Some 0) o
most_zero None = over
most_zero (Some n) = let h : 0 ≤ n = omega arith in within h

pub over_within : {n : ℕ} {o : Option ℕ} → o ≡ None → AtMost o (Some n) → ⊥
over_within {n} e h = let k : AtMost None (Some n) = rw e at h in elim k [ ]

-- over, or at most a number
abbrev pub Within : ℕ → Option ℕ → Type 0
Within b None = Unit {0}
Within b (Some n) = n ≤ b

pub within_is : {b n : ℕ} {o : Option ℕ} → Within b o → o ≡ Some n → n ≤ b
within_is {b} {n} w e = let k : Within b (Some n) = rw e at w in k
