-- Sums and largest answers over the numbers below a count, and quotients rounded up. Assumes nothing.
use Rattle.std.specs.Prelude.{ℕ, zero, suc, ◌+◌, ◌-◌, ◌/◌, max, Some, None, Option}

-- a / b, rounded up, where b is at least 1
abbrev pub ceil : ℕ → ℕ → ℕ
ceil a b = (a + b - 1) / b

-- f 0 + f 1 + .. + f (n − 1)
abbrev pub sum_to : (ℕ → ℕ) → ℕ → ℕ
sum_to f zero = 0
sum_to f (suc n) = sum_to f n + f n

-- the larger of two answers: over, if one is over
abbrev pub larger : Option ℕ → Option ℕ → Option ℕ
larger None b = None
larger (Some x) None = None
larger (Some x) (Some y) = Some (max x y)

-- the largest of f 0, .., f (n − 1): 0 if there is none, and over if one is over
abbrev pub largest : (ℕ → Option ℕ) → ℕ → Option ℕ
largest f zero = Some 0
largest f (suc n) = larger (largest f n) (f n)
