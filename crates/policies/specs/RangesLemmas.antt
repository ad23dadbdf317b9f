-- Sums, largest answers and quotients are monotone.
use Rattle.std.specs.Prelude.{◌≡◌, ℕ, zero, suc, ◌+◌, ◌-◌, ◌*◌, ◌/◌, ◌%◌, ◌<◌, ◌≤◌, min, Bool, true, false, cond, ◌↔◌, Some, None, Option, refl}
use Rattle.std.proofs.Common.{◌∙◌, inl, inr, div-mul-le_self, le-div_iff_mul-le, suc-mul, div-add-mod', mod-lt, mul-le-mul_left, add-one, arith}
use Rattle.std.proofs.Math.Nat.{div-zero, mul-add-div_right, div-eq_of_lt, div-eq_of_lt-le}
use Rattle.std.proofs.lemmas.Bool.{cases_eq, cases_lt}
use Rattle.climb.specs.Answers.{AtMost}
use Rattle.climb.specs.Answers.AtMost.{over, within}
use Rattle.climb.proofs.Answers.{most_trans, most_zero, Within}
use Rattle.policies.specs.Ranges.{ceil, sum_to, larger, largest}

-- ## Quotients

pub div_under : (m n k : ℕ) → m ≤ n → m / k ≤ n / k
div_under m n zero h = simp div-zero (omega arith)
div_under m n (suc k) h = (le-div_iff_mul-le (omega arith)).1 (omega (arith, div-mul-le_self m (suc k)))

pub ceil_under : (m n k : ℕ) → m ≤ n → ceil m k ≤ ceil n k
ceil_under m n k h = div_under (m + k - 1) (n + k - 1) k (omega arith)

pub ceil_some : (a b : ℕ) → 1 ≤ a → 1 ≤ b → 1 ≤ ceil a b
ceil_some a b h k = (le-div_iff_mul-le k).1 (omega arith)

-- q × b < a, for q below the quotient and no other
pub ceil_counts : (a b q : ℕ) → 1 ≤ b → (q < ceil a b) ↔ (q * b < a)
ceil_counts a b q h =
    let s = suc-mul q b in
    ((λ l. let k = (le-div_iff_mul-le h).0 l in omega arith), λ l. (le-div_iff_mul-le h).1 (omega arith))

pub ceil_le : (a b : ℕ) → 1 ≤ b → ceil a b ≤ a
ceil_le a b h = elim (cases_lt a (ceil a b)) [ inl l ↦ absurd (let k = (ceil_counts a b a h).0 l in let m = mul-le-mul_left a h in omega arith) | inr l ↦ l ]

-- the quotient, and one more where a remainder is left
pub ceil_is : (a b : ℕ) → 1 ≤ b → a / b + min 1 (a % b) ≡ ceil a b
ceil_is a b h =
    let r = a % b in
    let s = div-add-mod' a b in
    let small : r < b = mod-lt a h in
    let e : a + b - 1 ≡ a / b * b + (r + b - 1) = omega arith in
    rw (e, mul-add-div_right h (a / b) (r + b - 1), over_one r small)
  where
    over_one : (r : ℕ) → r < b → (r + b - 1) / b ≡ min 1 r
    over_one zero l = div-eq_of_lt (omega arith)
    over_one (suc r) l = let e : 1 ≡ min 1 (suc r) = omega arith in div-eq_of_lt-le b (omega arith) (omega arith) ∙ e

-- ## Sums

pub sum_under : (f g : ℕ → ℕ) (n m : ℕ) → n ≤ m → ((k : ℕ) → k < n → f k ≤ g k) → sum_to f n ≤ sum_to g m
sum_under f g zero m h u = omega arith
sum_under f g (suc n) zero h u = absurd (omega arith)
sum_under f g (suc n) (suc m) h u =
    elim (cases_eq n m) [
      | inl e ↦ let k : f n ≤ g m = rw (← e) (u n (omega arith)) in omega (arith, sum_under f g n m (omega arith) (λ k l. u k (omega arith)))
      | inr ne ↦ omega (arith, sum_under f g (suc n) m (omega arith) u)
    ]

pub sum_more : (f : ℕ → ℕ) (n : ℕ) → sum_to f (n + 1) ≡ sum_to f n + f n
sum_more f n = rw add-one

-- one term of a sum
pub term_under : (f : ℕ → ℕ) (n k : ℕ) → k < n → f k ≤ sum_to f n
term_under f zero k h = absurd (omega arith)
term_under f (suc n) k h = elim (cases_eq k n) [ inl e ↦ rw e (omega arith) | inr ne ↦ omega (arith, term_under f n k (omega arith)) ]

pub cond_under : (b : Bool) {x y x' y' : ℕ} → x ≤ x' → y ≤ y' → cond b x y ≤ cond b x' y'
cond_under true h k = h
cond_under false h k = k

-- ## Largest answers

larger_left : (a b : Option ℕ) → AtMost a (larger a b)
larger_left None b = over
larger_left (Some x) None = over
larger_left (Some x) (Some y) = within (omega arith)

larger_right : (a b : Option ℕ) → AtMost b (larger a b)
larger_right None b = over
larger_right (Some x) None = over
larger_right (Some x) (Some y) = within (omega arith)

larger_least : {a b c : Option ℕ} → AtMost a c → AtMost b c → AtMost (larger a b) c
larger_least over k = over
larger_least (within h) (within k) = within (omega arith)

pub largest_more : (f : ℕ → Option ℕ) (n : ℕ) → largest f (n + 1) ≡ larger (largest f n) (f n)
largest_more f n = rw add-one

-- one of the answers
pub one_under : (f : ℕ → Option ℕ) (n k : ℕ) → k < n → AtMost (f k) (largest f n)
one_under f zero k h = absurd (omega arith)
one_under f (suc n) k h =
    elim (cases_eq k n) [
      | inl e ↦ rw e (larger_right (largest f n) (f n))
      | inr ne ↦ most_trans (one_under f n k (omega arith)) (larger_left (largest f n) (f n))
    ]

pub largest_over : (f : ℕ → Option ℕ) (n k : ℕ) → k < n → f k ≡ None → largest f n ≡ None
largest_over f n k h e = by (rw e at (one_under f n k h))
  where
    by : {o : Option ℕ} → AtMost None o → o ≡ None
    by over = refl

-- what is above each is above the largest
pub largest_least : (f : ℕ → Option ℕ) (n : ℕ) (o : Option ℕ) → ((k : ℕ) → k < n → AtMost (f k) o) → AtMost (largest f n) o
largest_least f zero o u = most_zero o
largest_least f (suc n) o u = larger_least (largest_least f n o (λ k h. u k (omega arith))) (u n (omega arith))

pub largest_under : (f g : ℕ → Option ℕ) (n m : ℕ) → n ≤ m → ((k : ℕ) → k < n → AtMost (f k) (g k)) → AtMost (largest f n) (largest g m)
largest_under f g n m h u = largest_least f n (largest g m) (λ k l. most_trans (u k l) (one_under g m k (omega arith)))

larger_within : (b : ℕ) (x y : Option ℕ) → Within b x → Within b y → Within b (larger x y)
larger_within b None y v w = tt
larger_within b (Some x) None v w = tt
larger_within b (Some x) (Some y) v w = omega arith

pub largest_within : (b : ℕ) (f : ℕ → Option ℕ) (n : ℕ) → ((k : ℕ) → Within b (f k)) → Within b (largest f n)
largest_within b f zero u = omega arith
largest_within b f (suc n) u = larger_within b (largest f n) (f n) (largest_within b f n u) (u n)
