-- What a climb settles in: the law of maps one under another, and the turns of the loop.
use Rattle.std.proofs.Common.{◌≡◌, ℕ, zero, suc, ◌+◌, ◌<◌, ◌≤◌, Bool, true, false, eqb, Some, None, Option, sym, refl, inl, inr, arith}
use Rattle.std.proofs.lemmas.Bool.{eqb-true, eqb-false, cases_eq}
use Rattle.climb.specs.Answers.{AtMost}
use Rattle.climb.specs.Answers.AtMost.{over, within}
use Rattle.climb.specs.Climb.{Rises, FirstFixed, first_fixed, settled}
use Rattle.climb.specs.Climb.FirstFixed.{none, one}
use Rattle.climb.proofs.Answers.{Within}

first_is : (f : ℕ → ℕ) (count low high : ℕ) → low + count ≡ suc high → FirstFixed f low high (first_fixed f count low)
unfolding first_fixed
first_is f zero low high e = none (λ u l h g. omega arith)
first_is f (suc count) low high e = by (eqb (f low) low) refl (first_is f count (suc low) high (omega arith))
  where
    by : (b : Bool) → eqb (f low) low ≡ b → FirstFixed f (suc low) high (first_fixed f count (suc low)) → FirstFixed f low high (elim b [ true ↦ Some low | false ↦ first_fixed f count (suc low) ])
    by true t w = let g = eqb-true (f low) low t in one (omega arith) (omega arith) g (λ u l h. l)
    by false t w = later (eqb-false (f low) low t) w
      where
        above : (f low ≡ low → ⊥) → (u : ℕ) → low ≤ u → f u ≡ u → suc low ≤ u
        above n u l g = elim (cases_eq low u) [ inl s ↦ absurd (n (rw (sym s) at g)) | inr s ↦ omega arith ]

        later : {o : Option ℕ} → (f low ≡ low → ⊥) → FirstFixed f (suc low) high o → FirstFixed f low high o
        later n (none w) = none (λ u l h g. w u (above n u l g) h g)
        later n (one l h g w) = one (omega arith) h g (λ u k t. w u (above n u k t) t)

-- `settled` answers the least fixed number
pub settles : (f : ℕ → ℕ) (limit : ℕ) → FirstFixed f 1 limit (settled f limit)
unfolding settled
settles f limit = first_is f limit 1 limit (omega arith)

-- and nothing else is the least
pub first_same : {f : ℕ → ℕ} {low high : ℕ} {a b : Option ℕ} → FirstFixed f low high a → FirstFixed f low high b → a ≡ b
first_same (none n) (none m) = refl
first_same (none n) (one {v} l h g w) = absurd (n v l h g)
first_same (one {v} l h g w) (none m) = absurd (m v l h g)
first_same (one {v} l h g w) (one {v = u} k i t x) = let e : v ≡ u = omega (arith, w u k t, x v l g) in rw e

-- below a number that f does not raise there is one that it leaves as it is
fixed_below : {f : ℕ → ℕ} → Rises f → (fuel v : ℕ) → v ≤ fuel → 1 ≤ v → f v ≤ v → (u : ℕ) × (1 ≤ u) × (u ≤ v) × (f u ≡ u)
fixed_below r zero v h k l = absurd (omega arith)
fixed_below {f} r (suc fuel) v h k l =
    elim (cases_eq (f v) v) [
      | inl e ↦ (v, k, omega arith, e)
      | inr n ↦ let w = fixed_below r fuel (f v) (omega arith) (r.some v k) (r.rise (f v) v l) in (w.0, w.1, omega arith, w.3)
    ]

-- if f is under g, it settles under what g settles in
pub settled_under : {f g : ℕ → ℕ} → Rises f → ((v : ℕ) → f v ≤ g v) → (limit : ℕ) → AtMost (settled f limit) (settled g limit)
settled_under {f} {g} r under limit = by (settles f limit) (settles g limit)
  where
    by : {a b : Option ℕ} → FirstFixed f 1 limit a → FirstFixed g 1 limit b → AtMost a b
    by a (none n) = over
    by (one l h e w) (one {v} k i t x) = let u = fixed_below r v v (omega arith) k (omega (arith, under v)) in within (omega (arith, w u.0 u.1 u.3))
    by (none n) (one {v} k i t x) = let u = fixed_below r v v (omega arith) k (omega (arith, under v)) in absurd (n u.0 u.1 (omega arith) u.3)

pub settled_limit : (f : ℕ → ℕ) (limit : ℕ) → Within limit (settled f limit)
settled_limit f limit = by (settles f limit)
  where
    by : {a : Option ℕ} → FirstFixed f 1 limit a → Within limit a
    by (none n) = tt
    by (one l h e w) = h

-- a number that is settled in is one that f gives
pub settled_within : (f : ℕ → ℕ) (limit least : ℕ) → ((v : ℕ) → least ≤ f v) → AtMost (Some least) (settled f limit)
settled_within f limit least under = by (settles f limit)
  where
    by : {a : Option ℕ} → FirstFixed f 1 limit a → AtMost (Some least) a
    by (none n) = over
    by (one {v} l h e w) = within (omega (arith, under v))

-- where the loop stands at each turn: no fixed number lies below `at`
pub record Climbing (f : ℕ → ℕ) (at : ℕ) : Type 0 where
  pub low : 1 ≤ at
  pub rises : at ≤ f at
  pub under : (u : ℕ) → 1 ≤ u → f u ≡ u → at ≤ u

module _ (f : ℕ → ℕ) (rising : Rises f) where
  pub climb_settles : (limit : ℕ) {at : ℕ} → Climbing f at → at ≤ limit → f at ≡ at → FirstFixed f 1 limit (Some at)
  climb_settles limit c h e = one c.low h e c.under

  pub climb_passes : (limit : ℕ) {at : ℕ} → Climbing f at → limit < f at → FirstFixed f 1 limit None
  climb_passes limit {at} c h = none (λ u l k e. omega (arith, rising.rise at u (c.under u l e)))
