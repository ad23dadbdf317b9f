-- The turns of a solve: rounds made so far, and those still to come.
use Rattle.std.proofs.Common.{◌≡◌, ℕ, suc, ◌+◌, ◌-◌, ◌<◌, ◌≤◌, true, false, List, Some, None, sym, ◌∙◌, add-zero, add_assoc, zero-add, arith}
use Rattle.std.specs.Prelude.{nat_eq}
use Rattle.std.specs.Cmp.Lexicographic.{pointwise}
use Rattle.rules.specs.Rules.{Meaning}
use Rattle.law.specs.Assignments.{Held}
use Rattle.law.specs.State.{round, Outcome, rounds_from}

-- an outcome after some rounds made before
abbrev pub after : ℕ → Outcome → Outcome
after made o = record { rounds = made + o.rounds; responses = o.responses }

module _ (answer : Meaning) (cs : List Held) where
  -- from a start, with `made` rounds behind and xs reached
  abbrev pub Reaches : ℕ → List ℕ → ℕ → List ℕ → Type 0
  Reaches most start made xs = rounds_from answer cs most start ≡ after made (rounds_from answer cs (most - made) xs)

  pub reaches_start : (most : ℕ) (start : List ℕ) → Reaches most start 0 start
  reaches_start most start = let e : most - 0 ≡ most = omega arith in rw (e, zero-add (rounds_from answer cs most start).rounds)

  module _ (most : ℕ) (start : List ℕ) (made : ℕ) (xs : List ℕ) (reached : Reaches most start made xs) where
    pub turn_refuses : made < most → round answer cs xs ≡ None → record { rounds = made + 1; responses = None } ≡ rounds_from answer cs most start
    unfolding rounds_from
    turn_refuses h e = let s : most - made ≡ suc (most - made - 1) = omega arith in sym (reached ∙ rw (s, e, rounds_from))

    pub turn_settles : (ys : List ℕ) → made < most → round answer cs xs ≡ Some ys → pointwise nat_eq xs ys ≡ true → record { rounds = made + 1; responses = Some ys } ≡ rounds_from answer cs most start
    unfolding rounds_from
    turn_settles ys h e t = let s : most - made ≡ suc (most - made - 1) = omega arith in sym (reached ∙ rw (s, e, rounds_from, t))

    pub turn_goes_on : (ys : List ℕ) → made < most → round answer cs xs ≡ Some ys → pointwise nat_eq xs ys ≡ false → Reaches most start (made + 1) ys
    unfolding rounds_from
    turn_goes_on ys h e t =
        let s : most - made ≡ suc (most - (made + 1)) = omega arith in
        reached ∙ rw (s, e, rounds_from, t, ← add_assoc made 1 (rounds_from answer cs (most - (made + 1)) ys).rounds)

    pub turns_end : most ≤ made → made ≤ most → record { rounds = most; responses = None } ≡ rounds_from answer cs most start
    unfolding rounds_from
    turns_end h k = let s : most - made ≡ 0 = omega arith in let m : made ≡ most = omega arith in sym (reached ∙ rw (s, add-zero made, m))
