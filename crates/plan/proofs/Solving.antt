-- What a solve leaves in a plan, and its step of the law over runs.
use Rattle.std.proofs.Common.{◌≡◌, ℕ, zero, suc, ◌+◌, ◌-◌, ◌≤◌, true, false, nat_eq, List, length, replicate, Some, None, Ok, Err, sym, refl, ap, subst, ◌∙◌, arith}
use Rattle.std.specs.Cmp.Lexicographic.{pointwise}
use lib.ListN.{length-replicate}
use Rattle.arrayvec.specs.ArrayVec.{ArrayVec}
use Rattle.records.specs.Ranges.{row_fits}
use Rattle.std.specs.List.{list_all}
use Rattle.rules.specs.Rules.{Meaning, Laws}
use Rattle.law.specs.declared.answers.Reply.TheVariants.{Solved}
use Rattle.law.specs.declared.answers.Refusal.TheVariants.{NothingCarries}
use Rattle.law.specs.Runs.{Answer}
use Rattle.law.specs.Runs.Call.{solve}
use Rattle.law.specs.Assignments.{Held}
use Rattle.law.specs.State.{Contents, anew, round, rounds_from, solving, solve_answer, solved_with, Keeps}
use Rattle.law.proofs.Turns.{Reaches, turn_refuses, turn_settles, turn_goes_on}
use Rattle.law.proofs.Steps.{solve_keeps}
use Rattle.plan.specs.declared.plan.Plan.{Plan}
use Rattle.plan.specs.declared.table.Settled.{Settled}
use Rattle.plan.specs.declared.table.Table.{Table}
use Rattle.plan.specs.Contents.{chains_of, contents, steps_in, entry_fits, response_fits, responses_fit_in, outcome_of, with_responses, forgotten}
use Rattle.plan.proofs.Memory.{rows_are}
use Rattle.plan.proofs.Timing.{fits_in}

pub zeros_pass : (n : ℕ) → list_all response_fits (replicate n 0) ≡ true
zeros_pass zero = refl
zeros_pass (suc n) = zeros_pass n

-- after the responses are forgotten, what is left fits
pub forgotten_fits : (t : Table) → responses_fit_in (forgotten t) (forgotten t).responses.items ≡ true
forgotten_fits t = fits_in (forgotten t) (replicate (length t.rows.items) 0) (length-replicate _ _) (zeros_pass (length t.rows.items))

-- what a plan's type promises of its memory
abbrev pub Sound : Table → Type 0
Sound t =
    record {
      few_chains : length t.entries.items ≤ 16;
      few_rows : length t.rows.items ≤ 64;
      rows_counted : steps_in t.entries.items ≡ length t.rows.items;
      chains_fit : list_all entry_fits t.entries.items ≡ true;
      rows_fit : list_all row_fits t.rows.items ≡ true;
      responses_fit : responses_fit_in t t.responses.items ≡ true;
    }

pub sound : {R : Type 0} (p : Plan R) → Sound p.table
sound p = record { few_chains = p.few_chains; few_rows = p.few_rows; rows_counted = p.rows_counted; chains_fit = p.chains_fit; rows_fit = p.rows_fit; responses_fit = p.responses_fit }

pub sound_forgotten : (t : Table) → Sound t → Sound (forgotten t)
sound_forgotten t s = record { few_chains = s.few_chains; few_rows = s.few_rows; rows_counted = s.rows_counted; chains_fit = s.chains_fit; rows_fit = s.rows_fit; responses_fit = forgotten_fits t }

-- what it says then is the chains anew
pub forgotten_anew : (t : Table) → steps_in t.entries.items ≡ length t.rows.items → contents (forgotten t) ≡ anew (chains_of t)
forgotten_anew t counted = rw (rows_are t.entries.items t.rows.items counted) refl

-- a solve's result and the plan after it
pub record SolveDone (answer : Meaning) (before after : Contents) (a : Answer) : Type 0 where
  pub value : a ≡ solve_answer (solving answer before)
  pub left : after ≡ solved_with before (solving answer before)
  pub run : Keeps answer before solve a after

module _ (answer : Meaning) (laws : Laws answer) where
  done : (before after : Contents) (a : Answer) → a ≡ solve_answer (solving answer before) → after ≡ solved_with before (solving answer before) → SolveDone answer before after a
  done before after a value left = record { value = value; left = left; run = rw (value, left) (solve_keeps answer laws before) }

  module _ (t t' : Table) (r : Settled) (came : outcome_of r ≡ solving answer (contents t)) where
    pub solve_kept : (kept : ArrayVec ℕ) → r.responses ≡ Some kept → t' ≡ with_responses t kept.items (Some r.rounds) → SolveDone answer (contents t) (contents t') (Ok (Solved r.rounds))
    solve_kept kept is e =
        let o : solving answer (contents t) ≡ record { rounds = r.rounds; responses = Some kept.items } = rw is at (sym came) in
        done (contents t) (contents t') (Ok (Solved r.rounds)) (rw o) (rw (o, e))

    pub solve_forgot : steps_in t.entries.items ≡ length t.rows.items → r.responses ≡ None → t' ≡ forgotten t → SolveDone answer (contents t) (contents t') (Err (NothingCarries r.rounds))
    solve_forgot counted is e =
        let o : solving answer (contents t) ≡ record { rounds = r.rounds; responses = None } = rw is at (sym came) in
        done (contents t) (contents t') (Err (NothingCarries r.rounds)) (rw o) (rw (o, e) (forgotten_anew t counted))

-- ## The rounds, counted from 1

module _ (answer : Meaning) (cs : List Held) (most : ℕ) (start : List ℕ) (rounds : ℕ) (xs : List ℕ) (low : 1 ≤ rounds) (high : rounds ≤ most) (reached : Reaches answer cs most start (rounds - 1) xs) where
  counted : (rounds - 1) + 1 ≡ rounds
  counted = omega arith

  pub round_refuses : round answer cs xs ≡ None → record { rounds = rounds; responses = None } ≡ rounds_from answer cs most start
  round_refuses e = ap (λ n. record { rounds = n; responses = None }) (sym counted) ∙ turn_refuses answer cs most start (rounds - 1) xs reached (omega arith) e

  pub round_settles : (ys : List ℕ) → round answer cs xs ≡ Some ys → pointwise nat_eq xs ys ≡ true → record { rounds = rounds; responses = Some ys } ≡ rounds_from answer cs most start
  round_settles ys e t = ap (λ n. record { rounds = n; responses = Some ys }) (sym counted) ∙ turn_settles answer cs most start (rounds - 1) xs reached ys (omega arith) e t

  pub round_goes_on : (ys : List ℕ) → round answer cs xs ≡ Some ys → pointwise nat_eq xs ys ≡ false → Reaches answer cs most start ((rounds + 1) - 1) ys
  round_goes_on ys e t =
      let n : (rounds - 1) + 1 ≡ (rounds + 1) - 1 = omega arith in
      subst (λ n. Reaches answer cs most start n ys) n (turn_goes_on answer cs most start (rounds - 1) xs reached ys (omega arith) e t)
