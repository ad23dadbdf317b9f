-- The laws of a node rule, for every sound policy.
use Rattle.std.specs.Prelude.{◌≡◌, ℕ, ◌+◌, ◌*◌, ◌<◌, ◌≤◌, Bool, true, false, List, ◌++◌, length, Some, None, Option, ◌==◌, slice_index, refl}
use Rattle.std.proofs.Common.{sym, mul-le-mul, mul-pos, le_refl, length-append}
use Rattle.std.proofs.Math.Path.{ap}
use Rattle.std.proofs.Math.Nat.{le_trans, mul-le-mul_right}
use native.Mathlib.Omega.{arith}
use Rattle.std.proofs.lemmas.List.{get_or_append_left}
use Rattle.std.proofs.lemmas.Bool.{eq-eqb, cond-true}
use Rattle.records.specs.declared.fields.Row.{Row}
use Rattle.climb.specs.Answers.{AtMost}
use Rattle.climb.specs.Answers.AtMost.{over, within}
use Rattle.climb.specs.Climb.{Rises, FirstFixed, settled}
use Rattle.climb.specs.Climb.FirstFixed.{none, one}
use Rattle.climb.proofs.Answers.{most_trans, Within, within_is}
use Rattle.climb.proofs.Settling.{settles, settled_under, settled_within, settled_limit}
use Rattle.rules.specs.Rules.{valid, row, no_row, Under, Laws}
use Rattle.rules.proofs.Lists.{under_at}
use Rattle.rules.proofs.Validity.{Valid, valid_shows, valid_from, valid_under, rows_in_range, jitter_small}
use Rattle.policies.specs.Busy.{share, work, load, busy}
use Rattle.policies.specs.Policy.{Policy, Sound, others, demand, since, response, worst, answer}
use Rattle.policies.specs.RangesLemmas.{ceil_under, ceil_some, sum_under, term_under, cond_under, one_under, largest_under, largest_within}

-- one call is a part of another: no fewer rows, the same ones in front, and no jitter falls
pub record Part (rows : List Row) (js : List ℕ) (rows' : List Row) (js' : List ℕ) : Type 0 where
  pub fewer : length rows ≤ length rows'
  pub same : (k : ℕ) → k < length rows → row rows k ≡ row rows' k
  pub lower : (k : ℕ) → k < length rows → slice_index js k ≤ slice_index js' k

part_whole : (rows : List Row) (js : List ℕ) → Part rows js rows js
part_whole rows js = record { fewer = omega arith; same = λ k h. refl; lower = λ k h. omega arith }

part_jitters : (rows : List Row) {js ks : List ℕ} → Under js ks → Part rows js rows ks
part_jitters rows u = record { fewer = omega arith; same = λ k h. refl; lower = λ k h. under_at u k }

part_front : (rows more : List Row) (js ks : List ℕ) → length js ≡ length rows → Part rows js (rows ++ more) (js ++ ks)
part_front rows more js ks e =
    record {
      fewer = omega (arith, length-append rows more);
      same = λ k h. sym (get_or_append_left rows more no_row k h);
      lower = λ k h. rw (get_or_append_left js ks 0 k (omega arith)) (omega arith);
    }

module _ {rows : List Row} {js : List ℕ} {rows' : List Row} {js' : List ℕ} (part : Part rows js rows' js') (i : ℕ) (inside : i < length rows) where
  work_under : (c d : ℕ → ℕ) → ((k : ℕ) → k < length rows → c k ≤ d k) → work rows i c ≤ work rows' i d
  unfolding work
  work_under c d u =
      sum_under _ _ (length rows) (length rows') part.fewer
      (λ k h. rw (part.same k h, part.same i inside) (cond_under _ (mul-le-mul (u k h) (le_refl _)) (le_refl 0)))

  load_under : (v w : ℕ) → v ≤ w → load rows js i v ≤ load rows' js' i w
  unfolding load
  load_under v w h = work_under _ _ (λ k l. rw (part.same k l) (ceil_under _ _ _ (omega (arith, part.lower k l))))

  demand_under : (p : Policy) → Sound p → (q v w : ℕ) → v ≤ w → demand p rows js i q v ≤ demand p rows' js' i q w
  unfolding demand
  demand_under p s q v w h =
      let e = ap (λ (r : Row). r.step.blocking + p.own r q * r.step.cost) (part.same i inside) in
      omega (
        arith,
        work_under (others p rows js i q v) (others p rows' js' i q w)
            (λ k l. rw (part.same k l, part.same i inside) (cond_under _ (le_refl 0) (s.before_rise _ q _ _ _ v w (part.lower k l) h))),
      )

since_under : {a b : Option ℕ} → AtMost a b → (j k s t : ℕ) → j ≤ k → t ≤ s → AtMost (since j s a) (since k t b)
since_under over j k s t h g = over
since_under (within l) j k s t h g = within (omega arith)

-- row i's own share is part of the work
share_under : (rows : List Row) (i : ℕ) → i < length rows → (count : ℕ → ℕ) → count i * (row rows i).step.cost ≤ work rows i count
unfolding work
share_under rows i h count =
    let own = cond-true ((row rows i).step.node == (row rows i).step.node) (count i * (row rows i).step.cost) 0 (eq-eqb _ _ refl) in
    omega (arith, own, term_under (λ k. share rows i k (count k)) (length rows) i h)

pub answer_valid : (p : Policy) (rows : List Row) (js : List ℕ) (i : ℕ) → valid rows js i ≡ true → answer p rows js i ≡ worst p rows js i (busy rows js i)
unfolding answer
answer_valid p rows js i e = rw (e, answer)

pub answer_invalid : (p : Policy) (rows : List Row) (js : List ℕ) (i : ℕ) → valid rows js i ≡ false → answer p rows js i ≡ None
unfolding answer
answer_invalid p rows js i e = rw (e, answer)

-- ## What a valid call shows

module _ {rows : List Row} {js : List ℕ} {i : ℕ} (v : Valid rows js i) where
  pub load_rises : Rises (load rows js i)
  unfolding load
  load_rises =
      let r = rows_in_range v i v.inside in
      record {
        some = λ w h.
            le_trans (mul-pos (ceil_some (w + slice_index js i) (row rows i).period (omega arith) r.period.0) r.step.cost.0) (share_under rows i v.inside _);
        rise = load_under (part_whole rows js) i v.inside;
      }

module _ (p : Policy) (sound : Sound p) where
  module _ {rows : List Row} {js : List ℕ} {i : ℕ} (v : Valid rows js i) where
    demand_cost : (q w : ℕ) → (row rows i).step.cost ≤ demand p rows js i q w
    unfolding demand
    demand_cost q w = omega (arith, mul-le-mul_right (row rows i).step.cost (sound.own_some (row rows i) q))

    pub demand_rises : (q : ℕ) → Rises (demand p rows js i q)
    demand_rises q =
        let r = rows_in_range v i v.inside in
        record {
          some = λ w h. omega (arith, demand_cost q w, r.step.cost);
          rise = demand_under (part_whole rows js) i v.inside p sound q;
        }

    module _ {rows' : List Row} {js' : List ℕ} (part : Part rows js rows' js') where
      response_under : (q : ℕ) → AtMost (response p rows js i q) (response p rows' js' i q)
      unfolding response
      response_under q =
          rw (part.same i v.inside)
          (since_under (settled_under (demand_rises q) (λ w. demand_under part i v.inside p sound q w w (omega arith)) 4000000) _ _ _ _ (part.lower i v.inside) (le_refl _))

      worst_under : {l m : Option ℕ} → AtMost l m → AtMost (worst p rows js i l) (worst p rows' js' i m)
      unfolding worst
      worst_under over = over
      worst_under (within {m = l} {n = m} h) =
          largest_under (response p rows js i) (response p rows' js' i) (p.starts (row rows i) l) (p.starts (row rows' i) m)
          (rw (part.same i v.inside) (sound.starts_rise _ l m h)) (λ q k. response_under q)

      busy_under : AtMost (busy rows js i) (busy rows' js' i)
      unfolding busy
      busy_under = settled_under (load_rises v) (λ w. load_under part i v.inside w w (omega arith)) 1000000

  -- over, or what a valid call answers
  answer_cases : (rows : List Row) (js : List ℕ) (i : ℕ) (P : Option ℕ → Type 0) → P None → (Valid rows js i → P (worst p rows js i (busy rows js i))) → P (answer p rows js i)
  answer_cases rows js i P n y = by (valid rows js i) refl
    where
      by : (b : Bool) → valid rows js i ≡ b → P (answer p rows js i)
      by true e = rw (answer_valid p rows js i e) (y (valid_shows rows js i e))
      by false e = rw (answer_invalid p rows js i e) n

  -- a part of a call, valid if the call is, answers no more
  answer_under : {rows rows' : List Row} {js js' : List ℕ} {i : ℕ} → (Valid rows' js' i → Valid rows js i) → Part rows js rows' js' → AtMost (answer p rows js i) (answer p rows' js' i)
  answer_under {rows} {rows'} {js} {js'} {i} back part =
      answer_cases rows' js' i (AtMost (answer p rows js i)) over
      (λ w. let v = back w in rw (answer_valid p rows js i (valid_from rows js i v)) (worst_under v part (busy_under v part)))

  within_answer : (rows : List Row) (js : List ℕ) (i : ℕ) → Within 8000000 (answer p rows js i)
  unfolding worst response
  within_answer rows js i = answer_cases rows js i (Within 8000000) tt (λ v. by v (busy rows js i))
    where
      shifted : Valid rows js i → (at : ℕ) (o : Option ℕ) → Within 4000000 o → Within 8000000 (since (slice_index js i) at o)
      shifted v at None w = tt
      shifted v at (Some n) w = omega (arith, jitter_small v i v.inside)

      by : Valid rows js i → (o : Option ℕ) → Within 8000000 (worst p rows js i o)
      by v None = tt
      by v (Some l) = largest_within 8000000 (response p rows js i) (p.starts (row rows i) l) (λ q. shifted v (p.instant (row rows i) q) (settled (demand p rows js i q) 4000000) (settled_limit (demand p rows js i q) 4000000))

  cost_answer : (rows : List Row) (js : List ℕ) (i : ℕ) → AtMost (Some (slice_index js i + (row rows i).step.cost)) (answer p rows js i)
  unfolding busy response worst
  cost_answer rows js i = answer_cases rows js i (AtMost _) over (λ v. by v (settles (load rows js i) 1000000))
    where
      first : Valid rows js i → AtMost (Some (slice_index js i + (row rows i).step.cost)) (response p rows js i 0)
      first v =
          rw (sound.instant_zero (row rows i))
          (most_trans (within (omega arith)) (since_under (settled_within _ 4000000 (row rows i).step.cost (demand_cost v 0)) (slice_index js i) (slice_index js i) 0 0 (omega arith) (omega arith)))

      by : Valid rows js i → {o : Option ℕ} → FirstFixed (load rows js i) 1 1000000 o → AtMost (Some (slice_index js i + (row rows i).step.cost)) (worst p rows js i o)
      by v (none n) = over
      by v (one {v = l} h k e w) = most_trans (first v) (one_under _ _ 0 (sound.starts_some (row rows i) l (rows_in_range v i v.inside).period.0 h))

  pub laws : Laws (answer p)
  laws =
      record {
        invalid = answer_invalid p;
        bounded = λ rows js i n e. within_is (within_answer rows js i) e;
        jitters = λ rows js ks i u. answer_under (valid_under u) (part_jitters rows u);
        appended = λ rows more js ks i e. let v = valid_shows rows js i e in answer_under (λ w. v) (part_front rows more js ks v.one_each);
        cost = cost_answer;
      }
