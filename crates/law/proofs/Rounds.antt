-- Rounds of a monotone node rule: what they end in, and how many there are.
use Rattle.std.proofs.Common.{◌≡◌, ℕ, zero, suc, ◌+◌, ◌-◌, ◌<◌, ◌≤◌, ◌⊎◌, List, [], ◌∷◌, length, get_or, Some, None, Option, sym, refl, ap, ◌∙◌, inl, inr, arith}
use native.Mathlib.Decide.{dec_le}
use lib.ListN.{length-replicate}
use Rattle.std.proofs.lemmas.List.{ext_get_or}
use Rattle.climb.specs.Answers.{AtMost}
use Rattle.climb.proofs.Answers.{most_trans, most_refl, most_le, most_zero, over_within}
use Rattle.rules.specs.Rules.{Meaning, Under, Laws}
use Rattle.rules.specs.Rules.Under.{ended, beside}
use Rattle.rules.proofs.Lists.{Each, under_from, under_trans, under_same, under_zeros}
use Rattle.law.specs.Assignments.{Held, rows_of, deadlines_of, jitters_of, zeros, total, Carries, Least, Round, Rounds}
use Rattle.law.proofs.Chains.{get_or_zeros, under_total, under_full, length_jitters, jitters_under, Fine, length_deadlines, in_time_rising, under_in_time}

-- ## Answers

-- a number for each place below n: what f says there
abbrev pub Answers : (ℕ → Option ℕ) → ℕ → List ℕ → Type 0
Answers f n ys = (length ys ≡ n) × ((i : ℕ) → i < n → f i ≡ Some (get_or ys i 0))

-- a number at every place, or a place that is over
abbrev AllOrOver : (ℕ → Option ℕ) → ℕ → Type 0
AllOrOver f n = ((ys : List ℕ) × Answers f n ys) ⊎ ((i : ℕ) × (i < n) × (f i ≡ None))

all_or_over : (f : ℕ → Option ℕ) (n : ℕ) → AllOrOver f n
all_or_over f zero = inl ([], (refl, λ i h. absurd (omega arith)))
all_or_over f (suc n) = first (f 0) refl (all_or_over (λ i. f (suc i)) n)
  where
    first : (o : Option ℕ) → f 0 ≡ o → AllOrOver (λ i. f (suc i)) n → AllOrOver f (suc n)
    first None e w = inr (0, omega arith, e)
    first (Some y) e (inr (i, h, g)) = inr (suc i, omega arith, g)
    first (Some y) e (inl (ys, (l, a))) = inl (y ∷ ys, (ap suc l, elim [ zero ↦ λ h. e | suc i ↦ λ h. a i (omega arith) ]))

answers_under : {f : ℕ → Option ℕ} {n : ℕ} (ys zs : List ℕ) → Answers f n ys → length zs ≡ n → ((i : ℕ) → i < n → AtMost (f i) (Some (get_or zs i 0))) → Under ys zs
answers_under ys zs a l e =
    let m = a.0 in
    under_from ys zs (cc) (λ i h. most_le (rw (a.1 i (omega arith)) at (e i (omega arith))))

answers_same : {f : ℕ → Option ℕ} {n : ℕ} (ys zs : List ℕ) → Answers f n ys → Answers f n zs → ys ≡ zs
answers_same {f} {n} ys zs a b =
    let l = a.0 in
    let m = b.0 in
    ext_get_or 0 ys zs (cc) (λ i h. let k : i < n = omega arith in let p = a.1 i k in let q = b.1 i k in cc)

dec_under : (xs ys : List ℕ) → Dec (Under xs ys)
dec_under [] [] = yes ended
dec_under [] (y ∷ ys) = no (λ u. elim u [ ])
dec_under (x ∷ xs) [] = no (λ u. elim u [ ])
dec_under (x ∷ xs) (y ∷ ys) = both (dec_le x y) (dec_under xs ys)
  where
    heads : Under (x ∷ xs) (y ∷ ys) → x ≤ y
    heads (beside h u) = h

    tails : Under (x ∷ xs) (y ∷ ys) → Under xs ys
    tails (beside h u) = u

    both : Dec (x ≤ y) → Dec (Under xs ys) → Dec (Under (x ∷ xs) (y ∷ ys))
    both (yes h) (yes u) = yes (beside h u)
    both (yes h) (no u) = no (λ v. u (tails v))
    both (no h) w = no (λ v. h (heads v))

module _ (answer : Meaning) (cs : List Held) where
  -- every row's answer, at the jitters that xs makes, is at most its number in zs
  abbrev pub Enough : List ℕ → List ℕ → Type 0
  Enough xs zs = (i : ℕ) → i < length (rows_of cs) → AtMost (answer (rows_of cs) (jitters_of cs xs) i) (Some (get_or zs i 0))

  -- one number for each row, and one round does not lower xs
  pub record Ascending (xs : List ℕ) : Type 0 where
    pub one_each : length xs ≡ length (rows_of cs)
    pub rises : (i : ℕ) → i < length (rows_of cs) → AtMost (Some (get_or xs i 0)) (answer (rows_of cs) (jitters_of cs xs) i)

  abbrev pub BelowAll : List ℕ → Type 0
  BelowAll xs = (ys : List ℕ) → Carries answer cs ys → Under xs ys

  -- where a solve may start
  pub record Ready (xs : List ℕ) : Type 0 where
    pub ascending : Ascending xs
    pub in_time : Under xs (deadlines_of cs)
    pub below_all : BelowAll xs

  -- what rounds end in
  abbrev pub Ends : Option (List ℕ) → Type 0
  Ends None = (ys : List ℕ) → Carries answer cs ys → ⊥
  Ends (Some xs) = Least answer cs xs

-- there is one least assignment
pub least_same : {answer : Meaning} {cs : List Held} {xs ys : List ℕ} → Least answer cs xs → Least answer cs ys → xs ≡ ys
least_same p q = under_same (p.below_all _ q.carries) (q.below_all _ p.carries)

module _ (answer : Meaning) (laws : Laws answer) (cs : List Held) (fine : Each Fine cs) where
  -- 2. in an assignment that carries the chains every number is at most its chain's deadline
  pub carries_in_time : {xs : List ℕ} → Carries answer cs xs → Under xs (deadlines_of cs)
  carries_in_time {xs} c = in_time_rising cs xs fine (under_from (jitters_of cs xs) xs (length_jitters cs xs ∙ sym c.one_each) above) c.in_time
    where
      above : (i : ℕ) → i < length (jitters_of cs xs) → get_or (jitters_of cs xs) i 0 ≤ get_or xs i 0
      above i h =
          let l = length_jitters cs xs in
          let k = most_le (most_trans (laws.cost (rows_of cs) (jitters_of cs xs) i) (c.enough i (omega arith))) in
          omega arith

  rule_under : {xs ys : List ℕ} → Under xs ys → (i : ℕ) → AtMost (answer (rows_of cs) (jitters_of cs xs) i) (answer (rows_of cs) (jitters_of cs ys) i)
  rule_under u i = laws.jitters (rows_of cs) _ _ i (jitters_under cs u)

  enough_under : {xs ys : List ℕ} (zs : List ℕ) → Under xs ys → Enough answer cs ys zs → Enough answer cs xs zs
  enough_under zs u e i h = most_trans (rule_under u i) (e i h)

  round_enough : {xs ys : List ℕ} → Round answer cs xs ys → Enough answer cs xs ys
  round_enough r i h = rw (r.answers i h) (most_refl (Some _))

  abbrev answers_at : List ℕ → ℕ → Option ℕ
  answers_at xs = answer (rows_of cs) (jitters_of cs xs)

  abbrev answers_of : {xs ys : List ℕ} → Round answer cs xs ys → Answers (answers_at xs) (length (rows_of cs)) ys
  answers_of r = (r.one_each, r.answers)

  -- a round from xs stays under whatever is enough for xs, and above xs if xs ascends
  round_under : {xs ys : List ℕ} (zs : List ℕ) → Round answer cs xs ys → length zs ≡ length (rows_of cs) → Enough answer cs xs zs → Under ys zs
  round_under {xs} {ys} zs r = answers_under ys zs (answers_of r)

  round_above : {xs ys : List ℕ} → Ascending answer cs xs → Round answer cs xs ys → Under xs ys
  round_above {xs} {ys} a r =
      let l = a.one_each in
      let m = r.one_each in
      under_from xs ys (cc) (λ i h. let k : i < length (rows_of cs) = omega arith in most_le (rw (r.answers i k) at (a.rises i k)))

  -- there is a round from xs if something in time is enough for xs
  round_from : (xs zs : List ℕ) → length zs ≡ length (rows_of cs) → Under zs (deadlines_of cs) → Enough answer cs xs zs → (ys : List ℕ) × Round answer cs xs ys
  round_from xs zs l u e = made (all_or_over (answers_at xs) (length (rows_of cs)))
    where
      made : AllOrOver (answers_at xs) (length (rows_of cs)) → (ys : List ℕ) × Round answer cs xs ys
      made (inr (i, h, g)) = absurd (over_within g (e i h))
      made (inl (ys, a)) = (ys, record { one_each = a.0; answers = a.1; in_time = under_trans (answers_under ys zs a l e) u })

  abbrev RoundOrNone : List ℕ → Type 0
  RoundOrNone xs = ((ys : List ℕ) × Round answer cs xs ys) ⊎ ((ys : List ℕ) → Round answer cs xs ys → ⊥)

  pub round_or_none : (xs : List ℕ) → RoundOrNone xs
  round_or_none xs = by (all_or_over (answers_at xs) (length (rows_of cs)))
    where
      timed : (ys : List ℕ) → Answers (answers_at xs) (length (rows_of cs)) ys → Dec (Under ys (deadlines_of cs)) → RoundOrNone xs
      timed ys a (yes u) = inl (ys, record { one_each = a.0; answers = a.1; in_time = u })
      timed ys a (no u) = inr (λ zs r. u (rw (answers_same zs ys (answers_of r) a) at r.in_time))

      by : AllOrOver (answers_at xs) (length (rows_of cs)) → RoundOrNone xs
      by (inr (i, h, g)) = inr (λ zs r. over_within g (round_enough r i h))
      by (inl (ys, a)) = timed ys a (dec_under ys (deadlines_of cs))

  -- 3. what rounds from below every carrying assignment end in
  carries_from : {xs : List ℕ} → Round answer cs xs xs → Carries answer cs xs
  carries_from {xs} r = record { one_each = r.one_each; enough = round_enough r; in_time = under_in_time cs xs fine r.in_time }

  step_below : {xs ys : List ℕ} → Round answer cs xs ys → BelowAll answer cs xs → BelowAll answer cs ys
  step_below r b zs c = round_under zs r c.one_each (enough_under zs (b zs c) c.enough)

  pub rounds_end : {xs : List ℕ} {n : ℕ} {end : Option (List ℕ)} → BelowAll answer cs xs → Rounds answer cs xs n end → Ends answer cs end
  rounds_end {xs} b (Rounds.refuses no_round) = λ zs c. let w = round_from xs zs c.one_each (carries_in_time c) (enough_under zs (b zs c) c.enough) in no_round w.0 w.1
  rounds_end b (Rounds.settles r) = record { carries = carries_from r; below_all = b }
  rounds_end b (Rounds.goes_on r ne rs) = rounds_end (step_below r b) rs

  -- 4. how many rounds there are from an ascending start
  step_ascends : {xs ys : List ℕ} → Ascending answer cs xs → Round answer cs xs ys → Ascending answer cs ys
  step_ascends a r = record { one_each = r.one_each; rises = λ i h. rw (r.answers i h) at (rule_under (round_above a r) i) }

  -- a round changes nothing, or it adds to the total
  pub settled_or_more : {xs ys : List ℕ} → Ascending answer cs xs → Round answer cs xs ys → (xs ≡ ys) ⊎ (total xs < total ys)
  settled_or_more {xs} {ys} a r = by (dec_le (total ys) (total xs))
    where
      by : Dec (total ys ≤ total xs) → (xs ≡ ys) ⊎ (total xs < total ys)
      by (yes h) = inl (under_full (round_above a r) h)
      by (no h) = inr (omega arith)

  pub rounds_bound : {xs : List ℕ} {n : ℕ} {end : Option (List ℕ)} → Ascending answer cs xs → Rounds answer cs xs n end → n ≤ 1 + (total (deadlines_of cs) - total xs)
  rounds_bound a (Rounds.refuses no_round) = omega arith
  rounds_bound a (Rounds.settles r) = omega arith
  rounds_bound a (Rounds.goes_on r ne rs) =
      let k = rounds_bound (step_ascends a r) rs in
      let u = under_total r.in_time in
      elim (settled_or_more a r) [ inl e ↦ absurd (ne e) | inr t ↦ omega arith ]

  -- from below there are no fewer rounds
  pub rounds_fewest : {xs ys : List ℕ} {m n : ℕ} {end other : Option (List ℕ)} → Under xs ys → BelowAll answer cs ys → Rounds answer cs xs m end → Rounds answer cs ys n other → n ≤ m
  rounds_fewest u b (Rounds.refuses no_round) (Rounds.refuses no_other) = omega arith
  rounds_fewest u b (Rounds.refuses no_round) (Rounds.settles r) = omega arith
  rounds_fewest {xs} u b (Rounds.refuses no_round) (Rounds.goes_on {ys = zs} r ne rs) = let w = round_from xs zs r.one_each r.in_time (enough_under zs u (round_enough r)) in absurd (no_round w.0 w.1)
  rounds_fewest u b (Rounds.settles q) (Rounds.refuses no_other) = omega arith
  rounds_fewest u b (Rounds.settles q) (Rounds.settles r) = omega arith
  rounds_fewest {xs} {ys} u b (Rounds.settles q) (Rounds.goes_on {ys = zs} r ne rs) =
      let e = under_same (b xs (carries_from q)) u in
      absurd (ne (e ∙ answers_same xs zs (answers_of q) (answers_of (rw e at r))))
  rounds_fewest u b (Rounds.goes_on q me qs) (Rounds.refuses no_other) = omega arith
  rounds_fewest u b (Rounds.goes_on q me qs) (Rounds.settles r) = omega arith
  rounds_fewest u b (Rounds.goes_on {ys = zs} q me qs) (Rounds.goes_on {ys = ws} r ne rs) = let k = rounds_fewest (round_under ws q r.one_each (enough_under ws u (round_enough r))) (step_below r b) qs rs in omega arith

  -- and what they end in, and after how many, is one thing
  pub rounds_same : {xs : List ℕ} {m n : ℕ} {end other : Option (List ℕ)} → Rounds answer cs xs m end → Rounds answer cs xs n other → (m ≡ n) × (end ≡ other)
  rounds_same (Rounds.refuses no_round) (Rounds.refuses no_other) = (refl, refl)
  rounds_same (Rounds.refuses no_round) (Rounds.settles r) = absurd (no_round _ r)
  rounds_same (Rounds.refuses no_round) (Rounds.goes_on r ne rs) = absurd (no_round _ r)
  rounds_same (Rounds.settles q) (Rounds.refuses no_other) = absurd (no_other _ q)
  rounds_same (Rounds.settles q) (Rounds.settles r) = (refl, refl)
  rounds_same (Rounds.settles q) (Rounds.goes_on r ne rs) = absurd (ne (answers_same _ _ (answers_of q) (answers_of r)))
  rounds_same (Rounds.goes_on q me qs) (Rounds.refuses no_other) = absurd (no_other _ q)
  rounds_same (Rounds.goes_on q me qs) (Rounds.settles r) = absurd (me (answers_same _ _ (answers_of r) (answers_of q)))
  rounds_same (Rounds.goes_on q me qs) (Rounds.goes_on r ne rs) =
      let w = rounds_same qs (rw (answers_same _ _ (answers_of r) (answers_of q)) at rs) in
      (ap (λ k. k + 1) w.0, w.1)

  -- rounds come to an end
  abbrev Ending : List ℕ → Type 0
  Ending xs = (n : ℕ) × (end : Option (List ℕ)) × Rounds answer cs xs n end

  rounds_within : (fuel : ℕ) (xs : List ℕ) → Ascending answer cs xs → total (deadlines_of cs) - total xs < fuel → Ending xs
  rounds_within zero xs a h = absurd (omega arith)
  rounds_within (suc fuel) xs a h = by (rounds_within fuel) (round_or_none xs)
    where
      more : ((ys : List ℕ) → Ascending answer cs ys → total (deadlines_of cs) - total ys < fuel → Ending ys) → (ys : List ℕ) → Round answer cs xs ys → (xs ≡ ys) ⊎ (total xs < total ys) → Ending xs
      more rec ys r (inl e) = (1, Some xs, Rounds.settles (rw (← e) at r))
      more rec ys r (inr t) =
          let u = under_total r.in_time in
          let w = rec ys (step_ascends a r) (omega arith) in
          (w.0 + 1, w.1, Rounds.goes_on r (λ e. let k = ap total e in omega arith) w.2)

      by : ((ys : List ℕ) → Ascending answer cs ys → total (deadlines_of cs) - total ys < fuel → Ending ys) → RoundOrNone xs → Ending xs
      by rec (inr none) = (1, None, Rounds.refuses none)
      by rec (inl (ys, r)) = more rec ys r (settled_or_more a r)

  pub rounds_exist : {xs : List ℕ} → Ascending answer cs xs → Ending xs
  rounds_exist {xs} a = rounds_within (1 + total (deadlines_of cs)) xs a (omega arith)

  -- a round from the least assignment changes nothing
  pub least_round : {xs : List ℕ} → Least answer cs xs → Round answer cs xs xs
  least_round {xs} least =
      let c = least.carries in
      let (ys, r) = round_from xs xs c.one_each (carries_in_time c) c.enough in
      let u = round_under xs r c.one_each c.enough in
      let again : Carries answer cs ys = record { one_each = r.one_each; enough = enough_under ys u (round_enough r); in_time = under_in_time cs ys fine r.in_time } in
      rw (under_same u (least.below_all ys again)) at r

  -- ready starts: the least assignment, and zeros
  pub ready_least : {xs : List ℕ} → Least answer cs xs → Ready answer cs xs
  ready_least least =
      let r = least_round least in
      record {
        ascending = record { one_each = r.one_each; rises = λ i h. rw (r.answers i h) (most_refl (Some _)) };
        in_time = r.in_time;
        below_all = least.below_all;
      }

  pub ready_zeros : Ready answer cs (zeros cs)
  ready_zeros =
      let n = length (rows_of cs) in
      record {
        ascending = record { one_each = length-replicate n 0; rises = λ i h. rw get_or_zeros (most_zero _) };
        in_time = under_zeros n (deadlines_of cs) (length_deadlines cs);
        below_all = λ ys c. under_zeros n ys c.one_each;
      }
