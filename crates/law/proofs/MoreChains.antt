-- More chains: a start that is ready stays so when chains are added.
use Rattle.std.proofs.Common.{◌≡◌, ℕ, suc, ◌+◌, ◌<◌, ◌≤◌, List, [], ◌∷◌, ◌++◌, length, get_or, take, drop, replicate, Some, refl, ap, arith, length-append}
use native.Mathlib.Decide.{dec_le}
use lib.ListN.{length-replicate}
use Rattle.std.proofs.lemmas.List.{get_or_append_left, take-append-drop, length-take-le, length-drop, append_assoc, append-nil, drop-append-le, get_or-append_right}
use Rattle.records.specs.declared.fields.Row.{Row}
use Rattle.climb.specs.Answers.{AtMost}
use Rattle.climb.proofs.Answers.{most_trans, most_zero}
use Rattle.rules.specs.Rules.{Meaning, Under, Laws}
use Rattle.rules.proofs.Lists.{Each, under_append, under_front, under_zeros, each_front}
use Rattle.law.specs.Assignments.{Held, rows_of, deadlines_of, jitters_in, jitters_of, zeros, Carries}
use Rattle.law.proofs.Chains.{get_or_zeros, Fine, length_deadlines, under_in_time, call_valid}
use Rattle.law.proofs.Rounds.{BelowAll, Ready, carries_in_time}

-- ## More chains

rows_append : (cs ds : List Held) → rows_of (cs ++ ds) ≡ rows_of cs ++ rows_of ds
rows_append [] ds = refl
rows_append (c ∷ cs) ds = simp (rows_append cs ds, append_assoc)

deadlines_append : (cs ds : List Held) → deadlines_of (cs ++ ds) ≡ deadlines_of cs ++ deadlines_of ds
deadlines_append [] ds = refl
deadlines_append (c ∷ cs) ds = simp (deadlines_append cs ds, append_assoc)

jitters_in_front : (b : ℕ) (rs : List Row) (xs ys : List ℕ) → length rs ≤ length xs → jitters_in b rs (xs ++ ys) ≡ jitters_in b rs xs
jitters_in_front b [] xs ys h = refl
jitters_in_front b (r ∷ rs) [] ys h = absurd (omega arith)
jitters_in_front b (r ∷ rs) (x ∷ xs) ys h = ap (λ js. (b + r.step.delay) ∷ js) (jitters_in_front x rs xs ys (omega arith))

jitters_append : (cs ds : List Held) (xs ys : List ℕ) → length xs ≡ length (rows_of cs) → jitters_of (cs ++ ds) (xs ++ ys) ≡ jitters_of cs xs ++ jitters_of ds ys
jitters_append [] ds [] ys l = refl
jitters_append [] ds (x ∷ xs) ys l = absurd (omega arith)
jitters_append (c ∷ cs) ds xs ys l =
    let n = length c.rows in
    let k = length-append c.rows (rows_of cs) in
    let m = length-drop n xs in
    let h : n ≤ length xs = omega arith in
    simp (jitters_in_front c.chain.arrival_jitter c.rows xs ys h, drop-append-le n xs ys h, jitters_append cs ds (drop n xs) ys (omega arith), append_assoc)

pub length_rows_append : (cs ds : List Held) → length (rows_of (cs ++ ds)) ≡ length (rows_of cs) + length (rows_of ds)
length_rows_append cs ds = simp (rows_append, length-append)

module _ (answer : Meaning) (laws : Laws answer) (cs ds : List Held) (all : Each Fine (cs ++ ds)) where
  rule_append : (xs ys : List ℕ) (i : ℕ) → length xs ≡ length (rows_of cs) → Under xs (deadlines_of cs) → i < length (rows_of cs) →
      AtMost (answer (rows_of cs) (jitters_of cs xs) i) (answer (rows_of (cs ++ ds)) (jitters_of (cs ++ ds) (xs ++ ys)) i)
  rule_append xs ys i l u h =
      rw (rows_append cs ds, jitters_append cs ds xs ys l) (laws.appended (rows_of cs) (rows_of ds) (jitters_of cs xs) (jitters_of ds ys) i (call_valid cs i (each_front Fine cs ds all) u h))

  carries_front : (xs ys : List ℕ) → length xs ≡ length (rows_of cs) → Carries answer (cs ++ ds) (xs ++ ys) → Carries answer cs xs
  carries_front xs ys l c =
      let k = length_deadlines cs in
      let m = length_rows_append cs ds in
      let t : Under xs (deadlines_of cs) = under_front xs (deadlines_of cs) ys (deadlines_of ds) (cc) (rw deadlines_append at (carries_in_time answer laws (cs ++ ds) all c)) in
      record {
        one_each = l;
        enough = λ i h. rw (get_or_append_left xs ys 0 i (omega arith)) at (most_trans (rule_append xs ys i l t h) (c.enough i (omega arith)));
        in_time = under_in_time cs xs (each_front Fine cs ds all) t;
      }

  -- 5. a ready start stays so when chains are added
  pub ready_append : {xs : List ℕ} → Ready answer cs xs → Ready answer (cs ++ ds) (xs ++ zeros ds)
  ready_append {xs} s =
      record {
        ascending = record {
          one_each = let l = s.ascending.one_each in simp (rows_append, length-append, length-replicate) (omega arith);
          rises = λ i h. by i (dec_le (suc i) (length xs));
        };
        in_time = rw deadlines_append (under_append s.in_time (under_zeros (length (rows_of ds)) (deadlines_of ds) (length_deadlines ds)));
        below_all = below;
      }
    where
      by : (i : ℕ) → Dec (i < length xs) → AtMost (Some (get_or (xs ++ zeros ds) i 0)) (answer (rows_of (cs ++ ds)) (jitters_of (cs ++ ds) (xs ++ zeros ds)) i)
      by i (yes h) =
          let l = s.ascending.one_each in
          let k : i < length (rows_of cs) = omega arith in
          rw (get_or_append_left xs (zeros ds) 0 i h) (most_trans (s.ascending.rises i k) (rule_append xs (zeros ds) i l s.in_time k))
      by i (no h) = rw (get_or-append_right xs (zeros ds) (length xs) i 0 refl (omega arith), get_or_zeros) (most_zero _)

      below : BelowAll answer (cs ++ ds) (xs ++ zeros ds)
      below zs c =
          let n = length (rows_of cs) in
          let m = length_rows_append cs ds in
          let l = c.one_each in
          let d = length-drop n zs in
          let e = take-append-drop n zs in
          let front = carries_front (take n zs) (drop n zs) (length-take-le n zs (omega arith)) (rw (← e) at c) in
          rw (← e) (under_append (s.below_all (take n zs) front) (under_zeros (length (rows_of ds)) (drop n zs) (omega arith)))

module _ (answer : Meaning) (laws : Laws answer) (cs : List Held) (c : Held) (all : Each Fine (cs ++ c ∷ [])) where
  pub ready_push : {xs : List ℕ} → Ready answer cs xs → Ready answer (cs ++ c ∷ []) (xs ++ replicate (length c.rows) 0)
  ready_push s = rw (append-nil c.rows) at (ready_append answer laws cs (c ∷ []) all s)
