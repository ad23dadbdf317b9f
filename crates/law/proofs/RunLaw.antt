-- Runs of calls: every call has one right answer, which the calls before it fix.
use Rattle.std.proofs.Common.{◌≡◌, ℕ, zero, suc, ◌+◌, ◌-◌, ◌≤◌, Bool, true, false, cond, not, eqb, leb, List, [], ◌∷◌, ◌++◌, map, length, replicate, is_some, Some, None, Option, Ok, Err, sym, refl, ap, ◌∙◌, true≢false, arith}
use mathlib.Core.Bool.{false≢true}
use lib.ListN.{length-map}
use Rattle.std.proofs.lemmas.Bool.{not-true, leb-true, le-leb, cond_both}
use Rattle.std.proofs.lemmas.Option.{none-some}
use Rattle.std.specs.Result.{is_ok}
use Rattle.records.specs.declared.fields.Row.{Row}
use Rattle.records.specs.declared.fields.StepFields.{StepFields}
use Rattle.records.specs.declared.record.Chain.{Chain}
use Rattle.records.specs.Ranges.{within, bad_step_field}
use Rattle.records.proofs.InRange.{within_true, chain_in_range, row_in_range, row_fits_from}
use Rattle.rules.specs.Rules.{Meaning, Laws}
use Rattle.rules.proofs.Lists.{Each, each_append, each_front, under_zeros}
use Rattle.law.specs.declared.answers.Reply.TheVariants.{Done, Solved, Told}
use Rattle.law.specs.declared.answers.Refusal.{Refusal}
use Rattle.law.specs.declared.answers.Refusal.TheVariants.{NotSolved, NothingCarries}
use Rattle.law.specs.Assignments.{Held, rows_of, Least, Rounds}
use Rattle.law.specs.Refusals.{forgets}
use Rattle.law.specs.Runs.{Call, Answer, Run, row_of, holding, without, costing, with_cost, recosted_chain, recosted, held, holds, steps_of, first_bad, need, need_fields, add_answer, drop_answer, at_step, recost_answer, told, standing, current, Start, Counted, Solves, Tells, Right, Lawful}
use Rattle.law.specs.Runs.Call.{add, drop, recost, solve, ask}
use Rattle.law.specs.Runs.Solves.{finds, finds_none}
use Rattle.law.proofs.Chains.{Fits, Fine}
use Rattle.law.proofs.MoreChains.{ready_push}
use Rattle.law.proofs.Rounds.{least_same, Ready, Ends, ready_zeros, ready_least, rounds_end, rounds_bound, rounds_fewest, rounds_same, rounds_exist}

-- ## Tests

not_refused : {why : Refusal} → Ok Done ≡ Err why → ⊥
not_refused e = true≢false (ap is_ok e)

pub need_done : (b : Bool) (why : Refusal) (rest : Answer) → Ok Done ≡ need b why rest → (b ≡ true) × (Ok Done ≡ rest)
need_done true why rest e = (refl, e)
need_done false why rest e = absurd (not_refused e)

need_fields_done : (o : Option ℕ) (rest : Answer) → Ok Done ≡ need_fields o rest → (o ≡ None) × (Ok Done ≡ rest)
need_fields_done None rest e = (refl, e)
need_fields_done (Some place) rest e = absurd (not_refused e)

-- an answer is the one named, or a refusal that forgets nothing
pub data OrRefused (wanted : Answer) : Answer → Type 0 where
  as_wanted : OrRefused wanted wanted
  refusal : {why : Refusal} → forgets why ≡ false → OrRefused wanted (Err why)

need_or : {wanted : Answer} (b : Bool) (why : Refusal) (rest : Answer) → forgets why ≡ false → OrRefused wanted rest → OrRefused wanted (need b why rest)
need_or true why rest f o = o
need_or false why rest f o = refusal f

need_fields_or : {wanted : Answer} (o : Option ℕ) (rest : Answer) → OrRefused wanted rest → OrRefused wanted (need_fields o rest)
need_fields_or None rest o = o
need_fields_or (Some place) rest o = refusal refl

at_step_or : (cs : List Held) (i k : ℕ) {wanted : Answer} (rest : Answer) → OrRefused wanted rest → OrRefused wanted (at_step cs i k rest)
at_step_or cs i k rest o = need_or (holds cs i) _ _ refl (need_or (within 1 (steps_of cs i) k) _ _ refl o)

pub add_or : (cs : List Held) (c : Chain) (steps : List StepFields) → OrRefused (Ok Done) (add_answer cs c steps)
add_or cs c steps =
    need_fields_or (first_bad steps) _ (need_or (within 1 16 (length steps)) _ _ refl (need_or (leb (length cs + 1) 16) _ _ refl
    (need_or (leb (length (rows_of cs) + length steps) 64) _ _ refl (need_or (not (holds cs c.fields.id)) _ _ refl as_wanted))))

pub drop_or : (cs : List Held) (i : ℕ) → OrRefused (Ok Done) (drop_answer cs i)
drop_or cs i = need_or (holds cs i) _ _ refl as_wanted

pub recost_or : (cs : List Held) (i k cost : ℕ) → OrRefused (Ok Done) (recost_answer cs i k cost)
recost_or cs i k cost = at_step_or cs i k _ (need_or (within 1 1000000 cost) _ _ refl as_wanted)

-- a refused add, drop or recost forgets nothing
pub refusal_mild : {a : Answer} {why : Refusal} → OrRefused (Ok Done) a → Err why ≡ a → forgets why ≡ false
refusal_mild as_wanted e = absurd (not_refused (sym e))
refusal_mild {why = why} (refusal {why = other} f) e = let s : why ≡ other = cc in rw s f

-- ## The chains held are fine

row_of_fits : (c : Chain) (s : StepFields) → bad_step_field s ≡ None → Fits (row_of c.fields.period s)
row_of_fits c s e =
    let p = (chain_in_range c.fields c.in_range).period in
    rw (le-leb 1 c.fields.period p.0, le-leb c.fields.period 1000000 p.1, e)

pub rows_fit : (c : Chain) (steps : List StepFields) → first_bad steps ≡ None → Each Fits (map (row_of c.fields.period) steps)
rows_fit c [] e = tt
rows_fit c (s ∷ steps) e = let w = both (bad_step_field s) e in (row_of_fits c s w.0, rows_fit c steps w.1)
  where
    both : (o : Option ℕ) → ◌≡◌ {A = Option ℕ} (elim o [ Some place ↦ Some place | None ↦ first_bad steps ]) None → (o ≡ None) × (first_bad steps ≡ None)
    both None e = (refl, e)
    both (Some place) e = absurd (none-some place (sym e))

-- what an add that is done passed
pub record AddDone (cs : List Held) (c : Chain) (steps : List StepFields) : Type 0 where
  pub fields : first_bad steps ≡ None
  pub count : (1 ≤ length steps) × (length steps ≤ 16)
  pub chains : length cs + 1 ≤ 16
  pub rows : length (rows_of cs) + length steps ≤ 64
  pub new_id : holds cs c.fields.id ≡ false

pub add_done : (cs : List Held) (c : Chain) (steps : List StepFields) → Ok Done ≡ add_answer cs c steps → AddDone cs c steps
add_done cs c steps e =
    let (a, e) = need_fields_done (first_bad steps) _ e in
    let (b, e) = need_done (within 1 16 (length steps)) _ _ e in
    let (d, e) = need_done (leb (length cs + 1) 16) _ _ e in
    let (f, e) = need_done (leb (length (rows_of cs) + length steps) 64) _ _ e in
    let (g, e) = need_done (not (holds cs c.fields.id)) _ _ e in
    record { fields = a; count = within_true 1 16 (length steps) b; chains = leb-true _ _ d; rows = leb-true _ _ f; new_id = not-true _ g }

added_fine : (cs : List Held) (c : Chain) (steps : List StepFields) → AddDone cs c steps → Fine (holding c steps)
added_fine cs c steps d =
    let range = chain_in_range c.fields c.in_range in
    record {
      some_row = rw (length-map steps (row_of c.fields.period)) d.count.0;
      fits = rows_fit c steps d.fields;
      deadline = range.deadline.1;
      arrival = range.arrival;
    }

-- the cost of a recost that is done is in range
pub recost_done : (cs : List Held) (i k cost : ℕ) → Ok Done ≡ recost_answer cs i k cost → (1 ≤ cost) × (cost ≤ 1000000)
recost_done cs i k cost e =
    let (a, e) = need_done (holds cs i) _ _ e in
    let (b, e) = need_done (within 1 (steps_of cs i) k) _ _ e in
    within_true 1 1000000 cost (need_done (within 1 1000000 cost) _ _ e).0

pub length_with_cost : (k cost : ℕ) (rs : List Row) → length (with_cost k cost rs) ≡ length rs
length_with_cost k cost [] = refl
length_with_cost zero cost (r ∷ rs) = refl
length_with_cost (suc k) cost (r ∷ rs) = ap suc (length_with_cost k cost rs)

-- a row that fits does so at another cost in range
pub costing_fits : (cost : ℕ) (r : Row) → (1 ≤ cost) × (cost ≤ 1000000) → Fits r → Fits (costing cost r)
costing_fits cost r range f =
    let i = row_in_range r f in
    let s = i.step in
    row_fits_from (costing cost r)
    (record {
      period = i.period;
      step = record { node = s.node; cost = range; local = s.local; delay = s.delay; blocking = s.blocking; priority = s.priority };
    })

fits_with_cost : (k cost : ℕ) (rs : List Row) → (1 ≤ cost) × (cost ≤ 1000000) → Each Fits rs → Each Fits (with_cost k cost rs)
fits_with_cost k cost [] c f = tt
fits_with_cost zero cost (r ∷ rs) c f = (costing_fits cost r c f.0, f.1)
fits_with_cost (suc k) cost (r ∷ rs) c f = (f.0, fits_with_cost k cost rs c f.1)

recosted_fine : (k cost : ℕ) → (1 ≤ cost) × (cost ≤ 1000000) → (c : Held) → Fine c → Fine (recosted_chain k cost c)
recosted_fine k cost range c f =
    record {
      some_row = rw (length_with_cost (k - 1) cost c.rows) f.some_row;
      fits = fits_with_cost (k - 1) cost c.rows range f.fits;
      deadline = f.deadline;
      arrival = f.arrival;
    }

-- what holds of each chain holds of each when one is dropped, or is recosted
pub each_without : (P : Held → Type 0) (i : ℕ) (cs : List Held) → Each P cs → Each P (without i cs)
each_without P i [] p = tt
each_without P i (c ∷ cs) p = cond_both (eqb c.chain.id i) cs (c ∷ without i cs) (Each P) (λ _. p.1) (λ _. (p.0, each_without P i cs p.1))

pub each_recosted : (P : Held → Type 0) (i k cost : ℕ) (cs : List Held) → ((c : Held) → P c → P (recosted_chain k cost c)) → Each P cs → Each P (recosted i k cost cs)
each_recosted P i k cost [] f p = tt
each_recosted P i k cost (c ∷ cs) f p =
    cond_both (eqb c.chain.id i) (recosted_chain k cost c ∷ cs) (c ∷ recosted i k cost cs) (Each P) (λ _. (f c p.0, p.1)) (λ _. (p.0, each_recosted P i k cost cs f p.1))

-- ## What a right answer can be

-- the kinds of call with a right answer
pub data Kind (answer : Meaning) (h : Run) : Call → Answer → Type 0 where
  added : {c : Chain} {steps : List StepFields} → Ok Done ≡ add_answer (held h) c steps → Kind answer h (add c steps) (Ok Done)
  dropped : {i : ℕ} → Kind answer h (drop i) (Ok Done)
  recosts : {i k cost : ℕ} → Ok Done ≡ recost_answer (held h) i k cost → Kind answer h (recost i k cost) (Ok Done)
  found : {n : ℕ} {xs : List ℕ} → Least answer (held h) xs → Kind answer h solve (Ok (Solved n))
  found_none : {n : ℕ} → Kind answer h solve (Err (NothingCarries n))
  asked : {i k j r : ℕ} → Kind answer h (ask i k) (Ok (Told (record { jitter = j; response = r })))
  turned_down : {c : Call} {why : Refusal} → forgets why ≡ false → Kind answer h c (Err why)

module _ (answer : Meaning) (h : Run) where
  kind_or : {c : Call} {wanted a : Answer} → (a ≡ wanted → Kind answer h c wanted) → OrRefused wanted a → Kind answer h c a
  kind_or k as_wanted = k refl
  kind_or k (refusal f) = turned_down f

  kind_solve : {a : Answer} → Solves answer h a → Kind answer h solve a
  kind_solve (finds least c) = found least
  kind_solve (finds_none none c) = found_none

  kind_ask : (i k : ℕ) (a : Answer) (b : Bool) → current h ≡ b → Tells answer h i k a → Kind answer h (ask i k) a
  kind_ask i k a true e t = let (xs, least, is) = t.solved e in kind_or (λ w. asked) (rw (← is) at (at_step_or (held h) i k (told (held h) xs i k) as_wanted))
  kind_ask i k a false e t = kind_or (λ w. turned_down refl) (rw (← t.unsolved e) at (at_step_or (held h) i k (Err NotSolved) as_wanted))

  pub kind : (c : Call) (a : Answer) → Right answer h c a → Kind answer h c a
  kind (add c steps) a e = kind_or (λ w. added (sym w ∙ e)) (rw (← e) at (add_or (held h) c steps))
  kind (drop i) a e = kind_or (λ w. dropped) (rw (← e) at (drop_or (held h) i))
  kind (recost i k cost) a e = kind_or (λ w. recosts (sym w ∙ e)) (rw (← e) at (recost_or (held h) i k cost))
  kind solve a s = kind_solve s
  kind (ask i k) a t = kind_ask i k a (current h) refl t

-- the chains held after a lawful run are fine
fine_after : {answer : Meaning} {h : Run} {c : Call} {a : Answer} → Each Fine (held h) → Kind answer h c a → Each Fine (held ((c, a) ∷ h))
fine_after {h = h} f (added {c} {steps} e) = each_append Fine (held h) (holding c steps ∷ []) f (added_fine (held h) c steps (add_done (held h) c steps e), tt)
fine_after {h = h} f (dropped {i}) = each_without Fine i (held h) f
fine_after {h = h} f (recosts {i} {k} {cost} e) = each_recosted Fine i k cost (held h) (recosted_fine k cost (recost_done (held h) i k cost e)) f
fine_after f (found least) = f
fine_after f found_none = f
fine_after f asked = f
fine_after f (turned_down w) = f

pub fine_held : (answer : Meaning) (h : Run) → Lawful answer h → Each Fine (held h)
fine_held answer [] l = tt
fine_held answer ((c, a) ∷ h) l = fine_after (fine_held answer h l.1) (kind answer h c a l.0)

-- ## Where a solve starts

-- after a lawful run there is one start, and it is ready
start_after : {answer : Meaning} {h : Run} {c : Call} {a : Answer} → (xs : List ℕ) × Start answer h xs → Kind answer h c a → (ys : List ℕ) × Start answer ((c, a) ∷ h) ys
start_after w (added e) = (_, Start.over_add w.1)
start_after w dropped = (_, Start.after_drop)
start_after w (recosts e) = (_, Start.after_recost)
start_after w (found least) = (_, Start.after_solve least)
start_after w found_none = (_, Start.after_nothing)
start_after w asked = (_, Start.over_question w.1)
start_after w (turned_down f) = (_, Start.over_refusal f w.1)

pub start_exists : (answer : Meaning) (h : Run) → Lawful answer h → (xs : List ℕ) × Start answer h xs
start_exists answer [] l = ([], Start.new)
start_exists answer ((c, a) ∷ h) l = start_after (start_exists answer h l.1) (kind answer h c a l.0)

pub start_same : {answer : Meaning} {h : Run} {xs ys : List ℕ} → Start answer h xs → Start answer h ys → xs ≡ ys
start_same Start.new Start.new = refl
start_same (Start.after_solve p) (Start.after_solve q) = least_same p q
start_same Start.after_nothing Start.after_nothing = refl
start_same Start.after_nothing (Start.over_refusal f t) = absurd (true≢false f)
start_same Start.after_drop Start.after_drop = refl
start_same Start.after_recost Start.after_recost = refl
start_same (Start.over_add {steps = steps} s) (Start.over_add t) = ap (λ xs. xs ++ replicate (length steps) 0) (start_same s t)
start_same (Start.over_question s) (Start.over_question t) = start_same s t
start_same (Start.over_refusal f s) (Start.over_refusal g t) = start_same s t
start_same (Start.over_refusal f s) Start.after_nothing = absurd (true≢false f)

module _ (answer : Meaning) (laws : Laws answer) where
  pub start_ready : {h : Run} {xs : List ℕ} → Each Fine (held h) → Start answer h xs → Ready answer (held h) xs
  start_ready f Start.new = ready_zeros answer laws [] f
  start_ready f (Start.after_solve {h} least) = ready_least answer laws (held h) f least
  start_ready f (Start.after_nothing {h}) = ready_zeros answer laws (held h) f
  start_ready {h} f Start.after_drop = ready_zeros answer laws (held h) f
  start_ready {h} f Start.after_recost = ready_zeros answer laws (held h) f
  start_ready f (Start.over_add {h} {c} {steps} s) =
      rw (length-map steps (row_of c.fields.period)) at (ready_push answer laws (held h) (holding c steps) f (start_ready (each_front Fine (held h) (holding c steps ∷ []) f) s))
  start_ready f (Start.over_question s) = start_ready f s
  start_ready f (Start.over_refusal g s) = start_ready f s

  -- ## What a solve counts

  -- rounds from the start are counted as a solve counts them
  pub counted : {h : Run} {xs : List ℕ} {n : ℕ} {end : Option (List ℕ)} → Each Fine (held h) → Start answer h xs → Rounds answer (held h) xs n end → Counted answer h n end
  counted {h} {xs} f s rs =
      let w = start_ready f s in
      let b = rounds_bound answer laws (held h) f w.ascending rs in
      record {
        start = xs;
        starts = s;
        made = rs;
        bound = omega arith;
        from_zeros = λ m other zs. rounds_fewest answer laws (held h) f (under_zeros _ xs w.ascending.one_each) w.below_all zs rs;
      }

  pub counted_ends : {h : Run} {n : ℕ} {end : Option (List ℕ)} → Each Fine (held h) → Counted answer h n end → Ends answer (held h) end
  counted_ends {h} f c = rounds_end answer laws (held h) f (start_ready f c.starts).below_all c.made

  pub counted_same : {h : Run} {m n : ℕ} {end other : Option (List ℕ)} → Each Fine (held h) → Counted answer h m end → Counted answer h n other → (m ≡ n) × (end ≡ other)
  counted_same {h} f c d = rounds_same answer laws (held h) f c.made (rw (start_same d.starts c.starts) at d.made)

  -- from the start, the rounds come to an end
  pub counted_exists : {h : Run} {xs : List ℕ} → Each Fine (held h) → Start answer h xs → (n : ℕ) × (end : Option (List ℕ)) × Rounds answer (held h) xs n end × Counted answer h n end
  counted_exists {h} f s =
      let (n, end, rs) = rounds_exist answer laws (held h) f (start_ready f s).ascending in
      (n, end, rs, counted f s rs)

-- a solve's answer is what its rounds end in
abbrev pub verdict : ℕ → Option (List ℕ) → Answer
verdict n None = Err (NothingCarries n)
verdict n (Some xs) = Ok (Solved n)

module _ (answer : Meaning) (laws : Laws answer) (h : Run) where
  pub verdict_solves : (n : ℕ) (end : Option (List ℕ)) → Each Fine (held h) → Counted answer h n end → Solves answer h (verdict n end)
  verdict_solves n None f c = finds_none (counted_ends answer laws f c) c
  verdict_solves n (Some xs) f c = finds (counted_ends answer laws f c) c

  solves_verdict : {a : Answer} → Solves answer h a → (n : ℕ) × (end : Option (List ℕ)) × Counted answer h n end × (a ≡ verdict n end)
  solves_verdict (finds {n} {xs} least c) = (n, Some xs, c, refl)
  solves_verdict (finds_none {n} none c) = (n, None, c, refl)

  solves_same : (a b : Answer) → Each Fine (held h) → Solves answer h a → Solves answer h b → a ≡ b
  solves_same a b f s t =
      let (m, end, c, p) = solves_verdict s in
      let (n, other, d, q) = solves_verdict t in
      let (same_rounds, same_end) = counted_same answer laws f c d in
      cc

-- ## While a solve stands

-- the least responses, from which a next solve starts
abbrev pub Stands : Meaning → Run → Type 0
Stands answer h = (xs : List ℕ) × Start answer h xs × Least answer (held h) xs

stays : (why : Refusal) (o : Option ℕ) → forgets why ≡ false → is_some (cond (forgets why) None o) ≡ true → is_some o ≡ true
stays why o f e = rw f at e

stands_after : {answer : Meaning} {h : Run} {c : Call} {a : Answer} → (current h ≡ true → Stands answer h) → Kind answer h c a → current ((c, a) ∷ h) ≡ true → Stands answer ((c, a) ∷ h)
stands_after s (added e) t = absurd (false≢true t)
stands_after s dropped t = absurd (false≢true t)
stands_after s (recosts e) t = absurd (false≢true t)
stands_after s (found least) t = (_, Start.after_solve least, least)
stands_after s found_none t = absurd (false≢true t)
stands_after s asked t = let w = s t in (w.0, Start.over_question w.1, w.2)
stands_after {h = h} s (turned_down {why = why} f) t = let w = s (stays why (standing h) f t) in (w.0, Start.over_refusal f w.1, w.2)

pub current_stands : (answer : Meaning) (h : Run) → Lawful answer h → current h ≡ true → Stands answer h
current_stands answer [] l t = absurd (false≢true t)
current_stands answer ((c, a) ∷ h) l t = stands_after (current_stands answer h l.1) (kind answer h c a l.0) t

-- ## One right answer

module _ (answer : Meaning) (laws : Laws answer) (h : Run) (l : Lawful answer h) where
  ask_answered : (i k : ℕ) (b : Bool) → current h ≡ b → (a : Answer) × Tells answer h i k a
  ask_answered i k true e =
      let (xs, start, least) = current_stands answer h l e in
      (at_step (held h) i k (told (held h) xs i k), record { solved = λ _. (xs, least, refl); unsolved = λ d. absurd (true≢false (sym e ∙ d)) })
  ask_answered i k false e = (at_step (held h) i k (Err NotSolved), record { solved = λ d. absurd (false≢true (sym e ∙ d)); unsolved = λ _. refl })

  -- every call has a right answer
  pub answered : (c : Call) → (a : Answer) × Right answer h c a
  answered (add c steps) = (_, refl)
  answered (drop i) = (_, refl)
  answered (recost i k cost) = (_, refl)
  answered solve =
      let f = fine_held answer h l in
      let (n, end, rs, c) = counted_exists answer laws f (start_exists answer h l).1 in
      (verdict n end, verdict_solves answer laws h n end f c)
  answered (ask i k) = ask_answered i k (current h) refl

  ask_same : (i k : ℕ) (a b : Answer) (now : Bool) → current h ≡ now → Tells answer h i k a → Tells answer h i k b → a ≡ b
  ask_same i k a b true e s t =
      let (xs, p, is) = s.solved e in
      let (ys, q, also) = t.solved e in
      let same = least_same p q in
      cc
  ask_same i k a b false e s t = s.unsolved e ∙ sym (t.unsolved e)

  -- and only one
  pub right_same : (c : Call) (a b : Answer) → Right answer h c a → Right answer h c b → a ≡ b
  right_same (add c steps) a b p q = cc
  right_same (drop i) a b p q = cc
  right_same (recost i k cost) a b p q = cc
  right_same solve a b p q = solves_same answer laws h a b (fine_held answer h l) p q
  right_same (ask i k) a b p q = ask_same i k a b (current h) refl p q
