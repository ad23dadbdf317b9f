-- Where a named step stands, and what a question answers.
use Rattle.std.proofs.Common.{◌≡◌, ℕ, ◌+◌, ◌-◌, ◌<◌, ◌≤◌, Bool, true, false, cond, eqb, List, [], ◌∷◌, length, get_or, is_some, Some, None, Ok, Err, Result, refl, ap, ◌∙◌, arith, length-append}
use Rattle.records.specs.Ranges.{within}
use Rattle.rules.specs.Rules.{Meaning}
use Rattle.law.specs.declared.answers.Reply.TheVariants.{Told}
use Rattle.law.specs.declared.answers.Refusal.{Refusal}
use Rattle.law.specs.declared.answers.Refusal.TheVariants.{NotSolved, IdUnknown, NoSuchStep}
use Rattle.law.specs.Assignments.{Held, rows_of, jitters_of}
use Rattle.law.specs.Runs.{Answer, holds, first_row, steps_of, place_of, need, at_step, told}
use Rattle.law.specs.Runs.Call.{ask}
use Rattle.law.specs.State.{Contents, ask_answer, Keeps}
use Rattle.law.proofs.Steps.{ask_keeps}
use Rattle.plan.specs.declared.table.Span.{Span}
use Rattle.plan.specs.declared.table.Table.{Table}
use Rattle.plan.specs.Contents.{chains_of, steps_in, chain_number, span_of, row_named}
use Rattle.plan.proofs.Memory.{rows_are}

-- ## The row of a named step

-- a step that is held has a row, so a question reads no default
pub place_inside : (cs : List Held) (i k : ℕ) → 1 ≤ k → k ≤ steps_of cs i → place_of cs i k < length (rows_of cs)
place_inside [] i k a b = absurd (omega arith)
place_inside (c ∷ cs) i k a b = by (eqb c.chain.id i) b (place_inside cs i k a)
  where
    by : (t : Bool) → k ≤ cond t (length c.rows) (steps_of cs i) → (k ≤ steps_of cs i → place_of cs i k < length (rows_of cs)) →
        cond t 0 (length c.rows + first_row cs i) + (k - 1) < length (rows_of (c ∷ cs))
    by true b rest = simp length-append (omega arith)
    by false b rest = let w = rest b in simp length-append (omega arith)

pub record Spans (cs : List Held) (i : ℕ) (s : Span) : Type 0 where
  pub holds : holds cs i ≡ true
  pub entry : s.entry ≡ chain_number cs i
  pub first : s.first ≡ first_row cs i
  pub steps : s.steps ≡ steps_of cs i

pub span_shows : (cs : List Held) (i : ℕ) (s : Span) → Some s ≡ span_of cs i → Spans cs i s
span_shows cs i s e = by (holds cs i) refl e
  where
    by : (b : Bool) → holds cs i ≡ b → Some s ≡ cond b (Some (record { entry = chain_number cs i; first = first_row cs i; steps = steps_of cs i })) None → Spans cs i s
    by true t e = let f : s ≡ record { entry = chain_number cs i; first = first_row cs i; steps = steps_of cs i } = cc in record { holds = t; entry = ap (λ (x : Span). x.entry) f; first = ap (λ (x : Span). x.first) f; steps = ap (λ (x : Span). x.steps) f }
    by false t e = let z : ◌≡◌ {A = ℕ} 0 1 = cc in absurd (omega arith)

pub row_inside : (t : Table) → steps_in t.entries.items ≡ length t.rows.items → (id k : ℕ) (s : Span) → Some s ≡ span_of (chains_of t) id → ((k ≡ 0) → ⊥) → k ≤ s.steps → s.first + (k - 1) < length t.rows.items
row_inside t counted id k s found low high =
    let spans = span_shows (chains_of t) id s found in
    let n = ap length (rows_are t.entries.items t.rows.items counted) in
    let steps = spans.steps in
    let inside = place_inside (chains_of t) id k (omega (arith, low)) (omega arith) in
    omega (arith, spans.first)

-- ## What a question answers

pub at_step_refused : (cs : List Held) (i k : ℕ) (why : Refusal) (rest : Answer) → Err why ≡ row_named cs i k → Err why ≡ at_step cs i k rest
at_step_refused cs i k why rest e = by (holds cs i) (within 1 (steps_of cs i) k) e
  where
    by : (a b : Bool) → ◌≡◌ {A = Result ℕ Refusal} (Err why) (cond a (cond b (Ok (place_of cs i k)) (Err NoSuchStep)) (Err IdUnknown)) → Err why ≡ need a IdUnknown (need b NoSuchStep rest)
    by true true e = let z : ◌≡◌ {A = ℕ} 0 1 = cc in absurd (omega arith)
    by true false e = cc
    by false b e = cc

pub at_step_held : (cs : List Held) (i k row : ℕ) (rest : Answer) → Ok row ≡ row_named cs i k → (rest ≡ at_step cs i k rest) × (row ≡ place_of cs i k)
at_step_held cs i k row rest e = by (holds cs i) (within 1 (steps_of cs i) k) e
  where
    by : (a b : Bool) → ◌≡◌ {A = Result ℕ Refusal} (Ok row) (cond a (cond b (Ok (place_of cs i k)) (Err NoSuchStep)) (Err IdUnknown)) → (rest ≡ need a IdUnknown (need b NoSuchStep rest)) × (row ≡ place_of cs i k)
    by true true e = (refl, (cc))
    by true false e = let z : ◌≡◌ {A = ℕ} 0 1 = cc in absurd (omega arith)
    by false b e = let z : ◌≡◌ {A = ℕ} 0 1 = cc in absurd (omega arith)

-- a question's answer, and its step of the law over runs
pub record AskDone (answer : Meaning) (s : Contents) (i k : ℕ) (a : Answer) : Type 0 where
  pub value : a ≡ ask_answer s i k
  pub run : Keeps answer s (ask i k) a s

module _ (answer : Meaning) (s : Contents) (i k : ℕ) where
  done : (a : Answer) → a ≡ ask_answer s i k → AskDone answer s i k a
  done a e = record { value = e; run = rw e (ask_keeps answer s i k) }

  pub ask_refused : (why : Refusal) → Err why ≡ row_named s.chains i k → AskDone answer s i k (Err why)
  ask_refused why e = done (Err why) (at_step_refused s.chains i k why _ e)

  pub ask_unsolved : (row : ℕ) → Ok row ≡ row_named s.chains i k → is_some s.standing ≡ false → AskDone answer s i k (Err NotSolved)
  ask_unsolved row e f = done (Err NotSolved) (rw f (at_step_held s.chains i k row (Err NotSolved) e).0)

  pub ask_told : (row jitter response : ℕ) → Ok row ≡ row_named s.chains i k → is_some s.standing ≡ true →
      jitter ≡ get_or (jitters_of s.chains s.start) row 0 → response ≡ get_or s.start row 0 →
      AskDone answer s i k (Ok (Told (record { jitter = jitter; response = response })))
  ask_told row jitter response e f j r =
      let at = at_step_held s.chains i k row (told s.chains s.start i k) e in
      let is : Ok (Told (record { jitter = jitter; response = response })) ≡ told s.chains s.start i k = rw (j, r, at.1) in
      done _ (rw f (is ∙ at.0))
