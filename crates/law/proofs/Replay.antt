-- Calls made one after another: one call more.
use Rattle.std.proofs.Common.{◌≡◌, ℕ, suc, ◌+◌, ◌<◌, List, [], ◌∷◌, ◌++◌, length, take, drop, set, sym, refl, ap, ◌∙◌, arith, length-set}
use Rattle.std.proofs.lemmas.List.{take_more_set, drop-set-lt, drop-drop, length-take-le}
use Rattle.rules.specs.Rules.{Meaning}
use Rattle.law.specs.Runs.{Call, Answer, Run}
use Rattle.law.specs.State.{Contents, call_answer, call_after, answers_to, after_calls, run_on, Leads, Keeps}

module _ (answer : Meaning) where
  after_push : (s : Contents) (calls : List Call) (c : Call) → after_calls answer s (calls ++ c ∷ []) ≡ call_after answer (after_calls answer s calls) c
  after_push s [] c = refl
  after_push s (d ∷ calls) c = after_push (call_after answer s d) calls c

  answers_push : (s : Contents) (calls : List Call) (c : Call) → answers_to answer s (calls ++ c ∷ []) ≡ answers_to answer s calls ++ call_answer answer (after_calls answer s calls) c ∷ []
  answers_push s [] c = refl
  answers_push s (d ∷ calls) c = ap (λ rest. call_answer answer s d ∷ rest) (answers_push (call_after answer s d) calls c)

  length_answers : (s : Contents) (calls : List Call) → length (answers_to answer s calls) ≡ length calls
  length_answers s [] = refl
  length_answers s (d ∷ calls) = ap suc (length_answers (call_after answer s d) calls)

run_push : (calls : List Call) (answers : List Answer) (c : Call) (a : Answer) (h : Run) → length answers ≡ length calls → run_on (calls ++ c ∷ []) (answers ++ a ∷ []) h ≡ (c, a) ∷ run_on calls answers h
run_push [] [] c a h e = refl
run_push [] (b ∷ answers) c a h e = absurd (omega arith)
run_push (d ∷ calls) [] c a h e = absurd (omega arith)
run_push (d ∷ calls) (b ∷ answers) c a h e = run_push calls answers c a ((d, b) ∷ h) (omega arith)

-- these calls were made, and their answers stand at the front of a buffer
pub record Made (answer : Meaning) (start : Contents) (calls : List Call) (k : ℕ) (buffer answers : List Answer) (s : Contents) : Type 0 where
  pub value : take k answers ≡ answers_to answer start calls
  pub after : s ≡ after_calls answer start calls
  pub rest : drop k answers ≡ drop k buffer
  pub room : length answers ≡ length buffer
  pub run : (h : Run) → Leads answer h start → Leads answer (run_on calls (take k answers) h) s

pub made_none : (answer : Meaning) (start : Contents) (buffer : List Answer) → Made answer start [] 0 buffer buffer start
made_none answer start buffer = record { value = refl; after = refl; rest = refl; room = refl; run = λ h l. l }

pub made_more : (answer : Meaning) (start : Contents) (calls : List Call) (k : ℕ) (buffer answers : List Answer) (s s' : Contents) (c : Call) (a : Answer) →
    k < length buffer → Made answer start calls k buffer answers s → a ≡ call_answer answer s c → s' ≡ call_after answer s c → Keeps answer s c a s' →
    Made answer start (calls ++ c ∷ []) (k + 1) buffer (set answers k a) s'
made_more answer start calls k buffer answers s s' c a h m value after keeps =
    let room = m.room in
    let l = length-take-le k answers (omega arith) in
    let n : length (take k answers) ≡ length calls = ap length m.value ∙ length_answers answer start calls in
    let pushed = take_more_set answers k a (omega arith) in
    record {
      value = rw (pushed, m.value, answers_push answer start calls c, ← m.after, value);
      after = rw (after_push answer start calls c, ← m.after, after);
      rest = drop-set-lt (k + 1) answers k a (omega arith) ∙ sym (drop-drop 1 k answers) ∙ ap (drop 1) m.rest ∙ drop-drop 1 k buffer;
      room = simp length-set room;
      run = λ g l. rw (pushed, run_push calls (take k answers) c a g n) (keeps _ (m.run g l));
    }
