-- The law over runs leaves no answer free. Assumes nothing.
use Rattle.std.specs.Prelude.{◌≡◌}
use Rattle.rules.specs.Rules.{Meaning}
use Rattle.law.specs.Runs.{Call, Answer, Run, Right, Lawful}

-- after every lawful run each call has an answer that is right, and only one
abbrev pub Determined : Meaning → Type 0
Determined answer = (h : Run) → Lawful answer h → (call : Call) → (a : Answer) × Right answer h call a × ((b : Answer) → Right answer h call b → b ≡ a)
