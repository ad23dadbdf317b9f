-- What is reported of a text: the bytes, and what they mean. Assumes nothing.
use Rattle.std.specs.Prelude.{◌≡◌, ℕ, List, [], ◌∷◌, Some, None, Ok, Err, codes, Result}
use Rattle.std.specs.Option.{ok_or}
use Rattle.std.specs.Result.{result_map_both}
use Rattle.writing.specs.Writing.{line_bytes, written}
use Rattle.rules.specs.Rules.{Meaning}
use Rattle.law.specs.declared.answers.Refusal.{Refusal}
use Rattle.law.specs.declared.answers.Refusal.TheVariants.{BufferShort}
use Rattle.law.specs.Assignments.{zeros, Carries, Least, Rounds}
use Rattle.law.specs.State.{Outcome, anew, solving}
use Rattle.plan.specs.Listing.{listing_bytes}
use Rattle.lines.specs.declared.faults.TableFault.{TableFault}
use Rattle.lines.specs.Faults.{number_of}
use Rattle.reading.specs.Reading.{Panel, table_of}
use Rattle.table.specs.Drafts.{rule_of}
use Rattle.report.specs.declared.verdicts.Report.{Report}
use Rattle.report.specs.declared.verdicts.Verdict.{Verdict}
use Rattle.report.specs.declared.verdicts.Verdict.TheVariants.{Listed, Faulty, NothingCarries}

-- ## The bytes

-- a text's fault: `refused,` its number, its line and its field
abbrev pub fault_bytes : TableFault → List ℕ
fault_bytes f = line_bytes (codes "refused") (number_of f.fault ∷ f.line ∷ f.field ∷ [])

-- refusal 10: `refused,10,` and the rounds made
abbrev pub nothing_bytes : ℕ → List ℕ
nothing_bytes rounds = line_bytes (codes "refused") (10 ∷ rounds ∷ [])

-- the listing of a panel in the responses xs, found in so many rounds
abbrev pub panel_listing : Panel → List ℕ → ℕ → List ℕ
panel_listing p xs rounds = listing_bytes (record { chains = p.chains; start = xs; standing = Some rounds }) rounds

-- how many bytes are written to a buffer's front: all of them, or none where they do not fit (20)
abbrev pub write_answer : List ℕ → List ℕ → Result ℕ Refusal
write_answer buffer bytes = ok_or (written buffer 0 bytes) BufferShort

-- ## What a text comes to

-- a solve of a panel, from zeros
abbrev pub panel_outcome : Panel → Outcome
panel_outcome p = solving (rule_of p.letters) (anew p.chains)

abbrev pub solved_verdict : Outcome → Verdict
solved_verdict o = elim o.responses [ Some xs ↦ Listed | None ↦ NothingCarries o.rounds ]

abbrev pub solved_bytes : Panel → Outcome → List ℕ
solved_bytes p o = elim o.responses [ Some xs ↦ panel_listing p xs o.rounds | None ↦ nothing_bytes o.rounds ]

abbrev pub verdict_on : Result Panel TableFault → Verdict
verdict_on (Ok p) = solved_verdict (panel_outcome p)
verdict_on (Err fault) = Faulty fault

abbrev pub bytes_on : Result Panel TableFault → List ℕ
bytes_on (Ok p) = solved_bytes p (panel_outcome p)
bytes_on (Err fault) = fault_bytes fault

-- a verdict with the number of bytes that it takes
abbrev pub report_of : Verdict → ℕ → Report
report_of verdict len = record { verdict = verdict; len = len }

-- what a report on a text answers
abbrev pub report_answer : List ℕ → Result Panel TableFault → Result Report Refusal
report_answer buffer table = result_map_both (report_of (verdict_on table)) (λ why. why) (write_answer buffer (bytes_on table))

-- ## What it means

-- a panel's chains at its own rule
abbrev pub panel_rule : Panel → Meaning
panel_rule p = rule_of p.letters

-- what is reported of a text, and in which bytes: its first fault; that no assignment carries its chains; or the least assignment that does.
-- In the last two cases with the rounds that are made from zeros
pub data EndToEnd (text : List ℕ) : Verdict → List ℕ → Type 0 where
  first_fault : {fault : TableFault} → table_of text ≡ Err fault → EndToEnd text (Faulty fault) (fault_bytes fault)
  nothing_carries : {p : Panel} {n : ℕ} → table_of text ≡ Ok p →
      ((xs : List ℕ) → Carries (panel_rule p) p.chains xs → ⊥) → Rounds (panel_rule p) p.chains (zeros p.chains) n None →
      EndToEnd text (NothingCarries n) (nothing_bytes n)
  least_listed : {p : Panel} {n : ℕ} {xs : List ℕ} → table_of text ≡ Ok p →
      Least (panel_rule p) p.chains xs → Rounds (panel_rule p) p.chains (zeros p.chains) n (Some xs) →
      EndToEnd text Listed (panel_listing p xs n)
