-- What the reader's memory says of the text read so far. Assumes nothing.
use Rattle.std.specs.Prelude.{◌≡◌, ⊤}
use Rattle.rules.specs.Rules.{Meaning}
use Rattle.edf.specs.declared.EarliestDeadline.{EarliestDeadline}
use Rattle.edf.specs.Edf.{earliest_deadline}
use Rattle.fixed.specs.declared.FixedPriority.{FixedPriority}
use Rattle.fixed.specs.Fixed.{fixed_priority}
use Rattle.mixed.specs.declared.letters.Letters.{Letters}
use Rattle.mixed.specs.declared.mixture.Mixed.{Mixed}
use Rattle.mixed.specs.Mixture.{mixture}
use Rattle.law.specs.Runs.{Run}
use Rattle.law.specs.State.{anew, Leads}
use Rattle.plan.specs.declared.plan.Plan.{Plan}
use Rattle.plan.specs.Contents.{chains_of, contents}
use Rattle.reading.specs.Reading as reading
use Rattle.reading.specs.Reading.{Panel, Begun, of_nodes, of_chains}
use Rattle.table.specs.declared.begun.ChainBegun.{ChainBegun}
use Rattle.table.specs.declared.draft.Draft.{Draft}
use Rattle.table.specs.declared.draft.Draft.TheVariants.{Nodes, Chains}
use Rattle.table.specs.declared.given.Nodes as given

abbrev pub TablePlan : Type 0
TablePlan = Plan (Mixed EarliestDeadline FixedPriority)

-- the node rule of a panel with these letters
abbrev pub rule_of : Letters → Meaning
rule_of letters = mixture letters earliest_deadline fixed_priority

-- what a plan gives
abbrev pub panel_in : TablePlan → Panel
panel_in p = record { letters = p.rule.letters; chains = chains_of p.table }

abbrev pub nodes_in : given.Nodes → reading.Nodes
nodes_in n = record { letters = n.letters; given = n.given.by_node }

abbrev pub chain_in : ChainBegun → Begun
chain_in c = record { line = c.line; fields = c.chain.fields; steps = c.steps.items }

abbrev pub draft_in : Draft → reading.Draft
draft_in (Nodes n) = of_nodes (nodes_in n)
draft_in (Chains given p c) = of_chains given.by_node (panel_in p) (chain_in c)

-- ## What holds of a reader's plan

-- no solve has been made of it, and a run of calls leads to it
pub record Unsolved (p : TablePlan) : Type 0 where
  pub unsolved : contents p.table ≡ anew (chains_of p.table)
  pub run : (h : Run) × Leads (rule_of p.rule.letters) h (contents p.table)

-- the same of the plan of a draft, once there is one
abbrev pub UnsolvedSoFar : Draft → Type 0
UnsolvedSoFar (Nodes n) = ⊤
UnsolvedSoFar (Chains given p c) = Unsolved p
