-- What a call as data means. Assumes nothing.
use Rattle.std.specs.Cow.{cow_slice_items}
use Rattle.law.specs.Runs.{Call}
use Rattle.law.specs.Runs.Call.{add, drop, recost, solve, ask}
use Rattle.plan.specs.declared.calls.PlanCall.{PlanCall}
use Rattle.plan.specs.declared.calls.PlanCall.TheVariants.{Add, DropChain, Recost, Solve, Ask}

abbrev pub meant : PlanCall → Call
meant (Add chain steps) = add chain (cow_slice_items steps)
meant (DropChain id) = drop id
meant (Recost id step cost) = recost id step cost
meant Solve = solve
meant (Ask id step) = ask id step
