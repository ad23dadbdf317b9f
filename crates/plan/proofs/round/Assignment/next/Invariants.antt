use Rattle.std.proofs.Common.{◌≡◌, true, length, Some}
use Rattle.std.specs.List.{list_all}
use Rattle.law.specs.State.{all_of, row_response}
use Rattle.plan.specs.Contents.{chains_of, response_fits}
use Rattle.plan.proofs.round.Assignment.next.Given as goal

abbrev pub invariant-loop-row : goal.invariant-loop-row
invariant-loop-row g l =
    (length l.next.items ≡ l.row)
    × (all_of (row_response (g.R.NodeRule.answer l.self.plan.now.rule) (chains_of l.self.plan.now.table) l.self.responses.now) l.row ≡ Some l.next.items)
    × (list_all response_fits l.next.items ≡ true)
