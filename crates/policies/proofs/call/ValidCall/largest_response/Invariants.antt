use Rattle.std.proofs.Common.{◌≡◌, Some}
use Rattle.policies.specs.Ranges.{largest}
use Rattle.policies.specs.Policy.{response}
use Rattle.policies.proofs.call.ValidCall.largest_response.Given as goal

-- the largest response of the starts so far
abbrev pub invariant-loop-start : goal.invariant-loop-start
invariant-loop-start g l =
    largest (response g.P.SchedulingPolicy.shares l.self.rows.now l.self.jitters.now l.self.asked) l.start ≡ Some l.largest
