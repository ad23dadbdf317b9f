use Rattle.std.proofs.Common.{◌≡◌, ◌<◌, ◌≤◌, arith}
use Rattle.climb.proofs.Settling.{settles, first_same, climb_settles, climb_passes}
use Rattle.climb.proofs.climb.Goals as goal

pub returns-then-next-from : goal.returns-then-next-from
returns-then-next-from g c =
    let f = g.R.RisingRule.gives c.args.rule.now in
    let limit = c.args.limit in
    let past : limit < f c.loop-next.at = omega arith in
    let least = climb_passes f (g.met.R.RisingRule.rises c.args.rule.now) limit c.loop-next.invariant past in
    record { value = first_same least (settles f limit); least = least }

pub returns-then-next-from-2 : goal.returns-then-next-from-2
returns-then-next-from-2 g c =
    let f = g.R.RisingRule.gives c.args.rule.now in
    let limit = c.args.limit in
    let at = c.loop-next.at in
    let within : at ≤ limit = omega arith in
    let fixed : f at ≡ at = omega arith in
    let least = climb_settles f (g.met.R.RisingRule.rises c.args.rule.now) limit c.loop-next.invariant within fixed in
    record { value = first_same least (settles f limit); least = least }
