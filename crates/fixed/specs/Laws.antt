-- The fixed-priority rule shows the laws of node rules.
use Rattle.std.proofs.Common.{zero-mul, le_refl, arith}
use Rattle.rules.specs.Rules.{Laws}
use Rattle.policies.specs.Policy.{Sound}
use Rattle.policies.specs.RangesLemmas.{ceil_under, ceil_some, cond_under}
use Rattle.policies.specs.PolicyLemmas.{laws}
use Rattle.fixed.specs.Fixed.{by_priority, fixed_priority}

pub priority_sound : Sound by_priority
priority_sound =
    record {
      starts_rise = λ a l m h. ceil_under l m a.period h;
      starts_some = λ a l t h. ceil_some l a.period h t;
      instant_zero = λ a. zero-mul a.period;
      own_some = λ a q. omega arith;
      before_rise = λ a q r j k v w h g. cond_under _ (ceil_under _ _ r.period (omega arith)) (le_refl 0);
    }

pub fixed_laws : Laws fixed_priority
unfolding fixed_priority
fixed_laws = laws by_priority priority_sound
