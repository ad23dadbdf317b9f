use Rattle.std.proofs.Common.{◌≡◌, true}
use Rattle.records.specs.Ranges.{row_fits}
use Rattle.rules.specs.Rules.{no_row}
use Rattle.rules.proofs.Lists.{each_at}
use Rattle.rules.proofs.Validity.{valid_shows, jitter_small}
use Rattle.policies.proofs.call.ValidCall.asked_task.Goals as goal

pub invariant_of-result : goal.invariant_of-result
unfolding no_row
invariant_of-result g c =
    let call = c.args.self.now in
    let v = valid_shows _ _ _ call.checked in
    record { in_range = each_at (λ r. row_fits r ≡ true) call.rows.now call.asked no_row v.fits v.inside; small = jitter_small v call.asked v.inside }
