use Rattle.std.proofs.Common.{◌≡◌, ℕ, ◌+◌, ◌<◌, List, [], ◌∷◌, ◌++◌, map, length, get_or, take, sym, refl, ap, ◌∙◌, subst, arith, take_all, length-take-le}
use Rattle.std.proofs.lemmas.List.{take_more, map-append}
use Rattle.rules.specs.Rules.{Meaning}
use Rattle.law.specs.State.{call_answer, call_after, Keeps}
use Rattle.law.proofs.Replay.{made_none, made_more}
use Rattle.plan.specs.declared.calls.PlanCall.{PlanCall}
use Rattle.plan.specs.Calls.{meant}
use Rattle.plan.specs.Contents.{contents}
use Rattle.plan.proofs.plan.Plan.perform_all.Goals as goal

-- one call more of a list
meant_more : (calls : List PlanCall) (k : ℕ) (x : PlanCall) → k < length calls → x ≡ get_or calls k x → map meant (take (k + 1) calls) ≡ map meant (take k calls) ++ meant x ∷ []
meant_more calls k x h e = ap (map meant) (take_more calls k x h ∙ ap (λ y. take k calls ++ y ∷ []) (sym e)) ∙ map-append meant (take k calls) (x ∷ [])

pub loop-k-init : goal.loop-k-init
loop-k-init g c = (refl, made_none _ _ _)

pub loop-k-preserved : goal.loop-k-preserved
loop-k-preserved g c =
    let p = c.args.self.now in
    let means = ap g.R.NodeRule.answer c.loop-k.invariant.0 in
    let before = contents c.loop-k.self.table in
    let call = c.call-item.result in
    let k = c.loop-k.k in
    let calls = take c.min-count.result c.args.calls.now in
    let length_calls = length-take-le c.min-count.result c.args.calls.now (omega arith) in
    let inside : k < length c.args.answers.now = omega (arith, c.loop-k-test.true) in
    let made =
    made_more (g.R.NodeRule.answer p.rule) (contents p.table) (map meant (take k calls)) k c.args.answers.now c.loop-k.answers
    before (contents c.perform.new.self.table) (meant call) c.perform.result inside c.loop-k.invariant.1
    (c.perform.ensures.value ∙ ap (λ (m : Meaning). call_answer m before (meant call)) means)
    (c.perform.ensures.after ∙ ap (λ (m : Meaning). call_after m before (meant call)) means)
    (subst (λ (m : Meaning). Keeps m before (meant call) c.perform.result (contents c.perform.new.self.table)) means c.perform.ensures.run) in
    (c.perform.ensures.rule ∙ c.loop-k.invariant.0, rw (meant_more calls k call c.loop-k-test.true c.call-item.is) made)

pub returns : goal.returns
returns g c =
    let count = c.min-count.result in
    let calls = take count c.args.calls.now in
    let length_calls = length-take-le count c.args.calls.now (omega arith) in
    let end : c.loop-k.k ≡ count = omega arith in
    let made = rw (end, take_all count calls (omega arith)) at c.loop-k.invariant.1 in
    record {
      rule = c.loop-k.invariant.0;
      count = c.min-count.ensures;
      value = made.value;
      rest = made.rest;
      after = made.after;
      run = made.run;
    }
