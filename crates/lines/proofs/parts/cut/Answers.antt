use Rattle.std.proofs.Common.{ap, sym, ◌∙◌, ◌+◌, take, drop, arith}
use Rattle.std.proofs.lemmas.List.{take_rest, take_all, drop_all}
use Rattle.lines.proofs.Parting.{found, not_found}
use Rattle.lines.proofs.parts.cut.Goals as goal

pub returns-in-Some-clause-first : goal.returns-in-Some-clause-first
returns-in-Some-clause-first c = ap (λ k. take k c.args.bytes.now) (found c.args.separator c.args.bytes.now _ c.in-Some.ensures)

pub returns-in-Some-clause-rest : goal.returns-in-Some-clause-rest
returns-in-Some-clause-rest c = take_rest c.args.bytes.now (c.in-Some.end + 1) ∙ ap (λ k. drop (k + 1) c.args.bytes.now) (found c.args.separator c.args.bytes.now _ c.in-Some.ensures)

pub returns-in-None-clause-first : goal.returns-in-None-clause-first
returns-in-None-clause-first c = sym (take_all _ c.args.bytes.now (not_found c.args.separator c.args.bytes.now c.in-None.ensures))

pub returns-in-None-clause-rest : goal.returns-in-None-clause-rest
returns-in-None-clause-rest c = sym (drop_all _ c.args.bytes.now (omega (arith, not_found c.args.separator c.args.bytes.now c.in-None.ensures)))
