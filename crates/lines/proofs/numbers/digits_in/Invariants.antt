use Rattle.std.proofs.Common.{◌≡◌, ◌^◌, ◌<◌, drop}
use Rattle.lines.specs.Numbers.{digits_answer}
use Rattle.lines.proofs.numbers.digits_in.Given as goal

abbrev pub invariant-loop-byte : goal.invariant-loop-byte
invariant-loop-byte l = (digits_answer l.n (drop l.byte-index l.digits) ≡ digits_answer 0 l.digits) × (l.n < 10 ^ l.byte-index)
