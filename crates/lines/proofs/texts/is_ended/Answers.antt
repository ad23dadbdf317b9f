use Rattle.std.proofs.Common.{rules}
use Rattle.lines.proofs.Ending.{ended_at, empty_ended}
use Rattle.lines.proofs.texts.is_ended.Goals as goal

pub returns : goal.returns
returns c = search (rules, ended_at, empty_ended)
