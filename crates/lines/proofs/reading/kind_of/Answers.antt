use Rattle.std.proofs.Common.{sym, ap, ◌∙◌}
use Rattle.lines.specs.Lines.{kind_named}
use Rattle.lines.proofs.Parting.{first_field_is}
use Rattle.lines.proofs.reading.kind_of.Goals as goal

pub returns : goal.returns
returns c = c.kind_in.ensures ∙ ap kind_named (c.cut.ensures.first ∙ sym (first_field_is c.args.line.now))
