use Rattle.std.proofs.Common.{ap, ◌∙◌}
use Rattle.lines.specs.Fields.{first_of}
use Rattle.lines.proofs.Parting.{field_after}
use Rattle.lines.proofs.cursor.Cursor.field.Goals as goal

pub returns-clause-value : goal.returns-clause-value
returns-clause-value c =
    let cursor = c.args.self.now in
    c.cut.ensures.first ∙ ap (first_of 44) cursor.place ∙ field_after cursor.field cursor.line.now
