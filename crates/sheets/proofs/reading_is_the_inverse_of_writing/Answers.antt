use Rattle.sheets.proofs.reading_is_the_inverse_of_writing.Goals as goal
use Rattle.sheets.proofs.Inverse.{inverse}

pub returns : goal.returns
returns c = inverse
