-- What stands in the unused places of a list of fixed capacity: every number is 0. Assumes nothing.
use Rattle.records.specs.declared.fields.Row.{Row}
use Rattle.records.specs.declared.fields.StepFields.{StepFields}

abbrev pub blank_step : StepFields
blank_step = record { node = 0; cost = 0; local = record { ticks = 0 }; delay = 0; blocking = 0; priority = 0 }

abbrev pub blank_row : Row
blank_row = record { period = 0; step = blank_step }
