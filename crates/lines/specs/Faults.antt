-- The faults of a table's text. Assumes nothing.
use Rattle.std.specs.Prelude.{ℕ, ◌+◌, min}
use Rattle.law.specs.declared.answers.Refusal.{Refusal}
use Rattle.law.specs.Refusals as refusals
use Rattle.records.specs.declared.fields.RecordFault.{RecordFault}
use Rattle.lines.specs.declared.faults.Fault.{Fault}
use Rattle.lines.specs.declared.faults.Fault.TheVariants.{Record, Plan, TextTooLong, NoLineFeed, UnknownKind, FieldCount, EmptyField, NotANumber, NotALetter, Misplaced, Node}
use Rattle.lines.specs.declared.faults.LineFault.{LineFault}
use Rattle.lines.specs.declared.faults.TableFault.{TableFault}

abbrev pub number_of : Fault → ℕ
number_of (Record fault) = 1
number_of (Plan refusal) = refusals.number_of refusal
number_of TextTooLong = 11
number_of NoLineFeed = 12
number_of UnknownKind = 13
number_of FieldCount = 14
number_of EmptyField = 15
number_of NotANumber = 16
number_of NotALetter = 17
number_of Misplaced = 18
number_of Node = 19

-- a fault at a field of a line, counted from 1; 0 stands for the whole line
abbrev pub fault_at : ℕ → Fault → LineFault
fault_at field fault = record { fault = fault; field = field }

-- a record's field stands one place further on in its line, after the kind word. Places end at 6, long before the bound
abbrev pub in_record : RecordFault → LineFault
in_record fault = fault_at (min (fault.place + 1) 4294967295) (Record fault)

-- a plan's refusal, at the whole line
abbrev pub of_plan : Refusal → LineFault
of_plan why = fault_at 0 (Plan why)

-- a line's fault with the number of the line
abbrev pub on_line : ℕ → LineFault → TableFault
on_line line fault = record { fault = fault.fault; line = line; field = fault.field }
