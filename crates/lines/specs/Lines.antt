-- What one line of a table's text is: a record of one of three kinds, or its first fault. Assumes nothing.
use Rattle.std.specs.Prelude.{ℕ, cond, List, length, Some, None, Ok, Err, codes, Option, Result, ◌==◌}
use Rattle.std.specs.Str.{bytes_eq}
use Rattle.records.specs.declared.fields.ChainFields.{ChainFields}
use Rattle.records.specs.declared.fields.StepFields.{StepFields}
use Rattle.lines.specs.declared.faults.Fault.TheVariants.{UnknownKind, FieldCount}
use Rattle.lines.specs.declared.faults.LineFault.{LineFault}
use Rattle.lines.specs.declared.line.Kind.{Kind}
use Rattle.lines.specs.declared.line.Kind.TheVariants as kind
use Rattle.lines.specs.declared.line.Line.{Line}
use Rattle.lines.specs.declared.line.Line.TheVariants.{Node, Chain, Step}
use Rattle.lines.specs.declared.line.NodeLine.{NodeLine}
use Rattle.lines.specs.Faults.{fault_at}
use Rattle.lines.specs.Fields.{fields_of, at_place}
use Rattle.lines.specs.Places.{number_at, letter_at}

infixr 20 ◌then◌
-- goes on with what was read, or stops at the fault
abbrev pub ◌then◌ : {A B F : Type 0} → Result A F → (A → Result B F) → Result B F
◌then◌ (Ok a) f = f a
◌then◌ (Err fault) f = Err fault

-- ## The kinds, field by field

-- node,number,letter
abbrev pub node_of : List (List ℕ) → Result NodeLine LineFault
node_of fields =
    number_at fields 2 then λ node.
    letter_at fields 3 then λ letter.
    Ok (record { node = node; letter = letter })

-- chain,id,T,D,arrival jitter
abbrev pub chain_of : List (List ℕ) → Result ChainFields LineFault
chain_of fields =
    number_at fields 2 then λ id.
    number_at fields 3 then λ period.
    number_at fields 4 then λ deadline.
    number_at fields 5 then λ jitter.
    Ok (record { id = id; period = period; deadline = record { ticks = deadline }; arrival_jitter = jitter })

-- step,node,C,d,delay,B,priority
abbrev pub step_of : List (List ℕ) → Result StepFields LineFault
step_of fields =
    number_at fields 2 then λ node.
    number_at fields 3 then λ cost.
    number_at fields 4 then λ local.
    number_at fields 5 then λ delay.
    number_at fields 6 then λ blocking.
    number_at fields 7 then λ priority.
    Ok (record { node = node; cost = cost; local = record { ticks = local }; delay = delay; blocking = blocking; priority = priority })

-- ## A line

-- 14, for the whole line, unless it has so many fields
abbrev pub counted : {A : Type 0} → ℕ → List (List ℕ) → Result A LineFault → Result A LineFault
counted count fields answer = cond (length fields == count) answer (Err (fault_at 0 FieldCount))

-- the kind that the first field names
abbrev pub kind_named : List ℕ → Option Kind
kind_named word =
    cond (bytes_eq word (codes "node")) (Some kind.Node)
    (cond (bytes_eq word (codes "chain")) (Some kind.Chain) (cond (bytes_eq word (codes "step")) (Some kind.Step) None))

-- the kind of a line, by its first field
abbrev pub line_kind : List ℕ → Option Kind
line_kind bytes = kind_named (at_place (fields_of bytes) 1)

-- 13 for no kind; else the count of fields, and then each field from left to right
abbrev pub line_as : Option Kind → List (List ℕ) → Result Line LineFault
line_as None fields = Err (fault_at 1 UnknownKind)
line_as (Some kind.Node) fields = counted 3 fields (node_of fields) then λ node. Ok (Node node)
line_as (Some kind.Chain) fields = counted 5 fields (chain_of fields) then λ chain. Ok (Chain chain)
line_as (Some kind.Step) fields = counted 7 fields (step_of fields) then λ step. Ok (Step step)

-- what the bytes of a line are read as
abbrev pub line_of : List ℕ → Result Line LineFault
line_of bytes = line_as (line_kind bytes) (fields_of bytes)
