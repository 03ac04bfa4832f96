-- The reader's types beside the meaning: which fault each stands for, and document 01's number for each answer. Assumes nothing.
use Rattle.std.proofs.Math.Option.{Option, none, some}
use Rattle.std.specs.Prelude.{List, ℕ, ◌≤◌, leb, eqb, length, Result, Ok, Err}
use Rattle.meaning.specs.Sheet as Sheet
use Rattle.meaning.specs.Sheet.{unless, ◌then◌}
use Rattle.reader.specs.declared.Why.{Why}
use Rattle.reader.specs.declared.Why.TheVariants.{BadSize, BadVersion, BadLength, BadLetters, TooMany, RecordMissing}
use Rattle.reader.specs.declared.Why.TheVariants.{BadShape, BadLiteral, NotAscending, Surplus}
use Rattle.reader.specs.declared.Kind.{Kind}
use Rattle.reader.specs.declared.Kind.TheVariants.{Limit, FirstRule, StepRule, Promise}
use Rattle.reader.specs.declared.Fault.{Fault}
use Rattle.reader.specs.declared.Verdict.{Verdict}
use Rattle.reader.specs.declared.cursor.Cursor.{Cursor}

-- the enum's variant for each fault of the meaning
abbrev pub why_of : Sheet.Why → Why
why_of Sheet.bad_size = BadSize
why_of Sheet.bad_version = BadVersion
why_of Sheet.bad_length = BadLength
why_of Sheet.bad_letters = BadLetters
why_of Sheet.too_many_records = TooMany
why_of Sheet.record_missing = RecordMissing
why_of Sheet.bad_shape = BadShape
why_of Sheet.bad_literal = BadLiteral
why_of Sheet.not_rising = NotAscending
why_of Sheet.surplus = Surplus

-- document 01's number for each fault
abbrev pub why_number : Why → ℕ
why_number BadSize = 1
why_number BadVersion = 2
why_number BadLength = 3
why_number BadLetters = 4
why_number TooMany = 5
why_number RecordMissing = 6
why_number BadShape = 7
why_number BadLiteral = 8
why_number NotAscending = 9
why_number Surplus = 10

abbrev pub kind_of : Kind → Sheet.Kind
kind_of Limit = Sheet.a_limit
kind_of FirstRule = Sheet.a_first
kind_of StepRule = Sheet.a_step
kind_of Promise = Sheet.a_promise

abbrev pub fault_of : Sheet.Fault → Fault
fault_of f = record { why = why_of f.why; at = f.at }

-- what reading a sheet answers for its first fault
abbrev pub answer_of : Option Sheet.Fault → Result (Unit {0}) Fault
answer_of none = Ok tt
answer_of (some f) = Err (fault_of f)

-- a fault of the reader in numbers
abbrev pub numbers_of : Fault → Verdict
numbers_of f = record { answer = why_number f.why; place = f.at }

-- the same in numbers: document 01's number and order 1's place
abbrev pub in_numbers_of : Option Sheet.Fault → Result (Unit {0}) Verdict
in_numbers_of none = Ok tt
in_numbers_of (some f) = Err (record { answer = Sheet.number_of f.why; place = f.at })

-- what a cursor's method gives back: the moved cursor, or the fault
abbrev pub Step : Type 0
Step = Result Cursor Fault

abbrev pub refusal : Why → ℕ → Step
refusal why at = Err (record { why = why; at = at })

-- the cursor at `end` if there was no fault, else the fault
abbrev pub step_to : ℕ → Option Sheet.Fault → Step
step_to end none = Ok (record { at = end })
step_to end (some f) = Err (fault_of f)

-- the record at `at`: the cursor behind it, or its fault
unfoldable pub record_step : Sheet.Kind → ℕ → List ℕ → ℕ → Step
record_step kind n s at = step_to (Sheet.next_at s at) (Sheet.record_fault kind n at (Sheet.body_at s at))

-- the next record, known to be there or not
unfoldable pub next_step : Sheet.Kind → ℕ → List ℕ → ℕ → Step
next_step kind n s at =
    step_to (Sheet.next_at s at)
    (unless (leb (Sheet.next_at s at) (length s)) Sheet.record_missing at then Sheet.record_fault kind n at (Sheet.body_at s at))

-- `count` records of a kind from `at` on
unfoldable pub records_step : Sheet.Kind → ℕ → List ℕ → ℕ → ℕ → Step
records_step kind n s count at = step_to (Sheet.after_at s count at) (Sheet.records_fault kind n s count at)

-- at the sheet's end
unfoldable pub end_step : List ℕ → ℕ → Step
end_step s at = step_to at (unless (eqb at (length s)) Sheet.surplus at)

-- go on from a moved cursor; a fault stays
abbrev pub onwards : Step → (ℕ → Step) → Step
onwards (Ok c) go = go c.at
onwards (Err f) go = Err f

-- a moved cursor stands within the sheet
abbrev pub Within : List ℕ → Step → Type 0
Within s (Ok c) = c.at ≤ length s
Within s (Err f) = Unit
