-- A part of a paper, its states or its words, as the checkers are handed it: numbers as they are, or bytes, four a number, the highest
-- first, or bytes and then numbers. And what a checker then says. Assumes nothing.
use Rattle.std.specs.Prelude.{Bool, true, false, List, ◌++◌, ℕ}
use Rattle.meaning.specs.Promises.{Whole, numbers_in, state_bytes}
use Rattle.answers.specs.Answers.{done, not_accepted}
use Rattle.reader.specs.declared.Verdict.{Verdict}

-- the numbers of a part in bytes
abbrev pub in_bytes : List ℕ → List ℕ
in_bytes bytes = numbers_in state_bytes bytes

-- those in bytes, and then the numbers
abbrev pub mixed : (bytes numbers : List ℕ) → List ℕ
mixed bytes numbers = in_bytes bytes ++ numbers

-- that nothing is left over: never of numbers
abbrev pub AreWhole : List ℕ → Type 0
AreWhole numbers = Unit {0}

abbrev pub whole_in : List ℕ → Type 0
whole_in bytes = Whole state_bytes bytes

-- what a checker says of a paper that it accepts, and of one that it does not, on a good sheet
abbrev pub on_paper : Bool → Verdict
on_paper true = record { answer = done; place = 0 }
on_paper false = record { answer = not_accepted; place = 0 }
