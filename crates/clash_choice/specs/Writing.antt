-- What the parts of `write_chosen` ask and give. Assumes nothing.
use Rattle.std.specs.Prelude.{◌≡◌, List, [], ◌∷◌, ℕ, ◌+◌, ◌≤◌, ◌<◌, length, take}
use Rattle.meaning.specs.Sheet.{most_bytes_of_a_sheet, body_at, next_at, after_at, bodies}
use Rattle.records.specs.Writing.{RecordsWritten}
use Rattle.clash_choice.specs.Choice.{picked}
use Rattle.clash_choice.specs.declared.Progress.{Progress}

-- `count` records from `at` on lie within the sheet
pub record Within (s : List ℕ) (count at : ℕ) : Type 0 where
  pub fits : (i : ℕ) → i < count → next_at s (after_at s i at) ≤ length s

-- what writing the rule at the place read next asks: it lies within the sheet, which fits the buffer, and no more was written than read
pub record RuleAsks (s : List ℕ) (p : Progress) : Type 0 where
  pub fits : next_at s p.from ≤ length s
  pub most : length s ≤ most_bytes_of_a_sheet
  pub behind : p.to ≤ p.from
  pub few : p.rules < 255

-- the writing went on by these records: the place read next is `next`, and their bytes stand behind what was written
pub record Added (more : List (List ℕ)) (next : ℕ) (old : List ℕ) (p : Progress) (new : List ℕ) (q : Progress) : Type 0 where
  pub from : q.from ≡ next
  pub rules : q.rules ≡ p.rules + length more
  pub written : RecordsWritten old p.to more new q.to

-- the record at a place, if its mark is not 0
abbrev pub marked : (s : List ℕ) (mark at : ℕ) → List (List ℕ)
marked s mark at = picked (mark ∷ []) (body_at s at ∷ [])

-- those of the first `count` records from `at` on that are marked
abbrev pub marked_of : (s marks : List ℕ) (count at : ℕ) → List (List ℕ)
marked_of s marks count at = picked (take count marks) (bodies s count at)

-- what writing the marked ones of `count` records from `at` on asks
pub record RulesAsk (s : List ℕ) (count at : ℕ) : Type 0 where
  pub within : Within s count at
  pub most : length s ≤ most_bytes_of_a_sheet

-- nothing written yet, and the records to be read stand at `at`
abbrev pub begun : ℕ → Progress
begun at = record { from = at; to = at; rules = 0 }

-- the marked ones of the first `count` records from `at` on were written, from `at` on
abbrev pub RulesWritten : (s marks : List ℕ) (count at : ℕ) (old new : List ℕ) → Progress → Type 0
RulesWritten s marks count at old new p = Added (marked_of s marks count at) (after_at s count at) old (begun at) new p
