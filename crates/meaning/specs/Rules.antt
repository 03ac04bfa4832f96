-- What a sheet's rules mean: when a literal is true in a state, when a state is lawful or a first state, when a state moves to another.
-- Document 01, "States and obedience"; source document 000, section 2.2 (a constraint counts the literals of its set that are true, and
-- asks that there are exactly m or at most m of them) and 2.3 (an empty or is false, an empty and is true). Every test is a Bool, so
-- examples compute; `system_of` makes them a system. No width of numbers stands here. Assumes nothing.
use Rattle.std.specs.Prelude.{Bool, true, false, cond, not, ◌&&◌, ◌||◌, List, [], ◌∷◌, ℕ, ◌+◌, ◌-◌, ◌/◌, ◌%◌, ◌^◌, T, leb, ltb, eqb, length, get_or}
use Rattle.meaning.specs.System.{System}
use Rattle.meaning.specs.Sheet.{Sheet, Limit, StepRule, positive, size}

-- "letter k holds when the bit worth 2^(k-1) is set"
unfoldable pub holds : ℕ → ℕ → Bool
holds s k = eqb (s / 2 ^ (k - 1) % 2) 1

-- whether a literal is true in state s
unfoldable pub true_in : ℕ → ℕ → Bool
unfolding holds positive size
true_in s l = cond (positive l) (holds s (size l)) (not (holds s (size l)))

-- how many literals of a list are true: "a list may name a letter and its opposite; exactly one of them counts"
unfoldable pub count_true : ℕ → List ℕ → ℕ
unfolding true_in
count_true s [] = 0
count_true s (l ∷ ls) = cond (true_in s l) 1 0 + count_true s ls

-- "An empty or is false; an empty and is true."
unfoldable pub some_literal_true : ℕ → List ℕ → Bool
unfolding true_in
some_literal_true s [] = false
some_literal_true s (l ∷ ls) = true_in s l || some_literal_true s ls

unfoldable pub all_literals_true : ℕ → List ℕ → Bool
unfolding true_in
all_literals_true s [] = true
all_literals_true s (l ∷ ls) = true_in s l && all_literals_true s ls

-- "the count of true literals in the list is m, or is at most m"
unfoldable pub limit_holds : ℕ → Limit → Bool
unfolding count_true
limit_holds s l = cond l.exact (eqb (count_true s l.among) l.bound) (leb (count_true s l.among) l.bound)

-- the test passes at every element
unfoldable pub every {ℓ} : {A : Type ℓ} → (A → Bool) → List A → Bool
every test [] = true
every test (x ∷ xs) = test x && every test xs

-- "A state is a number below 2 to the power n .. It is lawful when every limit holds."
unfoldable pub lawful : Sheet → ℕ → Bool
unfolding every limit_holds
lawful sheet s = ltb s (2 ^ sheet.letters) && every (limit_holds s) sheet.limits

-- "A first state is lawful and makes every first rule true."
unfoldable pub first_state : Sheet → ℕ → Bool
unfolding lawful every some_literal_true
first_state sheet s = lawful sheet s && every (some_literal_true s) sheet.firsts

-- one step rule from s to t: its right side is true in t if its left side held in s
unfoldable pub step_holds : ℕ → ℕ → StepRule → Bool
unfolding all_literals_true some_literal_true
step_holds s t rule = not (all_literals_true s rule.left) || some_literal_true t rule.right

-- "A move goes from a lawful state to a lawful state that makes true the right side of each step rule whose left side held before."
unfoldable pub moves : Sheet → ℕ → ℕ → Bool
unfolding lawful every step_holds
moves sheet s t = lawful sheet s && lawful sheet t && every (step_holds s t) sheet.steps

-- promise k + 1's literal is true in s (past the last promise there is none to keep)
unfoldable pub kept : Sheet → ℕ → ℕ → Bool
unfolding true_in
kept sheet k s = ltb k (length sheet.promises) && true_in s (get_or sheet.promises k 0)

-- the system of a sheet
unfoldable pub system_of : Sheet → System
unfolding lawful first_state moves kept
system_of sheet = record {
  Lawful = λ s. T (lawful sheet s);
  First = λ s. T (first_state sheet s);
  Move = λ s t. T (moves sheet s t);
  promises = length sheet.promises;
  Kept = λ k s. T (kept sheet k s);
}
