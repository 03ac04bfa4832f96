-- Words of bits, each bit the answer of a test, and parts of a list that hold such words. Assumes nothing.
use Rattle.std.specs.Prelude.{◌≡◌, Bool, true, List, ℕ, ◌+◌, ◌*◌, ◌≤◌, ◌<◌, length, get_or}
use Rattle.std.specs.Int.Bits.{bit_and}
use Rattle.ground.specs.Bits.{bit}

-- how many bits a word has; and how many words at most are needed for a bit of each rule
abbrev pub word_size : ℕ
word_size = 64

abbrev pub most_words : ℕ
most_words = 4

-- no place of a sign is farther in the list
abbrev pub farthest : ℕ
farthest = 262144

-- bit b of x is set exactly if number from + b, which is below n, passes the test
pub record WordOf (test : ℕ → Bool) (from n x : ℕ) : Type 0 where
  pub sound : (b : ℕ) → bit b x ≡ 1 → (from + b < n) × (test (from + b) ≡ true)
  pub full : (b : ℕ) → b < word_size → from + b < n → test (from + b) ≡ true → bit b x ≡ 1

-- the w words from place `at` on are those of the numbers below n, 64 to a word
pub record WordsOf (test : ℕ → Bool) (n w : ℕ) (l : List ℕ) (at : ℕ) : Type 0 where
  pub words : (k : ℕ) → k < w → WordOf test (word_size * k) n (get_or l (at + k) 0)

-- w words stand in the list, from place `at` on
pub record Window (l : List ℕ) (at w : ℕ) : Type 0 where
  pub inside : at + w ≤ length l
  pub narrow : w ≤ most_words
  pub near : at ≤ farthest

-- each of the w words at a stands in R to the one at u
pub record Paired (R : ℕ → ℕ → Type 0) (l : List ℕ) (a u w : ℕ) : Type 0 where
  pub each : (k : ℕ) → k < w → R (get_or l (a + k) 0) (get_or l (u + k) 0)

-- the words at a and those at u have no bit in common
abbrev pub Apart : (l : List ℕ) (a u w : ℕ) → Type 0
Apart l a u w = Paired (λ (x y : ℕ). bit_and x y ≡ 0) l a u w

-- every bit of the words at a is one of those at u
abbrev pub Within : (l : List ℕ) (a u w : ℕ) → Type 0
Within l a u w = Paired (λ (x y : ℕ). bit_and x y ≡ x) l a u w
