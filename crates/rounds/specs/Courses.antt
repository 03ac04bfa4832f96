-- How far the rounds have come, phase by phase. Assumes nothing.
use Rattle.std.specs.Prelude.{◌≡◌, ◌⊎◌, ℕ, suc, ◌+◌, ◌-◌, ◌≤◌, ◌<◌, length, get_or, replicate, set}
use Rattle.rounds.specs.Rows.{never_yet}
use Rattle.rounds.specs.declared.Course.{Course}
use Rattle.rounds.specs.declared.Turn.{Turn}

-- before the first phase, with r states
abbrev pub first_course : (r : ℕ) → Course
first_course r = record { news = replicate 17 never_yet; m = 0; left = r; base = 32; reason = 0; quiet = 0 }

-- the next phase
abbrev pub turn_of : Course → Turn
turn_of k = record { reason = k.reason; word = k.base + k.reason; m = k.m; from = get_or k.news k.reason 0 }

-- the phase can be counted: it struck no more than were left, and its numbers are small
pub record Goable (k : Course) (end since p : ℕ) : Type 0 where
  pub reasons : length k.news ≡ 17
  pub grows : k.m ≤ end
  pub fewer : end - k.m ≤ k.left
  pub early : since ≤ 16384
  pub few : p ≤ 16
  pub quiet_most : k.quiet ≤ p
  pub within : k.reason ≤ p
  pub small : k.base < 1000000

-- it was: the log has its places, and the next phase is the next reason's, or the first of the next round
pub record GoneOn (k : Course) (end since p : ℕ) (k' : Course) : Type 0 where
  pub news : k'.news ≡ set k.news k.reason since
  pub m : k'.m ≡ end
  pub left : k'.left ≡ k.left - (end - k.m)
  pub quiet : ((end - k.m ≡ 0) × (k'.quiet ≡ suc k.quiet)) ⊎ ((end - k.m ≡ 0 → ⊥) × (k'.quiet ≡ 0))
  pub base : ((k.reason < p) × (k'.base ≡ k.base)) ⊎ ((k.reason ≡ p) × (k'.base ≡ k.base + 32))
  pub reason : ((k.reason < p) × (k'.reason ≡ suc k.reason)) ⊎ ((k.reason ≡ p) × (k'.reason ≡ 0))
