-- The rounds on their course: what held before a phase holds after it. Assumes nothing.
use Rattle.std.proofs.Common.{◌≡◌, sym, subst, subst₂, ℕ, suc, ◌+◌, ◌-◌, ◌*◌, ◌≤◌, ◌<◌, List, set}
use Rattle.rules.specs.Book.{promises_of}
use Rattle.rounds.specs.declared.Course.{Course}
use Rattle.rounds.specs.Courses.{GoneOn}
use Rattle.rounds.specs.Phases.{Strikable}
use Rattle.rounds.proofs.Running.{Running, running_more, turn-less}
use Rattle.rounds.proofs.Moving.{Stepped}

module _ {k k' : Course} {end since p : ℕ} (G : GoneOn k end since p k') where
  -- The measure falls.
  pub course-less : end - k.m ≤ k.left → k.quiet ≤ p → p ≤ 16 → 32 * k'.left + (suc p - k'.quiet) < 32 * k.left + (suc p - k.quiet)
  course-less a b c = subst (λ (x : ℕ). 32 * x + (suc p - k'.quiet) < 32 * k.left + (suc p - k.quiet)) (sym G.left)
      (turn-less _ _ _ _ _ a b c G.quiet)

  -- The words are right before the phase that comes next,
  pub running-gone : {book table words₀ words words' wit wit' : List ℕ} {r : ℕ} {M : ℕ → ℕ → Type 0} {log log' : List ℕ}
      → Strikable book table words₀ r → Running book table words₀ r words k.left k.base k.reason k.quiet
      → Stepped book table r words words' wit wit' M log log' k.reason (k.base + k.reason) k.m end → p ≡ promises_of book → k.quiet ≤ p
      → Running book table words₀ r words' k'.left k'.base k'.reason k'.quiet
  running-gone {book} {table} {words₀} {words' = words'} {r = r} A R D is-p h =
      subst (λ (x : ℕ). Running book table words₀ r words' x k'.base k'.reason k'.quiet) (sym G.left)
      (running_more _ _ _ _ A _ _ _ _ _ R _ _ D.phased p is-p h _ _ _ G.quiet G.base G.reason)

  -- and what is said of the log and the news is said of those that it has now.
  pub course-gone : (P : ℕ → List ℕ → Type 0) → P end (set k.news k.reason since) → P k'.m k'.news
  course-gone P h = subst₂ P (sym G.m) (sym G.news) h
