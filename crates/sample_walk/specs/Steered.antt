-- What steering tells and leaves: the sample run's paper, written into the lent run if it fits. Assumes nothing.
use Rattle.std.specs.Prelude.{◌≡◌, List, ℕ, ◌≤◌, ◌<◌, length}
use Rattle.meaning.specs.System.{System}
use Rattle.meaning.specs.Sample.{RunPaper}
use Rattle.meaning.specs.Promises.{over}

pub record Steered (S : System) (run new : List ℕ) (a b : ℕ) : Type 0 where
  pub states : List ℕ
  pub back : ℕ
  pub paper : RunPaper S states back
  pub long : length states ≡ b
  pub fits : b ≤ length run → (new ≡ over states run) × (a ≡ back)
  pub short : length run < b → new ≡ run
