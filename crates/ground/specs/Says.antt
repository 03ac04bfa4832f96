-- What a yes-or-no test says. Assumes nothing.
use Rattle.std.specs.Prelude.{◌≡◌, Bool, true, false}

-- b says exactly whether P is so
pub record Says (P : Type 0) (b : Bool) : Type 0 where
  pub yes : b ≡ true → P
  pub never : b ≡ false → P → ⊥
