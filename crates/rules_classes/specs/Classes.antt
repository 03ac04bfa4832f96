-- How many places are remembered for classes of states: by the judge, and by the strike checker. Assumes nothing.
use Rattle.std.specs.Prelude.{ℕ}

abbrev pub many_places : ℕ
many_places = 2048

abbrev pub few_places : ℕ
few_places = 512
