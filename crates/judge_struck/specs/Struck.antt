-- The answer where all reachable states are struck. Assumes nothing.
use Rattle.std.specs.Prelude.{ℕ}
use Rattle.answers.specs.Answers.{cannot_be_kept}
use Rattle.judge_answer.specs.declared.Judgement.{Judgement}

-- the five numbers where all r reachable states are struck
abbrev pub all_struck : (r : ℕ) → Judgement
all_struck r = record { answer = cannot_be_kept; count = r; a = 0; b = 0; place = 0 }
