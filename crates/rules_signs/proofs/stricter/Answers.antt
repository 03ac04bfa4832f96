-- Where every live rule has a bit, fewer bits let more moves in. Assumes nothing.
use Rattle.std.proofs.Common.{ℕ, subst₂}
use Rattle.rules_signs.specs.Words.{Within}
use Rattle.rules_signs.specs.Signs.{words_of}
use Rattle.rules_signs.proofs.Signing.{stricter-moves}
use Rattle.rules_signs.proofs.stricter.Goals as goal

pub returns-then-signs-eq1 : goal.returns-then-signs-eq1
returns-then-signs-eq1 c = λ e.
    let a = c.args in
    let signs = a.signs.now in
    stricter-moves c.requires.0 c.if-signs-eq1.true a.k a.j c.requires.1 c.requires.2
    (subst₂ (λ (fewer more : ℕ). Within signs fewer more (words_of signs)) c.unmet_at.ensures c.unmet_at-then-signs-eq1.ensures
    (c.within.ensures e))
