-- Rows written behind their head. Assumes nothing.
use Rattle.std.proofs.Common.{◌≡◌, Bool, true, false, refl, sym, ◌∙◌, arith}
use mir.Val.{bool_byte}
use Rattle.rules_signs.proofs.Signing.{filled}
use Rattle.rules_signs.proofs.fill.Goals as goal

-- 1 is stored for a test that passed, and for no other
stored : (b : Bool) → bool_byte b ≡ 1 → b ≡ true
stored true e = refl
stored false e = absurd (omega arith)

pub returns : goal.returns
returns c =
    let w = c.width-w.ensures in
    filled c.requires.0 c.list_live-n.ensures c.width-w.result c.from.result c.args.signs.now _ c.requires.1
    (λ e. c.whole.ensures (stored c.whole.result (sym c.from.ensures ∙ e))) w.0 w.1 c.write_rows.ensures.0 c.write_rows.ensures.1
