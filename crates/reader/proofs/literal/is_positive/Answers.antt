-- `reader::literal::is_positive`: the sign of the signed number. Assumes nothing.
use Rattle.std.proofs.Common.{ℕ, pos, ap, ◌∙◌}
use Rattle.std.specs.Int.{w8}
use lib.Signed.{le_z}
use mir.Val.{to_z}
use Rattle.reader.proofs.Literals.{bits_of, sign-is-positive}
use Rattle.reader.proofs.literal.is_positive.Goals as goal

pub returns : goal.returns
returns c = ap (λ (n : ℕ). le_z (pos 0) (to_z w8 n)) (bits_of c.cast_signed.ensures c.ranges.b) ∙ sign-is-positive c.args.b
