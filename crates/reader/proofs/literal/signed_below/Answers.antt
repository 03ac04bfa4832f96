-- `reader::literal::signed_below`: the order of the signed numbers is the meaning's. Assumes nothing.
use Rattle.std.proofs.Common.{ℕ, ap, ◌∙◌}
use Rattle.std.specs.Int.{w8}
use lib.Signed.{lt_z}
use mir.Val.{to_z, of_z}
use Rattle.reader.proofs.Literals.{bits_of, order-is-below}
use Rattle.reader.proofs.literal.signed_below.Goals as goal

pub returns : goal.returns
returns c =
    ap (λ (n : ℕ). lt_z (to_z w8 n) (to_z w8 (of_z w8 c.cast_signed-2.result))) (bits_of c.cast_signed.ensures c.ranges.a)
    ∙ ap (λ (n : ℕ). lt_z (to_z w8 c.args.a) (to_z w8 n)) (bits_of c.cast_signed-2.ensures c.ranges.b)
    ∙ order-is-below c.args.a c.args.b c.ranges.a.fits c.ranges.b.fits
