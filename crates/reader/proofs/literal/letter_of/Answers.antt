-- `reader::literal::letter_of`: the size of the signed number. Assumes nothing.
use Rattle.std.proofs.Common.{ℕ, nat_abs, ap, ◌∙◌}
use Rattle.std.specs.Int.{w8}
use mir.Val.{to_z}
use Rattle.reader.proofs.Literals.{bits_of, size-is-letter}
use Rattle.reader.proofs.literal.letter_of.Goals as goal

pub returns : goal.returns
returns c =
    c.unsigned_abs.ensures.value ∙ ap (λ (n : ℕ). nat_abs (to_z w8 n)) (bits_of c.cast_signed.ensures c.ranges.b)
    ∙ size-is-letter c.args.b c.ranges.b.fits
