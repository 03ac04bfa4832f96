-- `tallies_at` meets its contract. Assumes nothing.
use Rattle.std.proofs.Common.{arith, ◌≡◌, ℕ, ◌+◌, ◌-◌, take, drop, ap, ◌∙◌}
use Rattle.audit_account.proofs.Written.{part-read}
use Rattle.audit.proofs.numbers.tallies_at.Goals as goal

pub returns : goal.returns
returns c =
    let numbers = c.args.numbers.now in
    let from = c.args.from in
    let many : from + 255 - from ≡ 255 = omega arith in
    c.copy_from_slice.ensures.after ∙ ap (λ (n : ℕ). take n (drop from numbers)) many
    ∙ part-read 255 numbers from (omega (arith, c.told-numbers))
