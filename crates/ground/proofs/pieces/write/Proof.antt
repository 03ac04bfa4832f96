-- `ground::pieces::write`: the bytes passed stand in the slice, and `to` is `i` places behind `at`. Assumes nothing.
use Prim.Native.Nat.{◌-◌}
use native.Mathlib.Omega.{arith}
use lib.ListN.{length}
use Rattle.ground.proofs.Writing.{Copied, copied_none, copied_more, copied-full, copied_all}
use Rattle.ground.proofs.pieces.write.Statement.{statement}
use Rattle.ground.proofs.pieces.write.Tie as tie

abbrev invariant-loop-i : tie.invariant-loop-i
invariant-loop-i slice₀ at piece i₀ to₀ slice i to = Copied slice₀ slice at piece i to

abbrev decreases-loop-i : tie.decreases-loop-i
decreases-loop-i slice₀ at piece i₀ to₀ slice i to = length piece - i

pub write_spec : {M : Type 1} → statement M
write_spec =
    tie.close
    (tie.spec
    invariant-loop-i
    decreases-loop-i
    (λ c. copied_none _ _ _)
    (λ c. c.before.before.loop-i.invariant.long)
    (λ c. copied-full c.before.before.loop-i.invariant c.if-slice-to.true)
    (λ c. omega arith)
    (λ c. omega arith)
    (λ c. omega arith)
    (λ c. omega arith)
    (λ c. omega arith)
    (λ c. copied_more c.before.before.before.loop-i.invariant c.before.before.loop-i-test.true)
    (λ c. c.before.loop-i.invariant.long)
    (λ c. copied_all c.before.loop-i.invariant c.loop-i-test.false))
