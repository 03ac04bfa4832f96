-- `watch_tests::copy` meets its contract. The loop's invariant: the log's places from m up to g are copied. Assumes nothing.
use Prim.Native.Nat.{◌-◌, ◌≤◌, ◌<◌}
use native.Mathlib.Omega.{arith}
use lib.ListN.{length}
use Rattle.meaning.specs.Promises.{most_states}
use Rattle.watch_tests.specs.Tests.{Copied}
use Rattle.watch_tests.proofs.Ranking.{copied_none, copied_more, copied-done}
use Rattle.watch_tests.proofs.copy.Statement.{statement}
use Rattle.watch_tests.proofs.copy.Tie as tie

abbrev invariant-loop-g : tie.invariant-loop-g
invariant-loop-g log m tail line₀ n k₀ g₀ line k g = (g ≤ tail) × Copied log m g line₀ line n k

abbrev decreases-loop-g : tie.decreases-loop-g
decreases-loop-g log m tail line₀ n k₀ g₀ line k g = tail - g

abbrev start : tie.At-loop-g invariant-loop-g decreases-loop-g → tie.Start invariant-loop-g decreases-loop-g
start c = c.before

-- within the loop: the log has the place, the line has room, and all numbers are small
room : (c : tie.In-loop-g invariant-loop-g decreases-loop-g)
    → (c.loop-g.g < length (start c.before).args.log.now) × (c.loop-g.g < most_states)
    × (c.loop-g.k < length c.loop-g.line) × (c.loop-g.k < most_states)
room c =
    let pre = (start c.before).requires in
    let inv = c.loop-g.invariant.1 in (
      omega (arith, c.loop-g-test.true, pre.1),
      omega (arith, c.loop-g-test.true, pre.1, pre.3),
      omega (arith, c.loop-g-test.true, pre.2, inv.long, inv.count),
      omega (arith, c.loop-g-test.true, pre.2, pre.4, inv.count),
    )

loop-again : tie.Need-loop-g-preserved invariant-loop-g decreases-loop-g
loop-again c =
    let l = c.before in
    (omega (arith, l.loop-g-test.true), copied_more l.loop-g.invariant.1 (room l).2)

pub copy_spec : {M : Type 1} → statement M
copy_spec =
    tie.close
    (tie.spec
    invariant-loop-g
    decreases-loop-g
    (λ c. (c.requires.0, copied_none _ _ _ _))
    (λ c. omega (arith, (room c).1))
    (λ c. (room c.before).0)
    (λ c. omega (arith, (room c.before).3))
    (λ c. (room c.before).2)
    (λ c. omega (arith, (room c.before).3))
    (λ c. omega (arith, (room c.before).1))
    (λ c. omega (arith, c.loop-g-test.true))
    loop-again
    (λ c. c.loop-g.invariant.1.long)
    (λ c. copied-done c.loop-g.invariant.1 c.loop-g.invariant.0 (omega (arith, c.loop-g-test.false))))
