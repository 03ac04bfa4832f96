-- The chain's next place is followed, if it is not reached yet, and then its link.
use Rattle.std.proofs.Common.{◌<◌, length, arith}
use Rattle.distances_along.proofs.Lines.{chain-none, chain-room, chain-past, chain_more}
use Rattle.distances_along.proofs.follow_chain.Goals as goal
use Rattle.distances_along.proofs.follow_chain.Goals.{then-near-i, else-near-i}

pub loop-i-init : goal.loop-i-init
loop-i-init c = chain-none _ _ _ _ _ _ _ c.requires.0 c.requires.1

pub bounds-queue-tail : goal.bounds-queue-tail
bounds-queue-tail c =
    let more : c.loop-i.i < length c.args.near.now = omega arith in
    (chain-room _ _ _ _ _ _ _ c.requires.0 c.requires.1 _ _ _ _ c.loop-i.invariant more c.if-near-i.true).0

pub loop-i-preserved : goal.loop-i-preserved
loop-i-preserved c =
    let more : c.loop-i.i < length c.args.near.now = omega arith in
    elim c.if-near-i.branch [
      | then-near-i w ↦
          rw (w.near-is, w.queue-is, w.got-is)
          (chain_more _ _ _ _ _ _ _ c.requires.0 c.requires.1 _ _ _ _ c.loop-i.invariant more _ c.link-i.ensures.0 w.if-near-i.true)
      | else-near-i w ↦
          rw (w.near-is, w.queue-is, w.got-is)
          (chain-past _ _ _ _ _ _ _ c.requires.0 c.requires.1 _ _ _ _ c.loop-i.invariant more _ c.link-i.ensures.0 w.if-near-i.false)
    ]
