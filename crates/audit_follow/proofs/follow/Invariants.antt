-- The account is carried on by the states before i; what is left equals the whole. Assumes nothing.
use Rattle.std.proofs.Common.{◌-◌, length}
use Rattle.audit_follow.specs.Heads.{with_tallies}
use Rattle.audit_follow.proofs.Following.{Following}
use Rattle.audit_follow.proofs.follow.Given as goal

abbrev pub invariant-loop-i : goal.invariant-loop-i
invariant-loop-i l =
    Following l.book l.states (with_tallies l.fn.head l.initial.kept l.initial.broken) (with_tallies l.last l.kept l.broken) l.i

abbrev pub decreases-loop-i : goal.decreases-loop-i
decreases-loop-i l = length l.states - l.i
