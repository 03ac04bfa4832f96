-- What is asked of an entry, one that is not right, and one that is. Assumes nothing.
use Rattle.std.proofs.Common.{◌∙◌}
use Rattle.ground.proofs.Saying.{says-no}
use Rattle.strikes_entries.proofs.Entries.{turn-at, entered-more, entry-asks, entry-says, follows-within}
use Rattle.strikes_entries.proofs.entries_right.Goals as goal

pub entry_right-requires : goal.entry_right-requires
entry_right-requires g c =
    let here = turn-at c.requires c.len-i-end.ensures c.loop-i-test.true c.at-s.ensures c.at-word.ensures c.reach-near.ensures
    c.reach-far.ensures in
    entry-asks here c.places-m.ensures (λ k.
    follows-within here c.places-m.ensures c.loop-i.invariant.0.entered (c.follows-known.ensures k))

pub returns-then-not-entry_right : goal.returns-then-not-entry_right
returns-then-not-entry_right g c =
    let here = turn-at c.requires c.len-i-end.ensures c.loop-i-test.true c.at-s.ensures c.at-word.ensures c.reach-near.ensures
    c.reach-far.ensures in
    says-no (λ all. (entry-says here c.places-m.ensures c.entry_right.ensures).never c.if-not-entry_right.true
    (all c.loop-i.i here.inside))

pub loop-i-preserved : goal.loop-i-preserved
loop-i-preserved g c =
    let here = turn-at c.requires c.len-i-end.ensures c.loop-i-test.true c.at-s.ensures c.at-word.ensures c.reach-near.ensures
    c.reach-far.ensures in (
      entered-more here c.loop-i.invariant.0
          ((entry-says here c.places-m.ensures c.entry_right.ensures).yes c.if-not-entry_right.false),
      c.likely-likely.ensures ∙ c.loop-i.invariant.1,
    )
