-- `judge_reached` meets its contract: 13 where none is left, else what `judge_kept` found; very few states are judged by their signs.
-- Assumes nothing.
use Rattle.judge_answer.proofs.Rooms.{judged-alike}
use Rattle.judge_struck.proofs.Findings.{cannot_judged}
use Rattle.judge_book.proofs.StruckSteps.{reached-strikable, reached-orderable, reached-keepable, reached-kept, kept-alike}
use Rattle.judge_book.proofs.judge_reached.Goals as goal

pub strike-left-requires : goal.strike-left-requires
strike-left-requires c = reached-strikable c.requires

pub judge_struck-requires : goal.judge_struck-requires
judge_struck-requires c = reached-orderable c.requires c.strike-left.ensures.words_long

pub returns-then-left-eq0 : goal.returns-then-left-eq0
returns-then-left-eq0 c =
    let told = c.strike-left.ensures in
    cannot_judged c.args.run.now c.requires.room c.requires.lists told.marked c.if-left-eq0.true told.words_long c.judge_struck.ensures

pub keep-k-requires : goal.keep-k-requires
keep-k-requires c = reached-keepable c.requires c.strike-left.ensures.words_long

pub judge_kept-requires : goal.judge_kept-requires
judge_kept-requires c =
    let told = c.strike-left.ensures in
    reached-kept c.requires told.marked told.words_long c.if-left-eq0.false c.keep-k.ensures

pub returns : goal.returns
returns c = judged-alike (kept-alike c.strike-left.ensures.words_long c.keep-k.ensures) c.judge_kept.ensures
