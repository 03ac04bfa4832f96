-- `judge_signed` meets its contract: 13 where none is left, else what `judge_kept_signed` found, by the signs of the states that are left.
-- Assumes nothing.
use Rattle.std.proofs.Common.{arith}
use Rattle.judge_answer.proofs.Rooms.{judged-alike}
use Rattle.judge_struck.proofs.Findings.{cannot_judged}
use Rattle.judge_book.proofs.StruckSteps.{reached-strikable, reached-orderable, reached-keepable, reached-lawful, reached-front}
use Rattle.judge_book.proofs.StruckSteps.{reached-kept, kept-alike}
use Rattle.judge_book.proofs.tiny.judge_signed.Goals as goal

pub fill-requires : goal.fill-requires
fill-requires c = (reached-lawful c.requires.0, c.requires.2)

pub strike_signed-left-requires : goal.strike_signed-left-requires
strike_signed-left-requires c = (reached-strikable c.requires.0, c.fill.ensures.0, c.requires.1)

pub judge_struck-requires : goal.judge_struck-requires
judge_struck-requires c = reached-orderable c.requires.0 c.strike_signed-left.ensures.words_long

pub returns-then-left-eq0 : goal.returns-then-left-eq0
returns-then-left-eq0 c =
    let pre = c.requires.0 in
    let told = c.strike_signed-left.ensures in
    cannot_judged c.args.run.now pre.room pre.lists told.marked c.if-left-eq0.true told.words_long c.judge_struck.ensures

pub keep_signed-k-requires : goal.keep_signed-k-requires
keep_signed-k-requires c =
    let pre = c.requires.0 in
    let told = c.strike_signed-left.ensures in (
      reached-lawful pre,
      reached-keepable pre told.words_long,
      c.fill.ensures.0,
      omega (arith, c.requires.2, c.fill.ensures.1),
      reached-front pre told.marked,
    )

pub judge_kept_signed-requires : goal.judge_kept_signed-requires
judge_kept_signed-requires c =
    let told = c.strike_signed-left.ensures in
    let kept = c.keep_signed-k.ensures in
    let asked = reached-kept c.requires.0 told.marked told.words_long c.if-left-eq0.false kept.0 in
    (asked, kept.1, omega (arith, c.requires.1, kept.0.few))

pub returns : goal.returns
returns c = judged-alike (kept-alike c.strike_signed-left.ensures.words_long c.keep_signed-k.ensures.0) c.judge_kept_signed.ensures
