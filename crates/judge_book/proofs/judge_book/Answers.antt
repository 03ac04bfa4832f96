-- Answer 11 where R is above C, else what `judge_reached` found. Assumes nothing.
use Rattle.judge_answer.proofs.Rooms.{judged-alike}
use Rattle.judge_book.proofs.ReachedSteps.{returned-alike, returned-crowded, returned-reached}
use Rattle.judge_book.proofs.judge_book.Goals as goal

pub returns-in_default : goal.returns-in_default
returns-in_default c =
    returned-crowded c.args.run.now c.refusal.ensures c.room-cap.ensures c.in_default.ensures c.leave.ensures

pub judge_reached-requires : goal.judge_reached-requires
judge_reached-requires c =
    returned-reached c.args.words.now c.args.run.now c.shaped.ensures c.room-cap.ensures c.in-Some.ensures

pub returns : goal.returns
returns c = judged-alike (returned-alike c.args.words.now c.args.run.now c.in-Some.ensures) c.judge_reached.ensures
