-- `rounds_along::strike_rounds` meets its contract. Assumes nothing.
use Rattle.std.proofs.Common.{◌∙◌, refl, sym, subst, ℕ, List, get_or, arith}
use Rattle.std.proofs.lemmas.List.{get_or-replicate}
use Rattle.std.proofs.Math.Seq.{length_front}
use Rattle.moves.specs.Layout.{Backed}
use Rattle.watch_along.specs.Ends.{Ahead}
use Rattle.rounds.specs.declared.Course.{Course}
use Rattle.rounds.specs.declared.Turn.{Turn}
use Rattle.rounds.specs.Rows.{never_yet, row_of}
use Rattle.rounds.proofs.Courses.{course-gone, course-less, running-gone}
use Rattle.rounds.proofs.Running.{Running, running_none, running-within, running-reason, running-base, running-fewer, running-marked}
use Rattle.rounds.proofs.Moving.{Moving, moving-none, moving-short, moving-more}
use Rattle.rounds_along.specs.Along.{RunnableAlong}
use Rattle.rounds_along.proofs.WaysOn.{
  blank-beginnable,
  ahead-begun,
  ahead_more,
  along-turnable,
  along-stepped,
  since-early,
  since-last,
  since-own,
  turn-done,
}
use Rattle.rounds_along.proofs.strike_rounds.Goals as goal

pub begin_rows-requires : goal.begin_rows-requires
begin_rows-requires c = blank-beginnable c.blank.new.row c.requires.0 c.blank.ensures.1

pub loop-course-init : goal.loop-course-init
loop-course-init c =
    let A = c.requires.0 in
    let zeros = c.requires.1 in
    let a = c.args in
    let begun = c.begin_rows.ensures in
    let first = sym c.first-course.ensures in
    let long = length_front a.wit.now c.blank.new.row a.r c.blank.ensures.1 in
    record {
      running = subst
          (λ (k : Course). Running a.book.now a.table.now a.words.now a.r a.words.now k.left k.base k.reason k.quiet) first
          (running_none _ _ _ _ A.stored.asked _ refl zeros);
      moving = subst
          (λ (k : Course). Moving a.book.now a.table.now a.r a.words.now c.begin_rows.new.wit (Backed a.back.now) a.log.now k.m k.news) first
          (moving-none A.stored.asked A.roomed (Backed a.back.now) zeros long begun refl (λ q h. get_or-replicate 17 q never_yet 0 h));
      ahead = subst
          (λ (k : Course). Ahead a.words.now (row_of a.r 0 c.begin_rows.new.wit) a.back.now a.log.now (get_or k.news 0 0) k.m) first
          (ahead-begun c.blank.new.row A zeros c.blank.ensures.0 c.blank.ensures.1 begun (omega arith));
      wit_long = begun.long ∙ long;
      log_long = refl;
      line_long = refl;
    }

pub turn-turn-requires : goal.turn-turn-requires
turn-turn-requires c =
    let inv = c.loop-course.invariant in
    let asked = c.requires.0.stored.asked in (
      inv.moving.reasons,
      running-reason _ _ _ _ asked _ _ _ _ _ inv.running,
      running-base _ _ _ _ asked _ _ _ _ _ inv.running _ c.promises-p.ensures.number (omega arith),
    )

pub phase-end-requires : goal.phase-end-requires
phase-end-requires c =
    let inv = c.loop-course.invariant in
    let A = c.requires.0 in
    let l = c.loop-course in
    subst
    (λ (t : Turn). RunnableAlong l.words l.wit c.args.forth.now c.args.back.now l.log l.line c.args.r t.reason t.word t.m t.from)
    (sym c.turn-turn.ensures)
    (along-turnable A inv.moving inv.wit_long (running-within _ _ _ _ A.stored.asked _ _ _ _ _ inv.running) inv.ahead inv.log_long
    inv.line_long (omega (arith, inv.running.base-is)) (running-reason _ _ _ _ A.stored.asked _ _ _ _ _ inv.running))

pub go_on-requires : goal.go_on-requires
go_on-requires c =
    let inv = c.loop-course.invariant in
    let A = c.requires.0 in
    let within = running-within _ _ _ _ A.stored.asked _ _ _ _ _ inv.running in
    let step = along-stepped A inv.moving inv.wit_long within (turn-done c.loop-course.course c.turn-turn.ensures c.phase-end.ensures.0) in
    let short = moving-short A.stored.asked A.roomed inv.moving inv.wit_long within step in
    record {
      reasons = inv.moving.reasons;
      grows = step.fallen.grows;
      fewer = running-fewer _ _ _ _ A.stored.asked _ _ _ _ _ inv.running _ _ step.phased;
      early = omega (arith, since-early c.news_from-since.ensures step.fallen.grows, short);
      few = omega (arith, A.stored.asked.shaped.few-promises, c.promises-p.ensures.number);
      quiet_most = omega arith;
      within = omega (arith, within, c.promises-p.ensures.number);
      small = running-base _ _ _ _ A.stored.asked _ _ _ _ _ inv.running _ c.promises-p.ensures.number (omega arith);
    }

pub loop-course-smaller : goal.loop-course-smaller
loop-course-smaller c =
    let inv = c.loop-course.invariant in
    let A = c.requires.0 in
    let within = running-within _ _ _ _ A.stored.asked _ _ _ _ _ inv.running in
    let step = along-stepped A inv.moving inv.wit_long within (turn-done c.loop-course.course c.turn-turn.ensures c.phase-end.ensures.0) in
    course-less c.go_on.ensures (running-fewer _ _ _ _ A.stored.asked _ _ _ _ _ inv.running _ _ step.phased) (omega arith)
    (omega (arith, A.stored.asked.shaped.few-promises, c.promises-p.ensures.number))

pub loop-course-preserved : goal.loop-course-preserved
loop-course-preserved c =
    let inv = c.loop-course.invariant in
    let A = c.requires.0 in
    let a = c.args in
    let new = c.phase-end.new in
    let since = c.news_from-since.ensures in
    let within = running-within _ _ _ _ A.stored.asked _ _ _ _ _ inv.running in
    let D = turn-done c.loop-course.course c.turn-turn.ensures c.phase-end.ensures.0 in
    let step = along-stepped A inv.moving inv.wit_long within D in
    record {
      running = running-gone c.go_on.ensures A.stored.asked inv.running step c.promises-p.ensures.number (omega arith);
      moving = course-gone c.go_on.ensures
          (λ (m : ℕ) (news : List ℕ). Moving a.book.now a.table.now a.r new.words new.wit (Backed a.back.now) new.log m news)
          (moving-more A.stored.asked A.roomed inv.moving inv.wit_long within step _ (since-early since step.fallen.grows) (since-last since));
      ahead = course-gone c.go_on.ensures
          (λ (m : ℕ) (news : List ℕ). Ahead new.words (row_of a.r 0 new.wit) a.back.now new.log (get_or news 0 0) m)
          (ahead_more A inv.moving inv.wit_long within D _ (since-own since) inv.ahead);
      wit_long = step.long ∙ inv.wit_long;
      log_long = step.fallen.log_long ∙ inv.log_long;
      line_long = c.phase-end.ensures.1 ∙ inv.line_long;
    }

pub returns : goal.returns
returns c =
    let running = c.loop-course.invariant.running in
    record {
      marked = running-marked _ _ _ _ c.requires.0.stored.asked _ _ _ _ _ running _ c.promises-p.ensures.number (omega arith);
      words_long = running.long;
    }
