-- `rounds_tests::strike_rounds` meets its contract. Assumes nothing.
use Rattle.std.proofs.Common.{◌∙◌, refl, sym, subst, ℕ, ◌+◌, ◌<◌, List, arith}
use Rattle.std.proofs.lemmas.List.{get_or-replicate}
use Rattle.rules.specs.Table.{To}
use Rattle.rounds.specs.declared.Course.{Course}
use Rattle.rounds.specs.declared.Turn.{Turn}
use Rattle.rounds.specs.Rows.{never_yet}
use Rattle.rounds.proofs.Courses.{course-gone, course-less, running-gone}
use Rattle.rounds.proofs.Running.{
  Running,
  running_none,
  running-unphased,
  running-within,
  running-reason,
  running-base,
  running-fewer,
  running-marked,
}
use Rattle.rounds.proofs.Moving.{Moving, rows-beginnable, moving-none, moving-short, moving-more}
use Rattle.rounds_tests.specs.Tests.{RunnableByTests}
use Rattle.rounds_tests.proofs.Pointing.{pointers-begun, pointers-more, tests-testable, tests-stepped, turn-done}
use Rattle.rounds_tests.proofs.strike_rounds.Goals as goal

pub begin_rows-requires : goal.begin_rows-requires
begin_rows-requires c = rows-beginnable c.requires.0.asked c.requires.0.roomed

pub loop-course-init : goal.loop-course-init
loop-course-init c =
    let A = c.requires.0 in
    let zeros = c.requires.1 in
    let a = c.args in
    let begun = c.begin_rows.ensures in
    let first = sym c.first-course.ensures in
    record {
      running = subst
          (λ (k : Course). Running a.book.now a.table.now a.words.now a.r a.words.now k.left k.base k.reason k.quiet) first
          (running_none _ _ _ _ A.asked _ refl zeros);
      moving = subst
          (λ (k : Course). Moving a.book.now a.table.now a.r a.words.now c.begin_rows.new.wit (To a.book.now a.table.now) a.log.now k.m
          k.news) first
          (moving-none A.asked A.roomed (To a.book.now a.table.now) zeros refl begun refl (λ q h. get_or-replicate 17 q never_yet 0 h));
      pointers = pointers-begun A begun;
      wit_long = begun.long;
      log_long = refl;
      line_long = refl;
    }

pub turn-turn-requires : goal.turn-turn-requires
turn-turn-requires c =
    let inv = c.loop-course.invariant in
    let asked = c.requires.0.asked in (
      inv.moving.reasons,
      running-reason _ _ _ _ asked _ _ _ _ _ inv.running,
      running-base _ _ _ _ asked _ _ _ _ _ inv.running _ c.promises-p.ensures.number (omega arith),
    )

pub phase-end-requires : goal.phase-end-requires
phase-end-requires c =
    let inv = c.loop-course.invariant in
    let A = c.requires.0 in
    let l = c.loop-course in
    let a = c.args in
    subst
    (λ (t : Turn). RunnableByTests a.book.now a.table.now l.words l.wit a.signs.now l.log l.line a.r t.reason t.word t.m t.from)
    (sym c.turn-turn.ensures)
    (tests-testable A inv.moving inv.wit_long (running-within _ _ _ _ A.asked _ _ _ _ _ inv.running) inv.pointers inv.log_long inv.line_long
    (running-unphased _ _ _ _ A.asked _ _ _ _ _ inv.running) (running-reason _ _ _ _ A.asked _ _ _ _ _ inv.running))

pub go_on-requires : goal.go_on-requires
go_on-requires c =
    let inv = c.loop-course.invariant in
    let A = c.requires.0 in
    let within = running-within _ _ _ _ A.asked _ _ _ _ _ inv.running in
    let step = tests-stepped A inv.moving inv.wit_long within (omega (arith, inv.running.base-is))
    (turn-done c.loop-course.course c.turn-turn.ensures c.phase-end.ensures.0) in
    record {
      reasons = inv.moving.reasons;
      grows = step.fallen.grows;
      fewer = running-fewer _ _ _ _ A.asked _ _ _ _ _ inv.running _ _ step.phased;
      early = moving-short A.asked A.roomed inv.moving inv.wit_long within step;
      few = omega (arith, A.asked.shaped.few-promises, c.promises-p.ensures.number);
      quiet_most = omega arith;
      within = omega (arith, within, c.promises-p.ensures.number);
      small = running-base _ _ _ _ A.asked _ _ _ _ _ inv.running _ c.promises-p.ensures.number (omega arith);
    }

pub loop-course-smaller : goal.loop-course-smaller
loop-course-smaller c =
    let inv = c.loop-course.invariant in
    let A = c.requires.0 in
    let within = running-within _ _ _ _ A.asked _ _ _ _ _ inv.running in
    let step = tests-stepped A inv.moving inv.wit_long within (omega (arith, inv.running.base-is))
    (turn-done c.loop-course.course c.turn-turn.ensures c.phase-end.ensures.0) in
    course-less c.go_on.ensures (running-fewer _ _ _ _ A.asked _ _ _ _ _ inv.running _ _ step.phased) (omega arith)
    (omega (arith, A.asked.shaped.few-promises, c.promises-p.ensures.number))

pub loop-course-preserved : goal.loop-course-preserved
loop-course-preserved c =
    let inv = c.loop-course.invariant in
    let A = c.requires.0 in
    let a = c.args in
    let new = c.phase-end.new in
    let within = running-within _ _ _ _ A.asked _ _ _ _ _ inv.running in
    let some : 0 < c.loop-course.course.base + c.loop-course.course.reason = omega (arith, inv.running.base-is) in
    let D = turn-done c.loop-course.course c.turn-turn.ensures c.phase-end.ensures.0 in
    let step = tests-stepped A inv.moving inv.wit_long within some D in
    record {
      running = running-gone c.go_on.ensures A.asked inv.running step c.promises-p.ensures.number (omega arith);
      moving = course-gone c.go_on.ensures
          (λ (m : ℕ) (news : List ℕ). Moving a.book.now a.table.now a.r new.words new.wit (To a.book.now a.table.now) new.log m news)
          (moving-more A.asked A.roomed inv.moving inv.wit_long within step _ (omega arith) (λ n. refl));
      pointers = pointers-more A inv.moving inv.wit_long within some D inv.pointers;
      wit_long = step.long ∙ inv.wit_long;
      log_long = step.fallen.log_long ∙ inv.log_long;
      line_long = c.phase-end.ensures.1 ∙ inv.line_long;
    }

pub returns : goal.returns
returns c =
    let running = c.loop-course.invariant.running in
    record {
      marked = running-marked _ _ _ _ c.requires.0.asked _ _ _ _ _ running _ c.promises-p.ensures.number (omega arith);
      words_long = running.long;
    }
