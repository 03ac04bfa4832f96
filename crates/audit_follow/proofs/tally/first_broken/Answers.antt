-- `first_broken` meets its contract. Assumes nothing.
use Rattle.std.proofs.Common.{arith, ◌≡◌, ◌+◌, ◌<◌, suc, refl, sym, ◌∙◌, ap}
use Rattle.rules.specs.Book.{steps_of}
use Rattle.audit_account.specs.Book.{broken_by, first_of, book_broke}
use Rattle.audit_account.proofs.Tallies.{first-is, first-none}
use Rattle.audit_follow.proofs.tally.first_broken.Goals as goal

pub loop-i-init : goal.loop-i-init
unfolding first_of
loop-i-init c = refl

pub broken_by-requires : goal.broken_by-requires
broken_by-requires c = omega (arith, c.steps-count.ensures.number)

pub overflow_cast-result : goal.overflow_cast-result
overflow_cast-result c = omega (arith, c.steps-count.ensures.few)

pub returns-then-broken_by : goal.returns-then-broken_by
unfolding book_broke
returns-then-broken_by c =
    let within : c.loop-i.i < steps_of c.args.book.now = omega (arith, c.steps-count.ensures.number) in
    let one : c.loop-i.i + 1 ≡ suc c.loop-i.i = omega arith in
    one ∙ first-is _ _ _ c.loop-i.invariant (sym c.broken_by.ensures ∙ c.if-broken_by.true) within

pub loop-i-preserved : goal.loop-i-preserved
loop-i-preserved c = first-none _ _ c.loop-i.invariant (sym c.broken_by.ensures ∙ c.if-broken_by.false)

pub returns : goal.returns
unfolding book_broke
returns c =
    let a = c.args in
    let all : c.loop-i.i ≡ steps_of a.book.now = omega (arith, c.steps-count.ensures.number) in
    sym c.loop-i.invariant ∙ ap (first_of (broken_by a.book.now a.s a.t)) all
