-- Each step rule is asked, and those that ask something after u ask it after s. Assumes nothing.
use Rattle.std.proofs.Common.{rules, tests, arith}
use Rattle.rules.proofs.FreerLaws.{freer-all}
use Rattle.rules.proofs.book.Book.freer.Goals as goal

pub returns : goal.returns
returns c = λ e. freer-all c.args.self.now c.args.u c.args.s
    (λ i h. let p = c.each_below.ensures.yes e i (omega arith) in search (rules, tests))
