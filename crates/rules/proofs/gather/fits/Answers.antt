-- Each number below the count is asked. Assumes nothing.
use Rattle.std.proofs.Common.{ℕ, Bool, rules, tests}
use Rattle.rules.specs.Book.{some_at, gathered_at, clauses_ok}
use Rattle.rules.proofs.Asking.{told}
use Rattle.rules.proofs.gather.fits.Goals as goal

pub returns : goal.returns
unfolding clauses_ok
returns c =
    let test : ℕ → Bool = λ i. some_at c.args.clauses.now (gathered_at i) c.args.t in
    told test c.args.count c.each_below.result
    (λ e i h. let p = c.each_below.ensures.yes e i h in search (rules, tests))
    (λ e. let p = c.each_below.ensures.no e in (p.0, p.1, let q = p.2 in search (rules, tests)))
