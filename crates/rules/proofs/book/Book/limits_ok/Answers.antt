-- Each number below the count is asked. Assumes nothing.
use Rattle.std.proofs.Common.{ℕ, Bool, ◌∙◌, ap, rules, tests}
use Rattle.rules.specs.Book.{all_below, limit_ok, limits_ok}
use Rattle.rules.proofs.Asking.{told}
use Rattle.rules.proofs.book.Book.limits_ok.Goals as goal

pub returns : goal.returns
unfolding limit_ok limits_ok
returns c =
    let test : ℕ → Bool = limit_ok c.args.self.now c.args.s in
    told test c.limits.result c.each_below.result
    (λ e i h. let p = c.each_below.ensures.yes e i h in search (rules, tests))
    (λ e. let p = c.each_below.ensures.no e in (p.0, p.1, let q = p.2 in search (rules, tests)))
    ∙ ap (λ (n : ℕ). all_below n test) c.limits.ensures.number
