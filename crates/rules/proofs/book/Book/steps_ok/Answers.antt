-- Each number below the count is asked. Assumes nothing.
use Rattle.std.proofs.Common.{ℕ, Bool, ◌∙◌, ap, rules, tests}
use Rattle.rules.specs.Book.{all_below, step_ok, steps_ok}
use Rattle.rules.proofs.Asking.{told}
use Rattle.rules.proofs.book.Book.steps_ok.Goals as goal

pub returns : goal.returns
unfolding steps_ok
returns c =
    let test : ℕ → Bool = step_ok c.args.self.now c.args.s c.args.t in
    told test c.steps.result c.each_below.result
    (λ e i h. let p = c.each_below.ensures.yes e i h in search (rules, tests))
    (λ e. let p = c.each_below.ensures.no e in (p.0, p.1, let q = p.2 in search (rules, tests)))
    ∙ ap (λ (n : ℕ). all_below n test) c.steps.ensures.number
