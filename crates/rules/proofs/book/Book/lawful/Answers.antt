-- A number is below 2 ^ n if nothing is left of it above its n lowest bits. Assumes nothing.
use Rattle.std.proofs.Common.{◌≡◌, ◌∙◌, false, nat_eq, ◌/◌, ◌^◌, rules, tests}
use Rattle.rules.specs.Book.{book_lawful}
use Rattle.rules.proofs.Asking.{not-below, is_below}
use Rattle.rules.proofs.book.Book.lawful.Goals as goal

pub returns-then-s-letters-eq0 : goal.returns-then-s-letters-eq0
unfolding book_lawful
returns-then-s-letters-eq0 c = c.limits_ok.ensures ∙ is_below _ _ _ _ c.letters.ensures.number c.if-s-letters-eq0.true

pub returns-else-s-letters-eq0 : goal.returns-else-s-letters-eq0
unfolding book_lawful
returns-else-s-letters-eq0 c =
    let left : nat_eq (c.args.s / 2 ^ c.letters.result) 0 ≡ false = search (rules, tests) in
    left ∙ not-below _ _ _ _ c.letters.ensures.number c.if-s-letters-eq0.false
