-- `reader::cursor::Cursor::list`: what is left of the list has the fault of the whole. Assumes nothing.
use Rattle.std.proofs.Common.{◌≡◌, ℕ, Ok, sym, ap, ◌∙◌, arith}
use Rattle.reader.proofs.Reading.{listing_begins, listing-done, listing-names-none, listing-falls, listing-goes-on}
use Rattle.reader.proofs.cursor.Cursor.list.Goals as goal

pub loop-at-init : goal.loop-at-init
loop-at-init c = listing_begins _ _ _ _ c.requires.order

pub returns-then-not-names_letter : goal.returns-then-not-names_letter
returns-then-not-names_letter c =
    c.refuse.ensures
    ∙ listing-names-none _ _ _ _ _ _ c.loop-at.invariant c.loop-at-test.true c.requires.within
    (sym c.names_letter.ensures ∙ c.if-not-names_letter.true)

pub returns-then-not-signed_below : goal.returns-then-not-signed_below
returns-then-not-signed_below c =
    c.refuse-then-not-signed_below.ensures
    ∙ listing-falls _ _ _ _ _ _ c.loop-at.invariant c.loop-at-test.true c.requires.within
    (sym c.names_letter.ensures ∙ c.if-not-names_letter.false)
    (sym c.signed_below.ensures ∙ c.if-not-signed_below.true)

pub loop-at-preserved : goal.loop-at-preserved
loop-at-preserved c =
    listing-goes-on _ _ _ _ _ _ c.loop-at.invariant c.loop-at-test.true c.requires.within
    (sym c.names_letter.ensures ∙ c.if-not-names_letter.false)
    (sym c.signed_below.ensures ∙ c.if-not-signed_below.false)

pub returns : goal.returns
returns c =
    let here : c.loop-at.at ≡ c.args.end = omega (arith, c.loop-at.invariant.order) in
    ap (λ (at : ℕ). Ok (record { at = at })) (sym here)
    ∙ listing-done _ _ _ _ _ _ c.loop-at.invariant c.loop-at-test.false
