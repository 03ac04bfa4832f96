-- `reader::header::header`: one law of proofs/Whole.antt for each return, handed what the passed checks say. Assumes nothing.
use Rattle.std.proofs.Common.{sym, ◌∙◌, arith}
use Rattle.meaning.specs.Sheet.{byte, letters_in}
use Rattle.reader.proofs.Whole.{size-bad, version-bad, length-bad, letters-bad, limits-bad, promises-bad, header-good}
use Rattle.reader.proofs.header.header.Goals as goal

pub returns-then-len-lt-LEAST_BYTES : goal.returns-then-len-lt-LEAST_BYTES
returns-then-len-lt-LEAST_BYTES c = c.refuse.ensures ∙ size-bad c.args.s.now (λ h k. omega arith)

pub returns-then-not-version_ok : goal.returns-then-not-version_ok
unfolding byte
returns-then-not-version_ok c =
    c.refuse-then-not-version_ok.ensures
    ∙ version-bad c.args.s.now (omega arith) (omega arith) (sym c.version_ok.ensures ∙ c.if-not-version_ok.true)

pub returns-then-stated-len : goal.returns-then-stated-len
unfolding byte
returns-then-stated-len c =
    c.refuse-then-stated-len.ensures
    ∙ length-bad c.args.s.now (omega arith) (omega arith) (sym c.version_ok.ensures ∙ c.if-not-version_ok.false)
    (λ e. omega arith)

pub returns-then-n-lt1 : goal.returns-then-n-lt1
unfolding byte letters_in
returns-then-n-lt1 c =
    c.refuse-then-n-lt1.ensures
    ∙ letters-bad c.args.s.now (omega arith) (omega arith) (sym c.version_ok.ensures ∙ c.if-not-version_ok.false)
    (omega arith) (λ h k. omega arith)

pub returns-then-s-gt-MOST_LIMITS : goal.returns-then-s-gt-MOST_LIMITS
unfolding byte letters_in
returns-then-s-gt-MOST_LIMITS c =
    c.refuse-then-s-gt-MOST_LIMITS.ensures
    ∙ limits-bad c.args.s.now (omega arith) (omega arith) (sym c.version_ok.ensures ∙ c.if-not-version_ok.false)
    (omega arith) (omega arith) (omega arith) (omega arith)

pub returns-then-s-gt-MOST_PROMISES : goal.returns-then-s-gt-MOST_PROMISES
unfolding byte letters_in
returns-then-s-gt-MOST_PROMISES c =
    c.refuse-then-s-gt-MOST_PROMISES.ensures
    ∙ promises-bad c.args.s.now (omega arith) (omega arith) (sym c.version_ok.ensures ∙ c.if-not-version_ok.false)
    (omega arith) (omega arith) (omega arith) (omega arith) (omega arith)

pub returns : goal.returns
unfolding byte letters_in
returns c =
    header-good c.args.s.now (omega arith) (omega arith) (sym c.version_ok.ensures ∙ c.if-not-version_ok.false)
    (omega arith) (omega arith) (omega arith) (omega arith) (omega arith)
