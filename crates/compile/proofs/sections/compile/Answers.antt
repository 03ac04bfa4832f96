-- Counts and four sections, each behind the one before: the book of the sheet. Assumes nothing.
use Rattle.std.proofs.Common.{◌≤◌, refl, ◌∙◌, arith}
use Rattle.meaning.specs.Sheet.{byte, firsts_at, steps_at, promises_at}
use Rattle.reader.specs.Header.{firsts_byte, steps_byte, firsts_in, steps_in}
use Rattle.reader.proofs.Good.{good-header}
use Rattle.rules.specs.Book.{most_rules}
use Rattle.compile.proofs.SectionLaws.{all-written}
use Rattle.compile.proofs.BookLaws.{written-book}
use Rattle.compile.proofs.sections.compile.Goals as goal

pub bounds-sheet-4 : goal.bounds-sheet-4
bounds-sheet-4 c = omega (arith, (good-header _ c.requires.0).least)

pub bounds-sheet-5 : goal.bounds-sheet-5
bounds-sheet-5 c = omega (arith, (good-header _ c.requires.0).least)

pub bounds-sheet-6 : goal.bounds-sheet-6
bounds-sheet-6 c = omega (arith, (good-header _ c.requires.0).least)

pub bounds-sheet-7 : goal.bounds-sheet-7
bounds-sheet-7 c = omega (arith, (good-header _ c.requires.0).least)

pub section-first_rules-requires : goal.section-first_rules-requires
unfolding byte
section-first_rules-requires c = record { good = c.requires.0; long = c.counts.ensures.1; all = refl; begins = refl }

pub section-step_rules-requires : goal.section-step_rules-requires
unfolding byte firsts_at
section-step_rules-requires c = record {
  good = c.requires.0;
  long = c.section-first_rules.ensures.keeps.long ∙ c.counts.ensures.1;
  all = refl;
  begins = c.section-first_rules.ensures.there;
}

pub section-promises-requires : goal.section-promises-requires
unfolding byte steps_at
section-promises-requires c = record {
  good = c.requires.0;
  long = c.section-step_rules.ensures.keeps.long ∙ c.section-first_rules.ensures.keeps.long ∙ c.counts.ensures.1;
  all = refl;
  begins = c.section-step_rules.ensures.there;
}

pub section-requires : goal.section-requires
unfolding byte promises_at
section-requires c = record {
  good = c.requires.0;
  long = c.section-promises.ensures.keeps.long ∙ c.section-step_rules.ensures.keeps.long ∙ c.section-first_rules.ensures.keeps.long
      ∙ c.counts.ensures.1;
  all = refl;
  begins = c.section-promises.ensures.there;
}

pub returns : goal.returns
unfolding byte
returns c =
    let s = c.args.sheet.now in
    let good = c.requires.0 in
    let firsts : firsts_in s ≤ most_rules = omega (arith, c.type_inv.sheet firsts_byte) in
    let steps : steps_in s ≤ most_rules = omega (arith, c.type_inv.sheet steps_byte) in
    written-book s _ good firsts steps
    (all-written s _ _ _ _ _ _ _ _ _ (good-header s good).few_limits firsts steps c.counts.ensures.0 c.counts.ensures.1
    c.section-first_rules.ensures c.section-step_rules.ensures c.section-promises.ensures c.section.ensures)
