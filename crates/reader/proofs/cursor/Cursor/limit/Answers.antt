-- `reader::cursor::Cursor::limit`: refused for its shape, else its list. Assumes nothing.
use Rattle.std.proofs.Common.{◌∙◌}
use Rattle.meaning.specs.Sheet.{byte}
use Rattle.reader.proofs.Reading.{limit-short, limit-kind, limit-shaped}
use Rattle.reader.proofs.cursor.Cursor.limit.Goals as goal

pub returns-then-s-at-lt2 : goal.returns-then-s-at-lt2
unfolding byte
returns-then-s-at-lt2 c = c.refuse.ensures ∙ limit-short _ _ _ c.requires c.if-s-at-lt2.true

pub returns-then-s-kind-gt1 : goal.returns-then-s-kind-gt1
unfolding byte
returns-then-s-kind-gt1 c =
    c.refuse-then-s-kind-gt1.ensures ∙ limit-kind _ _ _ c.requires c.if-s-at-lt2.false c.if-s-kind-gt1.true

pub limit_parts-p-requires : goal.limit_parts-p-requires
unfolding byte
limit_parts-p-requires c = record { fits = c.requires; long = c.if-s-at-lt2.false }

pub returns : goal.returns
unfolding byte
returns c =
    c.list.ensures
    ∙ limit-shaped _ _ _ c.requires _ c.limit_parts-p.ensures c.if-s-at-lt2.false c.if-s-kind-gt1.false
