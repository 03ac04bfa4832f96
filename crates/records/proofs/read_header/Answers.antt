-- `records::read_header`: eight bytes read, two of them the length. Assumes nothing.
use Rattle.std.proofs.Common.{◌≡◌, ℕ, sym, ap, arith}
use Rattle.meaning.specs.Sheet.{byte, letters_in}
use Rattle.reader.specs.Header.{length_in}
use Rattle.records.specs.Records.{stated_in}
use Rattle.records.specs.declared.Stated.{Stated}
use Rattle.records.proofs.read_header.Goals as goal

pub returns : goal.returns
unfolding stated_in byte letters_in
returns c =
    let size : c.from_be_bytes.result ≡ length_in c.args.sheet.now = omega (arith, c.from_be_bytes.ensures) in
    rw size
