-- `records::write_header`: eight bytes set one by one, then written. Assumes nothing.
use Rattle.std.proofs.Common.{◌≡◌, ◌/◌, ◌%◌, get_or, arith, ◌∙◌}
use Rattle.records.specs.Records.{header}
use Rattle.records.proofs.write_header.Goals as goal

pub returns : goal.returns
unfolding header
returns c =
    let size = c.args.stated.size in
    let high : size / 256 % 256 ≡ size / 256 = omega arith in
    let w = rw c.to_be_bytes.ensures at c.write.ensures in
    rw high at w
