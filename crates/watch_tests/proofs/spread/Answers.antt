-- `watch_tests::spread`: in the slots no place stands yet.
use Rattle.std.proofs.Common.{arith}
use Rattle.watch_tests.proofs.Sifting.{seen_none}
use Rattle.watch_tests.proofs.spread.Goals as goal

pub spread_noting-requires-2 : goal.spread_noting-requires-2
spread_noting-requires-2 c = (c.requires.0, c.requires.1, seen_none _ _ _ 2048, omega arith)
