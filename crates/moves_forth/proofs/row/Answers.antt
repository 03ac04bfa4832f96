-- The places of the listed next states are the places that s moves to. The lent cells come back with a row more, and nothing else has
-- changed.
use Rattle.std.proofs.Common.{◌≡◌, ◌≤◌, length, rules, arith}
use Rattle.std.proofs.lemmas.Option.{IfSome_then}
use Rattle.moves.specs.Layout.{most_cells}
use Rattle.moves.proofs.Layouts.{cells-only}
use Rattle.moves_forth.proofs.Filling.{filled-back, before-back}
use Rattle.moves_forth.proofs.Lookups.{storable-sorted, listing-sorted, listing-nexts}
use Rattle.moves_forth.proofs.row.Goals as goal

pub look_up-requires : goal.look_up-requires
look_up-requires c = (
  storable-sorted _ _ _ c.requires.0,
  c.requires.0.states.few,
  listing-sorted c.args.book.now c.args.s _ _ _ c.next_states-n.ensures (omega arith),
  omega arith,
  omega arith,
)

pub returns-else-n-room-clause-row : goal.returns-else-n-room-clause-row
returns-else-n-room-clause-row c =
    let fits : c.next_states-n.result ≤ length c.args.room.now = omega arith in
    let same : length c.look_up.new.cells ≡ most_cells = search rules in
    IfSome_then c.look_up.result c.look_up.ensures.row
    (λ to f. filled-back _ _ _ c.args.moves.now c.look_up.new.cells c.requires.4 same
    (listing-nexts c.args.book.now c.args.s _ _ _ c.next_states-n.ensures fits c.args.table.now _ _ f))

pub returns-else-n-room-clause-before : goal.returns-else-n-room-clause-before
returns-else-n-room-clause-before c =
    let same : length c.look_up.new.cells ≡ most_cells = search rules in
    before-back c.args.at c.args.moves.now c.look_up.new.cells c.requires.4 same c.look_up.ensures.before

pub returns-else-n-room-clause-rest : goal.returns-else-n-room-clause-rest
returns-else-n-room-clause-rest c =
    let same : length c.look_up.new.cells ≡ most_cells = search rules in
    cells-only c.args.moves.now c.look_up.new.cells c.requires.4 same
