-- `sample::walk_stored` meets its contract: as many distances as there can be have room, and the moves are stored both ways. Assumes
-- nothing.
use Rattle.std.proofs.Common.{◌≡◌, ◌*◌, true, refl, arith}
use Rattle.std.proofs.lemmas.Grind.{common_steps}
use Rattle.meaning.specs.Promises.{most_states}
use Rattle.sample.proofs.Ways.{lent_rows, stored-ways}
use Rattle.sample.proofs.walk_stored.Goals as goal

pub walk-steps-requires : goal.walk-steps-requires
walk-steps-requires c =
    let room = lent_rows c.requires.states (16 * most_states) most_states c.requires.states.states.few refl in
    let stored : c.store.result ≡ true = grind (arith, common_steps) in
    let ways = stored-ways _ _ c.store.ensures.0 stored room.1 in
    (c.requires, room.0, ways.0, ways.1)
