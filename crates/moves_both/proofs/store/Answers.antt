-- `moves_both::store` meets its contract: rows that were stored forth can be turned. Assumes nothing.
use Rattle.moves_both.proofs.Both.{forth-turnable}
use Rattle.moves_both.proofs.store.Goals as goal

pub turn-requires : goal.turn-requires
turn-requires c =
    let F = c.store_forth.ensures.0 c.if-store_forth.true in
    (forth-turnable _ _ _ _ c.requires.0.states.few F.0 F.1, c.store_forth.ensures.2)
