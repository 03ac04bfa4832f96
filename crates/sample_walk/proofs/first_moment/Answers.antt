-- `sample_walk::first_moment` meets its contract: some livable state is a first state. Assumes nothing.
use Rattle.sample_walk.proofs.Trails.{first-found}
use Rattle.sample_walk.proofs.first_moment.Goals as goal

pub unwrap-place-requires : goal.unwrap-place-requires
unwrap-place-requires c = first-found c.requires _ c.first_place.ensures
