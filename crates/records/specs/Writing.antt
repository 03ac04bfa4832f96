-- What writing records into a lent slice asks and leaves. Assumes nothing.
use Rattle.std.specs.Prelude.{◌≡◌, List, ℕ, suc, ◌+◌, ◌≤◌, length}
use Rattle.std.proofs.lemmas.List.Edits.{sets}
use Rattle.records.specs.Records.{section}

-- one byte can state the record's length, and its place is at most the slice's end
pub record BodyAsks (slice : List ℕ) (at : ℕ) (body : List ℕ) : Type 0 where
  pub few : length body ≤ 255
  pub within : at ≤ length slice

-- the records' bytes stand in the slice from `at` on, as far as it reaches, all else is as it was, and the next record goes to `to`
pub record RecordsWritten (old : List ℕ) (at : ℕ) (records : List (List ℕ)) (new : List ℕ) (to : ℕ) : Type 0 where
  pub slice : new ≡ sets old at (section records)
  pub next : to ≡ at + length (section records)
