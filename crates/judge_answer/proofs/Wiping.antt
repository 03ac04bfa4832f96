-- What the wipings that end each answer leave. Assumes nothing.
use Rattle.std.proofs.Common.{◌≡◌, sym, ap, ◌∙◌, ℕ, ◌-◌, ◌≤◌, List, [], ◌++◌, length, take, drop, append-nil, arith}
use Rattle.std.proofs.Math.ListN.{replicate, drop_of_length-le}
use Rattle.std.proofs.lemmas.List.{drop-replicate, length-drop, length-take-le}
use borrow.Rule.Slice.PartMut.{put_mid}
use Rattle.meaning.specs.Promises.{over, zeros}
use Rattle.table_order.specs.Placing.{Ordered}
use Rattle.judge_answer.specs.Judging.{LeftOver, StrikesWritten}

-- What `l.fill(0)` leaves.
pub filled-whole : (old new : List ℕ) → new ≡ replicate (length old) 0 → new ≡ zeros old
unfolding zeros
filled-whole old new e = e

-- From place 0 on all is zero.
pub wiped-whole : (new old : List ℕ) → new ≡ over (take 0 old) (zeros old) → new ≡ zeros old
unfolding over
wiped-whole new old e = e

-- Zeros are as many as there were places.
pub zeros-same : (a b : List ℕ) → length a ≡ length b → zeros a ≡ zeros b
unfolding zeros
zeros-same a b e = λ i. replicate (e i) 0

-- ---- the strike list

-- The strike list: ordered, then table and words from place r on.
pub wiped-strikes : {table words scratch table₁ words₁ scratch₁ table' words' scratch' : List ℕ} {r : ℕ}
    → Ordered table words scratch r table₁ words₁ scratch₁ → LeftOver r r table₁ words₁ scratch₁ table' words' scratch'
    → StrikesWritten table words scratch r table' words' scratch'
wiped-strikes {table} {words} {scratch} {table₁} {words₁} {scratch₁} {r = r} O L = record {
  states = table₁;
  marks = words₁;
  in_order = O.in_order;
  table_is = L.table_is ∙ ap (over (take r table₁)) (zeros-same table₁ table O.in_order.long-table);
  words_is = L.words_is ∙ ap (over (take r words₁)) (zeros-same words₁ words O.in_order.long-words);
  scratch_is = L.scratch_is ∙ zeros-same scratch₁ scratch O.scratch_long;
}
