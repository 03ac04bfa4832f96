-- What `limit_parts` and `step_parts` ask and give: a record's parts as places in the sheet, tied to the meaning's `limit_of` and `step_of`
-- of the record's own bytes. Assumes nothing.
use Rattle.std.specs.Prelude.{◌≡◌, List, ℕ, suc, ◌+◌, ◌≤◌, ◌<◌, length}
use Rattle.meaning.specs.Sheet.{limit_of, step_of, byte, body_at, next_at}
use Rattle.reader.specs.Place.{part}
use Rattle.reader.specs.declared.parts.LimitParts.{LimitParts}
use Rattle.reader.specs.declared.parts.StepParts.{StepParts}

-- the record lies within the sheet, and has a kind and a bound
pub record LimitAsks (s : List ℕ) (at : ℕ) : Type 0 where
  pub fits : next_at s at ≤ length s
  pub long : 2 ≤ byte s at

-- the limit's parts; its literals are the bytes from `start` to `end`
pub record LimitRead (s : List ℕ) (at : ℕ) (p : LimitParts) : Type 0 where
  pub exact : p.exact ≡ (limit_of (body_at s at)).exact
  pub bound : p.bound ≡ (limit_of (body_at s at)).bound
  pub among : part p.start p.end s ≡ (limit_of (body_at s at)).among
  pub start : p.start ≡ at + 3
  pub end : p.end ≡ next_at s at
  pub order : p.start ≤ p.end

-- the record lies within the sheet, and its count is within the record
pub record StepAsks (s : List ℕ) (at : ℕ) : Type 0 where
  pub fits : next_at s at ≤ length s
  pub long : 1 ≤ byte s at
  pub count : byte s (suc at) < byte s at

-- the step rule's parts; its left side is the bytes from `left` to `right`, its right side those from `right` to `end`
pub record StepRead (s : List ℕ) (at : ℕ) (p : StepParts) : Type 0 where
  pub left : part p.left p.right s ≡ (step_of (body_at s at)).left
  pub right : part p.right p.end s ≡ (step_of (body_at s at)).right
  pub left_at : p.left ≡ at + 2
  pub right-at : p.right ≡ at + 2 + byte s (suc at)
  pub end : p.end ≡ next_at s at
  pub order : p.left ≤ p.right
  pub order_2 : p.right ≤ p.end
