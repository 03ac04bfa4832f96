-- One record compiled into its row: what the masks of its lists need, and that the row says what the record says. Assumes nothing.
use mathlib.Core.Path.{◌≡◌, sym, ◌∙◌, subst}
use mathlib.Core.Bool.{cond}
use mathlib.Core.List.{List}
use Prim.Native.Nat.{ℕ, suc, ◌+◌, ◌≤◌}
use native.Mathlib.Omega.{arith}
use lib.ListN.{length}
use Rattle.meaning.specs.Sheet.{byte, body_at, next_at, letters_in, most_letters, a_limit, a_first, a_step}
use Rattle.reader.specs.Place.{part}
use Rattle.reader.specs.Parts.{LimitRead, StepRead}
use Rattle.reader.specs.declared.parts.LimitParts.{LimitParts}
use Rattle.reader.specs.declared.parts.StepParts.{StepParts}
use Rattle.reader.proofs.Bodies.{body-from}
use Rattle.rules.specs.Book.{list_width, least_at, right_of}
use Rattle.rules.specs.Rows.{KeptBelow, Put}
use Rattle.rules.proofs.Rows.{kept_then}
use Rattle.compile.specs.Literals.{Ordered}
use Rattle.compile.specs.Compile.{ListSound, MasksAt, ListWritten, LimitSound, ListRecordSound, StepSound, RowWritten}

-- Masks stay where they stand.
pub masks-kept : {l l' : List ℕ} {at m : ℕ} {ls : List ℕ} → at + list_width ≤ m → KeptBelow m l l' → MasksAt l at ls → MasksAt l' at ls
masks-kept {at = at} le k m = record {
  held = k.same at (omega arith) ∙ m.held;
  unheld = k.same (at + 1) (omega arith) ∙ m.unheld;
}

masks-as : {l : List ℕ} {at : ℕ} {ls ls' : List ℕ} → ls ≡ ls' → MasksAt l at ls → MasksAt l at ls'
masks-as {l} {at} e m = subst (MasksAt l at) e m

-- A part of a sheet that is a list in order may be summed up.
sound-part :
    {s : List ℕ} {start end : ℕ} {ls : List ℕ} → part start end s ≡ ls → start ≤ end → end ≤ length s → letters_in s ≤ most_letters
    → Ordered (letters_in s) 0 ls → ListSound s start end
sound-part {s} e le within few o = record { order = le; within = within; few = few; ordered = subst (Ordered (letters_in s) 0) (sym e) o }

-- ---- a limit

module _ (s : List ℕ) (at : ℕ) (p : LimitParts) (r : LimitRead s at p) where
  pub limit-list : LimitSound s at → ListSound s p.start p.end
  limit-list sound = sound-part r.among r.order (let f = sound.fits in let e = r.end in omega arith) sound.few sound.among

  pub limit-written :
      (before mid after : List ℕ) (row least : ℕ) → ListWritten (part p.start p.end s) before row mid
      → least ≡ cond p.exact p.bound 0 → Put mid (least_at row) least p.bound after → RowWritten a_limit s at before row after
      p.end
  limit-written before mid after row least w m put = record {
    keeps = kept_then (omega arith) w.keeps put.keeps;
    says = record {
      masks = masks-as r.among (masks-kept {m = least_at row} (omega arith) put.keeps w.masks);
      least = put.first ∙ m ∙ (λ i. cond (r.exact i) (r.bound i) 0);
      most = put.second ∙ r.bound;
    };
    there = r.end;
  }

-- ---- a first rule or a promise

module _ (s : List ℕ) (at end : ℕ) (e : end ≡ at + 1 + byte s at) where
  record-body : part (at + 1) end s ≡ body_at s at
  unfolding next_at
  record-body = body-from s at 0 (at + 1) end (let a : at + 1 ≡ suc at + 0 = omega arith in a)
      (let b : end ≡ suc at + byte s at = omega arith in b)

  pub record-list : ListRecordSound s at → ListSound s (at + 1) end
  unfolding next_at
  record-list sound = sound-part record-body (omega arith) (let f = sound.fits in omega arith) sound.few sound.literals

  pub record-written : (before after : List ℕ) (row : ℕ) → ListWritten (part (at + 1) end s) before row after
      → RowWritten a_first s at before row after end
  unfolding next_at
  record-written before after row w = record { keeps = w.keeps; says = masks-as record-body w.masks; there = omega arith }

-- ---- a step rule

module _ (s : List ℕ) (at : ℕ) (p : StepParts) (r : StepRead s at p) where
  pub step_left : StepSound s at → ListSound s p.left p.right
  step_left sound =
      sound-part r.left r.order (let f = sound.fits in let e = r.end in let o = r.order_2 in omega arith) sound.few
      sound.left

  pub step_right : StepSound s at → ListSound s p.right p.end
  step_right sound = sound-part r.right r.order_2 (let f = sound.fits in let e = r.end in omega arith) sound.few sound.right

  pub step-written :
      (before mid after : List ℕ) (row : ℕ) → ListWritten (part p.left p.right s) before row mid
      → ListWritten (part p.right p.end s) mid (right_of row) after → RowWritten a_step s at before row after p.end
  step-written before mid after row v w = record {
    keeps = kept_then (omega arith) v.keeps w.keeps;
    says = record {
      left = masks-as r.left (masks-kept {m = right_of row} (omega arith) w.keeps v.masks);
      right = masks-as r.right w.masks;
    };
    there = r.end;
  }
