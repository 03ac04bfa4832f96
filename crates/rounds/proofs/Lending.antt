-- One row lent to a phase and put back: what a phase did to its row it did to the rows of all reasons. Assumes nothing.
use mathlib.Core.Path.{◌≡◌, sym, subst, ◌∙◌}
use mathlib.Core.List.{List, ◌++◌}
use Prim.Native.Nat.{ℕ, suc, ◌+◌, ◌-◌, ◌*◌, ◌≤◌}
use lib.ListN.{length, take, drop}
use Rattle.watch.specs.Turns.{Watched}
use Rattle.rounds.specs.Rows.{row_of, RowTurned}
use Rattle.rounds.proofs.Rows.{lent_back, lent_row, front-row, front-inside, PutBack, row_back, front-back}

module _ {Zeroth : List ℕ → List ℕ → Type 0} {words words' wit : List ℕ} {M : ℕ → ℕ → Type 0} {log log' : List ℕ} {r reason word m end : ℕ}
    (room : suc reason * r ≤ length wit) (part : List ℕ) where
  -- A phase of reason 0 was run on the first row.
  pub first-turned : reason ≡ 0 → length part ≡ length (take r wit) → Zeroth (take r wit) part
      → RowTurned Zeroth words words' wit (part ++ drop r wit) M log log' r reason word m end
  first-turned zeroth same done = record {
    long = back.long;
    others = λ q other in'. back.others q (λ e. other (e ∙ sym zeroth)) in';
    zeroth = λ z. subst (λ (l : List ℕ). Zeroth (row_of r 0 wit) l) (sym back.row)
        (subst (λ (l : List ℕ). Zeroth l part) (front-row r wit) done);
    watched = λ n. absurd (n zeroth);
  }
    where
      back : PutBack r 0 wit (part ++ drop r wit) part
      back = front-back r wit part (front-inside reason r (length wit) room) same

  -- A phase of a promise was run on its row.
  pub promise-turned : (reason ≡ 0 → ⊥)
      → Watched words words' (take (reason * r + r - reason * r) (drop (reason * r) wit)) part M log log' m end word
      → RowTurned Zeroth words words' wit (lent_back (reason * r) r wit part) M log log' r reason word m end
  promise-turned other done = record {
    long = back.long;
    others = back.others;
    zeroth = λ z. absurd (other z);
    watched = λ n. subst (λ (l : List ℕ). Watched words words' (row_of r reason wit) l M log log' m end word) (sym back.row)
        (subst (λ (l : List ℕ). Watched words words' l part M log log' m end word) (lent_row r reason wit) done);
  }
    where
      back : PutBack r reason wit (lent_back (reason * r) r wit part) part
      back = row_back r reason wit part room done.long
