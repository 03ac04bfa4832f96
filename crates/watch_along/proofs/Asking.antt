-- The loop of `ask`, place by place of the log: who has a witness hangs, and who has none either waits for a place in the line or is still
-- to be asked. Assumes nothing.
use mathlib.Core.Path.{◌≡◌, refl, sym, ap, subst, ◌∙◌}
use mathlib.Core.Logic.{◌⊎◌, inl, inr}
use mathlib.Core.List.{List}
use Rattle.std.proofs.Common.{Some, None}
use Prim.Native.Nat.{ℕ, ◌+◌, ◌≤◌, ◌<◌}
use native.Mathlib.Decide.{ℕ_discrete}
use native.Mathlib.Omega.{arith}
use lib.ListN.{length, get_or, set, length-set}
use lib.Seq.{get_or-set_same, get_or-set_other}
use Rattle.ground.specs.Listed.{Between}
use Rattle.meaning.specs.Promises.{most_states}
use Rattle.moves.specs.Layout.{Backed}
use Rattle.distances.specs.Far.{Unstruck}
use Rattle.watch.specs.Witness.{nobody, Hangable, Hangs}
use Rattle.watch.specs.Turns.{weight, unstruck_at, count_met_at, HelperFor, HelpedBy}
use Rattle.watch_along.specs.Along.{Leads, Woven, InLine, Askable, Asked}
use Rattle.watch.proofs.Weights.{count_most, count_turn}
use Rattle.watch.proofs.Hooked.{Hooks, as_was, hooked, Hooked, hangs-hooked}

-- where a place without a witness has a next place with one, that stands in the line, or the place itself in the log from g on
abbrev pub Waits : (words row : List ℕ) (M : ℕ → ℕ → Type 0) (log : List ℕ) (g tail : ℕ) (line : List ℕ) (n : ℕ) → Type 0
Waits words row M log g tail line n =
    (i j : ℕ) → i < length row → j < length row → Unstruck words i → Unstruck words j → M i j
    → get_or row i 0 ≡ nobody → (get_or row j 0 ≡ nobody → ⊥) → Between line 0 n j ⊎ Between log g tail i

-- the places of the log from m up to g were asked, and n of them found a helper
pub record AskedTo (words old forth log : List ℕ) (m tail : ℕ) (before row line : List ℕ) (n g : ℕ) : Type 0 where
  pub begun : m ≤ g
  pub long : length row ≡ length old
  pub line_long : length line ≡ length before
  pub counted : weight (unstruck_at nobody) words row (length old) + n ≤ length old
  pub in_line : InLine words row line n
  pub hangs : (back : List ℕ) → Woven (length old) forth back → Hangable words old (Backed back) log m tail
      → Hangs words old row (Backed back)
  pub waits : (back : List ℕ) → Woven (length old) forth back → Hangable words old (Backed back) log m tail
      → Waits words row (Backed back) log g tail line n

module _ (words old forth log : List ℕ) (m tail : ℕ) (before : List ℕ) (ready : Askable words old forth log m tail before) where
  -- the log up to g, where all but what changes is known
  abbrev AskedHere : (row line : List ℕ) (n g : ℕ) → Type 0
  AskedHere row line n g = AskedTo words old forth log m tail before row line n g

  -- Before the first turn all is as it was, and all without a witness stand in the log.
  pub asked-none : AskedHere old before 0 m
  asked-none = record {
    begun = omega arith;
    long = refl;
    line_long = refl;
    counted = let a = count_most nobody words old in omega arith;
    in_line = λ t h. absurd (omega arith);
    hangs = λ back w h. record { long = refl; pointed = h.pointed; hung = h.hung; own = λ i k. (λ e. e, λ e. e); only = λ i k e. e };
    waits = λ back w h i j a b z y l f o. inr (h.alone i a z f);
  }

  module _ (row line : List ℕ) (n g : ℕ) (r : AskedHere row line n g) where
    -- After the last turn who waits, waits for a place in the line.
    pub asked-done : tail ≤ g → Asked words old row forth log m tail before line n
    asked-done over = record {
      long = r.long;
      line_long = r.line_long;
      hanging = λ back w h.
          let u = r.hangs back w h in
          record {
            long = u.long;
            pointed = u.pointed;
            hung = u.hung;
            own = u.own;
            only = u.only;
            in_line = r.in_line;
            room = room;
            pending = λ i j a b z y l f o. in-line-only (r.waits back w h i j a b z y l f o);
          };
    }
      where
        room : n + count_met_at nobody words row ≤ length line
        room =
            let a = r.counted in
            let b : count_met_at nobody words row ≡ weight (unstruck_at nobody) words row (length old) =
            ap (λ (x : ℕ). weight (unstruck_at nobody) words row x) r.long in
            let c = ready.line_is.in_line in
            let d = r.line_long in
            omega arith

        in-line-only : {i j : ℕ} → Between line 0 n j ⊎ Between log g tail i → Between line 0 n j
        in-line-only (inl s) = s
        in-line-only (inr (t, a, b, e)) = absurd (omega arith)

    module _ (more : g < tail) (i : ℕ) (here : get_or log g 0 ≡ i) where
      -- The next place of the log is one.
      pub ask-place : (i < length old) × (i < length row) × (i < most_states) × (g < length log) × (g < most_states)
      ask-place =
          let a = ready.places g r.begun more in
          let b = r.long in
          let c = ready.few in
          let d = ready.in-log in
          let e = ready.log_few in
          (omega arith, omega arith, omega arith, omega arith, omega arith)

      -- who stands in the log from g on stands behind, unless it is this place
      behind : (k : ℕ) → (i ≡ k → ⊥) → Between log g tail k → Between log (g + 1) tail k
      behind k other (t, a, b, e) = by (ℕ_discrete t g)
        where
          by : Dec (t ≡ g) → Between log (g + 1) tail k
          by (yes q) = absurd (other (sym here ∙ ap (λ (x : ℕ). get_or log x 0) (sym q) ∙ e))
          by (no q) = (t, omega arith, b, e)

      -- A place without a helper has no next place with a witness, and is passed by.
      pub ask-past : HelperFor words row (Leads forth) i None → AskedHere row line n (g + 1)
      ask-past helps = record {
        begun = let a = r.begun in omega arith;
        long = r.long;
        line_long = r.line_long;
        counted = r.counted;
        in_line = r.in_line;
        hangs = r.hangs;
        waits = λ back w h k l a b z y p f o. on back w k l a b z y p f o (r.waits back w h k l a b z y p f o);
      }
        where
          none : (k l : ℕ) → Unstruck words k → get_or row k 0 ≡ nobody → Unstruck words l → (get_or row l 0 ≡ nobody → ⊥) → l < length row
              → Leads forth k l
              → i ≡ k → ⊥
          none k l z f y o b p q =
              helps (ap (λ (x : ℕ). get_or words x 0) q ∙ z) (ap (λ (x : ℕ). get_or row x 0) q ∙ f) l b
              (subst (λ (x : ℕ). Leads forth x l) (sym q) p) y o

          on : (back : List ℕ) → Woven (length old) forth back → (k l : ℕ) → k < length row → l < length row → Unstruck words k
              → Unstruck words l
              → Backed back k l → get_or row k 0 ≡ nobody → (get_or row l 0 ≡ nobody → ⊥) → Between line 0 n l ⊎ Between log g tail k
              → Between line 0 n l ⊎ Between log (g + 1) tail k
          on back w k l a b z y p f o (inl s) = inl s
          on back w k l a b z y p f o (inr s) =
              let e = r.long in
              inr (behind k (none k l z f y o b (w.turned_back k l (omega arith) (omega arith) p)) s)

      module _ (j : ℕ) (helps : HelperFor words row (Leads forth) i (Some j)) where
        fact : HelpedBy words row (Leads forth) i j
        fact = helps.2

        less : j < length row
        less = fact.inside

        -- the helper's place in the old row
        small : j < most_states
        small = let a = ready.few in let b = r.long in omega arith

        counts : weight (unstruck_at nobody) words (set row i j) (length old) + 1 ≡ weight (unstruck_at nobody) words row (length old)
        counts =
            count_turn words row i nobody j (length old) ask-place.0 ask-place.1 helps.0 helps.1
            (λ e. let a = small in omega arith)

        -- The helper is a place, and the line has room for who found it.
        pub ask-room : (j < most_states) × (n < length line) × (n < most_states)
        ask-room =
            let a = counts in
            let b = r.counted in
            let c = ready.line_is.in_line in
            let d = ready.line_is.line_few in
            let e = r.line_long in
            (small, omega arith, omega arith)

        row_here : get_or (set row i j) i 0 ≡ j
        row_here = get_or-set_same row i j 0 ask-place.1

        line-here : get_or (set line n i) n 0 ≡ i
        line-here = get_or-set_same line n i 0 ask-room.1

        -- who has a witness is another place
        other-than : (k : ℕ) → (get_or row k 0 ≡ nobody → ⊥) → k ≡ i → ⊥
        other-than k o q = o (ap (λ (x : ℕ). get_or row x 0) q ∙ helps.1)

        hooks : (back : List ℕ) → Woven (length old) forth back → Hooked words row (set row i j) (Backed back)
        hooks back w = record { long = length-set row i j; each = λ k h. by k (ℕ_discrete k i) }
          where
            here-hooks : Hooks words row (Backed back) i (get_or (set row i j) i 0)
            here-hooks =
                let e = r.long in
                hooked j helps.1 row_here less fact.unstruck fact.helped
                (w.turned i j ask-place.0 (omega arith) fact.moves)

            by : (k : ℕ) → Dec (k ≡ i) → Hooks words row (Backed back) k (get_or (set row i j) k 0)
            by k (yes q) = subst (λ (x : ℕ). Hooks words row (Backed back) x (get_or (set row i j) x 0)) (sym q) here-hooks
            by k (no q) = as_was (get_or-set_other row i k j 0 q)

        in-line' : InLine words (set row i j) (set line n i) (n + 1)
        in-line' t h = by (ℕ_discrete t n)
          where
            by : Dec (t ≡ n)
                → (get_or (set line n i) t 0 < length (set row i j)) × Unstruck words (get_or (set line n i) t 0)
                × (get_or (set row i j) (get_or (set line n i) t 0) 0 ≡ nobody → ⊥)
            by (yes q) =
                let e : get_or (set line n i) t 0 ≡ i = ap (λ (x : ℕ). get_or (set line n i) x 0) q ∙ line-here in
                let a = length-set row i j in
                let b = ask-place.1 in (
                  omega arith,
                  ap (λ (x : ℕ). get_or words x 0) e ∙ helps.0,
                  λ f. let d : j ≡ nobody = sym row_here ∙ sym (ap (λ (x : ℕ). get_or (set row i j) x 0) e) ∙ f in let c = small in
                      omega arith,
                )
            by (no q) =
                let e = get_or-set_other line n t i 0 q in
                let u = r.in_line t (omega arith) in
                let a = length-set row i j in
                let b = u.0 in (
                  omega arith,
                  ap (λ (x : ℕ). get_or words x 0) e ∙ u.1,
                  λ f. u.2 (sym (get_or-set_other row i (get_or line t 0) j 0 (other-than (get_or line t 0) u.2))
                      ∙ sym (ap (λ (x : ℕ). get_or (set row i j) x 0) e) ∙ f),
                )

        -- who stands in the line stays there
        still : (l : ℕ) → Between line 0 n l → Between (set line n i) 0 (n + 1) l
        still l (t, a, b, e) = (t, a, omega arith, get_or-set_other line n t i 0 (λ q. omega arith) ∙ e)

        waits' : (back : List ℕ) → Waits words row (Backed back) log g tail line n
            → Waits words (set row i j) (Backed back) log (g + 1) tail (set line n i) (n + 1)
        waits' back was k l a b z y p f o = by (ℕ_discrete l i)
          where
            -- who has no witness now is another place, and had none
            apart : k ≡ i → ⊥
            apart q =
                let d : j ≡ nobody = sym row_here ∙ sym (ap (λ (x : ℕ). get_or (set row i j) x 0) q) ∙ f in
                let c = small in
                omega arith

            on : Between line 0 n l ⊎ Between log g tail k → Between (set line n i) 0 (n + 1) l ⊎ Between log (g + 1) tail k
            on (inl s) = inl (still l s)
            on (inr s) = inr (behind k (λ q. apart (sym q)) s)

            by : Dec (l ≡ i) → Between (set line n i) 0 (n + 1) l ⊎ Between log (g + 1) tail k
            by (yes q) = inl (n, omega arith, omega arith, line-here ∙ sym q)
            by (no q) =
                let e = length-set row i j in
                on (was k l (omega arith) (omega arith) z y p (sym (get_or-set_other row i k j 0 apart) ∙ f)
                (λ d. o (get_or-set_other row i l j 0 q ∙ d)))

        -- A place that found a helper hangs on it, and joins the line.
        pub ask-more : AskedHere (set row i j) (set line n i) (n + 1) (g + 1)
        ask-more = record {
          begun = let a = r.begun in omega arith;
          long = length-set row i j ∙ r.long;
          line_long = length-set line n i ∙ r.line_long;
          counted = let a = counts in let b = r.counted in omega arith;
          in_line = in-line';
          hangs = λ back w h. hangs-hooked words old row (Backed back) (r.hangs back w h) (set row i j) (hooks back w);
          waits = λ back w h. waits' back (r.waits back w h);
        }
