-- The loop of `spread`, place by place of the line: who has a witness hangs, and who waits for one waits for a place further down the line.
-- Assumes nothing.
use mathlib.Core.Path.{◌≡◌, refl, sym, ap, subst, ◌∙◌}
use mathlib.Core.List.{List}
use Prim.Native.Nat.{ℕ, ◌+◌, ◌≤◌, ◌<◌}
use native.Mathlib.Decide.{dec_lt, ℕ_discrete}
use native.Mathlib.Omega.{arith}
use lib.ListN.{length, get_or}
use Rattle.ground.specs.Listed.{Between}
use Rattle.meaning.specs.Promises.{most_states}
use Rattle.moves.specs.Layout.{Backed}
use Rattle.distances.specs.Far.{Unstruck}
use Rattle.watch.specs.Witness.{nobody, Hangs, Rehung}
use Rattle.watch.specs.Turns.{weight, unstruck_at, count_met_at, Redirects, turns, stays, Redirected, Line}
use Rattle.watch_along.specs.Along.{Walkable, Redirectable, InLine, Hanging}
use Rattle.watch.proofs.Turning.{redirected-counts}
use Rattle.watch_along.proofs.Redirecting.{redirectable-along}
use Rattle.watch.proofs.Hooked.{Hooks, as_was, hooked, Hooked, hangs-hooked}

-- what hangs while places hang anew
pub hanging-hangs : {words old row line : List ℕ} {M : ℕ → ℕ → Type 0} {head tail : ℕ} → Hanging words old row M line head tail
    → Hangs words old row M
hanging-hangs h = record { long = h.long; pointed = h.pointed; hung = h.hung; own = h.own; only = h.only }

-- the rows of the line's first `head` places were redirected, and it has `tail` places
pub record SpreadTo (words row₀ back line₀ : List ℕ) (n : ℕ) (row line : List ℕ) (tail head : ℕ) : Type 0 where
  pub long : length row ≡ length row₀
  pub line_long : length line ≡ length line₀
  pub within : head ≤ tail
  pub in_line : InLine words row line tail
  pub room : tail + count_met_at nobody words row ≤ length line
  pub hanging : (old : List ℕ) → Hanging words old row₀ (Backed back) line₀ 0 n → Hanging words old row (Backed back) line head tail

-- what is asked of `spread`
abbrev pub Spreadable : (words row back line : List ℕ) (n : ℕ) → Type 0
Spreadable words row back line n =
    Walkable back (length row) × (length row ≤ length words) × Line row line × (n ≤ length line) × InLine words row line n
    × (n + count_met_at nobody words row ≤ length line)

module _ (words row₀ back line₀ : List ℕ) (n : ℕ) (pre : Spreadable words row₀ back line₀ n) where
  -- Before the first turn all is as it was.
  pub spread_none : SpreadTo words row₀ back line₀ n row₀ line₀ n 0
  spread_none = record { long = refl; line_long = refl; within = omega arith; in_line = pre.4; room = pre.5; hanging = λ old h. h }

  module _ (row line : List ℕ) (tail head : ℕ) (r : SpreadTo words row₀ back line₀ n row line tail head) where
    -- At the line's end nobody waits.
    pub spread-done : tail ≤ head → (old : List ℕ) → Hanging words old row₀ (Backed back) line₀ 0 n → Rehung words old row (Backed back)
    spread-done over old h = record {
      long = now.long;
      pointed = now.pointed;
      hung = now.hung;
      own = now.own;
      only = now.only;
      closed = λ i j a b z y l f o. none-waits (now.pending i j a b z y l f o);
    }
      where
        now : Hanging words old row (Backed back) line head tail
        now = r.hanging old h

        none-waits : {j : ℕ} → Between line head tail j → ⊥
        none-waits (t, a, b, e) = omega arith

    module _ (more : head < tail) where
      -- the next place of the line
      abbrev next : ℕ
      next = get_or line head 0

      -- The next place is one, and stands in the line.
      pub spread-next : (get_or line head 0 < length row) × (get_or line head 0 < most_states) × (head < length line) × (head < most_states)
      spread-next =
          let a = (r.in_line head more).0 in
          let b = pre.2.in_line in
          let c = pre.2.line_few in
          let d = r.room in
          let e = r.long in
          let f = r.line_long in
          (a, omega arith, omega arith, omega arith)

      -- it is not the number of a place without a witness
      apart : nobody ≡ get_or line head 0 → ⊥
      apart e = let a = spread-next.1 in omega arith

      -- Its row may be redirected.
      pub spread-ready : Redirectable words row back (get_or line head 0) nobody (get_or line head 0) line tail
      spread-ready =
          let a = pre.1 in
          let b = pre.2.in_line in
          let c = pre.2.line_few in
          let e = r.long in
          let f = r.line_long in
          let p = spread-next.0 in
          redirectable-along pre.0 r.long (omega arith)
          (record { few = omega arith; in_words = omega arith; apart = apart; room = r.room; line_few = omega arith })

      module _ (row' line' : List ℕ) (m : ℕ)
          (done : Redirected (λ (i : ℕ). Backed back i (get_or line head 0)) words nobody (get_or line head 0) row row' tail line line' m) where
        -- who has a witness keeps it
        kept : (i : ℕ) → i < length row → (get_or row i 0 ≡ nobody → ⊥) → get_or row' i 0 ≡ get_or row i 0
        kept i h other = by (done.each i h)
          where
            by : Redirects (Backed back i next) (get_or words i 0) nobody next (get_or row i 0) (get_or row' i 0) → get_or row' i 0 ≡ get_or row i 0
            by (turns p z o g) = absurd (other o)
            by (stays e f) = e

        -- the redirected places hang on the next place
        hooks : Hooked words row row' (Backed back)
        hooks = record { long = done.long; each = λ i h. by i (done.each i h) }
          where
            by : (i : ℕ) → Redirects (Backed back i next) (get_or words i 0) nobody next (get_or row i 0) (get_or row' i 0)
                → Hooks words row (Backed back) i (get_or row' i 0)
            by i (turns p z o g) = let u = r.in_line head more in hooked next o g u.0 u.1 u.2 p
            by i (stays e f) = as_was e

        in-line' : InLine words row' line' m
        in-line' t h = by (dec_lt t tail)
          where
            by : Dec (t < tail)
                → (get_or line' t 0 < length row') × Unstruck words (get_or line' t 0) × (get_or row' (get_or line' t 0) 0 ≡ nobody → ⊥)
            by (yes k) =
                let e = done.kept t k in
                let u = r.in_line t k in
                let a = u.0 in
                let l = done.long in (
                  omega arith,
                  ap (λ (x : ℕ). get_or words x 0) e ∙ u.1,
                  λ f. u.2 (sym (kept (get_or line t 0) a u.2) ∙ sym (ap (λ (x : ℕ). get_or row' x 0) e) ∙ f),
                )
            by (no k) =
                let u = done.added t (omega arith) h in
                let a = u.0 in
                let l = done.long in
                (omega arith, u.1, λ f. apart (sym f ∙ u.3))

        room' : m + count_met_at nobody words row' ≤ length line'
        room' =
            let a = redirected-counts words nobody next row row' tail line line' m apart done in
            let b : count_met_at nobody words row' ≡ weight (unstruck_at nobody) words row' (length row) =
            ap (λ (x : ℕ). weight (unstruck_at nobody) words row' x)
            done.long in
            let c = r.room in
            let d = done.line_long in
            omega arith

        module _ (old : List ℕ) (was : Hanging words old row (Backed back) line head tail) where
          pending' : (i j : ℕ) → i < length row → j < length row → Unstruck words i → Unstruck words j → Backed back i j
              → get_or row' i 0 ≡ nobody → (get_or row' j 0 ≡ nobody → ⊥) → Between line' (head + 1) m j
          pending' i j a b z y l f other = at (done.each j b)
            where
              -- i waited before, and its row does not lead back from the next place
              lone : Redirects (Backed back i next) (get_or words i 0) nobody next (get_or row i 0) (get_or row' i 0)
                  → (get_or row i 0 ≡ nobody) × (Backed back i next → ⊥)
              lone (turns p v o g) = absurd (apart (sym f ∙ g))
              lone (stays e s) = (sym e ∙ f, λ p. s p z (sym e ∙ f))

              shift : (Backed back i next → ⊥) → Between line head tail j → Between line' (head + 1) m j
              shift not-next (t, c, d, e) = by (ℕ_discrete t head)
                where
                  by : Dec (t ≡ head) → Between line' (head + 1) m j
                  by (yes q) =
                      absurd (not-next (subst (λ (x : ℕ). Backed back i x) (sym e ∙ ap (λ (x : ℕ). get_or line x 0) q) l))
                  by (no q) = let g = done.grows in (t, omega arith, omega arith, done.kept t d ∙ e)

              later : Between line' tail m j → Between line' (head + 1) m j
              later (t, c, d, e) = (t, omega arith, d, e)

              at : Redirects (Backed back j next) (get_or words j 0) nobody next (get_or row j 0) (get_or row' j 0) → Between line' (head + 1) m j
              at (turns p v o g) = later (done.whole j b y o g)
              at (stays e s) =
                  let u = lone (done.each i a) in
                  shift u.1 (was.pending i j a b z y l u.0 (λ o. other (e ∙ o)))

          hanging' : Hanging words old row' (Backed back) line' (head + 1) m
          hanging' =
              let h = hangs-hooked words old row (Backed back) (hanging-hangs was) row' hooks in
              record {
                long = h.long;
                pointed = h.pointed;
                hung = h.hung;
                own = h.own;
                only = h.only;
                in_line = in-line';
                room = room';
                pending = λ i j a b. pending' i j (let e = done.long in omega arith) (let e = done.long in omega arith);
              }

        -- The places that move to the next place, and had no witness, hang on it and join the line.
        pub spread-more : SpreadTo words row₀ back line₀ n row' line' m (head + 1)
        spread-more = record {
          long = done.long ∙ r.long;
          line_long = done.line_long ∙ r.line_long;
          within = let a = done.grows in omega arith;
          in_line = in-line';
          room = room';
          hanging = λ old h. hanging' old (r.hanging old h);
        }
