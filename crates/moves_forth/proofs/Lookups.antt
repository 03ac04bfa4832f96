-- A row by listing: each listed state is looked up in the table. Assumes nothing.
use mathlib.Core.Path.{◌≡◌, sym, subst, ap, ◌∙◌}
use mathlib.Core.Logic.{◌⊎◌, inl, inr}
use mathlib.Core.List.{List}
use Prim.Native.Nat.{ℕ, suc, ◌+◌, ◌≤◌, ◌<◌}
use native.Mathlib.Decide.{dec_lt, ℕ_discrete}
use native.Mathlib.Omega.{arith}
use lib.ListN.{length, get_or, set, take}
use lib.Seq.{length-take-le, get_or-take}
use Rattle.ground.specs.Listed.{Rises}
use Rattle.ground.proofs.Rising.{rises-apart, rises-le}
use Rattle.walk_listing.specs.Listing.{Listing}
use Rattle.walk_listing.proofs.Front.{front_long, front-rises, front-there, front-sound}
use Rattle.table_lookup.specs.Lookup.{StandsAt, Sorted, Splits}
use Rattle.table_lookup.proofs.Places.{split-absent}
use Rattle.rules.specs.Book.{book_system}
use Rattle.moves.specs.Moves.{Storable}
use Rattle.moves_forth.specs.Storing.{Listed, Nexts, Filled}
use Rattle.moves_forth.proofs.Filling.{filled-more, filled-same}

-- A storable table is sorted.
pub storable-sorted : (book table : List ℕ) (r : ℕ) → Storable book table r → Sorted table r
storable-sorted book table r s = record { rises = λ i h. s.rises i (suc i) (omega arith) h; long = s.states.in_table }

-- A state stands at one place only.
one_place : (table : List ℕ) {r : ℕ} → Rises table r → (i p : ℕ) → i < r → p < r → get_or table i 0 ≡ get_or table p 0 → i ≡ p
one_place table R i p h k e = by (dec_lt i p) (dec_lt p i)
  where
    by : Dec (i < p) → Dec (p < i) → i ≡ p
    by (yes l) d = absurd (let a = rises-apart table R i p l k in omega arith)
    by (no l) (yes d) = absurd (let a = rises-apart table R p i d h in omega arith)
    by (no l) (no d) = omega arith

module _ (list table : List ℕ) (r : ℕ) (sorted : Rises table r) where
  -- the places of the first k listed states
  abbrev Upto : ℕ → ℕ → Type 0
  Upto k = Listed list k table r

  up : (k i : ℕ) → Upto k i → Upto (k + 1) i
  up k i (l, (m, a, e)) = (l, (m, omega arith, e))

  -- The place where the next state stands is written.
  pub listed_more : (n k p at to : ℕ) (old new : List ℕ) → Rises list n → k < n → StandsAt table r p (get_or list k 0) → to < length old
      → Filled (Upto k) at old new to → Filled (Upto (k + 1)) at old (set new to p) (to + 1)
  listed_more n k p at to old new R h st room w =
      filled-more (Upto k) (Upto (k + 1)) at to p old new room w above (up k) (st.inside, (k, omega arith, sym st.there)) back
    where
      above : (i : ℕ) → Upto k i → i < p
      above i (l, (m, a, e)) = by (dec_lt i p)
        where
          by : Dec (i < p) → i < p
          by (yes q) = q
          by (no q) =
              absurd
              (let b = rises-le table sorted p i (omega arith) l in let c = rises-apart list R m k a h in let d = st.there in omega arith)

      back : (i : ℕ) → Upto (k + 1) i → Upto k i ⊎ (i ≡ p)
      back i (l, (m, a, e)) = by (ℕ_discrete m k)
        where
          by : Dec (m ≡ k) → Upto k i ⊎ (i ≡ p)
          by (yes d) = inr (one_place table sorted i p l st.inside (sym e ∙ ap (λ (x : ℕ). get_or list x 0) d ∙ sym st.there))
          by (no d) = inl (l, (m, omega arith, e))

  -- A state that does not stand where it belongs is left out.
  pub listed-past : (k p at to : ℕ) (old new : List ℕ) → Splits table r (get_or list k 0) p → (StandsAt table r p (get_or list k 0) → ⊥)
      → Filled (Upto k) at old new to → Filled (Upto (k + 1)) at old new to
  listed-past k p at to old new cut out w = filled-same (Upto k) (Upto (k + 1)) (up k) back w
    where
      back : (i : ℕ) → Upto (k + 1) i → Upto k i
      back i (l, (m, a, e)) = by (ℕ_discrete m k)
        where
          by : Dec (m ≡ k) → Upto k i
          by (yes d) =
              absurd (split-absent table r (get_or list k 0) p sorted cut out (i, l, sym e ∙ ap (λ (x : ℕ). get_or list x 0) d))
          by (no d) = (l, (m, omega arith, e))

-- The first n states of a list, as a list of their own: as many, and each where it was.
first_long : (n : ℕ) (list : List ℕ) → n ≤ length list → length (take n list) ≡ n
first_long n list h = length-take-le n list h

first_at : (n : ℕ) (list : List ℕ) (i : ℕ) → i < n → get_or (take n list) i 0 ≡ get_or list i 0
first_at n list i h = get_or-take n list i 0 h

module _ (book : List ℕ) (s : ℕ) (before after : List ℕ) (n : ℕ) (L : Listing ((book_system book).Move s) before after n)
    (fits : n ≤ length before)
  where
    inside : n ≤ length after
    inside = omega (arith, front_long before after n L)

    -- The listed states rise.
    pub listing-sorted : Sorted (take n after) (length (take n after))
    listing-sorted = record {
      rises = λ i h.
          let long = first_long n after inside in
          let a = first_at n after i (omega arith) in
          let b = first_at n after (suc i) (omega arith) in
          let c = front-rises before after n L fits i (omega arith) in
          omega arith;
      long = omega arith;
    }

    -- The places of the listed next states are the places that s moves to.
    pub listing-nexts : (table : List ℕ) (r at : ℕ) {to : ℕ} {old new : List ℕ}
        → Filled (Listed (take n after) (length (take n after)) table r) at old new to
        → Filled (Nexts book table r s) at old new to
    listing-nexts table r at w =
        filled-same (Listed (take n after) (length (take n after)) table r) (Nexts book table r s) there back w
      where
        long : length (take n after) ≡ n
        long = first_long n after inside

        there : (j : ℕ) → Listed (take n after) (length (take n after)) table r j → Nexts book table r s j
        there j (l, (m, a, e)) =
            let b : m < n = omega (arith, long) in
            (l, subst ((book_system book).Move s) (sym (first_at n after m b) ∙ e) (front-sound before after n L fits m b))

        back : (j : ℕ) → Nexts book table r s j → Listed (take n after) (length (take n after)) table r j
        back j (l, p) =
            let (m, a, e) = front-there before after n L fits (get_or table j 0) p in
            (l, (m, omega (arith, long), first_at n after m a ∙ e))
