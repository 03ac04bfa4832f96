-- Hanging places that stand alone, found by tests: who finds a helper is brought to the line's front, and from there witnesses spread.
-- Assumes nothing.
use mathlib.Core.Path.{◌≡◌, refl, sym, ap, subst, ◌∙◌}
use mathlib.Core.Logic.{◌⊎◌, inl, inr}
use mathlib.Core.List.{List}
use Prim.Native.Nat.{ℕ, suc, ◌+◌, ◌≤◌, ◌<◌}
use native.Mathlib.Decide.{ℕ_discrete}
use native.Mathlib.Omega.{arith}
use lib.ListN.{length, get_or, set, length-set, replicate, length-replicate, get_or-replicate}
use lib.Seq.{get_or-set_same, get_or-set_other}
use Rattle.ground.specs.Listed.{Between}
use Rattle.meaning.specs.Promises.{most_states}
use Rattle.rules_signs.specs.Signs.{Signed}
use Rattle.distances.specs.Far.{Unstruck}
use Rattle.watch.specs.Witness.{nobody, Hangs}
use Rattle.std.proofs.Common.{Some, None}
use Rattle.watch.specs.Turns.{HelperFor}
use Rattle.watch_tests.specs.Tests.{Brought, Ranked, Pending, Shut, Seen, Noted, Spreading, Testable}
use Rattle.watch.proofs.Hooked.{Hooks, as_was, hooked, hangs-hooked}
use Rattle.watch_tests.proofs.Ranking.{brought-behind, brought-front, brought-here, brought-later, brought-from, brought-tested}

-- ---- rows that differ only in whom places hang on

-- Two such changes are one.
pub hangs-then : {words old row row' : List ℕ} {M : ℕ → ℕ → Type 0} → Hangs words old row M → Hangs words row row' M
    → Hangs words old row' M
hangs-then H K = record {
  long = K.long ∙ H.long;
  pointed = K.pointed;
  hung = K.hung;
  own = λ i h. let a = K.own i h in let b = H.own i (let e = K.long in omega arith) in (λ e. b.0 (a.0 e), λ e. a.1 (b.1 e));
  only = λ i h e. H.only i (let l = K.long in omega arith) (K.only i h e);
}

-- ---- a place hangs, and is brought forward

-- place i, which stands alone at g in the line, moves to place j, which has a witness
pub record Hooking (words row : List ℕ) (M : ℕ → ℕ → Type 0) (line : List ℕ) (g i j : ℕ) : Type 0 where
  pub here : get_or line g 0 ≡ i
  pub inside : i < length row
  pub lone : get_or row i 0 ≡ nobody
  pub below : j < length row
  pub free : Unstruck words j
  pub has : get_or row j 0 ≡ nobody → ⊥
  pub leads : M i j

module _ {words old row : List ℕ} {M : ℕ → ℕ → Type 0} {line line' : List ℕ} {n g i j : ℕ} (H : Hangs words old row M)
    (K : Hooking words row M line g i j) (after : n ≤ g) (B : Brought line line' n g) where
  small : j < most_states
  small = let a = K.below in let b = H.pointed.few in omega arith

  row_here : get_or (set row i j) i 0 ≡ j
  row_here = get_or-set_same row i j 0 K.inside

  -- who has no witness now is another place, and had none
  still-alone : (a : ℕ) → get_or (set row i j) a 0 ≡ nobody → a ≡ i → ⊥
  still-alone a f q =
      let d : j ≡ nobody = sym row_here ∙ sym (ap (λ (x : ℕ). get_or (set row i j) x 0) q) ∙ f in
      let c = small in
      omega arith

  was-alone : (a : ℕ) → get_or (set row i j) a 0 ≡ nobody → get_or row a 0 ≡ nobody
  was-alone a f = sym (get_or-set_other row i a j 0 (still-alone a f)) ∙ f

  pub hangs-more : Hangs words old (set row i j) M
  hangs-more = hangs-hooked words old row M H (set row i j) (record { long = length-set row i j; each = λ a h. by a (ℕ_discrete a i) })
    where
      hooks-here : Hooks words row M i (get_or (set row i j) i 0)
      hooks-here = hooked j K.lone row_here K.below K.free K.has K.leads

      by : (a : ℕ) → Dec (a ≡ i) → Hooks words row M a (get_or (set row i j) a 0)
      by a (yes q) = subst (λ (x : ℕ). Hooks words row M x (get_or (set row i j) x 0)) (sym q) hooks-here
      by a (no q) = as_was (get_or-set_other row i a j 0 q)

  pub ranked-more : {k : ℕ} → g < k → Ranked words row line n k → Ranked words (set row i j) line' (n + 1) k
  ranked-more {k = k} more R = record {
    ordered = let a = after in omega arith;
    places = λ s h. place_at s (brought-from B after k s more h);
    helped = λ s h. front s h (ℕ_discrete s n);
    alone = λ a h u f. at a f (brought-behind B after k a more (R.alone a (let e = length-set row i j in omega arith) u (was-alone a f)));
  }
    where
      place_at : (s : ℕ) → Between line 0 k (get_or line' s 0) → (get_or line' s 0 < length (set row i j)) × Unstruck words (get_or line' s 0)
      place_at s (t, a, b, e) =
          let p = R.places t b in
          let c = p.0 in
          let d = length-set row i j in
          (omega arith, sym (ap (λ (x : ℕ). get_or words x 0) e) ∙ p.1)

      front : (s : ℕ) → s < n + 1 → Dec (s ≡ n) → get_or (set row i j) (get_or line' s 0) 0 ≡ nobody → ⊥
      front s h (yes q) f = still-alone (get_or line' s 0) f (ap (λ (x : ℕ). get_or line' x 0) q ∙ B.here ∙ K.here)
      front s h (no q) f =
          let e = B.other s q (λ p. let a = after in omega arith) in
          R.helped s (omega arith) (sym (ap (λ (x : ℕ). get_or row x 0) e) ∙ was-alone (get_or line' s 0) f)

      at : (a : ℕ) → get_or (set row i j) a 0 ≡ nobody → (a ≡ get_or line g 0) ⊎ Between line' (n + 1) k a → Between line' (n + 1) k a
      at a f (inl q) = absurd (still-alone a f (q ∙ K.here))
      at a f (inr s) = s

  -- Who is waited for is still in the line, or is this place.
  pub front-more : (head b : ℕ) → head ≤ n → (get_or (set row i j) b 0 ≡ nobody → ⊥) → ((get_or row b 0 ≡ nobody → ⊥) → Between line head n b)
      → Between line' head (n + 1) b
  front-more head b low has before = by (ℕ_discrete b i)
    where
      by : Dec (b ≡ i) → Between line' head (n + 1) b
      by (yes q) = subst (λ (x : ℕ). Between line' head (n + 1) x) (K.here ∙ sym q) (brought-here B after head low)
      by (no q) = brought-front B after head b (before (λ f. has (get_or-set_other row i b j 0 q ∙ f)))

  pub pending-more : (head : ℕ) → head ≤ n → Pending words row M line head n → Pending words (set row i j) M line' head (n + 1)
  pending-more head low was a b p q z y l f o =
      let e = length-set row i j in
      front-more head b low o (was a b (omega arith) (omega arith) z y l (was-alone a f))

-- ---- asking, place by place of the line

-- where a place that stands alone moves to one with a witness, that stands in front, or the place itself is still to be asked
abbrev pub WaitsOn : (words row : List ℕ) (M : ℕ → ℕ → Type 0) (line : List ℕ) (n g k : ℕ) → Type 0
WaitsOn words row M line n g k =
    (i j : ℕ) → i < length row → j < length row → Unstruck words i → Unstruck words j → M i j → get_or row i 0 ≡ nobody
    → (get_or row j 0 ≡ nobody → ⊥)
    → Between line 0 n j ⊎ Between line g k i

-- the line's places before g were asked
pub record AskedOn (words old row : List ℕ) (M : ℕ → ℕ → Type 0) (before line : List ℕ) (n g k : ℕ) : Type 0 where
  pub hangs : Hangs words old row M
  pub ranked : Ranked words row line n k
  pub line_long : length line ≡ length before
  pub ordered : n ≤ g
  pub within : g ≤ k
  pub waits : WaitsOn words row M line n g k

module _ {words old row : List ℕ} {M : ℕ → ℕ → Type 0} {before line : List ℕ} {n g k : ℕ}
    (A : AskedOn words old row M before line n g k) where
  -- A place that found a helper hangs on it, and is brought forward.
  pub asked-on-more : {line' : List ℕ} {j : ℕ} → g < k → HelperFor words row M (get_or line g 0) (Some j) → Brought line line' n g
      → AskedOn words old (set row (get_or line g 0) j) M before line' (n + 1) (g + 1) k
  asked-on-more {line' = line'} {j = j} more F B = record {
    hangs = hangs-more A.hangs K A.ordered B;
    ranked = ranked-more A.hangs K A.ordered B more A.ranked;
    line_long = B.long ∙ A.line_long;
    ordered = let a = A.ordered in omega arith;
    within = omega arith;
    waits = waits';
  }
    where
      K : Hooking words row M line g (get_or line g 0) j
      K = record {
        here = refl;
        inside = (A.ranked.places g more).0;
        lone = F.1;
        below = F.2.inside;
        free = F.2.unstruck;
        has = F.2.helped;
        leads = F.2.moves;
      }

      waits' : WaitsOn words (set row (get_or line g 0) j) M line' (n + 1) (g + 1) k
      waits' a b p q z y l f o = by (ℕ_discrete b (get_or line g 0))
        where
          on : Between line 0 n b ⊎ Between line g k a → Between line' 0 (n + 1) b ⊎ Between line' (g + 1) k a
          on (inl s) = inl (brought-front B A.ordered 0 b s)
          on (inr s) = later (brought-later B A.ordered k a s)
            where
              later : (a ≡ get_or line g 0) ⊎ Between line' (g + 1) k a → Between line' 0 (n + 1) b ⊎ Between line' (g + 1) k a
              later (inl t) = absurd (still-alone A.hangs K A.ordered B a f t)
              later (inr t) = inr t

          by : Dec (b ≡ get_or line g 0) → Between line' 0 (n + 1) b ⊎ Between line' (g + 1) k a
          by (yes t) = inl (subst (λ (x : ℕ). Between line' 0 (n + 1) x) (sym t) (brought-here B A.ordered 0 (omega arith)))
          by (no t) =
              let e = length-set row (get_or line g 0) j in
              on (A.waits a b (omega arith) (omega arith) z y l (was-alone A.hangs K A.ordered B a f)
              (λ d. o (get_or-set_other row (get_or line g 0) b j 0 t ∙ d)))

  -- One without a helper moves to no place with a witness.
  pub asked-on-past : g < k → HelperFor words row M (get_or line g 0) None → AskedOn words old row M before line n (g + 1) k
  asked-on-past more F = record {
    hangs = A.hangs;
    ranked = A.ranked;
    line_long = A.line_long;
    ordered = let a = A.ordered in omega arith;
    within = omega arith;
    waits = λ a b p q z y l f o. on a b q z y l f o (A.waits a b p q z y l f o);
  }
    where
      none : (a b : ℕ) → b < length row → Unstruck words a → Unstruck words b → M a b → get_or row a 0 ≡ nobody → (get_or row b 0 ≡ nobody → ⊥)
          → get_or line g 0 ≡ a → ⊥
      none a b q z y l f o e =
          F (ap (λ (x : ℕ). get_or words x 0) e ∙ z) (ap (λ (x : ℕ). get_or row x 0) e ∙ f) b q (subst (λ (x : ℕ). M x b) (sym e) l) y o

      on : (a b : ℕ) → b < length row → Unstruck words a → Unstruck words b → M a b → get_or row a 0 ≡ nobody → (get_or row b 0 ≡ nobody → ⊥)
          → Between line 0 n b ⊎ Between line g k a → Between line 0 n b ⊎ Between line (g + 1) k a
      on a b q z y l f o (inl s) = inl s
      on a b q z y l f o (inr (s, c, d, e)) = by (ℕ_discrete s g)
        where
          by : Dec (s ≡ g) → Between line 0 n b ⊎ Between line (g + 1) k a
          by (yes t) = absurd (none a b q z y l f o (ap (λ (x : ℕ). get_or line x 0) (sym t) ∙ e))
          by (no t) = inr (s, omega arith, d, e)

-- ---- sifting, place by place behind the front

-- the line's places behind its first n, before g, do not join the place at `head`
pub record SiftedTo (words old row : List ℕ) (M : ℕ → ℕ → Type 0) (before line : List ℕ) (head from n g k : ℕ) : Type 0 where
  pub spreading : Spreading words old row M line head n k
  pub line_long : length line ≡ length before
  pub at_head : get_or line head 0 ≡ get_or before head 0
  pub begun : from ≤ n
  pub ordered : n ≤ g
  pub within : g ≤ k
  pub tested : (s : ℕ) → n ≤ s → s < g → get_or row (get_or line s 0) 0 ≡ nobody → M (get_or line s 0) (get_or before head 0) → ⊥

module _ {words old row : List ℕ} {M : ℕ → ℕ → Type 0} {before line : List ℕ} {head from n g k : ℕ}
    (S : SiftedTo words old row M before line head from n g k) (front : head < from) where
  -- One that stands alone and moves to that place hangs on it, and is brought forward.
  pub sifted-more : {line' : List ℕ} → g < k → get_or row (get_or line g 0) 0 ≡ nobody → M (get_or line g 0) (get_or before head 0)
      → Brought line line' n g
      → SiftedTo words old (set row (get_or line g 0) (get_or before head 0)) M before line' head from (n + 1) (g + 1) k
  sifted-more {line' = line'} more lone leads B = record {
    spreading = record {
      hangs = hangs-more H K S.ordered B;
      ranked = ranked-more H K S.ordered B more S.spreading.ranked;
      pending = pending-more H K S.ordered B head (let a = S.begun in omega arith) S.spreading.pending;
    };
    line_long = B.long ∙ S.line_long;
    at_head = B.other head (λ q. let a = S.begun in omega arith) (λ q. let a = S.begun in let b = S.ordered in omega arith)
        ∙ S.at_head;
    begun = let a = S.begun in omega arith;
    ordered = let a = S.ordered in omega arith;
    within = omega arith;
    tested = λ s a b. tested' s (brought-tested B S.ordered s a b);
  }
    where
      H : Hangs words old row M
      H = S.spreading.hangs

      low : head < n
      low = let a = S.begun in omega arith

      at : head < k
      at = let a = S.spreading.ranked.ordered in let b = low in omega arith

      K : Hooking words row M line g (get_or line g 0) (get_or before head 0)
      K =
          let p = S.spreading.ranked.places head at in
          let a = p.0 in
          let e = S.at_head in
          record {
            here = refl;
            inside = (S.spreading.ranked.places g more).0;
            lone = lone;
            below = omega arith;
            free = sym (ap (λ (x : ℕ). get_or words x 0) e) ∙ p.1;
            has = λ f. S.spreading.ranked.helped head low (ap (λ (x : ℕ). get_or row x 0) e ∙ f);
            leads = leads;
          }

      tested' : (s : ℕ) → Between line n g (get_or line' s 0) → get_or (set row (get_or line g 0) (get_or before head 0)) (get_or line' s 0)
          0 ≡ nobody
          → M (get_or line' s 0) (get_or before head 0) → ⊥
      tested' s (t, a, b, e) f l =
          S.tested t a b (ap (λ (x : ℕ). get_or row x 0) e ∙ was-alone H K S.ordered B (get_or line' s 0) f)
          (subst (λ (x : ℕ). M x (get_or before head 0)) (sym e) l)

  -- One that does not is passed by.
  pub sifted-past : g < k → (get_or row (get_or line g 0) 0 ≡ nobody → M (get_or line g 0) (get_or before head 0) → ⊥)
      → SiftedTo words old row M before line head from n (g + 1) k
  sifted-past more not_so = record {
    spreading = S.spreading;
    line_long = S.line_long;
    at_head = S.at_head;
    begun = S.begun;
    ordered = let a = S.ordered in omega arith;
    within = omega arith;
    tested = λ s a b. at s a b (ℕ_discrete s g);
  }
    where
      at : (s : ℕ) → n ≤ s → s < g + 1 → Dec (s ≡ g) → get_or row (get_or line s 0) 0 ≡ nobody → M (get_or line s 0) (get_or before head 0) → ⊥
      at s a b (yes q) f l =
          let e : get_or line g 0 ≡ get_or line s 0 = ap (λ (x : ℕ). get_or line x 0) (sym q) in
          not_so (ap (λ (x : ℕ). get_or row x 0) e ∙ f) (subst (λ (x : ℕ). M x (get_or before head 0)) (sym e) l)
      at s a b (no q) f l = S.tested s a (omega arith) f l

  -- After the last, nobody who stands alone moves to that place.
  pub sifted-shut : k ≤ g → Shut words row M (get_or before head 0)
  sifted-shut over i h u f l = by (S.spreading.ranked.alone i h u f)
    where
      by : Between line n k i → ⊥
      by (s, a, b, e) =
          S.tested s a (omega arith) (ap (λ (x : ℕ). get_or row x 0) e ∙ f) (subst (λ (x : ℕ). M x (get_or before head 0)) (sym e) l)

-- ---- spreading, place by place of the line's front

module _ {words old row : List ℕ} {M : ℕ → ℕ → Type 0} {line : List ℕ} {head n k : ℕ} (S : Spreading words old row M line head n k) where
  -- A place to which nobody moves who stands alone need not be waited for.
  pub spreading-next : Shut words row M (get_or line head 0) → Spreading words old row M line (head + 1) n k
  spreading-next shut = record {
    hangs = S.hangs;
    ranked = S.ranked;
    pending = λ i j a b z y l f o. by i j a z l f (S.pending i j a b z y l f o);
  }
    where
      by : (i j : ℕ) → i < length row → Unstruck words i → M i j → get_or row i 0 ≡ nobody → Between line head n j
          → Between line (head + 1) n j
      by i j a z l f (s, c, d, e) = at (ℕ_discrete s head)
        where
          at : Dec (s ≡ head) → Between line (head + 1) n j
          at (yes q) = absurd (shut i a z f (subst (M i) (sym e ∙ ap (λ (x : ℕ). get_or line x 0) q) l))
          at (no q) = (s, omega arith, d, e)

-- What was sifted since is part of the whole.
pub spreading-then : {words old row row' : List ℕ} {M : ℕ → ℕ → Type 0} {line : List ℕ} {head n k : ℕ} → Hangs words old row M
    → Spreading words row row' M line head n k → Spreading words old row' M line head n k
spreading-then H S = record { hangs = hangs-then H S.hangs; ranked = S.ranked; pending = S.pending }

-- One turn: the place at `head` was sifted.
pub spreading-sifted : {words old row row' : List ℕ} {M : ℕ → ℕ → Type 0} {line line' : List ℕ} {head n n' k : ℕ}
    → Spreading words old row M line head n k → Spreading words row row' M line' head n' k → Shut words row' M (get_or line head 0)
    → get_or line' head 0 ≡ get_or line head 0 → Spreading words old row' M line' (head + 1) n' k
spreading-sifted {words = words} {row' = row'} {M = M} S T shut e =
    spreading-next (spreading-then S.hangs T) (subst (λ (x : ℕ). Shut words row' M x) (sym e) shut)

-- ---- places that need not be spread from

-- At first no place is noted.
pub seen_none : (words row : List ℕ) (M : ℕ → ℕ → Type 0) (n : ℕ) → Seen words row M (replicate {A = ℕ} n 0)
seen_none words row M n = record {
  shut = λ q t h is l. let e = get_or-replicate {A = ℕ} n q 0 0 (omega (arith, h, length-replicate {A = ℕ} n 0)) in
      absurd (omega (arith, e, is));
}

-- As places hang, fewer stand alone.
pub seen-kept : {words row row' : List ℕ} {M : ℕ → ℕ → Type 0} {seen : List ℕ} → Hangs words row row' M → Seen words row M seen
    → Seen words row' M seen
seen-kept H S = record {
  shut = λ q t h is l i k u f m. let e = H.long in S.shut q t h is (omega (arith, e, l)) i (omega (arith, e, k)) u (H.only i k f) m;
}

-- One more is noted, to which nobody moves who stands alone.
pub seen-noted : {words row : List ℕ} {M : ℕ → ℕ → Type 0} {before seen : List ℕ} {t : ℕ} → Seen words row M before → Shut words row M t
    → Noted before seen t → Seen words row M seen
seen-noted {words = words} {row = row} {M = M} {before = before} {seen = seen} {t = t} S shut-now N =
    record { shut = λ q s h. by q s h (N.each q) }
  where
    by : (q s : ℕ) → q < length seen → (get_or seen q 0 ≡ get_or before q 0) ⊎ (get_or seen q 0 ≡ suc t) → get_or seen q 0 ≡ suc s → s < length row
        → Shut words row M s
    by q s h (inl e) is l = S.shut q s (omega (arith, h, N.long)) (sym e ∙ is) l
    by q s h (inr e) is l = let same : t ≡ s = omega (arith, e, is) in subst (λ (x : ℕ). Shut words row M x) same shut-now

-- The moves can be tested as before.
pub testable-same : {book table words row row' signs line line' : List ℕ} {k : ℕ} → Testable book table words row signs line k
    → length row' ≡ length row
    → length line' ≡ length line → Testable book table words row' signs line' k
testable-same {book = book} {table = table} {signs = signs} T e f = record {
  signed = subst (λ (x : ℕ). Signed book table x signs) (sym e) T.signed;
  in_words = let a = T.in_words in omega arith;
  room = let a = T.room in omega arith;
  line_few = let a = T.line_few in omega arith;
}
