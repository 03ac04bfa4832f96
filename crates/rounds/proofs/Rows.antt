-- Rows side by side in one list: what stands in them when one was lent and put back. Assumes nothing.
use mathlib.Core.Path.{◌≡◌, refl, sym, ap, subst, ◌∙◌}
use mathlib.Core.List.{List, ◌++◌}
use Prim.Native.Nat.{ℕ, suc, ◌+◌, ◌-◌, ◌*◌, ◌≤◌, ◌<◌}
use native.Mathlib.Nat.{suc-mul, zero-mul, mul-le-mul_right}
use native.Mathlib.Omega.{arith}
use native.Mathlib.Decide.{dec_lt}
use lib.ListN.{length, get_or, take, drop, length-drop, length-append, get_or-append}
use lib.Seq.{ext_get_or, length-take-le, take_at, drop_at, get_or-take, get_or-drop, get_or-append-add}
use Rattle.rules.specs.Book.{promises_of}
use Rattle.watch.specs.Witness.{BegunRow}
use Rattle.rounds.specs.Rows.{row_of, Beginnable}

-- ---- where rows stand

-- The row of an earlier reason ends before.
pub earlier-row : (q q' r : ℕ) → q < q' → q * r + r ≤ q' * r
earlier-row q q' r h = subst (λ (n : ℕ). n ≤ q' * r) (suc-mul q r) (mul-le-mul_right r h)

-- ---- a row put back

-- the list with this part as the row of reason q
abbrev put : (r q : ℕ) (old part : List ℕ) → List ℕ
put r q old part = take (q * r) old ++ (part ++ drop r (drop (q * r) old))

-- what a part lent and put back looks like
abbrev pub lent_back : (at r : ℕ) (old part : List ℕ) → List ℕ
lent_back at r old part = take at old ++ (part ++ drop (at + r - at) (drop at old))

-- The lent part is the row, and what comes back is the list with it.
pub lent_row : (r q : ℕ) (old : List ℕ) → take (q * r + r - q * r) (drop (q * r) old) ≡ row_of r q old
lent_row r q old = let e : q * r + r - q * r ≡ r = omega arith in ap (λ (n : ℕ). take n (drop (q * r) old)) e

back-put : (r q : ℕ) (old part : List ℕ) → lent_back (q * r) r old part ≡ put r q old part
back-put r q old part = let e : q * r + r - q * r ≡ r = omega arith in
    ap (λ (n : ℕ). take (q * r) old ++ (part ++ drop n (drop (q * r) old))) e

-- The same for the front.
pub front-row : (r : ℕ) (old : List ℕ) → take r old ≡ row_of r 0 old
front-row r old = ap (λ (n : ℕ). take r (drop n old)) (sym (zero-mul r))

front-put : (r : ℕ) (old part : List ℕ) → part ++ drop r old ≡ put r 0 old part
front-put r old part = ap (λ (n : ℕ). take n old ++ (part ++ drop r (drop n old))) (sym (zero-mul r))

-- A row that lies in the list has r places.
pub row-long : (r q : ℕ) (old : List ℕ) → suc q * r ≤ length old → length (row_of r q old) ≡ r
row-long r q old inside = length-take-le r (drop (q * r) old) (omega (arith, suc-mul q r, length-drop (q * r) old))

-- Rows are the same if their places are.
same_row : (r q : ℕ) (l m : List ℕ) → suc q * r ≤ length l → length l ≡ length m
    → ((i : ℕ) → i < r → get_or l (q * r + i) 0 ≡ get_or m (q * r + i) 0) → row_of r q l ≡ row_of r q m
same_row r q l m inside long each =
    ext_get_or 0 (row_of r q l) (row_of r q m) (row-long r q l inside ∙ sym (row-long r q m (omega arith)))
    (λ i h. let less : i < r = omega (arith, row-long r q l inside) in at l i less ∙ each i less ∙ sym (at m i less))
  where
    at : (l : List ℕ) (i : ℕ) → i < r → get_or (row_of r q l) i 0 ≡ get_or l (q * r + i) 0
    at l i h = get_or-take r (drop (q * r) l) i 0 h ∙ get_or-drop (q * r) l i 0

module _ (r q : ℕ) (old part : List ℕ) (inside : suc q * r ≤ length old) (long : length part ≡ r) where
  -- the part before the row
  head : length (take (q * r) old) ≡ q * r
  head = length-take-le (q * r) old (omega (arith, suc-mul q r))

  -- The list is as long as it was.
  pub put-long : length (put r q old part) ≡ length old
  put-long =
      length-append (take (q * r) old) _ ∙ ap (λ (x : ℕ). length (take (q * r) old) + x) (length-append part _)
      ∙ omega (arith, head, long, length-drop r (drop (q * r) old), length-drop (q * r) old, suc-mul q r)

  -- The row is the part.
  pub put-row : row_of r q (put r q old part) ≡ part
  put-row = ap (λ (l : List ℕ). take r l) (drop_at (take (q * r) old) _ (q * r) head) ∙ take_at part _ r long

  -- What lies before and behind is as it was.
  before : (j : ℕ) → j < q * r → get_or (put r q old part) j 0 ≡ get_or old j 0
  before j h = get_or-append (take (q * r) old) _ 0 j (omega (arith, head)) ∙ get_or-take (q * r) old j 0 h

  behind : (i : ℕ) → get_or (put r q old part) (q * r + (r + i)) 0 ≡ get_or old (q * r + (r + i)) 0
  behind i =
      subst (λ (n : ℕ). get_or (put r q old part) (n + (r + i)) 0 ≡ get_or (part ++ drop r (drop (q * r) old)) (r + i) 0) head
      (get_or-append-add (take (q * r) old) _ (r + i) 0)
      ∙ subst (λ (n : ℕ). get_or (part ++ drop r (drop (q * r) old)) (n + i) 0 ≡ get_or (drop r (drop (q * r) old)) i 0) long
      (get_or-append-add part _ i 0)
      ∙ get_or-drop r (drop (q * r) old) i 0 ∙ get_or-drop (q * r) old (r + i) 0

  -- The row of another reason is as it was.
  pub put_other : (q' : ℕ) → (q' ≡ q → ⊥) → suc q' * r ≤ length old → row_of r q' (put r q old part) ≡ row_of r q' old
  put_other q' other in' = same_row r q' (put r q old part) old (omega (arith, put-long)) put-long (by (dec_lt q' q))
    where
      by : Dec (q' < q) → (i : ℕ) → i < r → get_or (put r q old part) (q' * r + i) 0 ≡ get_or old (q' * r + i) 0
      by (yes less) i h = before (q' * r + i) (omega (arith, earlier-row q' q r less))
      by (no more) i h =
          let e : q * r + (r + (q' * r + i - (q * r + r))) ≡ q' * r + i = omega (arith, earlier-row q q' r (omega arith)) in
          subst (λ (j : ℕ). get_or (put r q old part) j 0 ≡ get_or old j 0) e (behind (q' * r + i - (q * r + r)))

-- a row was lent and is back: it is `part` now, and the others are as they were
pub record PutBack (r q : ℕ) (wit wit' part : List ℕ) : Type 0 where
  pub long : length wit' ≡ length wit
  pub others : (q' : ℕ) → (q' ≡ q → ⊥) → suc q' * r ≤ length wit → row_of r q' wit' ≡ row_of r q' wit
  pub row : row_of r q wit' ≡ part

-- What comes back is so, of any row
pub row_back : (r q : ℕ) (wit part : List ℕ) → suc q * r ≤ length wit → length part ≡ length (take (q * r + r - q * r) (drop (q * r) wit))
    → PutBack r q wit (lent_back (q * r) r wit part) part
row_back r q wit part inside same =
    subst (λ (l : List ℕ). PutBack r q wit l part) (sym (back-put r q wit part))
    (record {
      long = put-long r q wit part inside long;
      others = put_other r q wit part inside long;
      row = put-row r q wit part inside long;
    })
  where
    long : length part ≡ r
    long = same ∙ ap length (lent_row r q wit) ∙ row-long r q wit inside

-- and of the first.
pub front-back : (r : ℕ) (wit part : List ℕ) → r ≤ length wit → length part ≡ length (take r wit)
    → PutBack r 0 wit (part ++ drop r wit) part
front-back r wit part front same =
    subst (λ (l : List ℕ). PutBack r 0 wit l part) (sym (front-put r wit part))
    (record {
      long = put-long r 0 wit part inside long;
      others = put_other r 0 wit part inside long;
      row = put-row r 0 wit part inside long;
    })
  where
    inside : 1 * r ≤ length wit
    inside = omega (arith, front)

    long : length part ≡ r
    long = same ∙ length-take-le r wit front

-- ---- which rows there are

-- The first row lies in the list.
pub front-inside : (p r n : ℕ) → suc p * r ≤ n → r ≤ n
front-inside p r n room = omega (arith, suc-mul p r)

-- So does the row of each reason.
pub row_inside : (q p r n : ℕ) → q ≤ p → suc p * r ≤ n → suc q * r ≤ n
row_inside q p r n h room = let a = mul-le-mul_right {m = suc q} {n = suc p} r (omega arith) in omega arith

-- ---- the rows begin

-- rows begun up to promise k, in a list as long as `old` and with its first row
pub record Beginning (book table : List ℕ) (r : ℕ) (old wit : List ℕ) (k : ℕ) : Type 0 where
  pub long : length wit ≡ length old
  pub room : suc (promises_of book) * r ≤ length wit
  pub zeroth : row_of r 0 wit ≡ row_of r 0 old
  pub begun : (j : ℕ) → j < k → BegunRow book j table (row_of r (suc j) wit) (row_of r (suc j) wit)

module _ (book table : List ℕ) (r : ℕ) where
  -- None has begun.
  pub beginning-none : (old : List ℕ) → Beginnable book table r old → Beginning book table r old old 0
  beginning-none old ready = record { long = refl; room = ready.room; zeroth = refl; begun = λ j h. omega arith }

  -- One more has begun.
  beginning-suc : (old wit part : List ℕ) (k : ℕ) → Beginning book table r old wit k → k < promises_of book
      → BegunRow book k table (take (suc k * r + r - suc k * r) (drop (suc k * r) wit)) part
      → Beginning book table r old (lent_back (suc k * r) r wit part) (suc k)
  beginning-suc old wit part k b h row = record {
    long = back.long ∙ b.long;
    room = omega (arith, b.room, back.long);
    zeroth = back.others 0 (λ e. omega arith) (inside 0 (omega arith)) ∙ b.zeroth;
    begun = λ j less. by j less (dec_lt j k);
  }
    where
      inside : (q : ℕ) → q ≤ promises_of book → suc q * r ≤ length wit
      inside q few = row_inside q (promises_of book) r (length wit) few b.room

      back : PutBack r (suc k) wit (lent_back (suc k * r) r wit part) part
      back = row_back r (suc k) wit part (inside (suc k) h) row.long

      by : (j : ℕ) → j < suc k → Dec (j < k)
          → BegunRow book j table (row_of r (suc j) (lent_back (suc k * r) r wit part)) (row_of r (suc j) (lent_back (suc k * r) r wit part))
      by j less (yes earlier) =
          subst (λ (l : List ℕ). BegunRow book j table l l) (sym (back.others (suc j) (λ e. omega arith) (inside (suc j) (omega arith))))
          (b.begun j earlier)
      by j less (no last) =
          let e : k ≡ j = omega arith in
          subst
          (λ (i : ℕ). BegunRow book i table (row_of r (suc i) (lent_back (suc k * r) r wit part))
          (row_of r (suc i) (lent_back (suc k * r) r wit part))) e
          (subst (λ (l : List ℕ). BegunRow book k table l l) (sym back.row) (record {
            long = refl;
            keeps = row.keeps;
            lacks = row.lacks;
          }))

  pub beginning-more : (old wit part : List ℕ) (k : ℕ) → Beginning book table r old wit k → k < promises_of book
      → BegunRow book k table (take ((k + 1) * r + r - (k + 1) * r) (drop ((k + 1) * r) wit)) part
      → Beginning book table r old (lent_back ((k + 1) * r) r wit part) (k + 1)
  beginning-more old wit part k b h =
      let e : suc k ≡ k + 1 = omega arith in
      subst (λ (n : ℕ). BegunRow book k table (take (n * r + r - n * r) (drop (n * r) wit)) part
      → Beginning book table r old (lent_back (n * r) r wit part) n) e
      (beginning-suc old wit part k b h)
