-- What an entry must show, by the words: the words never fall, so the states listed with words below a limit are those at the first
-- places, as many as have such words (among-listed, listed-among); and an entry is right if no promise of its reason is kept and its next
-- states are there (entry-says). Assumes nothing.
use mathlib.Core.Path.{◌≡◌, refl, sym, ap, subst}
use mathlib.Core.Bool.{Bool, true}
use mathlib.Core.List.{List}
use Prim.Native.Nat.{ℕ, zero, suc, ◌+◌, ◌-◌, ◌%◌, ◌≤◌, ◌<◌}
use native.Mathlib.Decide.{dec_lt}
use native.Mathlib.Omega.{arith}
use borrow.Author.Count.{below_more}
use lib.ListN.{length, get_or}
use Rattle.meaning.specs.System.{System}
use Rattle.meaning.specs.Papers.{Listed, EntryRight}
use Rattle.ground.specs.Listed.{Has}
use Rattle.ground.proofs.Saying.{says-as}
use Rattle.ground.specs.Says.{Says}
use Rattle.rules.specs.Book.{book_system, book_lawful}
use Rattle.rules.specs.Freer.{Freer}
use Rattle.rules.proofs.Facts.{lawful-true}
use Rattle.rules.proofs.FreerLaws.{freer-moves}
use Rattle.strikes_covers.specs.Asks.{NextsWithin}
use Rattle.strikes_entries.specs.Entries.{Rising, EntryOk, KeptBy, StateOk, places_of, Under, Reach, Follows, EntryAsks, EntriesAsk}

-- ---- words that never fall

-- A later word is no smaller.
later-no-smaller : (words : List ℕ) → Rising words → (m j : ℕ) → m ≤ j → j < length words → get_or words m 0 ≤ get_or words j 0
later-no-smaller words rising m zero h below = let e : m ≡ 0 = omega arith in subst (λ (k : ℕ). get_or words k 0 ≤ get_or words 0 0) (sym e)
    (omega arith)
later-no-smaller words rising m (suc j) h below = by (dec_lt m (suc j)) (λ q. later-no-smaller words rising m j (omega arith) (omega arith))
  where
    by : Dec (m < suc j) → (m < suc j → get_or words m 0 ≤ get_or words j 0) → get_or words m 0 ≤ get_or words (suc j) 0
    by (yes q) earlier = omega (arith, earlier q, rising j below)
    by (no q) earlier = let e : suc j ≡ m = omega arith in subst (λ (k : ℕ). get_or words m 0 ≤ get_or words k 0) (sym e) (omega arith)

-- ---- the first m words are those below the limit

-- A higher limit.
under-higher : {words : List ℕ} {limit higher m : ℕ} → limit ≤ higher → Under words limit m → Under words higher m
under-higher up u = record { within = u.within; below = λ j h. omega (arith, u.below j h) }

-- So a state at the first m places is listed with such a word, and a state listed with such a word is at the first m places.
among-listed : (states words : List ℕ) {limit m : ℕ} → length words ≡ length states → Reach words limit m → (t : ℕ)
    → Has states m t → Listed states words (λ w. w < limit) t
among-listed states words as_many r t (j, h, e) = (j, omega (arith, r.under.within), e, r.under.below j h)

listed-among : (states words : List ℕ) {limit m : ℕ} → length words ≡ length states → Rising words → Reach words limit m → (t : ℕ)
    → Listed states words (λ w. w < limit) t → Has states m t
listed-among states words {limit} {m} as_many rising r t (j, h, e, small) = by (dec_lt j m)
  where
    by : Dec (j < m) → Has states m t
    by (yes q) = (j, q, e)
    by (no q) = absurd (omega (arith, r.above (omega arith), later-no-smaller words rising m j (omega arith) (omega arith)))

-- ---- an entry

-- Reason k + 1 keeps promise k.
pub kept-by-says : (S : System) (reason s : ℕ) {r : Bool} → (reason ≡ 0 → ⊥) → Says (S.Kept (reason - 1) s) r → Says (KeptBy S reason s) r
kept-by-says S zero s more says = absurd (more refl)
kept-by-says S (suc k) s {r} more says = let e : suc k - 1 ≡ k = omega arith in subst (λ (i : ℕ). Says (S.Kept i s) r) e says

module _ (S : System) (states words : List ℕ) (as_many : length words ≡ length states) (rising : Rising words) where
  -- What the code looks at, reason by reason, is what an entry must show.
  looked-right : (reason word s near far : ℕ) → Reach words word near → Reach words (word + 1) far
      → StateOk S reason s states (places_of reason near far)
      → EntryRight S states words reason word s
  looked-right zero word s near far n f ok = λ t move. among-listed states words as_many n t (ok.1 t move)
  looked-right (suc k) word s near far n f ok =
      (ok.0, λ t move. let l = among-listed states words as_many f t (ok.1 t move) in (l.0, l.1, l.2, omega (arith, l.3)))

  right-looked : (reason word s near far : ℕ) → Reach words word near → Reach words (word + 1) far → EntryRight S states words reason word s
      → StateOk S reason s states (places_of reason near far)
  right-looked zero word s near far n f ok = (λ k. k, λ t move. listed-among states words as_many rising n t (ok t move))
  right-looked (suc k) word s near far n f ok =
      (ok.0, λ t move. let l = ok.1 t move in listed-among states words as_many rising f t (l.0, l.1, l.2, omega (arith, l.3)))

-- ---- what was shown for one state serves another

-- Entry k stands before entry i, and its state u may move wherever that one's state s may.
pub follows-at : {book states : List ℕ} {i k u s : ℕ} → k < i → u ≡ get_or states k 0 → s ≡ get_or states i 0 → Freer book u s
    → Follows book states i
follows-at {book} {states} {i} {k} {u} {s} h u-is s_is free = record {
  place = k;
  before = h;
  freer = subst (λ (x : ℕ). Freer book x (get_or states i 0)) u-is (subst (λ (x : ℕ). Freer book u x) s_is free);
}

-- Two words with one reason and another are two.
other-reason : (v w k : ℕ) → w % 32 ≡ 0 → v % 32 ≡ suc k → v ≤ w → v < w
other-reason v w k a b h = by (dec_lt v w)
  where
    by : Dec (v < w) → v < w
    by (yes q) = q
    by (no q) = let e : v ≡ w = omega arith in let f = ap (λ (x : ℕ). x % 32) e in absurd (omega arith)

module _ (S : System) (states words : List ℕ) (as_many : length words ≡ length states) (rising : Rising words) where
  -- What an earlier entry, whose word is v, shows of its next states holds at the places of a later one, whose word is w.
  earlier-places : (reason' reason v w s near far : ℕ) → reason' ≡ v % 32 → reason ≡ w % 32 → v ≤ w → EntryRight S states words reason' v s
      → Reach words w near → Reach words (w + 1) far → NextsWithin S s states (places_of reason near far)
  earlier-places zero zero v w s near far a b h ok n f t move =
      let (j, i, e, small) = ok t move in listed-among states words as_many rising n t (j, i, e, omega arith)
  earlier-places zero (suc k) v w s near far a b h ok n f t move =
      let (j, i, e, small) = ok t move in listed-among states words as_many rising f t (j, i, e, omega arith)
  earlier-places (suc r) zero v w s near far a b h ok n f t move =
      let (j, i, e, small) = ok.1 t move in
      let less = other-reason v w r (sym b) (sym a) h in
      listed-among states words as_many rising n t (j, i, e, omega arith)
  earlier-places (suc r) (suc k) v w s near far a b h ok n f t move =
      let (j, i, e, small) = ok.1 t move in listed-among states words as_many rising f t (j, i, e, omega arith)

-- ---- a turn: entry i as the code has it, its state, its word, and the places of smaller words and of no larger ones

pub record Turn (book states words : List ℕ) (distinct : Bool) (i s word near far : ℕ) : Type 0 where
  pub asks : EntriesAsk book states words distinct
  pub inside : i < length states
  pub s_is : s ≡ get_or states i 0
  pub word-is : word ≡ get_or words i 0
  pub nearer : Reach words word near
  pub farther : Reach words (word + 1) far

pub turn-at : {book states words : List ℕ} {distinct : Bool} {i s word near far count : ℕ} → EntriesAsk book states words distinct
    → count ≡ length states → i < count → s ≡ get_or states i 0 → word ≡ get_or words i 0 → Reach words word near
    → Reach words (word + 1) far → Turn book states words distinct i s word near far
turn-at asks counted h s_is word-is nearer farther =
    record { asks = asks; inside = omega arith; s_is = s_is; word-is = word-is; nearer = nearer; farther = farther }

module _ {book states words : List ℕ} {distinct : Bool} {i s word near far : ℕ} (turn : Turn book states words distinct i s word near far)
    {m : ℕ}
    (m-is : m ≡ places_of (word % 32) near far) where
  -- What is shown of the state among the first m is what the entry must show.
  pub entry-says : {r : Bool} → Says (StateOk (book_system book) (word % 32) s states m) r
      → Says (EntryOk (book_system book) states words i) r
  entry-says {r} says =
      subst (λ (w : ℕ). Says (EntryRight (book_system book) states words (w % 32) w (get_or states i 0)) r) turn.word-is
      (subst (λ (x : ℕ). Says (EntryRight (book_system book) states words (word % 32) word x) r) turn.s_is
      (says-as (looked-right (book_system book) states words turn.asks.as_many turn.asks.rising (word % 32) word s near far turn.nearer
      turn.farther)
      (right-looked (book_system book) states words turn.asks.as_many turn.asks.rising (word % 32) word s near far turn.nearer turn.farther)
      (subst (λ (k : ℕ). Says (StateOk (book_system book) (word % 32) s states k) r) m-is says)))

  -- The next states of a state that may move only where an earlier entry's may are there, once that entry is right.
  pub follows-within : ((j : ℕ) → j < i → EntryOk (book_system book) states words j) → Follows book states i
      → NextsWithin (book_system book) s states m
  follows-within right w t move =
      subst (λ (k : ℕ). Has states k t) (sym m-is)
      (earlier-places (book_system book) states words turn.asks.as_many turn.asks.rising (get_or words k 0 % 32) (word % 32)
      (get_or words k 0) word u near far
      refl refl up (right k w.before) turn.nearer turn.farther t
      (freer-moves book u (get_or states i 0) lawful w.freer t (subst (λ (x : ℕ). (book_system book).Move x t) turn.s_is move)))
    where
      k : ℕ
      k = w.place

      u : ℕ
      u = get_or states k 0

      up : get_or words k 0 ≤ word
      up = omega (
        arith,
        later-no-smaller words turn.asks.rising k i (omega (arith, w.before))
            (omega (arith, turn.asks.as_many, turn.inside)),
        turn.word-is,
      )

      lawful : book_lawful book u ≡ true
      lawful = lawful-true book u (turn.asks.states_ask.lawful k (omega (arith, w.before, turn.inside)))

  -- What the next states are looked for in, that the entry's state is lawful, and that they are there if that is known.
  pub entry-asks : {known : Bool} → (known ≡ true → NextsWithin (book_system book) s states m) → EntryAsks book s states m known
  entry-asks there = record {
    states_ask = turn.asks.states_ask;
    lawful = subst (λ (x : ℕ). (book_system book).Lawful x) (sym turn.s_is) (turn.asks.states_ask.lawful i turn.inside);
    there = there;
  }

-- ---- all entries

-- The first i entries are right, and the two counts of places are no farther than entry i's word allows.
pub record Entered (S : System) (states words : List ℕ) (i near far : ℕ) : Type 0 where
  pub entered : (j : ℕ) → j < i → EntryOk S states words j
  pub near_under : {word : ℕ} → i < length words → word ≡ get_or words i 0 → Under words word near
  pub far_under : {word : ℕ} → i < length words → word ≡ get_or words i 0 → Under words (word + 1) far

pub entered-more : {book states words : List ℕ} {distinct : Bool} {i s word near near' far far' : ℕ}
    → Turn book states words distinct i s word near' far' → Entered (book_system book) states words i near far
    → EntryOk (book_system book) states words i → Entered (book_system book) states words (i + 1) near' far'
entered-more {book} {states} {words} {i = i} {word = word} turn so_far ok = record {
  entered = below_more (EntryOk (book_system book) states words) i so_far.entered ok;
  near_under = λ q e. under-higher (omega (arith, up q)) turn.nearer.under;
  far_under = λ q e. under-higher (omega (arith, up q)) turn.farther.under;
}
  where
    up : i + 1 < length words → word ≤ get_or words (i + 1) 0
    up q =
        let e : suc i ≡ i + 1 = omega arith in
        subst (λ (k : ℕ). word ≤ get_or words k 0) e (omega (arith, turn.asks.rising i (omega arith), turn.word-is))
