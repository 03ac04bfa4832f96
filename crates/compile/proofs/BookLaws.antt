-- A written book is the book of its sheet: each row tests as its rule does, so each section as the sheet's list of rules. Assumes nothing.
use mathlib.Core.Path.{◌≡◌, refl, sym, ◌∙◌, ap, ap₂, subst}
use mathlib.Core.Bool.{Bool, true, false, cond, not, ◌&&◌, ◌||◌, and_assoc, and-true, or-false}
use mathlib.Core.Option.{none}
use mathlib.Core.List.{List, [], ◌∷◌}
use Prim.Native.Nat.{ℕ, zero, suc, ◌+◌, ◌^◌, ◌≤◌, ◌<◌}
use native.Mathlib.Decide.{dec_lt}
use native.Mathlib.Omega.{arith}
use lib.Dec.{leb, ltb, eqb}
use lib.ListN.{length, get_or}
use borrow.Author.Tests.{le-leb, leb-true, leb-false, eq-eqb, ne_eqb, le-ltb}
use Rattle.meaning.specs.Sheet.{Limit, StepRule, first_fault, decode, body_at, after_at, letters_in, limit_of, step_of, promise_of}
use Rattle.meaning.specs.Sheet.{promises_at}
use Rattle.meaning.specs.Rules.{true_in, count_true, some_literal_true, all_literals_true, limit_holds, every, lawful, first_state, step_holds, moves, kept}
use Rattle.reader.specs.Header.{limits_in, firsts_in, steps_in, promises_in}
use Rattle.reader.proofs.Good.{good-header, limit-at, first-at, step-at, promise-at, limits-count, firsts-count, steps-count}
use Rattle.reader.proofs.Good.{promises-count, letters-count, promise-record, promise-good}
use Rattle.rules.specs.Book.{Masks, Shaped, all_below, count_of, some_of, all_of, some_at, all_at, limit_at, first_at, step_at, promise_at}
use Rattle.rules.specs.Book.{limit_ok, limits_ok, firsts_ok, step_ok, steps_ok, book_lawful, book_first, book_moves, book_kept}
use Rattle.rules.specs.Book.{letters_of, limits_of, firsts_of, steps_of, promises_of, right_at, most_rules}
use Rattle.compile.specs.Promise.{BookOf, rule_of}
use Rattle.compile.specs.Literals.{Ordered}
use Rattle.compile.specs.Compile.{MasksAt, LimitRow, StepRow, BookWritten}
use Rattle.compile.proofs.Masks.{tells}
use Rattle.compile.proofs.SectionLaws.{limit-sound, first-sound, step-sound, promise-sound}

-- ---- every rule of a list, by number

all-front : (f : ℕ → Bool) (n : ℕ) → all_below (suc n) f ≡ (f 0 && all_below n (λ i. f (suc i)))
all-front f zero = sym (and-true (f 0))
all-front f (suc n) =
    ap (λ (t : Bool). t && f (suc n)) (all-front f n) ∙ and_assoc (f 0) (all_below n (λ i. f (suc i))) (f (suc n))

-- Tests by number that agree with the tests of a list agree on all of it.
every-by-number :
    {A : Type 0} (test : A → Bool) (l : List A) (d : A) (f : ℕ → Bool) → ((i : ℕ) → i < length l → f i ≡ test (get_or l i d))
    → all_below (length l) f ≡ every test l
unfolding every
every-by-number test [] d f h = refl
every-by-number test (x ∷ xs) d f h =
    all-front f (length xs)
    ∙ ap₂ (λ (a b : Bool). a && b) (h 0 (omega arith)) (every-by-number test xs d (λ i. f (suc i)) (λ i k. h (suc i) (omega arith)))

section-agrees :
    {A : Type 0} (test : A → Bool) (l : List A) (d : A) (n : ℕ) (f : ℕ → Bool) → length l ≡ n
    → ((i : ℕ) → i < n → f i ≡ test (get_or l i d))
    → all_below n f ≡ every test l
section-agrees test l d n f e h =
    subst (λ (m : ℕ). all_below m f ≡ every test l) e (every-by-number test l d f (λ i k. h i (subst (λ (m : ℕ). i < m) e k)))

-- ---- one row

-- both bounds at once are equality
both-bounds : (m c : ℕ) → (leb m c && leb c m) ≡ eqb c m
both-bounds m c = by (leb m c) refl (leb c m) refl
  where
    by : (a : Bool) → leb m c ≡ a → (b : Bool) → leb c m ≡ b → (leb m c && leb c m) ≡ eqb c m
    by true p true q =
        let x = leb-true m c p in
        let y = leb-true c m q in
        ap₂ (λ (a b : Bool). a && b) p q ∙ sym (eq-eqb c m (omega arith))
    by true p false q =
        let y = leb-false c m q in
        ap₂ (λ (a b : Bool). a && b) p q ∙ sym (ne_eqb c m (λ e. omega arith))
    by false p b q =
        let x = leb-false m c p in
        ap (λ (a : Bool). a && leb c m) p ∙ sym (ne_eqb c m (λ e. omega arith))

bounds-say : (exact : Bool) (m c : ℕ) → (leb (cond exact m 0) c && leb c m) ≡ cond exact (eqb c m) (leb c m)
bounds-say true m c = both-bounds m c
bounds-say false m c = ap (λ (t : Bool). t && leb c m) (le-leb 0 c (omega arith))

module _ (l : List ℕ) (at n : ℕ) (ls : List ℕ) (m : MasksAt l at ls) (o : Ordered n 0 ls) where
  masks-within : Masks l n at
  masks-within = record {
    held = subst (λ (x : ℕ). x < 2 ^ n) (sym m.held) (tells n 0 ls o).held;
    unheld = subst (λ (x : ℕ). x < 2 ^ n) (sym m.unheld) (tells n 0 ls o).unheld;
  }

  some-says : (s : ℕ) → some_at l at s ≡ some_literal_true s ls
  some-says s = ap₂ (some_of s) m.held m.unheld ∙ sym ((tells n 0 ls o).some s)

  all-says : (s : ℕ) → all_at l at s ≡ all_literals_true s ls
  all-says s = ap₂ (all_of s) m.held m.unheld ∙ sym ((tells n 0 ls o).all s)

  count-says : (s : ℕ) → count_of s (get_or l at 0) (get_or l (at + 1) 0) ≡ count_true s ls
  count-says s = ap₂ (count_of s) m.held m.unheld ∙ sym ((tells n 0 ls o).count s)

limit-says : (l : List ℕ) (i n : ℕ) (x : Limit) → LimitRow l (limit_at i) x → Ordered n 0 x.among → (s : ℕ)
    → limit_ok l s i ≡ limit_holds s x
unfolding limit_ok limit_holds
limit-says l i n x r o s =
    let c : count_of s (get_or l (limit_at i) 0) (get_or l (limit_at i + 1) 0) ≡ count_true s x.among = count-says l (limit_at i) n x.among
    r.masks o s in
    (λ k. leb (r.least k) (c k) && leb (c k) (r.most k)) ∙ bounds-say x.exact x.bound (count_true s x.among)

step-says :
    (l : List ℕ) (i n : ℕ) (x : StepRule) → StepRow l (step_at i) x → Ordered n 0 x.left → Ordered n 0 x.right
    → (s t : ℕ) → step_ok l s t i ≡ step_holds s t x
unfolding step_ok step_holds
step-says l i n x r o p s t =
    ap₂ (λ (a b : Bool). not a || b) (all-says l (step_at i) n x.left r.left o s) (some-says l (right_at i) n x.right r.right p t)

-- a promise's one literal
lone-says : (s : ℕ) (body : List ℕ) → length body ≡ 1 → some_literal_true s body ≡ true_in s (promise_of body)
unfolding some_literal_true promise_of
lone-says s [] e = absurd (omega arith)
lone-says s (b ∷ []) e = or-false (true_in s b)
lone-says s (b ∷ (b' ∷ bs)) e = absurd (omega arith)

-- ---- the whole book

module _ (s book : List ℕ) (good : first_fault s ≡ none) (f5 : firsts_in s ≤ most_rules) (f6 : steps_in s ≤ most_rules)
    (w : BookWritten s book) where
  limits-say : (t : ℕ) → limits_ok book t ≡ every (limit_holds t) (decode s).limits
  unfolding limits_ok
  limits-say t =
      section-agrees (limit_holds t) (decode s).limits (limit_of []) (limits_of book) (limit_ok book t)
      (limits-count s ∙ sym w.counts.limits) row
    where
      row : (i : ℕ) → i < limits_of book → limit_ok book t i ≡ limit_holds t (get_or (decode s).limits i (limit_of []))
      row i h =
          let k : i < limits_in s = (let c = w.counts.limits in omega arith) in
          limit-says book i (letters_in s) _ (w.limits i k) (limit-sound s good i k).among t
          ∙ ap (limit_holds t) (sym (limit-at s i (limit_of []) k))

  firsts-say : (t : ℕ) → firsts_ok book t ≡ every (some_literal_true t) (decode s).firsts
  unfolding firsts_ok
  firsts-say t =
      section-agrees (some_literal_true t) (decode s).firsts [] (firsts_of book) (λ i. some_at book (first_at i) t) (firsts-count s
      ∙ sym w.counts.firsts) row
    where
      row : (i : ℕ) → i < firsts_of book → some_at book (first_at i) t ≡ some_literal_true t (get_or (decode s).firsts i [])
      row i h =
          let k : i < firsts_in s = (let c = w.counts.firsts in omega arith) in
          some-says book (first_at i) (letters_in s) _ (w.firsts i k) (first-sound s good i k).literals t
          ∙ ap (some_literal_true t) (sym (first-at s i k))

  steps-say : (a t : ℕ) → steps_ok book a t ≡ every (step_holds a t) (decode s).steps
  unfolding steps_ok
  steps-say a t =
      section-agrees (step_holds a t) (decode s).steps (step_of []) (steps_of book) (step_ok book a t) (steps-count s
      ∙ sym w.counts.steps) row
    where
      row : (i : ℕ) → i < steps_of book → step_ok book a t i ≡ step_holds a t (get_or (decode s).steps i (step_of []))
      row i h =
          let k : i < steps_in s = (let c = w.counts.steps in omega arith) in
          let o = step-sound s good i k in
          step-says book i (letters_in s) _ (w.steps i k) o.left o.right a t ∙ ap (step_holds a t) (sym (step-at s i (step_of []) k))

  -- each side of a step rule by itself
  left-says : (i t : ℕ) → i < steps_of book → all_at book (step_at i) t ≡ all_literals_true t (rule_of (decode s) i).left
  left-says i t h =
      let k : i < steps_in s = (let c = w.counts.steps in omega arith) in
      all-says book (step_at i) (letters_in s) _ (w.steps i k).left (step-sound s good i k).left t
      ∙ ap (λ (rule : StepRule). all_literals_true t rule.left) (sym (step-at s i (step_of []) k))

  right-says : (i t : ℕ) → i < steps_of book → some_at book (right_at i) t ≡ some_literal_true t (rule_of (decode s) i).right
  right-says i t h =
      let k : i < steps_in s = (let c = w.counts.steps in omega arith) in
      some-says book (right_at i) (letters_in s) _ (w.steps i k).right (step-sound s good i k).right t
      ∙ ap (λ (rule : StepRule). some_literal_true t rule.right) (sym (step-at s i (step_of []) k))

  kept-says : (k t : ℕ) → book_kept book k t ≡ kept (decode s) k t
  unfolding book_kept kept
  kept-says k t = by (dec_lt k (promises_in s))
    where
      c : promises_of book ≡ promises_in s
      c = w.counts.promises

      d : length (decode s).promises ≡ promises_in s
      d = promises-count s

      by : Dec (k < promises_in s) → book_kept book k t ≡ kept (decode s) k t
      by (yes h) =
          let body : List ℕ = body_at s (after_at s k (promises_at s)) in
          let g = promise-good (letters_in s) (after_at s k (promises_at s)) body (promise-record s (good-header s good) k h).faultless in
          ap₂ (λ (n : ℕ) (b : Bool). ltb k n && b) (c ∙ sym d)
          (some-says book (promise_at k) (letters_in s) body (w.promises k h) (promise-sound s good k h).literals t
          ∙ lone-says t body g.one ∙ ap (true_in t) (sym (promise-at s k 0 h)))
      by (no h) =
          ap (λ (b : Bool). b && some_at book (promise_at k) t) (le-ltb k (promises_of book) (omega (arith, c)))
          ∙ sym (ap (λ (b : Bool). b && true_in t (get_or (decode s).promises k 0))
          (le-ltb k (length (decode s).promises) (omega (arith, d))))

  letters-are : letters_of book ≡ letters_in s
  unfolding letters_in
  letters-are = w.counts.letters

  lawful-says : (t : ℕ) → book_lawful book t ≡ lawful (decode s) t
  unfolding book_lawful lawful
  lawful-says t =
      ap₂ (λ (n : ℕ) (b : Bool). ltb t (2 ^ n) && b) (w.counts.letters ∙ sym (letters-count s)) (limits-say t)

  first_says : (t : ℕ) → book_first book t ≡ first_state (decode s) t
  unfolding book_first first_state
  first_says t = ap₂ (λ (a b : Bool). a && b) (lawful-says t) (firsts-say t)

  moves-say : (a t : ℕ) → book_moves book a t ≡ moves (decode s) a t
  unfolding book_moves moves
  moves-say a t = λ i. lawful-says a i && lawful-says t i && steps-say a t i

  within : (at : ℕ) → Masks book (letters_in s) at → Masks book (letters_of book) at
  within at m = subst (λ (n : ℕ). Masks book n at) (sym letters-are) m

  shaped : Shaped book
  shaped =
      let h = good-header s good in
      let c = w.counts in
      let e = letters-are in
      record {
        long = w.long;
        some_letters = (let a = h.some_letter in omega arith);
        few-letters = (let a = h.few-letters in omega arith);
        few_limits = (let a = h.few_limits in let b = c.limits in omega arith);
        few_firsts = (let b = c.firsts in omega arith);
        few_steps = (let b = c.steps in omega arith);
        few-promises = (let a = h.few-promises in let b = c.promises in omega arith);
        limits = λ i l.
            let k : i < limits_in s = (let b = c.limits in omega arith) in
            within (limit_at i) (masks-within book (limit_at i) (letters_in s) _ (w.limits i k).masks (limit-sound s good i k).among);
        firsts = λ i l.
            let k : i < firsts_in s = (let b = c.firsts in omega arith) in
            within (first_at i) (masks-within book (first_at i) (letters_in s) _ (w.firsts i k) (first-sound s good i k).literals);
        lefts = λ i l.
            let k : i < steps_in s = (let b = c.steps in omega arith) in
            within (step_at i) (masks-within book (step_at i) (letters_in s) _ (w.steps i k).left (step-sound s good i k).left);
        rights = λ i l.
            let k : i < steps_in s = (let b = c.steps in omega arith) in
            within (right_at i) (masks-within book (right_at i) (letters_in s) _ (w.steps i k).right (step-sound s good i k).right);
        promises = λ i l.
            let k : i < promises_in s = (let b = c.promises in omega arith) in
            within (promise_at i) (masks-within book (promise_at i) (letters_in s) _ (w.promises i k) (promise-sound s good i k).literals);
      }

  -- What compiling writes is the sheet's book.
  pub written-book : BookOf (decode s) book
  written-book = record {
    shaped = shaped;
    lawful_is = lawful-says;
    first-is = first_says;
    moves_is = moves-say;
    promises_is = w.counts.promises ∙ sym (promises-count s);
    kept-is = kept-says;
    steps_is = w.counts.steps ∙ sym (steps-count s);
    left_is = left-says;
    right_is = right-says;
  }
