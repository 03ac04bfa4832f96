-- The cut sample run is the paper, written over the front of the run if it fits; and how the parts of steering are put together.
-- Assumes nothing.
use mathlib.Core.Path.{◌≡◌, refl, sym, ap, ◌∙◌}
use mathlib.Core.List.{List, [], ◌∷◌, ◌++◌}
use Prim.Native.Nat.{ℕ, zero, suc, ◌+◌, ◌-◌, ◌≤◌, ◌<◌}
use native.Mathlib.Decide.{dec_lt}
use native.Mathlib.Omega.{arith}
use lib.ListN.{length, get_or, take, drop, length-append, length-drop, get_or-append}
use lib.Seq.{ext_get_or, get_or-append-add, get_or-drop}
use Rattle.meaning.specs.System.{System, Livable, Lists}
use Rattle.meaning.specs.Sample.{RunPaper}
use Rattle.meaning.specs.Promises.{over, most_states}
use Rattle.rules.specs.Book.{Shaped, book_system}
use Rattle.sample_step.proofs.Books.{livable-table}
use Rattle.sample_step.proofs.Places.{livables-of}
use Rattle.sample_walk.specs.Steered.{Steered}
use Rattle.sample_walk.specs.Walk.{Steerable, LoopCut, RunWritten}

-- ---- the paper

-- the first b states of f
states-of : (ℕ → ℕ) → ℕ → List ℕ
states-of f zero = []
states-of f (suc b) = f 0 ∷ states-of (λ i. f (suc i)) b

length-states-of : (f : ℕ → ℕ) (b : ℕ) → length (states-of f b) ≡ b
unfolding states-of
length-states-of f zero = refl
length-states-of f (suc b) = ap suc (length-states-of (λ i. f (suc i)) b)

get_or-states-of : (f : ℕ → ℕ) (b i : ℕ) → i < b → get_or (states-of f b) i 0 ≡ f i
unfolding states-of
get_or-states-of f zero i h = absurd (omega arith)
get_or-states-of f (suc b) zero h = refl
get_or-states-of f (suc b) (suc i) h = get_or-states-of (λ i. f (suc i)) b i (omega arith)

cut-paper : {S : System} {table : List ℕ} {b place aim : ℕ} (c : LoopCut S table b place aim) → RunPaper S (states-of c.run b) c.back
cut-paper {b = b} c = record {
  run = c.run;
  aim = c.aims;
  sample = c.sample;
  written = λ i p. get_or-states-of c.run b i (omega (arith, size));
  back = omega (arith, size, c.before);
  same_state = ap c.run size ∙ c.same_state;
  same-aim = ap c.aims size ∙ c.same-aim;
  no_earlier = λ i j p q. c.fresh i j p (omega (arith, size));
}
  where
    size : length (states-of c.run b) ≡ b
    size = length-states-of c.run b

-- A run that does not fit is told by its length alone.
pub steered-short : {S : System} {table : List ℕ} {b place aim : ℕ} (run : List ℕ) (a : ℕ) → LoopCut S table b place aim → length run < b
    → Steered S run run a b
steered-short {b = b} run a c h = record {
  states = states-of c.run b;
  back = c.back;
  paper = cut-paper c;
  long = length-states-of c.run b;
  fits = λ q. absurd (omega arith);
  short = λ q. refl;
}

-- A run that fits is written.
pub steered-written : {S : System} {table : List ℕ} {b place aim : ℕ} (run new : List ℕ) (a : ℕ)
    → RunWritten S table b place aim run new a → b ≤ length run
    → Steered S run new a b
unfolding over
steered-written {b = b} run new a w h = record {
  states = states;
  back = w.cut.back;
  paper = cut-paper w.cut;
  long = size;
  fits = λ q. (ext_get_or 0 new (states ++ drop (length states) run) long same, w.from);
  short = λ q. absurd (omega arith);
}
  where
    states : List ℕ
    states = states-of w.cut.run b

    size : length states ≡ b
    size = length-states-of w.cut.run b

    long : length new ≡ length (states ++ drop (length states) run)
    long = w.long ∙ omega (arith, length-append states (drop (length states) run), length-drop (length states) run, size)

    same : (i : ℕ) → i < length new → get_or new i 0 ≡ get_or (states ++ drop (length states) run) i 0
    same i q = by (dec_lt i b)
      where
        by : Dec (i < b) → get_or new i 0 ≡ get_or (states ++ drop (length states) run) i 0
        by (yes l) = w.states i l ∙ sym (get_or-states-of w.cut.run b i l)
            ∙ sym (get_or-append states (drop (length states) run) 0 i (omega (arith, size)))
        by (no l) =
            let e : length states + (i - length states) ≡ i = omega (arith, size) in
            w.rest i (omega arith) ∙ sym (ap (λ (y : ℕ). get_or run y 0) e) ∙ sym (get_or-drop (length states) run (i - length states) 0)
            ∙ sym (get_or-append-add states (drop (length states) run) (i - length states) 0)
            ∙ ap (λ (y : ℕ). get_or (states ++ drop (length states) run) y 0) e

-- ---- the parts put together

-- The list of the livable states is what steering asks for.
pub steerable-of : {book table words : List ℕ} {r : ℕ} → Shaped book → 1 ≤ r → r ≤ most_states → r ≤ length table → r ≤ length words
    → Lists (Livable (book_system book)) (take r table) → Steerable book table words r
steerable-of {table = table} {r = r} shaped some few in_table in_words lists = record {
  states = livable-table shaped some few in_table (livables-of table r in_table lists);
  in_words = in_words;
}
