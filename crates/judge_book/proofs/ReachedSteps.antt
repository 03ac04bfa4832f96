-- After exploring: answer 11, the promise over the system of a book, or the reachable states are listed. Assumes nothing.
use mathlib.Core.Path.{◌≡◌, refl, sym, subst, ◌∙◌}
use mathlib.Core.List.{List}
use Prim.Native.Nat.{ℕ, ◌/◌, ◌≤◌, ◌<◌, min}
use native.Mathlib.Omega.{arith}
use lib.ListN.{length}
use Rattle.meaning.specs.System.{System, IsR}
use Rattle.meaning.specs.Promises.{crowded, capacity, most_states, cleared, outcome}
use Rattle.rules.specs.Book.{Shaped, book_system}
use Rattle.std.specs.Prelude.{Option, Some, None}
use Rattle.table_explore.specs.Adding.{Returned}
use Rattle.judge_answer.specs.declared.Judgement.{Judgement}
use Rattle.judge_answer.specs.Judging.{lent_of, outcome_of, refused, JudgedBy, LeftOver}
use Rattle.judge_answer.proofs.Rooms.{capacity-is, Alike, capacity-same, judged-alike}
use Rattle.judge_answer.proofs.Wiping.{wiped-whole}
use Rattle.judge_book.specs.Reached.{Reached}

-- 11: R is above C.
pub crowded-judged : {S : System} {table words scratch table' words' scratch' : List ℕ} {j : Judgement} (run : List ℕ) → j ≡ refused 11 0 0
    → ((r : ℕ) → IsR S r → capacity (lent_of table words scratch run) < r) → LeftOver 0 0 table words scratch table' words' scratch'
    → JudgedBy S (lent_of table words scratch run) (outcome_of j (lent_of table' words' scratch' run))
unfolding outcome cleared
crowded-judged {table = table} {words} {table' = table'} {words'} run is many L = record {
  finding = crowded;
  found = many;
  returned = λ i.
      let leaves = lent_of (wiped-whole table' table L.table_is i) (wiped-whole words' words L.words_is i) (L.scratch_is i) run in
      outcome_of (is i) leaves;
}

-- Exploring keeps every length.
pub returned-alike : {S : System} {cap : ℕ} {told : Option ℕ} {table table' scratch scratch' : List ℕ} (words run : List ℕ)
    → Returned S cap table table' scratch scratch' told → Alike (lent_of table' words scratch' run) (lent_of table words scratch run)
returned-alike words run t = record { table_long = t.table_long; words_long = refl; scratch_long = t.scratch_long; run_same = refl }

-- Above cap states were found, so R is above C.
pub returned-crowded : {S : System} {cap : ℕ} {table table₁ table' words words' scratch scratch₁ scratch' : List ℕ} {j : Judgement}
    (run : List ℕ)
    → j ≡ refused 11 0 0 → cap ≡ min (min (length table) (length words)) (min (length scratch / 2) most_states)
    → Returned S cap table table₁ scratch scratch₁ None → LeftOver 0 0 table₁ words scratch₁ table' words' scratch'
    → JudgedBy S (lent_of table words scratch run) (outcome_of j (lent_of table' words' scratch' run))
returned-crowded {S} {cap} {table} {table₁} {words = words} {scratch = scratch} {scratch₁} run numbers is t L =
    judged-alike alike (crowded-judged run numbers many L)
  where
    alike : Alike (lent_of table₁ words scratch₁ run) (lent_of table words scratch run)
    alike = returned-alike words run t

    room : cap ≡ capacity (lent_of table₁ words scratch₁ run)
    room = is ∙ capacity-is table words scratch run ∙ sym (capacity-same alike)

    many : (n : ℕ) → IsR S n → capacity (lent_of table₁ words scratch₁ run) < n
    many n number = subst (λ c. c < n) room (t.explored n number)

-- At most cap states were found: they are listed.
pub returned-reached : {book : List ℕ} {cap r : ℕ} {table table₁ scratch scratch₁ : List ℕ} (words run : List ℕ) → Shaped book
    → cap ≡ min (min (length table) (length words)) (min (length scratch / 2) most_states)
    → Returned (book_system book) cap table table₁ scratch scratch₁ (Some r) → Reached book (lent_of table₁ words scratch₁ run) r
returned-reached {cap = cap} {r} {table} {table₁} {scratch} {scratch₁} words run shaped is t = record {
  shaped = shaped;
  lists = t.explored.1;
  room = subst (λ c. r ≤ c) room t.explored.0;
}
  where
    room : cap ≡ capacity (lent_of table₁ words scratch₁ run)
    room = is ∙ capacity-is table words scratch run ∙ sym (capacity-same (returned-alike words run t))
