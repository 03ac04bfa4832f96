-- Over a finite system the checkers' conditions can be decided, for a run and for a strike list. Assumes nothing.
use mathlib.Core.Path.{◌≡◌}
use mathlib.Core.List.{List}
use mathlib.Core.Logic.Dec
use Prim.Native.Nat.{ℕ, zero, suc, ◌%◌, ◌≤◌, ◌<◌}
use native.Mathlib.Decide.{map_dec, dec_le, dec_lt, ℕ_discrete}
use native.Mathlib.Omega.{arith}
use lib.ListN.{length, get_or}
use Rattle.meaning.specs.System.{System, In, Finite}
use Rattle.meaning.specs.Papers.{RunAccepted, Listed, EntryRight, StrikesAccepted}
use Rattle.meaning.proofs.Search.{implies?, any_below, all-below}
use Rattle.meaning.proofs.Lists.{in?}

-- Whether P holds wherever C does, if C holds below n only.
pub all-where? : {C P : ℕ → Type 0} → ((x : ℕ) → Dec (C x)) → ((x : ℕ) → Dec (P x)) → (n : ℕ) → ((x : ℕ) → C x → x < n)
    → Dec ((x : ℕ) → C x → P x)
all-where? C? P? n below = map_dec (λ h x c. h x (below x c) c) (λ h x l c. h x c) (all-below (λ x. implies? (C? x) (P? x)) n)

-- Whether a proposed run is accepted.
pub run-accepted? : {S : System} → Finite S → (states : List ℕ) (a : ℕ) → Dec (RunAccepted S states a)
run-accepted? {S} F states a = map_dec
    (λ (b, (f, (m, (c, k)))). record { back = b; first = f; moves = m; closes = c; keeps = k })
    (λ r. (r.back, (r.first, (r.moves, (r.closes, r.keeps)))))
    (Dec.and (dec_lt a (length states)) (Dec.and (F.first? (get_or states 0 0)) (Dec.and moves? (Dec.and closes? keeps?))))
  where
    moves? : Dec ((i : ℕ) → suc i < length states → S.Move (get_or states i 0) (get_or states (suc i) 0))
    moves? = all-where? (λ i. dec_lt (suc i) (length states)) (λ i. F.move? (get_or states i 0) (get_or states (suc i) 0)) (length states)
        (λ i h. omega arith)

    closes? : Dec ((i : ℕ) → suc i ≡ length states → S.Move (get_or states i 0) (get_or states a 0))
    closes? = all-where? (λ i. ℕ_discrete (suc i) (length states)) (λ i. F.move? (get_or states i 0) (get_or states a 0)) (length states)
        (λ i h. omega arith)

    kept? : (k : ℕ) → Dec ((i : ℕ) × (a ≤ i) × (i < length states) × S.Kept k (get_or states i 0))
    kept? k = map_dec (λ (i, l, (h, p)). (i, h, l, p)) (λ (i, h, l, p). (i, l, (h, p)))
        (any_below (λ i. Dec.and (dec_le a i) (F.kept? k (get_or states i 0))) (length states))

    keeps? : Dec ((k : ℕ) → k < S.promises → (i : ℕ) × (a ≤ i) × (i < length states) × S.Kept k (get_or states i 0))
    keeps? = all-below kept? S.promises

-- Whether a state is listed with a word of W.
pub listed? : (states words : List ℕ) {W : ℕ → Type 0} → ((w : ℕ) → Dec (W w)) → (t : ℕ) → Dec (Listed states words W t)
listed? states words W? t = map_dec (λ (j, l, (e, w)). (j, l, e, w)) (λ (j, l, e, w). (j, l, (e, w)))
    (any_below (λ j. Dec.and (ℕ_discrete (get_or states j 0) t) (W? (get_or words j 0))) (length states))

-- Whether all next states are listed with a word of W.
pub nexts-listed? : {S : System} → Finite S → (states words : List ℕ) {W : ℕ → Type 0} → ((w : ℕ) → Dec (W w)) → (s : ℕ)
    → Dec ((t : ℕ) → S.Move s t → Listed states words W t)
nexts-listed? F states words W? s = all-where? (F.move? s) (listed? states words W?) F.bound (F.move-below s)

-- Whether an entry shows what its reason asks.
pub entry-right? : {S : System} → Finite S → (states words : List ℕ) (reason word s : ℕ) → Dec (EntryRight S states words reason word s)
entry-right? F states words zero word s = nexts-listed? F states words (λ w. dec_lt w word) s
entry-right? F states words (suc k) word s = Dec.and (Dec.not (F.kept? k s)) (nexts-listed? F states words (λ w. dec_le w word) s)

-- Whether a proposed strike list is accepted.
pub strikes-accepted? : {S : System} → Finite S → (states words : List ℕ) → Dec (StrikesAccepted S states words)
strikes-accepted? {S} F states words = map_dec
    (λ (v, (r, (l, (m, (f, e))))). record { as_many = v; rising = r; lawful = l; reasons = m; firsts = f; entries = e })
    (λ r. (r.as_many, (r.rising, (r.lawful, (r.reasons, (r.firsts, r.entries))))))
    (Dec.and (ℕ_discrete (length words) (length states)) (Dec.and rising? (Dec.and lawful? (Dec.and reasons? (Dec.and firsts? entries?)))))
  where
    rising? : Dec ((i : ℕ) → suc i < length states → get_or words i 0 ≤ get_or words (suc i) 0)
    rising? = all-where? (λ i. dec_lt (suc i) (length states)) (λ i. dec_le (get_or words i 0) (get_or words (suc i) 0)) (length states)
        (λ i h. omega arith)

    lawful? : Dec ((i : ℕ) → i < length states → S.Lawful (get_or states i 0))
    lawful? = all-below (λ i. F.lawful? (get_or states i 0)) (length states)

    reasons? : Dec ((i : ℕ) → i < length states → get_or words i 0 % 32 ≤ S.promises)
    reasons? = all-below (λ i. dec_le (get_or words i 0 % 32) S.promises) (length states)

    firsts? : Dec ((s : ℕ) → S.First s → In states s)
    firsts? = all-where? F.first? (in? states) F.bound F.first_below

    entries? : Dec ((i : ℕ) → i < length states → EntryRight S states words (get_or words i 0 % 32) (get_or words i 0) (get_or states i 0))
    entries? = all-below (λ i. entry-right? F states words (get_or words i 0 % 32) (get_or words i 0) (get_or states i 0)) (length states)
