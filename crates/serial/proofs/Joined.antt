-- Order 6's theorem. However a sheet is cut into pieces, and whatever stood in the buffer: taken one after another from a fresh lead, each
-- piece is answered with 0, the buffer begins with the joined bytes, and closing answers what the reader promises for them, place included
-- (`fed-is-joined`). So two cuttings of the same bytes cannot be told apart (`cuttings-alike`, `cuttings-same`). Every list of pieces can
-- be taken (`feeds-met`). Assumes nothing.
use mathlib.Core.Path.{◌≡◌, refl, sym, ◌∙◌, ap, subst}
use mathlib.Core.List.{List, [], ◌∷◌, ◌++◌, append_assoc, append-nil}
use mathlib.Core.Logic.{◌↔◌}
use native.Mathlib.Decide.{dec_le}
use native.Mathlib.Omega.{arith}
use Prim.Native.Nat.{ℕ, suc, ◌+◌, ◌≤◌, ◌<◌, min}
use lib.ListN.{length, take, replicate, length-append}
use lib.Seq.{sets, length-sets, take_all}
use Rattle.meaning.specs.Sheet.{most_bytes_of_a_sheet}
use Rattle.meaning.specs.Promises.{read_number, place_of, ReadSays, ReadPlaced}
use Rattle.meaning.proofs.Promised.{read-placed-unique}
use Rattle.meaning.proofs.Placing.{fault-1-exactly}
use Rattle.meaning.proofs.Writing.{sets-append, sets-past}
use Rattle.serial.specs.declared.Lead.{Lead}
use Rattle.serial.specs.Serial.{Open, fresh, counted, ended, Takes, added, late, Answers, read, over, Closes, ends, again}
use Rattle.serial.specs.Serial.{joined, Feeds, FedFresh}
use Rattle.ground.proofs.Writing.{front-written}
use Rattle.serial.proofs.Outcomes.{answers-met, takes-met}

-- ---- what has come over a lead

-- These bytes have come over a lead whose buffer held `sheet` at first: it is open, counts them, and they stand in the buffer.
pub record Came (bytes sheet : List ℕ) (lead : Lead) (left : List ℕ) : Type 0 where
  pub still : Open lead
  pub count : lead.taken ≡ min (length bytes) (suc most_bytes_of_a_sheet)
  pub buffer : left ≡ sets sheet 0 bytes

came-none : (sheet : List ℕ) → Came [] sheet fresh sheet
came-none sheet = record { still = refl; count = refl; buffer = refl }

-- behind a count that stands for more there is no room left
further : (bytes piece sheet : List ℕ) (taken : ℕ) → length sheet ≡ most_bytes_of_a_sheet → taken ≡ min (length bytes) (suc most_bytes_of_a_sheet)
    → sets (sets sheet 0 bytes) taken piece ≡ sets sheet 0 (bytes ++ piece)
further bytes piece sheet taken room count = by (dec_le (length bytes) (suc most_bytes_of_a_sheet))
  where
    by : Dec (length bytes ≤ suc most_bytes_of_a_sheet) → sets (sets sheet 0 bytes) taken piece ≡ sets sheet 0 (bytes ++ piece)
    by (yes h) =
        let here : taken ≡ 0 + length bytes = omega (arith, count) in
        ap (λ (n : ℕ). sets (sets sheet 0 bytes) n piece) here ∙ sym (sets-append sheet 0 bytes piece)
    by (no h) =
        let long = length-sets sheet 0 bytes in
        sets-past (sets sheet 0 bytes) taken piece (omega (arith, count, room, long))
        ∙ sym (sets-append sheet 0 bytes piece ∙ sets-past (sets sheet 0 bytes) (0 + length bytes) piece (omega (arith, room, long)))

-- one piece more
came-more : {bytes piece sheet left left' : List ℕ} {lead after : Lead} {n : ℕ} → length sheet ≡ most_bytes_of_a_sheet
    → Came bytes sheet lead left → Takes lead left piece n after left' → (n ≡ 0) × Came (bytes ++ piece) sheet after left'
came-more {bytes} {piece} {sheet} {lead = lead} room c (added o a b d) =
    let taken : ℕ = lead.taken in (
      a,
      record {
        still = ap (λ (l : Lead). l.closed) b ∙ o;
        count =
            ap (λ (l : Lead). l.taken) b ∙ counts (length bytes) (length piece) lead.taken c.count
            ∙ ap (λ (k : ℕ). min k (suc most_bytes_of_a_sheet)) (sym (length-append bytes piece));
        buffer = d ∙ ap (λ (l : List ℕ). sets l lead.taken piece) c.buffer ∙ further bytes piece sheet lead.taken room c.count;
      },
    )
  where
    counts : (m k taken : ℕ) → taken ≡ min m (suc most_bytes_of_a_sheet) → counted taken k ≡ min (m + k) (suc most_bytes_of_a_sheet)
    counts m k taken e = omega (arith, e)
came-more room c (late s a b d) = absurd (s c.still)

-- many pieces more
came-all : (pieces : List (List ℕ)) {bytes sheet left answers left' : List ℕ} {lead after : Lead} → length sheet ≡ most_bytes_of_a_sheet
    → Came bytes sheet lead left → Feeds pieces lead left answers after left'
    → (answers ≡ replicate (length pieces) 0) × Came (bytes ++ joined pieces) sheet after left'
unfolding joined Feeds
came-all [] {bytes} {sheet} {left} {left' = left'} {lead} {after} room c (e, same, kept) = (
  e,
  subst (λ (l : List ℕ). Came l sheet after left') (sym (append-nil bytes))
      (subst (λ (l : Lead). Came bytes sheet l left') (sym same) (subst (λ (l : List ℕ). Came bytes sheet lead l) (sym kept) c)),
)
came-all (piece ∷ pieces) {bytes} {sheet} {left' = left'} {after = after} room c (n, later, mid, between, e, t, rest) =
    let one = came-more room c t in
    let all = came-all pieces room one.1 rest in (
      e ∙ ap (λ (m : ℕ). m ∷ later) one.0 ∙ ap (λ (l : List ℕ). 0 ∷ l) all.0,
      subst (λ (l : List ℕ). Came l sheet after left') (append_assoc bytes piece (joined pieces)) all.1,
    )

-- ---- closing

-- "Over 4,096 bytes the answer .. is 1": so the reader answers too.
long-reads : (bytes : List ℕ) → most_bytes_of_a_sheet < length bytes → ReadPlaced bytes 1 0
unfolding ReadPlaced ReadSays read_number place_of
long-reads bytes h =
    let found = (fault-1-exactly bytes 0).1 ((λ fits. omega (arith, fits.1)), refl) in
    record { number = ap read_number (sym found); where_met = ap place_of (sym found) }

-- Closing answers what the reader promises for the bytes that came.
closing-reads : {bytes sheet left : List ℕ} {lead : Lead} {n place : ℕ} → length sheet ≡ most_bytes_of_a_sheet → Came bytes sheet lead left
    → Answers lead.taken left n place → ReadPlaced bytes n place
closing-reads {bytes} {sheet} {left} {lead} {n} {place} room c (read h x) =
    let here : lead.taken ≡ length bytes = omega (arith, c.count) in
    let same : take lead.taken left ≡ bytes =
    ap (λ (k : ℕ). take k left) here ∙ ap (take (length bytes)) c.buffer ∙ front-written sheet bytes
    ∙ take_all (length sheet) bytes (omega (arith, room)) in
    subst (λ (l : List ℕ). ReadPlaced l n place) same x
closing-reads {bytes} {n = n} {place} room c (over h e f) =
    let told = long-reads bytes (omega (arith, c.count)) in
    subst (λ (k : ℕ). ReadPlaced bytes k place) (sym e) (subst (λ (q : ℕ). ReadPlaced bytes 1 q) (sym f) told)

-- ---- the theorem

-- What is so of a lead and its buffer when these bytes have come. How they were cut plays no part in it.
pub record Fed (bytes sheet : List ℕ) (lead : Lead) (left : List ℕ) : Type 0 where
  pub state : lead ≡ record { taken = min (length bytes) (suc most_bytes_of_a_sheet); closed = 0 }
  pub buffer : left ≡ sets sheet 0 bytes
  pub begins : take (length bytes) left ≡ take most_bytes_of_a_sheet bytes
  pub closing : (n place : ℕ) (after : Lead) → Closes lead left n place after ↔ (ReadPlaced bytes n place × (after ≡ ended lead))

-- from what has come to what closing answers, and back: the reader's answer for the joined bytes and nothing else
fed : {bytes sheet left : List ℕ} {lead : Lead} → length sheet ≡ most_bytes_of_a_sheet → Came bytes sheet lead left → Fed bytes sheet lead left
fed {bytes} {sheet} {left} {lead} room c = record {
  state = two c.count c.still;
  buffer = c.buffer;
  begins = ap (take (length bytes)) c.buffer ∙ front-written sheet bytes ∙ ap (λ (k : ℕ). take k bytes) room;
  closing = λ n place after. (to n place after, from n place after);
}
  where
    two : {t k : ℕ} → lead.taken ≡ t → lead.closed ≡ k → lead ≡ record { taken = t; closed = k }
    two {t} e f = ap (λ (x : ℕ). record { taken = x; closed = lead.closed }) e ∙ ap (λ (y : ℕ). record { taken = t; closed = y }) f

    to : (n place : ℕ) (after : Lead) → Closes lead left n place after → ReadPlaced bytes n place × (after ≡ ended lead)
    to n place after (ends o a e) = (closing-reads room c a, e)
    to n place after (again s a b e) = absurd (s c.still)

    from : (n place : ℕ) (after : Lead) → ReadPlaced bytes n place × (after ≡ ended lead) → Closes lead left n place after
    from n place after (x, e) =
        let some = answers-met lead.taken left in
        let same = read-placed-unique bytes (closing-reads room c some.2) x in
        ends c.still
        (subst (λ (k : ℕ). Answers lead.taken left k place) same.0
        (subst (λ (q : ℕ). Answers lead.taken left some.0 q) same.1 some.2))
        e

-- Pieces taken one after another from a fresh lead, whatever stood in the buffer: each is answered with 0, and what is left and what
-- closing answers is settled by the joined bytes.
pub fed-is-joined : {pieces : List (List ℕ)} {sheet answers left : List ℕ} {lead : Lead}
    → FedFresh pieces sheet answers lead left → (answers ≡ replicate (length pieces) 0) × Fed (joined pieces) sheet lead left
fed-is-joined {pieces} {sheet} f =
    let all = came-all pieces f.room (came-none sheet) f.feeds in
    (all.0, fed f.room all.1)

-- Closing then answers what the reader promises for the joined bytes.
pub closing-answers-the-reader : {pieces : List (List ℕ)} {sheet answers left : List ℕ} {lead after : Lead} {n place : ℕ}
    → FedFresh pieces sheet answers lead left → Closes lead left n place after → ReadPlaced (joined pieces) n place
closing-answers-the-reader f c = (((fed-is-joined f).1.closing _ _ _).0 c).0

-- Up to 4,096 bytes the buffer begins with them.
pub buffer-begins-with-them : {pieces : List (List ℕ)} {sheet answers left : List ℕ} {lead : Lead}
    → FedFresh pieces sheet answers lead left → length (joined pieces) ≤ most_bytes_of_a_sheet → take (length (joined pieces)) left ≡ joined pieces
buffer-begins-with-them {pieces} f h = (fed-is-joined f).1.begins ∙ take_all most_bytes_of_a_sheet (joined pieces) h

-- ---- two cuttings

-- Two cuttings of the same bytes cannot be told apart: the same state, the same first bytes of the buffer, and at closing the same answer,
-- place and state, whatever stood in the two buffers.
pub record Alike (bytes : List ℕ) (lead lead' : Lead) (left left' : List ℕ) : Type 0 where
  pub state : lead ≡ lead'
  pub front : take (length bytes) left ≡ take (length bytes) left'
  pub closing : {n place n' place' : ℕ} {after after' : Lead} → Closes lead left n place after → Closes lead' left' n' place' after'
      → (n ≡ n') × (place ≡ place') × (after ≡ after')

pub cuttings-alike : {pieces pieces' : List (List ℕ)} {sheet answers left sheet' answers' left' : List ℕ} {lead lead' : Lead}
    → joined pieces ≡ joined pieces' → FedFresh pieces sheet answers lead left → FedFresh pieces' sheet' answers' lead' left'
    → Alike (joined pieces) lead lead' left left'
cuttings-alike {pieces} {sheet' = sheet'} {left' = left'} {lead} {lead'} e f g =
    let one = (fed-is-joined f).1 in
    let other : Fed (joined pieces) sheet' lead' left' = subst (λ (l : List ℕ). Fed l sheet' lead' left') (sym e) (fed-is-joined g).1 in
    let same : lead ≡ lead' = one.state ∙ sym other.state in
    record {
      state = same;
      front = one.begins ∙ sym other.begins;
      closing = λ c d.
          let x = (one.closing _ _ _).0 c in
          let y = (other.closing _ _ _).0 d in
          let told = read-placed-unique (joined pieces) x.0 y.0 in
          (told.0, told.1, x.1 ∙ ap ended same ∙ sym y.1);
    }

-- From the same buffer they leave the same buffer, every byte of it.
pub cuttings-same : {pieces pieces' : List (List ℕ)} {sheet answers left answers' left' : List ℕ} {lead lead' : Lead}
    → joined pieces ≡ joined pieces' → FedFresh pieces sheet answers lead left → FedFresh pieces' sheet answers' lead' left' → left ≡ left'
cuttings-same {sheet = sheet} e f g = (fed-is-joined f).1.buffer ∙ ap (sets sheet 0) e ∙ sym (fed-is-joined g).1.buffer

-- ---- every list of pieces can be taken

pub feeds-met : (pieces : List (List ℕ)) (lead : Lead) (sheet : List ℕ)
    → (answers : List ℕ) × (after : Lead) × (left : List ℕ) × Feeds pieces lead sheet answers after left
unfolding Feeds
feeds-met [] lead sheet = ([], lead, sheet, (refl, refl, refl))
feeds-met (piece ∷ pieces) lead sheet =
    let one = takes-met lead sheet piece in
    let rest = feeds-met pieces one.1 one.2 in
    (one.0 ∷ rest.0, rest.1, rest.2, (one.0, rest.0, one.1, one.2, refl, one.3, rest.3))
