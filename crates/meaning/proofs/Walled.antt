-- The workshop wall, proved: the fourteen starred examples as one claim, each by computing its tests (Tables.antt) from the sheet's bytes.
-- What it says of W1 to W6 stands by itself too, for Idle.antt. Assumes nothing.
use mathlib.Core.Path.{refl}
use mathlib.Core.List.{List, [], ◌∷◌}
use Prim.Native.Nat.{ℕ}
use lib.Dec.{T}
use lib.ListN.{length}
use Rattle.meaning.specs.System.{CanBeKept, Livable, Reachable, Lists}
use Rattle.meaning.specs.Sample.{RunPaper}
use Rattle.meaning.specs.Sheet.{first_fault, decode}
use Rattle.meaning.specs.Rules.{lawful}
use Rattle.meaning.specs.Promises.{system_in}
use Rattle.meaning.specs.Wall.{Claimed, cannot_be_kept, AllHold, wall, w1, w2, w3, w4, w5, w6, w7, w8, w9, w10, w11, w12, w13, w14}
use Rattle.meaning.proofs.Rounds.{Quiet, strike-list-no-run}
use Rattle.meaning.proofs.Strikes.{strike-list-number}
use Rattle.meaning.proofs.Judging.{lists-number}
use Rattle.meaning.proofs.Tests.{Test, bool?, lists?}
use Rattle.meaning.proofs.Parts.{lawful-below}
use Rattle.meaning.proofs.Tables.{
  Testable,
  tests-of,
  reachable?,
  left_below,
  strikes?,
  strike-list-tested,
  quiet?,
  livable?,
  livable-below,
  paper?,
  run-paper-tested,
}

-- the tests of the system in a sheet's bytes
unfoldable pub tests-in : (sheet : List ℕ) → Testable (system_in sheet)
unfolding system_in tests-of
tests-in sheet = tests-of (decode sheet)

-- its lawful states, first states and reachable states are those of l
unfoldable pub lawful-list? : (sheet l : List ℕ) → Test (Lists (system_in sheet).Lawful l)
unfolding system_in tests-of lists? bool?
lawful-list? sheet l = lists? (λ s. bool? (lawful (decode sheet) s)) (tests-of (decode sheet)).bound (lawful-below (decode sheet)) l

unfoldable pub first-list? : (sheet l : List ℕ) → Test (Lists (system_in sheet).First l)
unfolding tests-in lists?
first-list? sheet l = lists? (tests-in sheet).first? (tests-in sheet).bound (tests-in sheet).first_below l

unfoldable pub reachable-list? : (sheet l : List ℕ) → Test (Lists (Reachable (system_in sheet)) l)
unfolding tests-in lists? reachable?
reachable-list? sheet l = lists? (reachable? (tests-in sheet)) (tests-in sheet).bound (left_below (tests-in sheet) 0) l

-- A strike list that passes its test: the sheet cannot be kept, and R is the list's length.
pub cannot-be-kept : (sheet states words : List ℕ) → T (strikes? (tests-in sheet) states words).says
    → Claimed (system_in sheet) (cannot_be_kept (length states) states words)
cannot-be-kept sheet states words x =
    let list = strike-list-tested (tests-in sheet) states words x in (strike-list-no-run list, strike-list-number list, list)

module _ (sheet : List ℕ) (phase : ℕ) (q : T (quiet? (tests-in sheet) phase).says) where
  abbrev quiet : Quiet (system_in sheet) phase
  quiet = (quiet? (tests-in sheet) phase).sound q

  -- Livable states, states of a run and aims that pass their tests: the sheet can be kept, K is the number of livable states, and the run
  -- is the judge's.
  pub can-be-kept : (livable states aims : List ℕ) (a : ℕ)
      → T (lists? (livable? (tests-in sheet) phase quiet) (tests-in sheet).bound (livable-below (tests-in sheet) phase quiet)
      livable).says
      → T (paper? (tests-in sheet) phase quiet states aims a).says
      → CanBeKept (system_in sheet) × Lists (Livable (system_in sheet)) livable × RunPaper (system_in sheet) states a
  can-be-kept livable states aims a x y =
      let paper = run-paper-tested (tests-in sheet) phase quiet states aims a y in
      let start = paper.sample.livable in (
        (start.run, start.obeys),
        (lists? (livable? (tests-in sheet) phase quiet) _ (livable-below (tests-in sheet) phase quiet)
            livable).sound x,
        paper,
      )

-- what the wall says of W1 to W6; in W1, W2 and W3 the first phase is quiet already
pub w1-kept : CanBeKept (system_in w1) × Lists (Livable (system_in w1)) (0 ∷ 1 ∷ []) × RunPaper (system_in w1) (0 ∷ []) 0
unfolding tests-in lists? quiet? livable? paper?
w1-kept = can-be-kept w1 0 tt (0 ∷ 1 ∷ []) (0 ∷ []) (0 ∷ []) 0 tt tt

pub w2-kept : CanBeKept (system_in w2) × Lists (Livable (system_in w2)) (0 ∷ 1 ∷ []) × RunPaper (system_in w2) (0 ∷ 1 ∷ []) 1
unfolding tests-in lists? quiet? livable? paper?
w2-kept = can-be-kept w2 0 tt (0 ∷ 1 ∷ []) (0 ∷ 1 ∷ []) (0 ∷ 0 ∷ []) 1 tt tt

pub w3-kept : CanBeKept (system_in w3) × Lists (Livable (system_in w3)) (0 ∷ 1 ∷ []) × RunPaper (system_in w3) (0 ∷ 1 ∷ 0 ∷ []) 1
unfolding tests-in lists? quiet? livable? paper?
w3-kept = can-be-kept w3 0 tt (0 ∷ 1 ∷ []) (0 ∷ 1 ∷ 0 ∷ []) (0 ∷ 0 ∷ 1 ∷ []) 1 tt tt

pub w4-struck : Claimed (system_in w4) (cannot_be_kept 2 (0 ∷ 1 ∷ []) (33 ∷ 64 ∷ []))
unfolding tests-in strikes?
w4-struck = cannot-be-kept w4 _ _ tt

pub w5-struck : Claimed (system_in w5) (cannot_be_kept 2 (0 ∷ 1 ∷ []) (32 ∷ 32 ∷ []))
unfolding tests-in strikes?
w5-struck = cannot-be-kept w5 _ _ tt

pub w6-struck : Claimed (system_in w6) (cannot_be_kept 0 [] [])
unfolding tests-in strikes?
w6-struck = cannot-be-kept w6 _ _ tt

-- The wall: every starred example holds.
pub the-wall : AllHold wall
unfolding first_fault system_in lawful-list? first-list?
the-wall = (
  (refl, (w1-kept.0, lists-number w1-kept.1, w1-kept.2, refl)),
  (
    (refl, (w2-kept.0, lists-number w2-kept.1, w2-kept.2, refl, refl)),
    (
      (refl, (w3-kept.0, lists-number w3-kept.1, w3-kept.2, refl)),
      (
        (refl, w4-struck),
        (
          (refl, w5-struck),
          (
            (refl, w6-struck),
            (
              (refl, (lawful-list? w7 _).sound tt),
              (
                (refl, (lawful-list? w8 _).sound tt),
                (
                  (refl, (lawful-list? w9 _).sound tt),
                  (
                    (refl, (lawful-list? w10 _).sound tt),
                    (
                      (refl, (lawful-list? w11 _).sound tt),
                      (
                        (refl, (lawful-list? w12 _).sound tt),
                        (
                          (refl, (first-list? w13 _).sound tt),
                          (
                            (refl, (first-list? w14 _).sound tt),
                            tt,
                          ),
                        ),
                      ),
                    ),
                  ),
                ),
              ),
            ),
          ),
        ),
      ),
    ),
  ),
)
