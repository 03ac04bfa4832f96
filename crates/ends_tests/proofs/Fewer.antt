-- Fewer unstruck places: how many are left where one is struck, and that pointers stay right. Assumes nothing.
use mathlib.Core.Path.{◌≡◌, sym, ap, ◌∙◌}
use mathlib.Core.List.{List}
use Prim.Native.Nat.{ℕ, suc, ◌+◌, ◌-◌, ◌<◌}
use native.Mathlib.Omega.{arith}
use lib.ListN.{length, get_or, set}
use Rattle.meaning.specs.System.{System}
use Rattle.meaning.specs.Strike.{SavedBy}
use Rattle.distances.specs.Far.{Unstruck, UnstruckIn}
use Rattle.distances.proofs.Totals.{total-set}
use Rattle.watch.specs.Witness.{free_in}
use Rattle.ends_tests.specs.Phases.{Falls, was, stays, falls, Phased, Points, fresh, target, Pointers}

-- Setting an unstruck place's word takes one from the unstruck.
pub free-set : (words : List ℕ) (i v r : ℕ) → i < r → i < length words → Unstruck words i → 0 < v
    → suc (free_in (set words i v) r) ≡ free_in words r
free-set words i v r h k z s =
    let a : free_in (set words i v) r + (1 - get_or words i 0) ≡ free_in words r + (1 - v) = total-set (λ x. 1 - x) words i v r h k in
    let b : 1 - get_or words i 0 ≡ 1 = ap (λ (x : ℕ). 1 - x) z in
    let c : 1 - v ≡ 0 = omega arith in
    omega arith

-- What is unstruck after a phase was unstruck before it.
pub phased-free : {S : System} {table : List ℕ} {r reason v : ℕ} {old new : List ℕ} {n : ℕ} → Phased S table r reason v old new n → 0 < v
    → (i : ℕ) → i < r → Unstruck new i → Unstruck old i
phased-free {S} {table} {r} {reason} {v} {old} {new} p s i h z = by (p.each i h)
  where
    by : Falls (SavedBy S (UnstruckIn table old r) reason (get_or table i 0)) v (get_or old i 0) (get_or new i 0) → Unstruck old i
    by (was a e) = sym e ∙ z
    by (stays a b c) = a
    by (falls a b c) = a

-- A pointer stays right where fewer places are unstruck.
pub points-fewer : (book table old new : List ℕ) (r i q : ℕ) → ((m : ℕ) → m < r → Unstruck new m → Unstruck old m)
    → Points book table old r i q → Points book table new r i q
points-fewer book table old new r i q fewer (fresh e) = fresh e
points-fewer book table old new r i q fewer (target j e h t low) = target j e h t (λ m l z. low m l (fewer m (omega arith) z))

-- So do all pointers.
pub pointers-fewer : (book table old new row : List ℕ) (r : ℕ) → ((m : ℕ) → m < r → Unstruck new m → Unstruck old m)
    → Pointers book table old row r → Pointers book table new row r
pointers-fewer book table old new row r fewer p i h z =
    points-fewer book table old new r i (get_or row i 0) fewer (p i h (fewer i h z))
