-- Words as marks: before phase n each place's word says whether its state is left or in which phase it was struck. One phase of striking
-- keeps this, whatever its reason; after as many quiet phases as there are reasons what is unstruck is livable. Assumes nothing.
use mathlib.Core.Path.{◌≡◌, sym, ap, subst, ◌∙◌}
use mathlib.Core.Logic.{◌⊎◌, inl, inr}
use mathlib.Core.List.{List}
use Prim.Native.Nat.{ℕ, suc, ◌+◌, ◌-◌, ◌≤◌, ◌<◌}
use native.Mathlib.Decide.{ℕ_discrete}
use native.Mathlib.Omega.{arith}
use lib.ListN.{length, get_or, take}
use lib.Seq.{length-take-le, get_or-take}
use Rattle.meaning.specs.System.{System, Reachable, Lists, Livable}
use Rattle.meaning.specs.Strike.{SavedBy, reason_of, word_of, Left, Struck}
use Rattle.meaning.proofs.Rounds.{left-reachable, left-earlier, saved-map, phase-word-rises, left-livable}
use Rattle.distances.specs.Far.{Unstruck, UnstruckIn}
use Rattle.distances.proofs.Totals.{total-less}
use Rattle.ends_tests.specs.Phases.{Falls, was, stays, falls, Phased, Unphased}

-- 1 for an unstruck place
abbrev free_at : List ℕ → ℕ → ℕ
free_at words i = 1 - get_or words i 0

-- the word w of a state before phase n
abbrev pub Mark : System → (n s w : ℕ) → Type 0
Mark S n s w = ((w ≡ 0) × Left S n s) ⊎ ((m : ℕ) × (m < n) × Struck S m s × (w ≡ word_of S m))

-- every one of the first r places is marked
abbrev pub Marks : (S : System) (table : List ℕ) (r n : ℕ) (words : List ℕ) → Type 0
Marks S table r n words = (i : ℕ) → i < r → Mark S n (get_or table i 0) (get_or words i 0)

-- Where the phases stand: the marks before phase n, and that the last `quiet` phases struck nothing.
pub record Standing (S : System) (table : List ℕ) (r : ℕ) (words : List ℕ) (n quiet : ℕ) : Type 0 where
  pub marks : Marks S table r n words
  pub rest_from : ℕ
  pub rest-is : rest_from + quiet ≡ n
  pub at_rest : (s : ℕ) → Left S rest_from s → Left S n s

-- no phase's word is 0
word_some : (S : System) (n : ℕ) → 0 < word_of S n
word_some S n = omega arith

module _ (S : System) (table : List ℕ) (r : ℕ) (inside : r ≤ length table) (L : Lists (Reachable S) (take r table))
    (few : S.promises < 32) where
  -- Each of the first r states is reachable, and each reachable state is among them.
  pub place-reachable : (i : ℕ) → i < r → Reachable S (get_or table i 0)
  place-reachable i h = subst (Reachable S) (get_or-take r table i 0 h) (L.sound i (let a = length-take-le r table inside in omega arith))

  pub reachable-place : (s : ℕ) → Reachable S s → (i : ℕ) × (i < r) × (get_or table i 0 ≡ s)
  reachable-place s x =
      let p = L.whole s x in
      let h : p.0 < r = let a = p.1 in let b = length-take-le r table inside in omega arith in
      (p.0, h, sym (get_or-take r table p.0 0 h) ∙ p.2)

  -- a marked state that is unstruck is left, and one that is left is unstruck
  mark-left : (n s w : ℕ) → Mark S n s w → w ≡ 0 → Left S n s
  mark-left n s w (inl (z, l)) e = l
  mark-left n s w (inr (m, h, k, f)) e = absurd (let a = word_some S m in omega arith)

  left-mark : (n s w : ℕ) → Mark S n s w → Left S n s → w ≡ 0
  left-mark n s w (inl (z, l)) e = z
  left-mark n s w (inr (m, h, k, f)) e = absurd (k.1 (left-earlier S (suc m) n s h e).1)

  module _ (n : ℕ) (words : List ℕ) (M : Marks S table r n words) where
    -- What is unstruck in the table is what is left.
    live-left : (s : ℕ) → UnstruckIn table words r s → Left S n s
    live-left s (i, h, e, z) = subst (Left S n) e (mark-left n (get_or table i 0) (get_or words i 0) (M i h) z)

    left-live : (s : ℕ) → Left S n s → UnstruckIn table words r s
    left-live s l = by (reachable-place s (left-reachable S n l))
      where
        by : (i : ℕ) × (i < r) × (get_or table i 0 ≡ s) → UnstruckIn table words r s
        by (i, h, e) = (i, h, e, left-mark n (get_or table i 0) (get_or words i 0) (M i h) (subst (Left S n) (sym e) l))

    -- No place has the next phase's word yet.
    pub marks-unphased : (v : ℕ) → word_of S n ≡ v → r ≤ length words → Unphased words r v
    marks-unphased v e long = record {
      in_words = long;
      some = let a = word_some S n in omega arith;
      below = λ i h. by (get_or words i 0) (M i h);
    }
      where
        by : {s : ℕ} (w : ℕ) → Mark S n s w → w < v
        by w (inl (z, l)) = let a = word_some S n in omega arith
        by w (inr (m, h, k, f)) = let a = phase-word-rises S few m n h in omega arith

    -- One phase.
    pub marks-phase : (reason v : ℕ) (new : List ℕ) (fallen : ℕ) → reason_of S n ≡ reason → word_of S n ≡ v
        → Phased S table r reason v words new fallen → Marks S table r (suc n) new
    marks-phase reason v new fallen e f p i h = by (p.each i h) (M i h)
      where
        saved : SavedBy S (UnstruckIn table words r) reason (get_or table i 0) → SavedBy S (Left S n) (reason_of S n) (get_or table i 0)
        saved x = subst (λ (q : ℕ). SavedBy S (Left S n) q (get_or table i 0)) (sym e)
            (saved-map S (UnstruckIn table words r) (Left S n) live-left reason (get_or table i 0) x)

        back : SavedBy S (Left S n) (reason_of S n) (get_or table i 0) → SavedBy S (UnstruckIn table words r) reason (get_or table i 0)
        back x = saved-map S (Left S n) (UnstruckIn table words r) left-live reason (get_or table i 0)
            (subst (λ (q : ℕ). SavedBy S (Left S n) q (get_or table i 0)) e x)

        by : Falls (SavedBy S (UnstruckIn table words r) reason (get_or table i 0)) v (get_or words i 0) (get_or new i 0)
            → Mark S n (get_or table i 0) (get_or words i 0) → Mark S (suc n) (get_or table i 0) (get_or new i 0)
        by (was a q) (inl (z, l)) = absurd (a z)
        by (was a q) (inr (m, k, x, w)) = inr (m, omega arith, x, q ∙ w)
        by (stays z q x) k = inl (q, (mark-left n (get_or table i 0) (get_or words i 0) k z, saved x))
        by (falls z q x) k = inr (n, omega arith, (mark-left n (get_or table i 0) (get_or words i 0) k z, λ y. x (back y)), q ∙ sym f)

    -- A phase in which none falls leaves what was left.
    pub quiet-phase : (reason v : ℕ) (new : List ℕ) → reason_of S n ≡ reason → word_of S n ≡ v
        → Phased S table r reason v words new 0 → (s : ℕ) → Left S n s → Left S (suc n) s
    quiet-phase reason v new e f p s l = by (left-live s l)
      where
        no_more : (i : ℕ) → i < r → free_at new i ≤ free_at words i
        no_more i h = at (p.each i h)
          where
            at : Falls (SavedBy S (UnstruckIn table words r) reason (get_or table i 0)) v (get_or words i 0) (get_or new i 0)
                → free_at new i ≤ free_at words i
            at (was a q) = let b : free_at new i ≡ free_at words i = ap (λ (x : ℕ). 1 - x) q in omega arith
            at (stays z q x) = let b : free_at words i ≡ 1 = ap (λ (x : ℕ). 1 - x) z in omega arith
            at (falls z q x) = let b : free_at words i ≡ 1 = ap (λ (x : ℕ). 1 - x) z in omega arith

        still : (i : ℕ) → i < r → Unstruck words i → Dec (Unstruck new i) → Unstruck new i
        still i h z (yes q) = q
        still i h z (no q) =
            let b : free_at words i ≡ 1 = ap (λ (x : ℕ). 1 - x) z in
            let c : free_at new i ≡ 0 = omega arith in
            let d = total-less (free_at new) (free_at words) r no_more i h (omega arith) in
            let g = p.counted in
            absurd (omega arith)

        by : UnstruckIn table words r s → Left S (suc n) s
        by (i, h, q, z) =
            subst (Left S (suc n)) q (mark-left (suc n) (get_or table i 0) (get_or new i 0) (marks-phase reason v new 0 e f p i h)
            (still i h z (ℕ_discrete (get_or new i 0) 0)))

  -- One more phase.
  pub standing-more : (words : List ℕ) (n quiet : ℕ) → Standing S table r words n quiet → (reason v : ℕ) (new : List ℕ) (fallen after : ℕ)
      → reason_of S n ≡ reason → word_of S n ≡ v → Phased S table r reason v words new fallen
      → ((fallen ≡ 0) × (after ≡ suc quiet)) ⊎ ((fallen ≡ 0 → ⊥) × (after ≡ 0)) → Standing S table r new (suc n) after
  standing-more words n quiet st reason v new fallen after e f p (inl (none, q)) = record {
    marks = marks-phase n words st.marks reason v new fallen e f p;
    rest_from = st.rest_from;
    rest-is = let a = st.rest-is in omega arith;
    at_rest = λ s l. quiet-phase n words st.marks reason v new e f
        (subst (λ (x : ℕ). Phased S table r reason v words new x) none p) s (st.at_rest s l);
  }
  standing-more words n quiet st reason v new fallen after e f p (inr (some, q)) = record {
    marks = marks-phase n words st.marks reason v new fallen e f p;
    rest_from = suc n;
    rest-is = omega arith;
    at_rest = λ s l. l;
  }

  -- After as many quiet phases as there are reasons what is left is livable.
  pub standing-livable : (words : List ℕ) (n quiet : ℕ) → Standing S table r words n quiet → quiet ≡ suc S.promises → (s : ℕ)
      → Left S n s → Livable S s
  standing-livable words n quiet st e s l =
      let whole : n ≡ suc S.promises + st.rest_from = let a = st.rest-is in omega arith in
      left-livable st.rest_from (λ t k. subst (λ (x : ℕ). Left S x t) whole (st.at_rest t k))
      (left-earlier S st.rest_from n s (let a = st.rest-is in omega arith) l)
