-- The loops over layers and over a layer's places, turn by turn, over a book. Assumes nothing.
use mathlib.Core.Path.{◌≡◌, refl, subst, ◌∙◌}
use mathlib.Core.List.{List}
use Prim.Native.Nat.{ℕ, ◌+◌, ◌-◌, ◌≤◌, ◌<◌}
use native.Mathlib.Numerals.{add-one}
use native.Mathlib.Omega.{arith}
use lib.ListN.{length, get_or}
use Rattle.rules.specs.Book.{book_system}
use Rattle.rules.specs.Table.{To}
use Rattle.distances.specs.Values.{Spread, Opening}
use Rattle.distances_tests.specs.Layers.{Listed, Sifted, Layered, Served, Spreadable, LayerSifted, LayersDone}
use Rattle.distances_tests.proofs.Layering.{layered-past, layered-served, layered-spread, layered-full, layered-next, quiet-near, full-near}

-- what the values say of promise k and these words
abbrev LayeredBy : (book : List ℕ) (k : ℕ) (table words : List ℕ) (r d j got : ℕ) (near : List ℕ) → Type 0
LayeredBy book k table words r d j got near = Layered (book_system book) ((book_system book).Kept k) table words r d j got near

-- ---- a layer's places

-- layer d is spread from its places below j, and `kept` of `left` places are listed still
pub record Spreading (book table : List ℕ) (r d left : ℕ) (old list : List ℕ) (j kept : ℕ) (near rest : List ℕ) : Type 0 where
  pub most : kept ≤ left
  pub listed : Listed r kept rest near
  pub same : length rest ≡ length list
  pub so_far : (k : ℕ) (words : List ℕ) → LayeredBy book k table words r d 0 0 old → LayeredBy book k table words r d j (left - kept) near

module _ (book table : List ℕ) (r d left : ℕ) (old list signs : List ℕ) (ready : Spreadable book table r d left list old signs) where
  module _ (j kept : ℕ) (near rest : List ℕ) (s : Spreading book table r d left old list j kept near rest) where
    -- A place of another layer is passed by.
    pub spreading-past : (get_or near j 0 ≡ d → ⊥) → Spreading book table r d left old list (j + 1) kept near rest
    spreading-past other = record {
      most = s.most;
      listed = s.listed;
      same = s.same;
      so_far = λ k words l. layered-past (book_system book) ((book_system book).Kept k) table words r d j (left - kept) near
          (s.so_far k words l) (let b = ready.small in omega arith) other;
    }

    -- So is a place of the layer for which another serves.
    pub spreading-served : get_or near j 0 ≡ d → Served book table r d j near → Spreading book table r d left old list (j + 1) kept near rest
    spreading-served here served = record {
      most = s.most;
      listed = s.listed;
      same = s.same;
      so_far = λ k words l. layered-served (book_system book) ((book_system book).Kept k) table words r d j (left - kept) near
          (s.so_far k words l) (let b = ready.small in omega arith) served.by served.serves.place here served.serves.done
          served.serves.wider;
    }

    -- A place of the layer is spread.
    pub spreading-more : (new rest' : List ℕ) (kept' : ℕ) → j < r → get_or near j 0 ≡ d
        → Sifted (λ i. To book table i j) (d + 1) (length near) kept kept' near new rest rest'
        → Spreading book table r d left old list (j + 1) kept' new rest'
    spreading-more new rest' kept' inside here given = record {
      most = let a = s.most in let b = fewer in omega arith;
      listed = sifted.listed;
      same = sifted.same ∙ s.same;
      so_far = λ k words l. subst (λ (n : ℕ). LayeredBy book k table words r d (j + 1) n new)
          (let b = s.most in let c = fewer in omega arith)
          (layered-spread (book_system book) ((book_system book).Kept k) table words r d j (left - kept) near (s.so_far k words l)
          (let b = ready.small in omega arith) MovesHere new (kept - kept') inside here (λ i h m. m) (λ i h m. m)
          (subst (λ (x : ℕ). Spread MovesHere x r near new (kept - kept')) (add-one d) sifted.spread));
    }
      where
        MovesHere : ℕ → Type 0
        MovesHere i = To book table i j

        sifted : Sifted MovesHere (d + 1) r kept kept' near new rest rest'
        sifted = subst (λ (n : ℕ). Sifted MovesHere (d + 1) n kept kept' near new rest rest') s.listed.long given

        fewer : kept' ≤ kept
        fewer =
            let a = s.listed.waiting.counted refl in
            let b = sifted.listed.waiting.counted refl in
            let c = sifted.spread.counted in
            omega arith

    -- what a layer leaves, if the values say what they should
    spreading-sifted : ((k : ℕ) (words : List ℕ) → LayeredBy book k table words r d 0 0 old → LayeredBy book k table words r d r
        (left - kept) near)
        → LayerSifted book table r d left kept old near list rest
    spreading-sifted says = record {
      done = record {
        long = s.listed.long;
        counted =
            let a = s.listed.waiting.counted refl in let b = ready.listed.waiting.counted refl in let c = s.most in omega arith;
        spread_all = says;
      };
      listed = s.listed;
      most = s.most;
      same = s.same;
    }

    -- Once nothing is left to be reached the layer is done,
    pub spreading-full : kept ≡ 0 → LayerSifted book table r d left kept old near list rest
    spreading-full e =
        spreading-sifted (λ k words l. layered-full (book_system book) ((book_system book).Kept k) table words r d j (left - kept) near
        (s.so_far k words l) (let b = ready.small in omega arith) (let b = s.listed.waiting.counted refl in omega arith))

    -- and so it is after its last place.
    pub spreading-done : j ≡ r → LayerSifted book table r d left kept old near list rest
    spreading-done e =
        spreading-sifted (λ k words l. subst (λ (n : ℕ). LayeredBy book k table words r d n (left - kept) near) e (s.so_far k words l))

module _ (book table : List ℕ) (r : ℕ) (first : List ℕ) where
  -- ---- the layers

  -- from the values `first` on the layers before d are spread, and `left` places are not reached yet
  pub record Measuring (left d : ℕ) (near list : List ℕ) : Type 0 where
    pub so_far : (k : ℕ) (words : List ℕ) → Opening book k table words r first → LayeredBy book k table words r d 0 0 near
    pub listed : Listed r left list near
    pub room : d + left ≤ r

  module _ (left d : ℕ) (old list : List ℕ) (m : Measuring left d old list) where
    module _ (kept : ℕ) (near rest : List ℕ) (l : LayerSifted book table r d left kept old near list rest) where
      -- A layer that reaches something is followed by the next.
      pub measuring-next : (kept ≡ left → ⊥) → Measuring kept (d + 1) near rest
      measuring-next some = record {
        so_far = λ k words o. layered-next (book_system book) ((book_system book).Kept k) table words r d (left - kept) near
            (l.done.spread_all k words (m.so_far k words o));
        listed = l.listed;
        room = let b = m.room in let c = l.most in omega arith;
      }

      -- A layer that reaches nothing ends the search,
      pub measuring-quiet : kept ≡ left → LayersDone book table r first near
      measuring-quiet e = record {
        long = l.listed.long;
        answers = λ k words o. quiet-near (book_system book) ((book_system book).Kept k) table words r d near
            (subst (λ (n : ℕ). LayeredBy book k table words r d r n near) (omega arith)
            (l.done.spread_all k words (m.so_far k words o)));
      }

    -- and so does one after which no place is left.
    pub measuring-full : left ≡ 0 → LayersDone book table r first old
    measuring-full e = record {
      long = m.listed.long;
      answers = λ k words o. full-near (book_system book) ((book_system book).Kept k) table words r d old (m.so_far k words o)
          (let b = m.listed.waiting.counted refl in omega arith);
    }
