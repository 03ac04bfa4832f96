-- A place's row is shared or filled, and its link is set.
use Rattle.std.proofs.Common.{◌≡◌, ◌<◌, ◌∙◌, List, ℕ, length, set, refl, ap, arith, inl, inr}
use Rattle.meaning.specs.Promises.{most_states}
use Rattle.moves.specs.Layout.{moves_size, no_link}
use Rattle.moves.proofs.Layouts.{cells-long, links-long}
use Rattle.moves_forth.proofs.Filling.{set_more, set-again, stored-forth, kin-more, kin-all}
use Rattle.moves_forth.proofs.store_rows.Goals as goal
use Rattle.moves_forth.proofs.store_rows.Goals.{then-same_moves, else-same_moves+in-Some}

pub set_place-requires : goal.set_place-requires
set_place-requires c =
    let long : length c.loop-i.moves ≡ moves_size = omega arith in (
      omega arith,
      omega arith,
      c.loop-i.invariant.room,
      omega (arith, c.in-Some.ensures.row.inside, cells-long c.loop-i.moves long),
      omega arith,
    )

pub loop-i-preserved : goal.loop-i-preserved
loop-i-preserved c =
    let long : length c.loop-i.moves ≡ moves_size = omega arith in
    let inside : c.loop-i.i < most_states = omega arith in
    elim c.if-same_moves.branch [
      | then-same_moves w ↦
          let same = c.same_moves.ensures w.if-same_moves.true in
          rw (w.moves-is, w.at-is, w.rows-is)
          (record {
            room = c.loop-i.invariant.room;
            stored = set-again _ _ _ _ _ _ _ _ long inside c.requires.0 c.loop-i-test.true same c.loop-i.invariant.stored w.share_row.ensures;
            kin =
                kin-more _ _ c.args.r _ _ _ _ (omega (arith, links-long c.loop-i.moves long)) w.share_row.ensures.links (inr same)
                c.loop-i.invariant.kin;
            few = omega arith;
          })
      | else-same_moves+in-Some w ↦
          let f = w.in-Some.ensures.row in
          rw (w.moves-is, w.at-is, w.rows-is)
          (record {
            room = omega (arith, f.inside, cells-long c.loop-i.moves long);
            stored = set_more _ _ _ _ _ _ _ _ _ long inside c.loop-i.invariant.stored f w.row.ensures.rest w.set_place.ensures;
            kin =
                kin-more _ _ c.args.r _ _ _ _ (omega (arith, links-long c.loop-i.moves long))
                (w.set_place.ensures.links ∙ ap (λ (x : List ℕ). set x c.loop-i.i no_link) w.row.ensures.rest.links) (inl refl)
                c.loop-i.invariant.kin;
            few = omega arith;
          })
    ]

pub returns : goal.returns
returns c =
    let long : length c.loop-i.moves ≡ moves_size = omega arith in
    λ e. (
      stored-forth _ _ _ _ _ _ (omega arith) c.requires.0.states.few long c.loop-i.invariant.room c.loop-i.invariant.stored,
      kin-all _ _ _ _ _ (omega arith) c.loop-i.invariant.kin,
    )
