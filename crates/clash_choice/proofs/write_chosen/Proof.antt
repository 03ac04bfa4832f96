-- `clash_choice::write_chosen`: limits and first rules, the chosen rules and the rest stand in the buffer, and the header in front of them.
-- Assumes nothing.
use mathlib.Core.Path.{refl, sym, subst}
use Prim.Native.Nat.{ℕ, ◌≤◌}
use borrow.Author.Rules.{rules}
use native.Mathlib.Omega.{arith}
use lib.ListN.{length, length-take, length-drop}
use Rattle.meaning.specs.Sheet.{byte, most_bytes_of_a_sheet}
use Rattle.reader.specs.Header.{records_at, steps_in}
use Rattle.reader.proofs.Good.{good-header}
use Rattle.clash_choice.specs.Writing.{Within}
use Rattle.clash_choice.proofs.Places.{steps-in}
use Rattle.clash_choice.proofs.Writes.{front-places, order, wrote}
use Rattle.clash_choice.proofs.write_chosen.Statement.{statement}
use Rattle.clash_choice.proofs.write_chosen.Tie as tie

-- each call, seen from the next, and the start
abbrev start : tie.After-steps_at-at → tie.Start
start c = c.before.before

abbrev split : tie.After-write → tie.After-steps_at-at
split c = c.before.before.before

abbrev copied : tie.After-write_rules-p → tie.After-write
copied c = c.before.before.before

abbrev ruled : tie.After-write-2 → tie.After-write_rules-p
ruled c = c.before.before.before

-- where the rules begin
places : (c : tie.After-steps_at-at) → (records_at ≤ c.steps_at-at.result) × (c.steps_at-at.result ≤ length (start c).args.sheet.now)
places c = front-places _ (start c).args.marks.now (start c).requires c.steps_at-at.ensures

-- and where the writing and the reading stand behind them
reached : (c : tie.After-write_rules-p) → let p = c.write_rules-p.result in
    (p.to ≤ p.from) × (p.from ≤ length (start (split (copied c))).args.sheet.now)
unfolding byte
reached c =
    let at = split (copied c) in
    let o = order _ _ (start at).requires at.steps_at-at.ensures c.write_rules-p.ensures in
    (o.1, o.2)

long : (c : tie.Start) → (records_at ≤ length c.args.sheet.now) × (length c.args.sheet.now ≤ most_bytes_of_a_sheet)
long c = let h = good-header _ c.requires in (h.least, h.most)

write-rules-requires : tie.Need-write_rules-p-requires
unfolding byte
write-rules-requires c κs =
    let at = split c.before.before in
    let sheet = (start at).args.sheet.now in
    record {
      within = subst (λ (n : ℕ). Within sheet (steps_in sheet) n) (sym at.steps_at-at.ensures) (steps-in sheet (start at).requires);
      most = (long (start at)).1;
    }

add-size : tie.Need-overflow_add-size
add-size c = let h = reached (ruled c) in simp (length-take, length-drop) (omega arith)

cast-stated : tie.Need-overflow_cast-stated
cast-stated c =
    let h = reached (ruled c.before) in
    let l = long (start (split (copied (ruled c.before)))) in
    simp (length-take, length-drop) (omega arith)

returns : tie.Need-returns
unfolding byte
returns c =
    let own = c in
    let rest = own.before.before.before in
    let rules = ruled rest in
    let front = copied rules in
    let at = split front in
    let a = (start at).args in
    let room = front.write-arg-1.given.0.1 in
    wrote a.sheet.now a.marks.now (start at).requires at.steps_at-at.ensures rules.write_rules-p.ensures
    a.buffer.now room front.write.ensures rest.write-2.ensures refl own.read_header-stated.ensures c.write_header.ensures

pub write_chosen_spec : {M : Type 1} → statement M
write_chosen_spec =
    tie.close
    (tie.spec
    (λ c κs. search rules)
    (λ c. (places c).0)
    (λ c. omega (arith, places c))
    (λ c. (places c).1)
    (λ c κs. search rules)
    (λ c. omega (arith, long (start (split c.before))))
    write-rules-requires
    (λ c. (reached c).1)
    (λ c. omega (arith, reached c))
    (λ c. search rules)
    (λ c κs. search rules)
    add-size
    (λ c κs. (long (start (split (copied (ruled c))))).0)
    cast-stated
    (λ c κs. search rules)
    returns)
