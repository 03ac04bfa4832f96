-- Order 5 by example, "Which rules fight": a sheet's bytes, proposed rule numbers or the planner's 255 marks, the slices before, the number
-- and place answered, and the slices after. Every number is written out and none is a name of the definitions. Proved in
-- proofs/Fought.antt. Assumes nothing.
use Rattle.std.specs.Prelude.{List, [], ◌∷◌, ℕ, replicate}
use Rattle.meaning.specs.Promises.{Lent}
use Rattle.clash_meaning.specs.Clash.{ClashChecked, Planned}

-- ---- sheets, all of one letter

-- step rules that ask always: 1, -1, 1, -1. Each of the pairs 1 and 2, 1 and 4, 2 and 3, 3 and 4 fights.
abbrev pub two_clashes : List ℕ
two_clashes = 0x01 ∷ 0x00 ∷ 0x14 ∷ 0x01 ∷ 0x00 ∷ 0x00 ∷ 0x04 ∷ 0x00
    ∷ 0x02 ∷ 0x00 ∷ 0x01 ∷ 0x02 ∷ 0x00 ∷ 0xFF ∷ 0x02 ∷ 0x00 ∷ 0x01 ∷ 0x02 ∷ 0x00 ∷ 0xFF ∷ []

-- exactly 2 of {1}, and a step rule that asks 1 always: no state is lawful, with the rule or without
abbrev pub lawless : List ℕ
lawless = 0x01 ∷ 0x00 ∷ 0x0F ∷ 0x01 ∷ 0x01 ∷ 0x00 ∷ 0x01 ∷ 0x00 ∷ 0x03 ∷ 0x00 ∷ 0x02 ∷ 0x01 ∷ 0x02 ∷ 0x00 ∷ 0x01 ∷ []

-- first rule 1, step rules that ask 1 and -1 always: one state is reachable; without rule 1 two are
abbrev pub opening : List ℕ
opening = 0x01 ∷ 0x00 ∷ 0x10 ∷ 0x01 ∷ 0x00 ∷ 0x01 ∷ 0x02 ∷ 0x00 ∷ 0x01 ∷ 0x01 ∷ 0x02 ∷ 0x00 ∷ 0x01 ∷ 0x02 ∷ 0x00 ∷ 0xFF ∷ []

-- first rule 1, a step rule that asks 1 always, and one that nothing meets: that one fights alone; without both, two states are reachable
abbrev pub opening_late : List ℕ
opening_late = 0x01 ∷ 0x00 ∷ 0x0F ∷ 0x01 ∷ 0x00 ∷ 0x01 ∷ 0x02 ∷ 0x00 ∷ 0x01 ∷ 0x01 ∷ 0x02 ∷ 0x00 ∷ 0x01 ∷ 0x01 ∷ 0x00 ∷ []

-- a step rule that asks 1 always: can be kept
abbrev pub peaceful : List ℕ
peaceful = 0x01 ∷ 0x00 ∷ 0x0B ∷ 0x01 ∷ 0x00 ∷ 0x00 ∷ 0x01 ∷ 0x00 ∷ 0x02 ∷ 0x00 ∷ 0x01 ∷ []

-- no letters: a bad sheet, answered 4 at byte 3
abbrev pub letterless : List ℕ
letterless = 0x01 ∷ 0x00 ∷ 0x08 ∷ 0x00 ∷ 0x00 ∷ 0x00 ∷ 0x01 ∷ 0x00 ∷ []

-- ---- slices: three are lent, and there is no run room

-- room for two states, for one, for none
abbrev pub two_places : Lent
two_places = record { table = 7 ∷ 7 ∷ []; words = 7 ∷ 7 ∷ []; scratch = 7 ∷ 7 ∷ 7 ∷ 7 ∷ []; run = [] }

abbrev pub two_places_cleared : Lent
two_places_cleared = record { table = 0 ∷ 0 ∷ []; words = 0 ∷ 0 ∷ []; scratch = 0 ∷ 0 ∷ 0 ∷ 0 ∷ []; run = [] }

abbrev pub one_place_said : Lent
one_place_said = record { table = 7 ∷ []; words = 7 ∷ 7 ∷ []; scratch = 7 ∷ 7 ∷ 7 ∷ []; run = [] }

abbrev pub one_place_cleared : Lent
one_place_cleared = record { table = 0 ∷ []; words = 0 ∷ 0 ∷ []; scratch = 0 ∷ 0 ∷ 0 ∷ []; run = [] }

abbrev pub no_place_said : Lent
no_place_said = record { table = []; words = 7 ∷ []; scratch = 7 ∷ []; run = [] }

abbrev pub no_place_cleared : Lent
no_place_cleared = record { table = []; words = 0 ∷ []; scratch = 0 ∷ []; run = [] }

-- ---- the list

pub record Fights : Type 0 where
  -- "a small check accepts exactly if the sheet with the chosen rules is answered 13 and, with each single one left out, 12"
  pub fighting : ClashChecked two_clashes (1 ∷ 2 ∷ []) two_places 0 0 two_places_cleared
  pub fighting_later : ClashChecked two_clashes (3 ∷ 4 ∷ []) two_places 0 0 two_places_cleared
  -- "all else is 14": a rule can be spared; the rules can be kept together; slices hold zeros
  pub one_to_spare : ClashChecked two_clashes (1 ∷ 2 ∷ 3 ∷ []) two_places 14 0 two_places_cleared
  pub no_fight : ClashChecked two_clashes (1 ∷ 3 ∷ []) two_places 14 0 two_places_cleared
  -- the empty choice, where the sheet cannot be kept without its step rules, and where it can
  pub no_rules : ClashChecked lawless [] two_places 0 0 two_places_cleared
  pub no_rules_needed : ClashChecked peaceful [] two_places 14 0 two_places_cleared
  -- "numbers not rising or not in the sheet get 14": 0, 5 of 4 rules, one twice, falling; "which change nothing"
  pub number_0 : ClashChecked two_clashes (0 ∷ 1 ∷ 2 ∷ []) two_places 14 0 two_places
  pub number_5 : ClashChecked two_clashes (1 ∷ 2 ∷ 5 ∷ []) two_places 14 0 two_places
  pub number_twice : ClashChecked two_clashes (1 ∷ 2 ∷ 2 ∷ []) two_places 14 0 two_places
  pub numbers_falling : ClashChecked two_clashes (2 ∷ 1 ∷ []) two_places 14 0 two_places
  -- "if any of these sheets gives 11 the proposal gets 17": the chosen rules together; one left out, where all together have room
  pub no_room : ClashChecked two_clashes (1 ∷ 2 ∷ []) one_place_said 17 0 one_place_cleared
  pub no_room_without_one : ClashChecked opening (1 ∷ 2 ∷ []) one_place_said 17 0 one_place_cleared
  pub room_for_two : ClashChecked opening (1 ∷ 2 ∷ []) two_places 0 0 two_places_cleared
  -- "14 before 17", and "a bad sheet keeps 1 to 10" before either, with its place: nothing is changed
  pub numbers_before_room : ClashChecked two_clashes (2 ∷ 1 ∷ []) one_place_said 14 0 one_place_said
  pub bad_sheet : ClashChecked letterless (2 ∷ 1 ∷ []) one_place_said 4 3 one_place_said
  -- "Our own planner drops rules from the last to the first wherever 13 stays": of two clashes the one of the lower rules is left
  pub plan : Planned two_clashes two_places 0 0 (1 ∷ 1 ∷ replicate 253 0) two_places_cleared
  -- a sheet that cannot be kept without its step rules: the choice is empty
  pub empty_plan : Planned lawless two_places 0 0 (replicate 255 0) two_places_cleared
  -- "and 12 when the whole sheet can be kept", "none set on a refusal"
  pub nothing_to_plan : Planned peaceful two_places 12 0 (replicate 255 0) two_places_cleared
  -- "It says 17 exactly when a sheet it tries, the whole one included, gives 11": at once, while dropping, and when it "then tries its
  -- choice with each rule left out"
  pub no_room_at_once : Planned opening no_place_said 17 0 (replicate 255 0) no_place_cleared
  pub no_room_while_dropping : Planned opening one_place_said 17 0 (replicate 255 0) one_place_cleared
  pub no_room_at_last : Planned opening_late one_place_said 17 0 (replicate 255 0) one_place_cleared
  -- a bad sheet: nothing is changed
  pub bad_plan : Planned letterless one_place_said 4 3 (replicate 255 0) one_place_said
