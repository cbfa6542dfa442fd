-- A join of plans that obey the laws obeys them too. Assumes nothing.
use Rattle.std.specs.Prelude.{◌≡◌, ℕ, ◌+◌, ◌-◌, ◌<◌, ◌≤◌, true}
use Rattle.std.proofs.Common.{⊎_elim, arith}
use Rattle.std.proofs.lemmas.Bool.{cases_lt, cond_both}
use Rattle.std.proofs.lemmas.Bool.Decides.{nat_tests}
use Rattle.plans.specs.Meaning.{Meaning, Lawful, Entry, has, shares, turns, empty_meaning}
use Rattle.plans.specs.EmptyLaws.{empty_lawful}
use Rattle.plans.specs.Join.{join_meaning, join_fits, side_by_side}

module _ (m o : Meaning) (p q : ℕ) (e : join_fits m o p q ≡ true) (lm : Lawful m) (lo : Lawful o) where
  -- the handover, by the numbers that the second plan has for its stations
  abbrev past : Entry → Entry
  past h = (h.0 - m.stations, h.1 - m.stations)

  -- a dial of the first plan is turned by its own routes
  of_first : (h : Entry) (k : ℕ) → k < m.dials → turns (side_by_side m o p q) h k ≡ true → turns m h k ≡ true
  of_first h k l t = grind (arith, nat_tests)

  -- a dial of the second plan is turned by its own routes
  of_second : (h : Entry) (k : ℕ) → m.dials ≤ k → k < m.dials + o.dials → turns (side_by_side m o p q) h k ≡ true
      → (m.stations ≤ h.0) × (m.stations ≤ h.1) × (turns o (past h) (k - m.dials) ≡ true)
  of_second h k l u t = let x = lm.dial_in h.0 h.1 k in grind (arith, nat_tests)

  -- the dial past them is turned by the lift, which has the station p
  of_lift : (h : Entry) (k : ℕ) → m.dials + o.dials ≤ k → turns (side_by_side m o p q) h k ≡ true → has p h ≡ true
  of_lift h k l t = let x = lm.dial_in h.0 h.1 k in let y = lo.dial_in (past h).0 (past h).1 (k - m.dials) in grind (arith, nat_tests)

  common : (h i : Entry) (k : ℕ) → turns (side_by_side m o p q) h k ≡ true → turns (side_by_side m o p q) i k ≡ true → shares h i ≡ true
  common h i k t u =
      ⊎_elim
      (λ l. lm.common h i k (of_first h k l t) (of_first i k l u))
      (λ g. ⊎_elim
      (λ l. let x = of_second h k g l t in let y = of_second i k g l u in let z = lo.common (past h) (past i) (k - m.dials) x.2 y.2 in grind (arith, nat_tests))
      (λ a. let x = of_lift h k a t in let y = of_lift i k a u in grind (arith, nat_tests))
      (cases_lt k (m.dials + o.dials)))
      (cases_lt k m.dials)

  fitting : Lawful (side_by_side m o p q)
  fitting = record {
    few_stations = grind (arith, nat_tests);
    few_dials = grind (arith, nat_tests);
    inside = λ a b h. let y = lo.inside (a - m.stations) (b - m.stations) in grind (arith, nat_tests);
    reversed = λ a b. let x = lm.reversed a b in let y = lo.reversed (a - m.stations) (b - m.stations) in grind (arith, nat_tests);
    no_loop = λ a. let x = lm.no_loop a in let y = lo.no_loop (a - m.stations) in grind (arith, nat_tests);
    dial_in = λ a b k h. let x = lm.dial_in a b k in let y = lo.dial_in (a - m.stations) (b - m.stations) (k - m.dials) in grind (arith, nat_tests);
    apart = λ a b. let x = lm.apart a b in let y = lo.apart (a - m.stations) (b - m.stations) in grind (arith, nat_tests);
    common = common;
  }

pub join_lawful : (m o : Meaning) (p q : ℕ) → Lawful m → Lawful o → Lawful (join_meaning m o p q)
join_lawful m o p q lm lo = cond_both (join_fits m o p q) (side_by_side m o p q) empty_meaning Lawful (λ e. fitting m o p q e lm lo) (λ _. empty_lawful)
