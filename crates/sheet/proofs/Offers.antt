-- A handover that is offered and settled, on the plain list and on a floor. Assumes nothing.
use Rattle.std.proofs.Common.{◌≡◌, ℕ, zero, suc, ◌≤◌, Bool, ◌≢◌, List, [], ◌∷◌, ◌++◌, length, sym, ap, arith}
use mathlib.Core.Bool.{decide}
use Rattle.std.proofs.lemmas.Bool.{cond-true, cond-false, eq-eqb, ne_eqb}
use Rattle.std.proofs.lemmas.Bool.Decides.{nat_tests}
use Rattle.plans.specs.Meaning.{Meaning, Entry}
use Rattle.order.specs.Tally.{tally}
use Rattle.order.specs.Plain.{Call, State, offer, settle, plain}
use Rattle.order.specs.Counts.{IsCount}
use Rattle.order.proofs.Tally.{tally_none, tally_step}
use Rattle.grouping.specs.declared.plan.GroupPlan.{GroupPlan}
use Rattle.book.specs.declared.floor.Floor.{Floor}
use Rattle.book.specs.Shown.{shown}
use Rattle.book.specs.History.{entries_of}
use Rattle.book.proofs.Calling.{settled_len}
use Rattle.book.proofs.Running.{run_shows}
use Rattle.sheet.specs.Day.{refusal_of, handed}
use Rattle.sheet.specs.Steps.{meaning, floor_meaning, After}

-- what the floor shows is the plain list of its calls
pub shows : {cs : List Call} {f : Floor GroupPlan} → After cs f → shown f.book ≡ plain (floor_meaning f) cs
shows run = (run_shows meaning run).state

-- the calls of a handover that is refused
pub handed_refused : (m : Meaning) (cs : List Call) (h : Entry) → refusal_of m cs h ≢ 0 → cs ++ offer h.0 h.1 ∷ [] ≡ handed m cs h
unfolding handed
handed_refused m cs h ne = sym (cond-false _ _ _ (ne_eqb (refusal_of m cs h) 0 ne))

-- and of one that is accepted
pub handed_settled : (m : Meaning) (cs : List Call) (h : Entry) → refusal_of m cs h ≡ 0 → (cs ++ offer h.0 h.1 ∷ []) ++ settle h.0 h.1 ∷ [] ≡ handed m cs h
unfolding handed
handed_settled m cs h e = sym (cond-true _ _ _ (eq-eqb (refusal_of m cs h) 0 e))

-- a count counts some of the entries
tally_most : (f : ℕ → Bool) (n : ℕ) → tally f n ≤ n
tally_most f zero = omega (arith, tally_none f)
tally_most f (suc n) = let r = tally_most f n in let s = tally_step f n in grind (arith, nat_tests)

pub count_most : {m : Meaning} {es : List Entry} {k i n : ℕ} → IsCount m es k i n → n ≤ length es
count_most {es = es} c = omega (arith, c.counted c.decided, tally_most (λ x. decide (c.decided x)) (length es))

-- a floor has at most 1,000 entries
pub entries_most : {cs : List Call} {f : Floor GroupPlan} → After cs f → length (entries_of meaning cs f) ≤ 1000
entries_most {f = f} run = omega (arith, ap (λ (s : State). length s.entries) (shows run), settled_len f.book, f.book.kept.few)
