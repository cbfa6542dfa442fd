-- A handover's line, and one more line after those before. Assumes nothing.
use Rattle.std.proofs.Common.{◌≡◌, ℕ, ◌+◌, ◌^◌, ◌<◌, ◌≤◌, ◌≢◌, List, [], ◌++◌, length, get_or, take, Ok, Err, Vec, sym, refl, ap, ◌∙◌, add-one, arith}
use Rattle.std.proofs.lemmas.List.{length-append, length-take, get_or-take}
use Rattle.refusals.specs.Number.{number}
use Rattle.refusals.specs.declared.Refusal.{Refusal}
use Rattle.plans.specs.Meaning.{Entry}
use Rattle.order.specs.Plain.{Call, State, offer, plain, refusal}
use Rattle.grouping.specs.declared.plan.GroupPlan.{GroupPlan}
use Rattle.book.specs.declared.floor.Floor.{Floor}
use Rattle.book.specs.Calls.{Refused, Passed}
use Rattle.book.specs.History.{HandsOver}
use Rattle.refusals.proofs.Numbers.{some_number}
use Rattle.lines.specs.Line.{handover_line, refused_handover_line}
use Rattle.lines.proofs.Bounds.{handover_le, refused_handover_le}
use Rattle.text.specs.Laws.{Takes}
use Rattle.text.specs.Vector.{Room, Added, vector_laws}
use Rattle.sheet.specs.Day.{refusal_of, handed, calls}
use Rattle.sheet.specs.Sheet.{Counts, refused, settled}
use Rattle.sheet.specs.Steps.{meaning, floor_meaning, After, Comes, CountsIn, HandoverPut, HandoversPut}
use Rattle.sheet.proofs.Offers.{shows, handed_refused, handed_settled, count_most, entries_most}

-- a refused handover, where there is room for the longest line
pub put_refused : {Z : Type 0} (f f' : Floor GroupPlan) (g t : ℕ) (e : Refusal) (out out' : Vec ℕ Z)
    → Refused meaning f (offer g t) e f' → HandsOver meaning f g t (Err e) f'
    → Room out 206 → Takes Room Added out (refused_handover_line g t (number e)) out' → g < 2 ^ 8 → t < 2 ^ 8
    → HandoverPut f (g, t) out f' out'
put_refused f f' g t e out out' r on room a gh th = record {
  line = refused_handover_line g t (number e);
  added = a (omega (arith, room, refused_handover_le g t e gh th));
  short = omega (arith, refused_handover_le g t e gh th);
  plan = ap (λ (x : Floor GroupPlan). x.plan) r.same;
  run = λ cs run. rw (← handed_refused (floor_meaning f) cs (g, t) (not_0 cs run)) (on cs run);
  says = λ cs run. refused (not_0 cs run) (ap (refused_handover_line g t) (is cs run));
}
  where
    is : (cs : List Call) → After cs f → number e ≡ refusal_of (floor_meaning f) cs (g, t)
    is cs run = r.number ∙ ap (λ (s : State). refusal (floor_meaning f) s (offer g t)) (shows run)

    not_0 : (cs : List Call) → After cs f → refusal_of (floor_meaning f) cs (g, t) ≢ 0
    not_0 cs run z = some_number e (is cs run ∙ z)

-- a handover that is offered and settled: its line has d counts, one for each dial
module _ {f two : Floor GroupPlan} {g t n : ℕ} (d : ℕ) (counts : List ℕ)
    (passed : Passed meaning f g t n two) (on : HandsOver meaning f g t (Ok n) two)
    (counted : CountsIn two n counts) (dials : d ≡ (floor_meaning f).dials)
    (comes : Comes f) (nh : n < 2 ^ 16) (gh : g < 2 ^ 8) (th : t < 2 ^ 8) where
  plan : two.plan ≡ f.plan
  plan = passed.settled.1.plan ∙ passed.offered.1.plan

  few_counts : length (take d counts) ≤ 32
  few_counts = omega (arith, length-take d counts, f.plan.draft.places)

  small : (i : ℕ) → i < length (take d counts) → get_or (take d counts) i 0 < 2 ^ 16
  small i l =
      let l' : i < d = omega (arith, length-take d counts) in
      let run = on comes.0 comes.1 in
      let same = ap (λ (p : GroupPlan). (meaning p).dials) plan in
      let count = count_most (counted _ run i (omega arith)) in
      omega (arith, get_or-take d counts i 0 l', entries_most run)

  -- its line is short, since the floor has few entries
  handover_short : length (handover_line n g t (take d counts)) ≤ 206
  handover_short = handover_le n g t (take d counts) nh gh th small few_counts

  ok : (cs : List Call) → After cs f → refusal_of (floor_meaning f) cs (g, t) ≡ 0
  ok cs run = ap (λ (s : State). refusal (floor_meaning f) s (offer g t)) (sym (shows run)) ∙ passed.offered.1.passes

  run' : (cs : List Call) → After cs f → After (handed (floor_meaning f) cs (g, t)) two
  run' cs run = rw (← handed_settled (floor_meaning f) cs (g, t) (ok cs run)) (on cs run)

  number_is : (cs : List Call) → After cs f → n ≡ length (plain (floor_meaning f) cs).entries
  number_is cs run = passed.settled.0 ∙ ap (λ (s : State). length s.entries) passed.offered.1.shows ∙ ap (λ (s : State). length s.entries) (shows run)

  counts_are : (cs : List Call) → After cs f → length counts ≡ 32
      → Counts (floor_meaning f) (plain (floor_meaning f) (handed (floor_meaning f) cs (g, t))).entries (length (plain (floor_meaning f) cs).entries) (take d counts)
  counts_are cs run wide = record {
    length = omega (arith, length-take d counts, f.plan.draft.places);
    counted = λ k l.
        let here = rw plan at (counted (handed (floor_meaning f) cs (g, t)) (run' cs run) k (rw plan l)) in
        rw (get_or-take d counts k 0 (omega arith), ← number_is cs run) here;
  }

  pub put_settled : {Z : Type 0} {out out' : Vec ℕ Z} → length counts ≡ 32 → Room out 206 → Takes Room Added out (handover_line n g t (take d counts)) out'
      → HandoverPut f (g, t) out two out'
  put_settled wide room a = record {
    line = handover_line n g t (take d counts);
    added = a (omega (arith, room, handover_short));
    short = handover_short;
    plan = plan;
    run = run';
    says = λ cs run. settled (ok cs run) (take d counts) (counts_are cs run wide) (ap (λ (i : ℕ). handover_line i g t (take d counts)) (number_is cs run));
  }

-- no handover yet
pub handovers_none : {Z : Type 0} {f : Floor GroupPlan} {hs : ℕ → Entry} {out : Vec ℕ Z} → After [] f → HandoversPut f hs 0 out f out
handovers_none {out = out} run = record { text = []; added = vector_laws.none out; short = omega arith; plan = refl; run = run; says = refl }

-- one handover more
pub handovers_more : {Z : Type 0} {f one two : Floor GroupPlan} {hs : ℕ → Entry} {n : ℕ} {h : Entry} {out out' out'' : Vec ℕ Z}
    → HandoversPut f hs n out one out' → h ≡ hs n → HandoverPut one h out' two out'' → HandoversPut f hs (n + 1) out two out''
handovers_more {f} {hs = hs} {n = n} p e q = record {
  text = p.text ++ q.line;
  added = vector_laws.more _ _ _ _ _ p.added q.added;
  short = omega (arith, length-append p.text q.line);
  plan = q.plan ∙ p.plan;
  run = rw add-one (rw (p.plan, e) at (q.run (calls (floor_meaning f) hs n) p.run));
  says = rw add-one (record { before = p.text; line = q.line; lines = p.says; last = rw (p.plan, e) at (q.says (calls (floor_meaning f) hs n) p.run); is = refl });
}
