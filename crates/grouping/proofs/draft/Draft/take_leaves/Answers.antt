use Rattle.std.proofs.Common.{◌≡◌, ℕ, zero, suc, ◌<◌, Some, None, Option, vec_items, ap, ◌∙◌, sym, refl, subst, arith, rules}
use Rattle.std.specs.Option.{MatchOption}
use Rattle.routes.specs.declared.route.Group.TheVariants.{Star}
use Rattle.regrouping.specs.Table.{leaf, degree, answer}
use Rattle.regrouping.specs.Steps.{Work, mate, write, leaves}
use Rattle.regrouping.proofs.Keeps.{mate_live}
use Rattle.regrouping.proofs.Taking.{leaf_some}
use Rattle.grouping.specs.declared.draft.Draft.{Draft}
use Rattle.grouping.specs.Draft.{drawn, TakesLast}
use Rattle.grouping.proofs.Drafts.{ready, takes_last, fewer, goes_on}
use Rattle.grouping.proofs.Turns.{leaves_turn}
use Rattle.grouping.proofs.draft.Draft.take_leaves.Goals as goal

-- with no leaf, the rule is done
no_leaf : (k n : ℕ) (w : Work) → leaf w.table n ≡ None → w ≡ leaves k n w
no_leaf zero n w e = refl
no_leaf (suc k) n w e = sym (ap (λ o. answer o w (λ s. leaves k n (write (Star (mate w.table s)) w))) e)

-- p is what is asked of the leaf o, where there is one, and c what is answered
taken : {Says : ℕ → Type 0} {G : Type 0} (o p : Option ℕ) (c : ℕ) → MatchOption o (p ≡ None) Says → p ≡ Some c → ((s : ℕ) → o ≡ Some s → Says s → G) → G
taken None p c m e k = cc
taken (Some s) p c m e k = k s refl m

-- or there is none, where each would have an answer
no_answer : {Says : ℕ → Type 0} (o p : Option ℕ) → MatchOption o (p ≡ None) Says → ((s : ℕ) → o ≡ Some s → Says s → ⊥) → o ≡ None
no_answer None p m k = refl
no_answer (Some s) p m k = absurd (k s refl m)

lone : (d : Draft) (o : Option ℕ) (s : ℕ) → o ≡ leaf (vec_items d.routes) d.stations → o ≡ Some s → degree (vec_items d.routes) s ≡ 1
lone d o s is f = (leaf_some (vec_items d.routes) d.stations s (sym is ∙ f)).lone

module _ {Says : ℕ → Type 0} (d : Draft) (o p : Option ℕ) (is : o ≡ leaf (vec_items d.routes) d.stations) (says : MatchOption o (p ≡ None) Says) where
  -- a star at either end of the leaf's route takes the last route of a station
  last : (c : ℕ) → p ≡ Some c → ((s : ℕ) → 0 < degree (vec_items d.routes) s → 0 < degree (vec_items d.routes) (mate (vec_items d.routes) s) → Says s → 0 < degree (vec_items d.routes) c) → TakesLast (Star c) d
  last c e k =
      takes_last d (Star c) (taken o p c says e (λ s f h. let one = lone d o s is f in let live : 0 < degree (vec_items d.routes) s = omega arith in k s live (mate_live (vec_items d.routes) s live) h))

  -- but the rule goes on only from one at the other end
  ahead : (c : ℕ) → p ≡ Some c → ((s : ℕ) → degree (vec_items d.routes) s ≡ 1 → Says s → c ≡ mate (vec_items d.routes) s) → leaves d.stations d.stations (drawn d) ≡ leaves d.stations d.stations (write (Star c) (drawn d))
  ahead c e k =
      taken o p c says e (λ s f h. leaves_turn d.stations s (drawn d) (ready d) (sym is ∙ f) ∙ ap (λ x. leaves d.stations d.stations (write (Star x) (drawn d))) (sym (k s (lone d o s is f) h)))

  -- where the answer is none, there is no leaf
  done : ((s : ℕ) → degree (vec_items d.routes) s ≡ 1 → Says s → ⊥) → leaf (vec_items d.routes) d.stations ≡ None
  done k = sym is ∙ no_answer o p says (λ s f h. k s (lone d o s is f) h)

pub write_group-requires : goal.write_group-requires
write_group-requires c = last c.loop-c.self _ _ c.lowest_leaf.ensures c.and_then.ensures c.in-Some.c c.in-Some.is (λ s low high h. search rules)

pub loop-c-smaller : goal.loop-c-smaller
loop-c-smaller c =
    fewer c.loop-c.self c.write_group.new.self (λ n. write (Star c.in-Some.c))
    (last c.loop-c.self _ _ c.lowest_leaf.ensures c.and_then.ensures c.in-Some.c c.in-Some.is (λ s low high h. search rules)) c.write_group.ensures.made

pub loop-c-preserved : goal.loop-c-preserved
loop-c-preserved c =
    goes_on (λ n. leaves n n) _ c.args.self.now c.loop-c.self c.write_group.new.self c.loop-c.invariant c.write_group.ensures.made c.write_group.ensures.capacity
    (ahead c.loop-c.self _ _ c.lowest_leaf.ensures c.and_then.ensures c.in-Some.c c.in-Some.is (λ s one h. search rules))

pub returns-clause-made : goal.returns-clause-made
returns-clause-made c =
    let d = c.loop-c.self in
    let m = c.loop-c.invariant in
    let e : leaf (vec_items d.routes) d.stations ≡ None = done d _ _ c.lowest_leaf.ensures c.and_then.ensures (λ s one h. grind arith) in
    record { stations = m.stations; drawn = subst (λ n. drawn d ≡ leaves n n (drawn d)) m.stations (no_leaf d.stations d.stations (drawn d) e) ∙ m.ahead }
