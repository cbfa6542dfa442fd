-- What every draft holds, as the rules' lemmas take it.
use Rattle.std.proofs.Common.{◌≡◌, ℕ, ◌<◌, Bool, true, false, not, length, vec_items, Some, None, Option, is_some, is_none, sym, refl, ap, ◌∙◌, subst, arith}
use Rattle.std.specs.List.{AllByRecursion}
use Rattle.std.proofs.lemmas.List.{length_push, length-map}
use Rattle.routes.specs.declared.route.Group.{Group}
use Rattle.routes.specs.Order.{ends, ascending, ordered}
use Rattle.regrouping.specs.Steps.{Work, marked, write, regrouped, live, Inside, Ready}
use Rattle.regrouping.specs.Laws.{Regroups}
use Rattle.regrouping.proofs.Keeps.{ends_mark, ready_low, ready_ascending}
use Rattle.regrouping.proofs.Regroups.{regroups}
use Rattle.regrouping.proofs.Written.{New}
use Rattle.regrouping.proofs.Finish.{write_less}
use Rattle.grouping.specs.declared.draft.Draft.{Draft}
use Rattle.grouping.specs.Draft.{drawn, Makes, SameRoom, TakesLast}

pub ready : (d : Draft) → Ready d.stations (drawn d)
ready d = record { stations = d.few.0; ordered = d.ordered; short = d.few.1; room = d.places }

pub inside : (d : Draft) → AllByRecursion (Inside 32) (vec_items d.routes)
inside d = ready_low d.stations (drawn d) (ready d)

pub ascends : (d : Draft) → ascending (ends (vec_items d.routes)) ≡ true
ascends d = ready_ascending d.stations (drawn d) (ready d)

-- a group that is new takes the last routes of a station
pub takes_last : (d : Draft) (k : Group) → New k (vec_items d.routes) → TakesLast k d
takes_last d k e = write_less d.stations k (drawn d) (ready d) e

-- one group more leaves the draft ready
pub written : (d : Draft) (k : Group) → TakesLast k d → Ready d.stations (write k (drawn d))
written d k h =
    record {
      stations = d.few.0;
      ordered = ap (ordered d.stations) (ends_mark k (length (vec_items d.groups)) (vec_items d.routes)) ∙ d.ordered;
      short = omega (arith, d.few.1, length-map (vec_items d.routes) (marked k (length (vec_items d.groups))));
      room = omega (arith, length_push (vec_items d.groups) k, d.places, h);
    }

-- a step that takes a station from those that are live makes the loop's measure less
pub fewer : (d e : Draft) (f : ℕ → Work → Work) → live (f d.stations (drawn d)).table d.stations < live (drawn d).table d.stations → Makes f d e → live (drawn e).table e.stations < live (drawn d).table d.stations
fewer d e f h m =
    subst (λ n. live (drawn e).table n < live (drawn d).table d.stations) (sym m.stations) (subst (λ w. live w.table d.stations < live (drawn d).table d.stations) (sym m.drawn) h)

-- a step after a step
pub after : (f g : ℕ → Work → Work) (d l e : Draft) → Makes f d l → Makes g l e → Makes (λ n w. g n (f n w)) d e
after f g d l e m o = record { stations = o.stations ∙ m.stations; drawn = o.drawn ∙ (ap (λ n. g n (drawn l)) m.stations ∙ ap (g d.stations) m.drawn) }

-- on the way of a loop from the draft i, d has the same still to come, and the same room
pub record Going (run : ℕ → Work → Work) (i d : Draft) : Type 0 where
  pub stations : d.stations ≡ i.stations
  pub ahead : run i.stations (drawn d) ≡ run i.stations (drawn i)
  pub room : SameRoom i d

pub goes_on : (run f : ℕ → Work → Work) (i d e : Draft) → Going run i d → Makes f d e → SameRoom d e → run d.stations (drawn d) ≡ run d.stations (f d.stations (drawn d)) → Going run i e
goes_on run f i d e g m s h =
    record { stations = m.stations ∙ g.stations; room = record { routes = s.routes ∙ g.room.routes; groups = s.groups ∙ g.room.groups }; ahead = ap (run i.stations) m.drawn ∙ (subst (λ n. run n (f d.stations (drawn d)) ≡ run n (drawn d)) g.stations (sym h) ∙ g.ahead) }

-- what regrouping makes of a draft
pub regroups_draft : (d e : Draft) → Makes (λ n w. regrouped n w.table) d e → Regroups (vec_items d.routes) (drawn e)
regroups_draft d e m = subst (Regroups (vec_items d.routes)) (sym m.drawn) (regroups d.stations (vec_items d.routes) d.few.0 d.few.1 d.ordered)

-- `is_none` answers that there is none
pub none_is : (o : Option ℕ) (b : Bool) → is_some o ≡ not b → is_none o ≡ b
none_is None true e = refl
none_is None false e = sym e
none_is (Some g) true e = sym e
none_is (Some g) false e = refl

-- and `is_some` that there is one
pub some_is : (o : Option ℕ) (b : Bool) → b ≡ is_some o → is_none o ≡ not b
some_is None b e = ap not (sym e)
some_is (Some g) b e = ap not (sym e)
