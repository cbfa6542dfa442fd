-- The table of the group numbers that have a route, route by route.
use Rattle.std.proofs.Common.{◌≡◌, ℕ, ◌+◌, ◌<◌, Bool, true, false, eqb, List, length, get_or, take, set, replicate, Some, None, sym, ap, ◌∙◌, ⊎_elim, arith, length-set, get_or-set_other, get_or-set_same}
use Rattle.std.proofs.lemmas.List.{length-replicate, get_or-replicate, get_or_past}
use Rattle.std.proofs.lemmas.List.Folds.{list_any_more}
use Rattle.std.proofs.lemmas.Bool.Decides.{nat_tests}
use Rattle.std.proofs.lemmas.Bool.{eq-eqb, ne_eqb, cases_eq, cases_lt}
use Rattle.routes.specs.declared.route.Route.{Route}
use Rattle.routes.specs.Tests.{is_some_and}
use Rattle.routes.specs.Order.{no_route}
use Rattle.routes.specs.Groups.{is_in}
use Rattle.routes.specs.Members.{Notes}

-- a table over the numbers notes the routes before place i
abbrev pub NotesBefore : List Bool → List Route → ℕ → Type 0
NotesBefore p t i = (length p ≡ 256) × Notes p (take i t)

-- before the first route no number is noted
pub notes_none : (t : List Route) → NotesBefore (replicate 256 false) t 0
notes_none t =
    let n = length-replicate 256 false in
    (n, λ g. ⊎_elim (get_or-replicate 256 g false false) (λ h. get_or_past (replicate 256 false) g false (omega arith)) (cases_lt g 256))

-- a route in no group adds no number
pub notes_over : (p q : List Bool) (t : List Route) (i : ℕ) → i < length t → (get_or t i no_route).group ≡ None → q ≡ p → NotesBefore p t i → NotesBefore q t (i + 1)
notes_over p q t i h e s n = (
  ap length s ∙ n.0,
  λ g.
      let m = list_any_more (is_in g) t i no_route h in
      let u : is_in g (get_or t i no_route) ≡ false = ap (is_some_and (λ j. eqb j g)) e in
      let v = ap (λ x. get_or x g false) s in
      let w = n.1 g in
      grind (arith, nat_tests),
)

-- a route in a group adds the group's number
pub notes_in : (p q : List Bool) (t : List Route) (i k : ℕ) → i < length t → k < 256 → (get_or t i no_route).group ≡ Some k → q ≡ set p k true → NotesBefore p t i → NotesBefore q t (i + 1)
notes_in p q t i k h l e s n = (
  ap length s ∙ length-set p k true ∙ n.0,
  λ g.
      let m = list_any_more (is_in g) t i no_route h in
      let u : is_in g (get_or t i no_route) ≡ eqb k g = ap (is_some_and (λ j. eqb j g)) e in
      let v = ap (λ x. get_or x g false) s in
      let w = n.1 g in
      ⊎_elim
      (λ d. let x = ap (λ j. get_or (set p k true) j false) d ∙ get_or-set_same p k true false (omega (arith, n.0)) in let y = eq-eqb k g (sym d) in grind (arith, nat_tests))
      (λ d. let x = get_or-set_other p k g true false d in let y = ne_eqb k g (λ j. d (sym j)) in grind (arith, nat_tests))
      (cases_eq g k),
)
