-- One turn of the loop that gives a group to the remaining routes that fit it.
use Rattle.std.proofs.Common.{◌≡◌, ℕ, ◌+◌, ◌<◌, true, false, ◌&&◌, List, ◌++◌, length, get_or, take, drop, set, sym, ap, ◌∙◌, arith}
use lib.Seq.{set-get_or}
use Rattle.std.proofs.lemmas.List.{get_or_default}
use Rattle.std.proofs.lemmas.List.Edits.{map_over_more}
use Rattle.std.proofs.lemmas.Bool.{cond-true, cond-false, and_from}
use Rattle.routes.specs.declared.route.Route.{Route}
use Rattle.routes.specs.declared.route.Group.{Group}
use Rattle.routes.specs.Order.{no_route}
use Rattle.routes.specs.Groups.{fits}
use Rattle.regrouping.specs.Table.{remaining}
use Rattle.regrouping.specs.Steps.{in_group, marked, mark}

module _ (k : Group) (g : ℕ) (s t : List Route) (i : ℕ) (h : i < length s) (l : length t ≡ length s) (e : t ≡ mark k g (take i s) ++ drop i s) where
  mark_next : set t i (marked k g (get_or t i no_route)) ≡ mark k g (take (i + 1) s) ++ drop (i + 1) s
  mark_next = map_over_more (marked k g) s t i (get_or t i no_route) h e (get_or_default t i no_route (get_or t i no_route) (omega arith))

  -- the route at place i remains and fits
  pub taken_turn : remaining (get_or t i no_route) ≡ true → fits k (get_or t i no_route) ≡ true → set t i (in_group g (get_or t i no_route)) ≡ mark k g (take (i + 1) s) ++ drop (i + 1) s
  taken_turn p q = ap (set t i) (sym (cond-true _ _ _ (and_from _ _ p q))) ∙ mark_next

  -- it does not
  pub passed_turn : (remaining (get_or t i no_route) && fits k (get_or t i no_route)) ≡ false → t ≡ mark k g (take (i + 1) s) ++ drop (i + 1) s
  passed_turn p = sym (set-get_or t i no_route) ∙ (ap (set t i) (sym (cond-false _ _ _ p)) ∙ mark_next)
