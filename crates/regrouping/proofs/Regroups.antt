-- Regrouping leaves the same routes, decomposed into at most 32 groups.
use Rattle.std.proofs.Common.{◌≡◌, ℕ, ◌≤◌, true, List, [], ◌∷◌, ◌++◌, length, take, drop, sym, refl, ap, ◌∙◌, subst, ⊎_elim, arith}
use Rattle.std.proofs.lemmas.List.{length-map, take_at}
use Rattle.std.proofs.lemmas.Bool.{and_parts, and_from, or_cases, both_ways}
use Rattle.routes.specs.declared.route.Route.{Route}
use Rattle.routes.specs.declared.route.Group.{Group}
use Rattle.std.specs.List.{list_all}
use Rattle.routes.specs.Order.{ends, ordered}
use Rattle.routes.specs.Groups.{placed, decomposed}
use Rattle.regrouping.specs.Table.{remaining}
use Rattle.regrouping.specs.Steps.{work, ungrouped, opened, start, regrouped, Ready}
use Rattle.regrouping.specs.Laws.{Regroups}
use Rattle.routes.proofs.Orders.{length_ends}
use Rattle.regrouping.proofs.Live.{live_small}
use Rattle.regrouping.proofs.Written.{ready_rounds}
use Rattle.regrouping.proofs.Decomposes.{held, partly_rounds}
use Rattle.regrouping.proofs.Done.{Closed, rounds_done, live_closed}

ends_opened : (t : List Route) → ends (opened t) ≡ ends t
ends_opened [] = refl
ends_opened (r ∷ rs) = ap (λ es. (r.low, r.high) ∷ es) (ends_opened rs)

held_opened : (t : List Route) → list_all (held []) (opened t) ≡ true
held_opened [] = refl
held_opened (r ∷ rs) = held_opened rs

placed_all : (gs : List Group) (t : List Route) → Closed t → list_all (held gs) t ≡ true → list_all (placed gs) t ≡ true
placed_all gs [] h e = refl
placed_all gs (r ∷ rs) h e =
    let u = and_parts (held gs r) (list_all (held gs) rs) e in
    and_from _ _ (⊎_elim (λ o. absurd (both_ways _ h.0 o)) (λ p. p) (or_cases (remaining r) (placed gs r) u.0)) (placed_all gs rs h.1 u.1)

pub start_ready : (n : ℕ) (t : List Route) → n ≤ 32 → length t ≤ 496 → ordered n (ends t) ≡ true → Ready n (start t)
start_ready n t few short o =
    record {
      stations = few;
      ordered = ap (ordered n) (ends_opened t) ∙ o;
      short = omega (arith, length-map t ungrouped);
      room = omega (arith, live_small (opened t) n);
    }

pub regroups : (n : ℕ) (t : List Route) → n ≤ 32 → length t ≤ 496 → ordered n (ends t) ≡ true → Regroups t (regrouped n t)
regroups n t few short o =
    let r = start_ready n t few short o in
    let q = partly_rounds n n (ends t) (start t) r (ends_opened t, held_opened t, refl) in
    let d = ready_rounds n n (start t) r in
    let z = rounds_done n n (start t) r (live_small (opened t) n) in
    record {
      same = q.0;
      short = sym (length_ends (regrouped n t).table) ∙ (ap length q.0 ∙ length_ends t);
      few = omega (arith, d.room);
      split = and_from _ _ (placed_all (regrouped n t).groups (regrouped n t).table (live_closed n (regrouped n t) d z) q.1) q.2;
    }

-- the routes ws and the groups gs are the outcome of regrouping the routes t over n stations: what a plan keeps of it
pub record Outcome (n : ℕ) (t ws : List Route) (gs : List Group) : Type 0 where
  pub written : work ws gs ≡ regrouped n t
  pub same : ends ws ≡ ends t
  pub short : length ws ≤ 496
  pub few : length gs ≤ 32
  pub ordered : ordered n (ends ws) ≡ true
  pub split : decomposed ws gs ≡ true

module _ (n : ℕ) (t : List Route) (few : n ≤ 32) (short : length t ≤ 496) (o : ordered n (ends t) ≡ true) where
  outcome : (ws : List Route) (gs : List Group) → work ws gs ≡ regrouped n t → Outcome n t ws gs
  outcome ws gs e =
      let q : Regroups t (work ws gs) = subst (Regroups t) (sym e) (regroups n t few short o) in
      record { written = e; same = q.same; short = omega (arith, q.short); few = q.few; ordered = ap (ordered n) q.same ∙ o; split = q.split }

  -- the routes u, which are t, were lent as the slice of a Vec of length len, and came back as ws
  pub came_back : (len : ℕ) (u ws old : List Route) (gs : List Group) → work ws gs ≡ regrouped n u → u ≡ t → len ≡ length t → Outcome n t (take len (ws ++ drop (length ws) old)) gs
  came_back len u ws old gs e z l =
      let q = outcome ws gs (e ∙ ap (regrouped n) z) in
      let k : length ws ≡ len = sym (length_ends ws) ∙ (ap length q.same ∙ (length_ends t ∙ sym l)) in
      subst (λ x. Outcome n t x gs) (sym (take_at ws (drop (length ws) old) len k)) q
