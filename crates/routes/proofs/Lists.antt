-- What list_all and list_any tell of the places of a list, and of a list that is mapped.
use Rattle.std.proofs.Common.{◌≡◌, ℕ, suc, ◌<◌, Bool, true, List, [], ◌∷◌, map, length, get_or, refl, ⊎_elim, arith}
use Rattle.std.proofs.lemmas.Bool.{and_parts, and_from, or_cases, or_left, or_right, false≢true}
use Rattle.std.specs.List.{list_all, list_any}

-- ---- list_all
pub all_from_places : {X : Type 0} (p : X → Bool) (xs : List X) (d : X) → ((i : ℕ) → i < length xs → p (get_or xs i d) ≡ true) → list_all p xs ≡ true
all_from_places p [] d h = refl
all_from_places p (x ∷ xs) d h = and_from (p x) (list_all p xs) (h 0 (omega arith)) (all_from_places p xs d (λ i l. h (suc i) (omega arith)))

pub all_map : {X Y : Type 0} (p : X → Bool) (q : Y → Bool) (f : X → Y) → ((x : X) → p x ≡ true → q (f x) ≡ true) → (xs : List X) → list_all p xs ≡ true → list_all q (map f xs) ≡ true
all_map p q f h [] e = refl
all_map p q f h (x ∷ xs) e =
    let u = and_parts (p x) (list_all p xs) e in and_from (q (f x)) (list_all q (map f xs)) (h x u.0) (all_map p q f h xs u.1)

-- ---- list_any
pub any_place : {X : Type 0} (p : X → Bool) (xs : List X) (d : X) → list_any p xs ≡ true → (i : ℕ) × (i < length xs) × (p (get_or xs i d) ≡ true)
any_place p [] d e = absurd (false≢true e)
any_place p (x ∷ xs) d e =
    ⊎_elim (λ u. (0, omega arith, u)) (λ u. let r = any_place p xs d u in (suc r.0, omega (arith, r.1), r.2)) (or_cases (p x) (list_any p xs) e)

pub any_map : {X Y : Type 0} (p : X → Bool) (q : Y → Bool) (f : X → Y) → ((x : X) → p x ≡ true → q (f x) ≡ true) → (xs : List X) → list_any p xs ≡ true → list_any q (map f xs) ≡ true
any_map p q f h [] e = absurd (false≢true e)
any_map p q f h (x ∷ xs) e =
    ⊎_elim (λ u. or_left (q (f x)) (list_any q (map f xs)) (h x u)) (λ u. or_right (q (f x)) (list_any q (map f xs)) (any_map p q f h xs u)) (or_cases (p x) (list_any p xs) e)
