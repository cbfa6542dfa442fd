-- A station's last entry. Assumes nothing.
use Rattle.std.proofs.Common.{◌≡◌, ℕ, zero, suc, ◌<◌, true, false, List, length, Some, None, Option, refl, subst, arith}
use Rattle.std.proofs.lemmas.Bool.{cond_both}
use Rattle.plans.specs.Meaning.{Entry, has}
use Rattle.order.specs.Plain.{entry, last_below, LastLaw}

-- o is the last of the first n entries that have s
abbrev pub Latest : List Entry → ℕ → ℕ → Option ℕ → Type 0
Latest es s n None = (i : ℕ) → i < n → has s (entry es i) ≡ false
Latest es s n (Some k) = (k < n) × (has s (entry es k) ≡ true) × ((j : ℕ) → k < j → j < n → has s (entry es j) ≡ false)

-- one entry more, which has not s
latest_pass : (es : List Entry) (s n : ℕ) (o : Option ℕ) → has s (entry es n) ≡ false → Latest es s n o → Latest es s (suc n) o
latest_pass es s n None h l = λ i li. let x = l i in grind arith
latest_pass es s n (Some k) h l = (omega (arith, l.0), l.1, λ j lo hi. let x = l.2 j lo in grind arith)

-- one entry more, which has s
latest_hit : (es : List Entry) (s n : ℕ) → has s (entry es n) ≡ true → Latest es s (suc n) (Some n)
latest_hit es s n h = (omega arith, h, λ j lo hi. absurd (omega arith))

pub latest : (es : List Entry) (s n : ℕ) → Latest es s n (last_below es s n)
unfolding last_below
latest es s zero = λ i l. absurd (omega arith)
latest es s (suc n) =
    cond_both (has s (entry es n)) (Some n) (last_below es s n) (Latest es s (suc n)) (latest_hit es s n) (λ f. latest_pass es s n (last_below es s n) f (latest es s n))

-- the last is one alone
pub latest_one : (es : List Entry) (s n : ℕ) (o o' : Option ℕ) → Latest es s n o → Latest es s n o' → o ≡ o'
latest_one es s n None None p q = refl
latest_one es s n None (Some k) p q = let x = p k in grind arith
latest_one es s n (Some k) None p q = let x = q k in grind arith
latest_one es s n (Some k) (Some j) p q = let x = p.2 j in let y = q.2 k in grind arith

pub last_law : (es : List Entry) (s : ℕ) → LastLaw es s
last_law es s = record {
  none = (λ e. subst (Latest es s (length es)) e (latest es s (length es)), λ h. latest_one es s (length es) _ None (latest es s (length es)) h);
  some = λ k. (
    (λ e. let l = subst (Latest es s (length es)) e (latest es s (length es)) in record { settled = l.0; of_it = l.1; none_after = l.2 }),
    λ h. latest_one es s (length es) _ (Some k) (latest es s (length es)) (h.settled, h.of_it, h.none_after),
  );
}
