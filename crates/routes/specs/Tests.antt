-- The first answer among many, and the lowest number at which a test fails.
use Rattle.std.specs.Option.{option_or}
use Rattle.std.specs.Prelude.{◌≡◌, ℕ, zero, suc, ◌+◌, ◌<◌, Bool, true, false, cond, Some, None, Option}

-- there is an answer, and it passes
abbrev pub is_some_and : {X : Type 0} → (X → Bool) → Option X → Bool
is_some_and p None = false
is_some_and p (Some x) = p x

-- the first answer among f i, f (i + 1), .., k of them
abbrev pub first : {X : Type 0} → (ℕ → Option X) → ℕ → ℕ → Option X
first f zero i = None
first f (suc k) i = option_or (f i) (first f k (i + 1))

-- i where the test fails at i
abbrev pub unless : (ℕ → Bool) → ℕ → Option ℕ
unless p i = cond (p i) None (Some i)

-- the lowest number below n at which the test fails
abbrev pub first_failing : (ℕ → Bool) → ℕ → Option ℕ
first_failing p n = first (unless p) n 0

-- i is below n, the test fails at i, and it passes at every lower number
pub record FailsFirst (p : ℕ → Bool) (n i : ℕ) : Type 0 where
  pub below : i < n
  pub fails : p i ≡ false
  pub passes : (j : ℕ) → j < i → p j ≡ true

-- the answer is the lowest number below n at which the test fails; none exactly where it passes at each
abbrev pub LowestFailing : (ℕ → Bool) → ℕ → Option ℕ → Type 0
LowestFailing p n None = (i : ℕ) → i < n → p i ≡ true
LowestFailing p n (Some i) = FailsFirst p n i
