-- What everything that text is added to keeps.
use Rattle.std.specs.Prelude.{ℕ, ◌+◌, ◌≤◌, List, [], ◌++◌, length}

-- adding nothing changes nothing; two texts, one after the other, are one; and a text takes as much room as it is long
pub record SinkLaws {X : Type 0} (has_room : X → ℕ → Type 0) (adds : X → List ℕ → X → Type 0) : Type 0 where
  pub none : (x : X) → adds x [] x
  pub more : (x y z : X) (s t : List ℕ) → adds x s y → adds y t z → adds x (s ++ t) z
  pub room : (x y : X) (t : List ℕ) (m n : ℕ) → adds x t y → has_room x n → length t + m ≤ n → has_room y m

-- the text was added, if there was room for it
abbrev pub Takes : {X : Type 0} → (X → ℕ → Type 0) → (X → List ℕ → X → Type 0) → X → List ℕ → X → Type 0
Takes has_room adds before text after = has_room before (length text) → adds before text after
