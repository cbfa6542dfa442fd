-- A word with a number after it.
use Rattle.std.specs.Prelude.{ℕ, List, ◌++◌, decimal}

-- a word, and a number in decimals
unfoldable pub labelled : List ℕ → ℕ → List ℕ
labelled word n = word ++ decimal n
