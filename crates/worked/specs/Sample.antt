-- The sample day file, examples/sample.day, byte by byte.
use Rattle.std.specs.Prelude.{ℕ, List, [], ◌∷◌, ◌++◌}

-- 4 stations, then where each of the four sections starts and how many bytes it has, two bytes each, the low byte first
abbrev pub heading : List ℕ
heading = 4 ∷ 0 ∷ 18 ∷ 0 ∷ 9 ∷ 0 ∷ 27 ∷ 0 ∷ 8 ∷ 0 ∷ 35 ∷ 0 ∷ 10 ∷ 0 ∷ 45 ∷ 0 ∷ 20 ∷ 0 ∷ []

-- the routes 0-1 and 0-2 in group 0, and 2-3 in group 1
abbrev pub routes : List ℕ
routes = 0 ∷ 1 ∷ 0 ∷ 0 ∷ 2 ∷ 0 ∷ 2 ∷ 3 ∷ 1 ∷ []

-- a star at 0 and a star at 3
abbrev pub groups : List ℕ
groups = 0 ∷ 0 ∷ 0 ∷ 0 ∷ 0 ∷ 3 ∷ 0 ∷ 0 ∷ []

-- the handovers 0 to 1, 3 to 2, 2 to 0, 1 to 3 and 0 to 1
abbrev pub handovers : List ℕ
handovers = 0 ∷ 1 ∷ 3 ∷ 2 ∷ 2 ∷ 0 ∷ 1 ∷ 3 ∷ 0 ∷ 1 ∷ []

-- the questions about 0 and 1, 0 and 3, 3 and 1, 2 and 2, 0 and 4, two bytes each number
abbrev pub questions : List ℕ
questions = 0 ∷ 0 ∷ 1 ∷ 0 ∷ 0 ∷ 0 ∷ 3 ∷ 0 ∷ 3 ∷ 0 ∷ 1 ∷ 0 ∷ 2 ∷ 0 ∷ 2 ∷ 0 ∷ 0 ∷ 0 ∷ 4 ∷ 0 ∷ []

-- the whole file
unfoldable pub sample : List ℕ
sample = heading ++ (routes ++ (groups ++ (handovers ++ questions)))
