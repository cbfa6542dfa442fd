-- Lines of text: fields in a row, and the line of a refused file.
use Rattle.std.specs.Prelude.{ℕ, List, [], ◌∷◌, ◌++◌, codes, decimal}
use Rattle.std.specs.List.{flat_map}

-- texts in a row, with the byte b between each two
abbrev pub parted : ℕ → List (List ℕ) → List ℕ
parted b [] = []
parted b (t ∷ ts) = t ++ flat_map (λ u. b ∷ u) ts

-- a line: its fields with one space between each two, and byte 10 at the end
abbrev pub line_of : List (List ℕ) → List ℕ
line_of fields = parted 32 fields ++ (10 ∷ [])

-- the fields of a refused file, by the refusal's number and place
abbrev pub refused_fields : ℕ → ℕ → List (List ℕ)
refused_fields n place = codes "refused" ∷ decimal n ∷ codes "at" ∷ decimal place ∷ []

-- a refused file, by the refusal's number and place
unfoldable pub refused_file_line : ℕ → ℕ → List ℕ
refused_file_line n place = line_of (refused_fields n place)
