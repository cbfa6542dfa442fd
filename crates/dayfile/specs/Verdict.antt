-- Verdicts on a day file: the first check that fails, with its place, or none.
use Rattle.std.specs.Prelude.{◌≡◌, ℕ, ◌+◌, ◌*◌, ◌/◌, ◌%◌, ◌<◌, ◌≤◌, Bool, cond, Some, None, Ok, Err, Option, Result, List, ◌++◌, codes, decimal}
use Rattle.refusals.specs.declared.Refusal.{Refusal}
use Rattle.refusals.specs.Number.{number}
use Rattle.dayfile.specs.declared.refusal.FileRefusal.{FileRefusal}

-- a file refusal's number and place
abbrev pub told : FileRefusal → ℕ × ℕ
told e = (number e.refusal, e.place)

-- a file refusal in words: "refused", its number, "at", its place, the two in decimals
abbrev pub refusal_text : FileRefusal → List ℕ
refusal_text e = codes "refused " ++ decimal (told e).0 ++ codes " at " ++ decimal (told e).1

-- the refusal at the place of a byte
abbrev pub refused : Refusal → ℕ → FileRefusal
refused why byte = record { refusal = why; place = byte }

-- a check: the refusal where the test is true
abbrev pub refuse_if : Bool → Refusal → ℕ → Option FileRefusal
refuse_if t why byte = cond t (Some (refused why byte)) None

-- a check of many records of `size` bytes, from `start` on: the refusal at the first byte of the record that was found, if one was
abbrev pub refuse_at : Refusal → ℕ → ℕ → Option ℕ → Option FileRefusal
refuse_at why start size None = None
refuse_at why start size (Some i) = Some (refused why (start + size * i))

-- two checks in order: the first refusal
abbrev pub and_then : Option FileRefusal → Option FileRefusal → Option FileRefusal
and_then None later = later
and_then (Some e) later = Some e

-- the verdict that an answer stands for
abbrev pub verdict_of : {X : Type 0} → Result X FileRefusal → Option FileRefusal
verdict_of (Ok x) = None
verdict_of (Err e) = Some e

-- a verdict as one number, for C: 0 for none, else the refusal's number times 65,536 plus its place
abbrev pub packed : Option FileRefusal → ℕ
packed None = 0
packed (Some e) = (told e).0 * 65536 + (told e).1

-- a reply that is not 0, taken apart: the refusal's number above its low 16 bits, 1 to 8, and in them the place, a byte of the longest file
pub record PartsOf (e : FileRefusal) (reply : ℕ) : Type 0 where
  pub number : reply / 65536 ≡ (told e).0
  pub place : reply % 65536 ≡ (told e).1
  pub least : 1 ≤ (told e).0
  pub most : (told e).0 ≤ 8
  pub in_file : (told e).1 < 8192

-- what C reads from a reply: 0 for no refusal, else its number and its place
abbrev pub TakenApart : Option FileRefusal → ℕ → Type 0
TakenApart None reply = reply ≡ 0
TakenApart (Some e) reply = PartsOf e reply
