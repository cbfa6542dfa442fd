-- Text that is measured: how much room it leaves.
use Rattle.std.specs.Prelude.{◌≡◌, ℕ, ◌+◌, ◌-◌, List, length, Some, None, Option, if◌then◌else◌, nat_le, ⊤}
use Rattle.std.proofs.Common.{refl, sym, ap, ◌∙◌, arith}
use Rattle.std.proofs.lemmas.Bool.Decides.{nat_tests}
use Rattle.std.proofs.lemmas.List.{length-append}
use Rattle.text.specs.Laws.{SinkLaws}
use Rattle.text.specs.declared.measure.Measure.{Measure}

-- the room that n bytes leave, or none where they are more than there is
abbrev pub less : Option ℕ → ℕ → Option ℕ
less None n = None
less (Some room) n = if nat_le n room then Some (room - n) else None

-- the text was measured
abbrev pub Leaves : Measure → List ℕ → Measure → Type 0
Leaves before text after = after.left ≡ less before.left (length text)

-- a measure has no end
abbrev pub Endless : Measure → ℕ → Type 0
Endless m n = ⊤

less_none : (room : Option ℕ) → room ≡ less room 0
less_none None = refl
less_none (Some room) = grind (arith, nat_tests)

less_more : (room : Option ℕ) (m n : ℕ) → less (less room m) n ≡ less room (m + n)
less_more None m n = refl
less_more (Some room) m n = grind (arith, nat_tests)

pub measure_laws : SinkLaws Endless Leaves
measure_laws = record {
  none = λ x. less_none x.left;
  more = λ x y z s t a b. b ∙ ap (λ (o : Option ℕ). less o (length t)) a ∙ less_more x.left (length s) (length t) ∙ ap (less x.left) (sym (length-append s t));
  room = λ x y t m n a r l. tt;
}
