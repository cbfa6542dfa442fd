-- Text that is added to a vector whose room was reserved.
use Rattle.std.specs.Prelude.{◌≡◌, ℕ, ◌+◌, ◌≤◌, List, ◌++◌, length, vec_items, vec_len, vec_capacity, Vec}
use Rattle.std.proofs.Common.{sym, ap, ◌∙◌, arith}
use Rattle.std.proofs.lemmas.List.{append_assoc, append-nil, length-append}
use Rattle.text.specs.Laws.{SinkLaws}

-- the vector has room for n more bytes
abbrev pub Room : {Z : Type 0} → Vec ℕ Z → ℕ → Type 0
Room out n = vec_len out + n ≤ vec_capacity out

-- the text was added at the vector's end, and its capacity stayed
pub record Added {Z : Type 0} (before : Vec ℕ Z) (text : List ℕ) (after : Vec ℕ Z) : Type 0 where
  pub items : vec_items after ≡ vec_items before ++ text
  pub len : vec_len after ≡ vec_len before + length text
  pub capacity : vec_capacity after ≡ vec_capacity before

pub vector_laws : {Z : Type 0} → SinkLaws {X = Vec ℕ Z} Room Added
vector_laws = record {
  none = λ x. record { items = sym (append-nil x.items); len = omega arith; capacity = omega arith };
  more = λ x y z s t a b. record {
    items = b.items ∙ ap (λ xs. xs ++ t) a.items ∙ append_assoc x.items s t;
    len = omega (arith, length-append s t);
    capacity = omega arith;
  };
  room = λ x y t m n a r l. omega (arith, a.len, a.capacity);
}
