-- How long a line of the day sheet can be.
use Rattle.std.proofs.Common.{ℕ, suc, ◌+◌, ◌-◌, ◌*◌, ◌^◌, ◌<◌, ◌≤◌, List, [], ◌∷◌, map, length, get_or, decimal, arith}
use Rattle.std.proofs.lemmas.Fmt.{length-decimal-le, decimal_nonempty}
use Rattle.std.proofs.lemmas.List.{length-append}
use Rattle.std.specs.List.{flat_map}
use Rattle.refusals.specs.Number.{number}
use Rattle.refusals.specs.declared.Refusal.{Refusal}
use Rattle.order.specs.declared.kinds.Relation.{Relation}
use Rattle.text.specs.Line.{refused_file_line}
use Rattle.order.specs.Words.{relation_word}
use Rattle.lines.specs.Line.{commas, handover_line, refused_handover_line, question_line, refused_question_line}

-- each number of the list is below 65,536
abbrev pub Small : List ℕ → Type 0
Small xs = (i : ℕ) → i < length xs → get_or xs i 0 < 2 ^ 16

five : (n : ℕ) → n < 2 ^ 16 → length (decimal n) ≤ 5
five n h = length-decimal-le 5 n (omega arith) (omega arith) (omega arith)

three : (n : ℕ) → n < 2 ^ 8 → length (decimal n) ≤ 3
three n h = length-decimal-le 3 n (omega arith) (omega arith) (omega arith)

refusal_digits : (e : Refusal) → length (decimal (number e)) ≤ 2
refusal_digits e = let small : number e < 100 = grind arith in length-decimal-le 2 (number e) (omega arith) (omega arith) (omega arith)

word_le : (r : Relation) → length (relation_word r) ≤ 6
word_le r = grind arith

-- a number takes at most six bytes, with the comma before it
others_le : (xs : List ℕ) → Small xs → length (flat_map (λ u. 44 ∷ u) (map decimal xs)) ≤ 6 * length xs
others_le [] h = omega arith
others_le (x ∷ xs) h = let first = five x (h 0 (omega arith)) in let rest = others_le xs (λ i l. h (suc i) (omega arith)) in simp length-append (omega arith)

commas_le : (xs : List ℕ) → Small xs → length (commas xs) ≤ 6 * length xs - 1
unfolding commas
commas_le [] h = omega arith
commas_le (x ∷ xs) h = let first = five x (h 0 (omega arith)) in let rest = others_le xs (λ i l. h (suc i) (omega arith)) in simp length-append (omega arith)

-- At most so many bytes.

pub refused_file_le : (e : Refusal) (place : ℕ) → place < 2 ^ 16 → length (refused_file_line (number e) place) ≤ 20
unfolding refused_file_line
refused_file_le e place h = let n = refusal_digits e in let p = five place h in simp length-append (omega arith)

pub handover_most : (k g t : ℕ) (xs : List ℕ) → k < 2 ^ 16 → g < 2 ^ 8 → t < 2 ^ 8 → Small xs → length (handover_line k g t xs) ≤ 15 + (6 * length xs - 1)
unfolding handover_line
handover_most k g t xs kh gh th small = let a = five k kh in let b = three g gh in let c = three t th in let d = commas_le xs small in simp length-append (omega arith)

-- at most 32 counts
pub handover_le : (k g t : ℕ) (xs : List ℕ) → k < 2 ^ 16 → g < 2 ^ 8 → t < 2 ^ 8 → Small xs → length xs ≤ 32 → length (handover_line k g t xs) ≤ 206
handover_le k g t xs kh gh th small most = omega (arith, handover_most k g t xs kh gh th small)

pub refused_handover_le : (g t : ℕ) (e : Refusal) → g < 2 ^ 8 → t < 2 ^ 8 → length (refused_handover_line g t (number e)) ≤ 21
unfolding refused_handover_line
refused_handover_le g t e gh th = let a = three g gh in let b = three t th in let n = refusal_digits e in simp length-append (omega arith)

pub question_le : (a b : ℕ) (r : Relation) → a < 2 ^ 16 → b < 2 ^ 16 → length (question_line a b r) ≤ 19
unfolding question_line
question_le a b r ah bh = let x = five a ah in let y = five b bh in let w = word_le r in simp length-append (omega arith)

pub refused_question_le : (a b : ℕ) (e : Refusal) → a < 2 ^ 16 → b < 2 ^ 16 → length (refused_question_line a b (number e)) ≤ 23
unfolding refused_question_line
refused_question_le a b e ah bh = let x = five a ah in let y = five b bh in let n = refusal_digits e in simp length-append (omega arith)

-- At least so many bytes.

-- a number takes at least two bytes, with the comma before it
others_least : (xs : List ℕ) → Small xs → 2 * length xs ≤ length (flat_map (λ u. 44 ∷ u) (map decimal xs))
others_least [] h = omega arith
others_least (x ∷ xs) h =
    let first = decimal_nonempty x (omega (arith, h 0 (omega arith))) in let rest = others_least xs (λ i l. h (suc i) (omega arith)) in simp length-append (omega arith)

commas_least : (xs : List ℕ) → Small xs → 2 * length xs ≤ length (commas xs) + 1
unfolding commas
commas_least [] h = omega arith
commas_least (x ∷ xs) h =
    let first = decimal_nonempty x (omega (arith, h 0 (omega arith))) in let rest = others_least xs (λ i l. h (suc i) (omega arith)) in simp length-append (omega arith)

pub handover_least : (k g t : ℕ) (xs : List ℕ) → Small xs → 2 * length xs ≤ length (handover_line k g t xs)
unfolding handover_line
handover_least k g t xs small = let d = commas_least xs small in simp length-append (omega arith)
