-- The records of a section: how many they are, and that they lie in it.
use Rattle.std.proofs.Common.{ℕ, suc, ◌+◌, ◌*◌, ◌/◌, ◌<◌, ◌≤◌, mul_comm, mul-le-mul_left, mul-suc, arith}
use native.Mathlib.Nat.{div-le_of_le-mul}

-- how many records of `size` bytes a section has
pub count_most : (len size most : ℕ) → len ≤ most * size → len / size ≤ most
count_most len size most h = div-le_of_le-mul size (rw mul_comm at h)

pub record_inside : (start count size i n : ℕ) → start + count * size ≤ n → i < count → (start + size * i) + size ≤ n
record_inside start count size i n h l =
    let m : suc i ≤ count = omega arith in omega (arith, mul-le-mul_left size m, mul-suc size i, mul_comm count size)
