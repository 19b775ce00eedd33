-- Products of machine numbers fit the machine numbers that they are counted in. Assumes nothing.
use Rattle.std.proofs.Common.{ℕ, ◌+◌, ◌-◌, ◌*◌, ◌/◌, ◌^◌, ◌<◌, ◌≤◌, mul-le-mul, arith}
use Rattle.terms.specs.Limits.{whole}

-- 64 bits by 32
pub product_96 : (a b : ℕ) → a < 2 ^ 64 → b < 2 ^ 32 → a * b < 2 ^ 96
product_96 a b l m =
    let p : a ≤ 2 ^ 64 - 1 = omega arith in
    let q : b ≤ 2 ^ 32 - 1 = omega arith in
    omega (arith, mul-le-mul p q)

-- 96 bits by 32, with something over
pub product_128 : (a b : ℕ) → a < 2 ^ 96 → b < 2 ^ 32 → a * b + 5000 < 2 ^ 128
product_128 a b l m =
    let p : a ≤ 2 ^ 96 - 1 = omega arith in
    let q : b ≤ 2 ^ 32 - 1 = omega arith in
    omega (arith, mul-le-mul p q)

-- a percentage up to the whole of a number of 64 bits is such a number in grosz
pub part_fits : (p a : ℕ) → p ≤ whole → a < 2 ^ 64 → (p * a + 5000000) / 10000000 ≤ 2 ^ 64 - 1
part_fits p a l m =
    let q : a ≤ 2 ^ 64 - 1 = omega arith in
    omega (arith, mul-le-mul l q)

pub credit_fits : (p a : ℕ) → p ≤ whole → a < 2 ^ 64 → p * a / 10000000 ≤ 2 ^ 64 - 1
credit_fits p a l m =
    let q : a ≤ 2 ^ 64 - 1 = omega arith in
    omega (arith, mul-le-mul l q)
