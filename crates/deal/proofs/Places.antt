-- Where a number stands in a store. Assumes nothing.
use Rattle.std.proofs.Common.{ℕ, zero, suc, ◌+◌, ◌-◌, ◌*◌, ◌<◌, ◌≤◌, subst, mul_assoc, one-mul, mul-zero, mul-one, arith}
use native.Mathlib.Nat.{mul-div-le}
use Rattle.std.proofs.lemmas.Nat.{mul-le}
use Rattle.sharing.specs.Scheme.{lanes}
use Rattle.sharing.proofs.Stores.{within}

-- a number's place lies in the store, and so does all that it is computed from
pub record Place (t b i p e : ℕ) : Type 0 where
  pub piece : i * t + p ≤ (i * t + p) * b
  pub inside : (i * t + p) * b + e < t * (t * b)

pub place : (t b i p e : ℕ) → i < t → p < t → e < b → Place t b i p e
place t b i p e hi hp he = record {
  piece = omega (arith, mul-le (i * t + p) 1 (i * t + p) b (omega arith) (omega arith), mul-one (i * t + p));
  inside = subst (λ k. (i * t + p) * b + e < k) (mul_assoc t t b) (within (t * t) b (i * t + p) e (within t t i p hi hp) he);
}

-- where there is a number, there is a lane
pub lanes_some : (t b x : ℕ) → x < t * b → 0 < b
lanes_some t zero x lt = absurd (omega (arith, mul-zero t))
lanes_some t (suc b) x lt = omega arith

-- a store is small: t times b is at most 71
pub block_small : (t L : ℕ) → t ≤ 8 → L ≤ 64 → t * lanes t L ≤ 71
block_small t L ht hL = omega (arith, mul-div-le (L + (t - 1)) t)

pub store_small : (t L : ℕ) → t ≤ 8 → L ≤ 64 → t * (t * lanes t L) ≤ 568
store_small t L ht hL = mul-le t (t * lanes t L) 8 71 ht (block_small t L ht hL)

-- and a block of it is no longer than the store
pub block_inside : (t w : ℕ) → 0 < t → w ≤ t * w
block_inside t w ht = omega (arith, mul-le 1 w t w ht (omega arith), one-mul w)
