-- How large the numbers of an opening can be. Assumes nothing.
use Rattle.std.proofs.Common.{◌≡◌, ℕ, zero, suc, ◌+◌, ◌-◌, ◌*◌, ◌<◌, ◌≤◌, refl, ap, mul_comm, mul-zero, arith}
use Rattle.std.proofs.lemmas.Nat.{div-add-mod', mul-le}
use Rattle.sharing.specs.Scheme.{lanes}
use Rattle.sharing.proofs.Stores.{lanes_enough}

-- a padded key is at most t − 1 numbers longer than the key
pub lanes-most : (t L : ℕ) → 0 < t → t * lanes t L ≤ L + (t - 1)
lanes-most t L pos = omega (arith, div-add-mod' (L + (t - 1)) t, mul_comm (lanes t L) t)

-- a key that is not empty has a lane
pub lanes_some : (t L : ℕ) → 0 < t → 1 ≤ L → 1 ≤ lanes t L
lanes_some t L pos some = go (lanes t L) refl
  where
    go : (b : ℕ) → lanes t L ≡ b → 1 ≤ lanes t L
    go zero e = absurd (omega (arith, lanes_enough t L pos, ap (λ b. t * b) e, mul-zero t))
    go (suc b) e = omega arith

-- with t from 2 on, a key of at most 64 numbers has at most 64 lanes
pub lanes_few : (t L : ℕ) → 2 ≤ t → t ≤ 8 → L ≤ 64 → lanes t L ≤ 64
lanes_few t L two eight most =
    omega (arith, lanes-most t L (omega arith), mul-le 2 (lanes t L) t (lanes t L) two (omega arith))
