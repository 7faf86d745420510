-- The numbers of Cauchy rows are the reciprocals that they should be, in every field. Assumes nothing.
use Rattle.std.proofs.Common.{◌≡◌, ℕ, ◌+◌, ◌-◌, ◌*◌, ◌/◌, ◌%◌, ◌<◌, ◌≤◌, ◌≢◌, get_or, unwrap_or, sym, ap, ◌∙◌, arith}
use Rattle.std.proofs.lemmas.Nat.{div-mul-add, mod-mul-add, mul-add-lt}
use Rattle.std.proofs.lemmas.List.FromFn.{get_or-map-range_with_len}
use Rattle.field.specs.Codes.{Operations, Laws, minus}
use Rattle.field.specs.Rows.{cauchy, cauchy_rows, Reciprocals}
use Rattle.field.specs.Inverse.{inverse_found}

module _ {o : Operations} (laws : Laws o) where
  -- numbers whose difference is 0 are equal
  pub minus_zero : (a b : ℕ) → a < o.size → b < o.size → minus o a b ≡ 0 → a ≡ b
  minus_zero a b ha hb e =
      sym (laws.add_zero a ha)
      ∙ ap (o.add a) (sym (laws.add_neg b hb) ∙ laws.add_comm b (o.neg b))
      ∙ sym (laws.add_assoc a (o.neg b) b ha (laws.neg_code b) hb)
      ∙ ap (λ x. o.add x b) e
      ∙ laws.add_comm 0 b
      ∙ laws.add_zero b hb

  pub cauchy_product : (c p : ℕ) → c < o.size → p < o.size → c ≢ p → o.mul (cauchy o c p) (minus o c p) ≡ 1
  cauchy_product c p hc hp n =
      let found = inverse_found laws (minus o c p) (laws.add_code c (o.neg p)) (λ e. n (minus_zero c p hc hp e)) in
      ap (λ r. o.mul (unwrap_or r 0) (minus o c p)) found.1 ∙ laws.mul_comm found.0 (minus o c p) ∙ found.3

  pub cauchy_reciprocals : (t n : ℕ) → n ≤ 8 → Reciprocals o t n (cauchy_rows o t n)
  cauchy_reciprocals t n hn c p hc cn pt =
      ap (λ x. o.mul x (minus o c p)) at_place
      ∙ cauchy_product c p (omega (arith, laws.size_least)) (omega (arith, laws.size_least)) (omega arith)
    where
      at : ℕ → ℕ
      at i = cauchy o (t + i / t) (i % t)

      row : t + ((c - t) * t + p) / t ≡ c
      row = ap (λ x. t + x) (div-mul-add (c - t) t p pt) ∙ omega arith

      inside : (c - t) * t + p < (n - t) * t
      inside = omega (arith, mul-add-lt (c - t) t p (n - t) (omega arith) pt)

      at_place : get_or (cauchy_rows o t n) ((c - t) * t + p) 0 ≡ cauchy o c p
      at_place =
          get_or-map-range_with_len (λ i. cauchy o (t + i / t) (i % t)) 0 ((n - t) * t) ((c - t) * t + p) ((c - t) * t + p) 0 inside (omega arith)
          ∙ ap (λ x. cauchy o x (((c - t) * t + p) % t)) row
          ∙ ap (cauchy o c) (mod-mul-add (c - t) t p pt)
