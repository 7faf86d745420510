-- Code 0 among the field's numbers. Assumes nothing.
use Rattle.std.proofs.Common.{◌≡◌, ℕ, ◌<◌, sym, ◌∙◌}
use Rattle.field.specs.Codes.{Operations, Laws}
use Rattle.linear.proofs.Coded.{coded, code, code_inj, code_zero, zero_code}

module _ {o : Operations} (laws : Laws o) where
  -- what is 0 among the field's numbers is code 0
  pub zero_of_nil : (a : ℕ) → a < o.size → code laws a ≡ (coded laws).nil → a ≡ 0
  zero_of_nil a h e = code_inj laws a 0 h (zero_code laws) (e ∙ sym (code_zero laws))
