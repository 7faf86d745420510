-- The cast of a word over the field's numbers, and that it is linear in the word. Assumes nothing.
--   casting   a cast whose word is of the field's own numbers
use Rattle.std.proofs.Common.{◌≡◌, ℕ, zero, suc, ◌+◌, ◌*◌, ◌<◌, List, sym, ap, ◌∙◌, suc-mul, zero-mul}
use Rattle.field.specs.Codes.{Operations, Laws}
use Rattle.linear.specs.Casting.{row, cast}
use Rattle.linear.proofs.Scalars.{Scalars, minus, mul_nil, mul_neg}
use Rattle.linear.proofs.Sums.{total, total_none, total_more, total_cong, total_nil, total_add, total_minus, total_split}
use Rattle.linear.proofs.Coded.{Code, coded, code, code_products, sum_below}

-- a sum over a rows of w places each, row by row
pub total_grid : {K : Type 0} (F : Scalars K) (a w : ℕ) (f : ℕ → K)
    → total F (a * w) f ≡ total F a (λ k. total F w (λ c. f (k * w + c)))
total_grid F zero w f = ap (λ n. total F n f) (zero-mul w) ∙ total_none F f ∙ sym (total_none F _)
total_grid F (suc a) w f =
    ap (λ n. total F n f) (suc-mul a w)
    ∙ total_split F (a * w) w f
    ∙ ap (λ x. F.add x (total F w (λ c. f (a * w + c)))) (total_grid F a w f)
    ∙ sym (total_more F a (λ k. total F w (λ c. f (k * w + c))))

module _ {o : Operations} (laws : Laws o) (t : ℕ) (given : List ℕ) where
  -- number q of the cast of a word of the field's numbers
  abbrev pub casting : (ℕ → Code o) → ℕ → Code o
  casting x q = total (coded laws) t (λ c. (coded laws).mul (code laws (row t given q c)) (x c))

  pub cast_below : (word : ℕ → ℕ) (q : ℕ) → cast o t given word q < o.size
  cast_below word q = sum_below laws t _

  pub code_cast : (word : ℕ → ℕ) (q : ℕ) → code laws (cast o t given word q) ≡ casting (λ c. code laws (word c)) q
  code_cast word q = code_products laws t (λ c. row t given q c) word

  pub casting_cong : (x y : ℕ → Code o) (q : ℕ) → ((c : ℕ) → c < t → x c ≡ y c) → casting x q ≡ casting y q
  casting_cong x y q h =
      total_cong (coded laws) t _ _ (λ c l. ap ((coded laws).mul (code laws (row t given q c))) (h c l))

  pub casting_nil : (x : ℕ → Code o) (q : ℕ) → ((c : ℕ) → c < t → x c ≡ (coded laws).nil) → casting x q ≡ (coded laws).nil
  casting_nil x q h =
      total_nil (coded laws) t _
      (λ c l. ap ((coded laws).mul (code laws (row t given q c))) (h c l) ∙ mul_nil (coded laws) _)

  pub casting_add : (x y : ℕ → Code o) (q : ℕ)
      → casting (λ c. (coded laws).add (x c) (y c)) q ≡ (coded laws).add (casting x q) (casting y q)
  casting_add x y q =
      total_cong (coded laws) t _ _ (λ c l. (coded laws).mul_add (code laws (row t given q c)) (x c) (y c))
      ∙ total_add (coded laws) t _ _

  pub casting_minus : (x y : ℕ → Code o) (q : ℕ)
      → casting (λ c. minus (coded laws) (x c) (y c)) q ≡ minus (coded laws) (casting x q) (casting y q)
  casting_minus x y q =
      total_cong (coded laws) t _ _
      (λ c l.
      (coded laws).mul_add (code laws (row t given q c)) (x c) ((coded laws).neg (y c))
      ∙ ap ((coded laws).add ((coded laws).mul (code laws (row t given q c)) (x c)))
      (mul_neg (coded laws) (code laws (row t given q c)) (y c)))
      ∙ total_minus (coded laws) t _ _
