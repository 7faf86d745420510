-- Operations that keep the laws on codes keep them for every number once they are guarded. Assumes nothing.
use Rattle.std.specs.Prelude.{◌≡◌, ℕ, ◌<◌, ◌≤◌, cond, ◌≢◌}
use Rattle.std.proofs.Math.Path.{sym, ap, ap₂}
use Rattle.std.proofs.Common.{subst, ◌∙◌, ⊎_elim, arith}
use Rattle.std.proofs.lemmas.Bool.{lt-ltb, le-ltb, cases_lt}
use Rattle.field.specs.Codes.{Laws}
use Rattle.field.specs.Guard.{inside, inside₂, guarded}

-- the laws, on codes alone
pub record OnCodes (mark q : ℕ) (add : ℕ → ℕ → ℕ) (neg : ℕ → ℕ) (mul : ℕ → ℕ → ℕ) : Type 0 where
  pub mark_byte : mark < 256
  pub size_least : 16 ≤ q
  pub size_most : q ≤ 256
  pub add_code : (a b : ℕ) → a < q → b < q → add a b < q
  pub neg_code : (a : ℕ) → a < q → neg a < q
  pub mul_code : (a b : ℕ) → a < q → b < q → mul a b < q
  pub add_comm : (a b : ℕ) → a < q → b < q → add a b ≡ add b a
  pub mul_comm : (a b : ℕ) → a < q → b < q → mul a b ≡ mul b a
  pub add_assoc : (a b c : ℕ) → a < q → b < q → c < q → add (add a b) c ≡ add a (add b c)
  pub mul_assoc : (a b c : ℕ) → a < q → b < q → c < q → mul (mul a b) c ≡ mul a (mul b c)
  pub mul_add : (a b c : ℕ) → a < q → b < q → c < q → mul a (add b c) ≡ add (mul a b) (mul a c)
  pub add_zero : (a : ℕ) → a < q → add a 0 ≡ a
  pub mul_one : (a : ℕ) → a < q → mul a 1 ≡ a
  pub add_neg : (a : ℕ) → a < q → add a (neg a) ≡ 0
  pub mul_inverse : (a : ℕ) → a < q → a ≢ 0 → (x : ℕ) × (x < q) × (mul a x ≡ 1)

pub inside-code : (q a x : ℕ) → a < q → inside q a x ≡ x
inside-code q a x h = ap (λ t. cond t x 0) (lt-ltb a q h)

pub inside_other : (q a x : ℕ) → q ≤ a → inside q a x ≡ 0
inside_other q a x h = ap (λ t. cond t x 0) (le-ltb a q h)

module _ (q : ℕ) (f : ℕ → ℕ → ℕ) where
  pub both_codes : (a b : ℕ) → a < q → b < q → inside₂ q f a b ≡ f a b
  both_codes a b ha hb = inside-code q a (inside q b (f a b)) ha ∙ inside-code q b (f a b) hb

  pub left_other : (a b : ℕ) → q ≤ a → inside₂ q f a b ≡ 0
  left_other a b ha = inside_other q a (inside q b (f a b)) ha

  pub right_other : (a b : ℕ) → q ≤ b → inside₂ q f a b ≡ 0
  right_other a b hb =
      ⊎_elim (λ h. inside-code q a (inside q b (f a b)) h ∙ inside_other q b (f a b) hb) (left_other a b) (cases_lt a q)

  below : 0 < q → ((a b : ℕ) → a < q → b < q → f a b < q) → (a b : ℕ) → inside₂ q f a b < q
  below pos h a b =
      ⊎_elim
      (λ ha. ⊎_elim (λ hb. is (f a b) (both_codes a b ha hb) (h a b ha hb)) (λ nb. is 0 (right_other a b nb) pos) (cases_lt b q))
      (λ na. is 0 (left_other a b na) pos) (cases_lt a q)
    where
      is : (v : ℕ) → inside₂ q f a b ≡ v → v < q → inside₂ q f a b < q
      is v e hv = subst (λ (x : ℕ). x < q) (sym e) hv

  comm : ((a b : ℕ) → a < q → b < q → f a b ≡ f b a) → (a b : ℕ) → inside₂ q f a b ≡ inside₂ q f b a
  comm h a b =
      ⊎_elim
      (λ ha. ⊎_elim (λ hb. both_codes a b ha hb ∙ h a b ha hb ∙ sym (both_codes b a hb ha)) (λ nb. right_other a b nb ∙ sym (left_other b a nb)) (cases_lt b q))
      (λ na. left_other a b na ∙ sym (right_other b a na)) (cases_lt a q)

  assoc : ((a b : ℕ) → a < q → b < q → f a b < q)
      → ((a b c : ℕ) → a < q → b < q → c < q → f (f a b) c ≡ f a (f b c))
      → (a b c : ℕ) → a < q → b < q → c < q → inside₂ q f (inside₂ q f a b) c ≡ inside₂ q f a (inside₂ q f b c)
  assoc code h a b c ha hb hc =
      ap (λ x. inside₂ q f x c) (both_codes a b ha hb)
      ∙ both_codes (f a b) c (code a b ha hb) hc
      ∙ h a b c ha hb hc
      ∙ sym (both_codes a (f b c) ha (code b c hb hc))
      ∙ ap (inside₂ q f a) (sym (both_codes b c hb hc))

module _ {mark q : ℕ} {add : ℕ → ℕ → ℕ} {neg : ℕ → ℕ} {mul : ℕ → ℕ → ℕ} (laws : OnCodes mark q add neg mul) where
  pos : 0 < q
  pos = omega (arith, laws.size_least)

  one : 1 < q
  one = omega (arith, laws.size_least)

  guarded_add : ℕ → ℕ → ℕ
  guarded_add = inside₂ q add

  guarded_mul : ℕ → ℕ → ℕ
  guarded_mul = inside₂ q mul

  opposite_below : (a : ℕ) → inside q a (neg a) < q
  opposite_below a =
      ⊎_elim (λ h. subst (λ (x : ℕ). x < q) (sym (inside-code q a (neg a) h)) (laws.neg_code a h)) (λ n. subst (λ (x : ℕ). x < q) (sym (inside_other q a (neg a) n)) pos) (cases_lt a q)

  distributes : (a b c : ℕ) → a < q → b < q → c < q → guarded_mul a (guarded_add b c) ≡ guarded_add (guarded_mul a b) (guarded_mul a c)
  unfolding guarded_add guarded_mul
  distributes a b c ha hb hc =
      ap (inside₂ q mul a) (both_codes q add b c hb hc)
      ∙ both_codes q mul a (add b c) ha (laws.add_code b c hb hc)
      ∙ laws.mul_add a b c ha hb hc
      ∙ sym (both_codes q add (mul a b) (mul a c) (laws.mul_code a b ha hb) (laws.mul_code a c ha hc))
      ∙ ap₂ (inside₂ q add) (sym (both_codes q mul a b ha hb)) (sym (both_codes q mul a c ha hc))

  pub guarded_laws : Laws (guarded mark q add neg mul)
  unfolding guarded_add guarded_mul
  guarded_laws = record {
    mark_byte = laws.mark_byte;
    size_least = laws.size_least;
    size_most = laws.size_most;
    add_code = below q add pos laws.add_code;
    neg_code = opposite_below;
    mul_code = below q mul pos laws.mul_code;
    add_outside = left_other q add;
    neg_outside = λ a h. inside_other q a (neg a) h;
    mul_outside = left_other q mul;
    add_comm = comm q add laws.add_comm;
    mul_comm = comm q mul laws.mul_comm;
    add_assoc = assoc q add laws.add_code laws.add_assoc;
    mul_assoc = assoc q mul laws.mul_code laws.mul_assoc;
    mul_add = distributes;
    add_zero = λ a h. both_codes q add a 0 h pos ∙ laws.add_zero a h;
    mul_one = λ a h. both_codes q mul a 1 h one ∙ laws.mul_one a h;
    add_neg = λ a h. ap (inside₂ q add a) (inside-code q a (neg a) h) ∙ both_codes q add a (neg a) h (laws.neg_code a h) ∙ laws.add_neg a h;
    mul_inverse = λ a h n. let w = laws.mul_inverse a h n in (w.0, w.1, both_codes q mul a w.0 h w.1 ∙ w.2);
  }
