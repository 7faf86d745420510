-- From the field's numbers to codes: what elimination gives of matrices and vectors of codes. Assumes nothing.
use Rattle.std.proofs.Common.{◌≡◌, ℕ, ◌<◌, sym, ap, ◌∙◌, inl, inr, ⊎_elim, arith}
use Rattle.field.specs.Codes.{Operations, Laws}
use Rattle.linear.specs.Systems.{Codes, times, Solves, Regular, Null, Singular, Alternative}
use Rattle.linear.proofs.Scalars.{mul_nil}
use Rattle.linear.proofs.Sums.{total, total_cong, total_nil}
use Rattle.linear.proofs.Coded.{Code, coded, code, code_of, code_is, code_inj, code_zero, code_products, sum_below, zero_code}
use Rattle.linear.proofs.Elimination.{Reached, reached_solves, reached_only, Sent, alternative}

module _ {o : Operations} (laws : Laws o) where
  -- a matrix of codes as one of the field's numbers
  abbrev pub over : (ℕ → ℕ → ℕ) → ℕ → ℕ → Code o
  over a r c = code laws (a r c)

  abbrev pub along : (ℕ → ℕ) → ℕ → Code o
  along v i = code laws (v i)

  abbrev Whole : ℕ → (ℕ → ℕ → ℕ) → (ℕ → Code o) → ℕ → Code o
  Whole n a x r = total (coded laws) n (λ c. (coded laws).mul (over a r c) (x c))

  -- a vector of the field's numbers, as codes, is sent to what the numbers are sent to
  pub times_vector : (n : ℕ) (a : ℕ → ℕ → ℕ) (x : ℕ → Code o) (r : ℕ) → code laws (times o n a (λ c. (x c).0) r) ≡ Whole n a x r
  times_vector n a x r =
      code_products laws n (λ c. a r c) (λ c. (x c).0)
      ∙ total_cong (coded laws) n (λ c. (coded laws).mul (over a r c) (code laws (x c).0)) (λ c. (coded laws).mul (over a r c) (x c))
      (λ c l. ap ((coded laws).mul (over a r c)) (code_is laws (x c)))

  -- equations over the field's numbers, and over codes
  pub solves_from : (n : ℕ) (a : ℕ → ℕ → ℕ) (b : ℕ → ℕ) (x : ℕ → Code o) → Codes o n b
      → ((r : ℕ) → r < n → Whole n a x r ≡ code laws (b r)) → Solves o n a b (λ c. (x c).0)
  solves_from n a b x hb h = record {
    codes = λ i l. (x i).1;
    rows = λ r l.
        code_inj laws (times o n a (λ c. (x c).0) r) (b r) (sum_below laws n (λ c. o.mul (a r c) (x c).0)) (hb r l)
        (times_vector n a x r ∙ h r l);
  }

  pub solves_to : (n : ℕ) (a : ℕ → ℕ → ℕ) (b x : ℕ → ℕ) → Solves o n a b x
      → (r : ℕ) → r < n → Whole n a (along x) r ≡ code laws (b r)
  solves_to n a b x s r l = sym (code_products laws n (λ c. a r c) x) ∙ ap (code laws) (s.rows r l)

  -- all columns done: every right side has exactly one solution
  module _ (n : ℕ) (a : ℕ → ℕ → ℕ) (T : (ℕ → Code o) → ℕ → Code o) (t : Reached (coded laws) n (over a) n T) where
    pub reached_solution : (b : ℕ → ℕ) → Codes o n b → Solves o n a b (λ c. (T (along b) c).0)
    reached_solution b hb = solves_from n a b (T (along b)) hb (reached_solves (coded laws) n (over a) T t (along b))

    pub reached_regular : Regular o n a
    reached_regular b hb = record {
      solution = λ c. (T (along b) c).0;
      solves = reached_solution b hb;
      only = λ y s c l.
          sym (code_of laws (y c) (s.codes c l))
          ∙ ap (λ z. z.0) (reached_only (coded laws) n (over a) T t (along b) (along y) (solves_to n a b y s) c l);
    }

  -- a vector sent to 0
  pub sent_null : (n : ℕ) (a : ℕ → ℕ → ℕ) (s : Sent (coded laws) n (over a)) → Null o n a (λ c. (s.vector c).0)
  sent_null n a s =
      solves_from n a (λ r. 0) s.vector (λ i l. zero_code laws) (λ r l. s.to_nil r l ∙ sym (code_zero laws))

  pub sent_singular : (n : ℕ) (a : ℕ → ℕ → ℕ) → Sent (coded laws) n (over a) → Singular o n a
  unfolding coded
  sent_singular n a s = record {
    vector = λ c. (s.vector c).0;
    null = sent_null n a s;
    place = s.place;
    within = s.within;
    nonzero = λ e. let z : ◌≡◌ {A = ℕ} 0 1 = sym e ∙ ap (λ x. x.0) s.one_there in omega arith;
  }

  -- the zero vector is sent to zero
  pub zero_null : (n : ℕ) (a : ℕ → ℕ → ℕ) → Null o n a (λ c. 0)
  unfolding coded
  zero_null n a =
      solves_from n a (λ r. 0) (λ c. (coded laws).nil) (λ i l. zero_code laws)
      (λ r l.
      total_nil (coded laws) n (λ c. (coded laws).mul (over a r c) (coded laws).nil)
      (λ c h. mul_nil (coded laws) (over a r c))
      ∙ sym (code_zero laws))

  -- a regular matrix sends only zero to zero
  pub regular_null : (n : ℕ) (a : ℕ → ℕ → ℕ) → Regular o n a → (v : ℕ → ℕ) → Null o n a v → (c : ℕ) → c < n → v c ≡ 0
  regular_null n a regular v null c l =
      let one = regular (λ r. 0) (λ i h. zero_code laws) in
      one.only v null c l ∙ sym (one.only (λ i. 0) (zero_null n a) c l)

  -- every square matrix is regular or singular, and none is both
  pub alternative_stands : Alternative o
  alternative_stands = record {
    either = λ n a.
        ⊎_elim (λ t. inl (reached_regular n a t.0 t.1)) (λ s. inr (sent_singular n a s)) (alternative (coded laws) n (over a));
    not_both = λ n a regular singular.
        singular.nonzero (regular_null n a regular singular.vector singular.null singular.place singular.within);
  }
