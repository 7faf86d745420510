-- Maps on columns of n numbers that lose nothing. Assumes nothing.
--   Faithful   a map that keeps sums and multiples, and tells different columns apart
use Rattle.std.proofs.Common.{◌≡◌, ℕ, zero, suc, ◌<◌, sym, refl, ap, ◌∙◌, ap₂}
use mathlib.Core.Path.{fun_ext}
use Rattle.linear.proofs.Scalars.{Scalars, nil_mul}
use Rattle.linear.proofs.Sums.{total}

module _ {K : Type 0} (F : Scalars K) where
  -- a map on columns of n numbers that keeps sums and multiples, and tells different columns apart
  pub record Faithful (n : ℕ) (T : (ℕ → K) → ℕ → K) : Type 0 where
    pub same : (u v : ℕ → K) → ((r : ℕ) → r < n → u r ≡ v r) → (r : ℕ) → r < n → T u r ≡ T v r
    pub sums : (u v : ℕ → K) (r : ℕ) → r < n → T (λ i. F.add (u i) (v i)) r ≡ F.add (T u r) (T v r)
    pub multiples : (a : K) (u : ℕ → K) (r : ℕ) → r < n → T (λ i. F.mul a (u i)) r ≡ F.mul a (T u r)
    pub apart : (u v : ℕ → K) → ((r : ℕ) → r < n → T u r ≡ T v r) → (r : ℕ) → r < n → u r ≡ v r

  pub faithful_id : (n : ℕ) → Faithful n (λ u. u)
  faithful_id n = record {
    same = λ u v h. h;
    sums = λ u v r l. refl;
    multiples = λ a u r l. refl;
    apart = λ u v h. h;
  }

  -- one map after another
  pub faithful_after : (n : ℕ) (S T : (ℕ → K) → ℕ → K) → Faithful n S → Faithful n T → Faithful n (λ u. S (T u))
  faithful_after n S T s t = record {
    same = λ u v h. s.same (T u) (T v) (t.same u v h);
    sums = λ u v r l.
        s.same (T (λ i. F.add (u i) (v i))) (λ i. F.add (T u i) (T v i)) (t.sums u v) r l ∙ s.sums (T u) (T v) r l;
    multiples = λ a u r l.
        s.same (T (λ i. F.mul a (u i))) (λ i. F.mul a (T u i)) (t.multiples a u) r l ∙ s.multiples a (T u) r l;
    apart = λ u v h. t.apart u v (s.apart (T u) (T v) h);
  }

  module _ (n : ℕ) (T : (ℕ → K) → ℕ → K) (t : Faithful n T) where
    pub faithful_nil : (r : ℕ) → r < n → T (λ i. F.nil) r ≡ F.nil
    faithful_nil r l =
        ap (λ u. T u r) (fun_ext (λ i. sym (nil_mul F F.nil)))
        ∙ t.multiples F.nil (λ i. F.nil) r l
        ∙ nil_mul F (T (λ i. F.nil) r)

    -- a matrix times a vector, mapped, is the mapped columns times the vector
    pub faithful_times : (m : ℕ) (a : ℕ → ℕ → K) (x : ℕ → K) (r : ℕ) → r < n
        → T (λ i. total F m (λ c. F.mul (a i c) (x c))) r ≡ total F m (λ c. F.mul (T (λ i. a i c) r) (x c))
    unfolding total
    faithful_times zero a x r l = faithful_nil r l
    faithful_times (suc m) a x r l =
        t.sums (λ i. total F m (λ c. F.mul (a i c) (x c))) (λ i. F.mul (a i m) (x m)) r l
        ∙ ap₂ F.add (faithful_times m a x r l)
        (ap (λ u. T u r) (fun_ext (λ i. F.mul_comm (a i m) (x m)))
        ∙ t.multiples (x m) (λ i. a i m) r l
        ∙ F.mul_comm (x m) (T (λ i. a i m) r))
