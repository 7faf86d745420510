-- Operations on codes made to answer for every number: 0 where an argument is no code. Assumes nothing.
--   inside    x where a is a code, else 0
--   inside₂   f a b where both are codes, else 0
--   guarded   a field's operations from its operations on codes
use Rattle.std.specs.Prelude.{ℕ, cond, nat_lt}
use Rattle.field.specs.Codes.{Operations}

abbrev pub inside : (q a x : ℕ) → ℕ
inside q a x = cond (nat_lt a q) x 0

abbrev pub inside₂ : (q : ℕ) → (ℕ → ℕ → ℕ) → ℕ → ℕ → ℕ
inside₂ q f a b = inside q a (inside q b (f a b))

abbrev pub guarded : (mark q : ℕ) (add : ℕ → ℕ → ℕ) (neg : ℕ → ℕ) (mul : ℕ → ℕ → ℕ) → Operations
guarded mark q add neg mul = record {
  mark = mark;
  size = q;
  add = inside₂ q add;
  neg = λ a. inside q a (neg a);
  mul = inside₂ q mul;
}
