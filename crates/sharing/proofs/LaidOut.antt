-- Square matrices laid out row by row: their entries, that they are of codes, and which vectors they send to zero.
-- Assumes nothing.
use Rattle.std.proofs.Common.{◌≡◌, ℕ, ◌+◌, ◌-◌, ◌*◌, ◌/◌, ◌%◌, ◌<◌, ◌≤◌, cond, ◌||◌, eqb, ltb, ◌↔◌, List, ◌++◌, length, get_or, take, drop, sym, ◌∙◌, subst, ap₂, arith}
use Rattle.std.proofs.lemmas.Nat.{div-mul-add, mod-mul-add, mod_below, mul-le}
use Rattle.std.proofs.lemmas.List.FromFn.{length-map-range_with_len, get_or-map-range_with_len}
use Rattle.std.proofs.lemmas.List.{drop_at, length-take-le}
use Rattle.std.proofs.lemmas.Bool.{cond_both}
use Rattle.field.specs.Codes.{Operations, Laws}
use Rattle.linear.specs.Casting.{row}
use Rattle.linear.specs.Pivots.{entry}
use Rattle.linear.specs.Reductions.{Matrix}
use Rattle.linear.proofs.Coded.{zero_code, one_code}
use Rattle.linear.proofs.Solving.{solves_matrix}
use Rattle.sharing.specs.Scheme.{Plan, Sound}
use Rattle.sharing.specs.Systems.{OnlyZero, laid_out, opening_matrix, lane_size, hiding_matrix}
use Rattle.sharing.proofs.Stores.{within, by-lanes, codes_all}

-- number c of a given row, one below n, is within the given rows
pub given_place : (n t j c : ℕ) (rows : List ℕ) → 0 < n → c < t → length rows ≡ (n - t) * t → t ≤ j % n
    → (j % n - t) * t + c < length rows
given_place n t j c rows some hc long given =
    let below : j % n < n = mod_below j n some in
    omega (arith, within (n - t) t (j % n - t) c (omega arith) hc)

-- the matrices of a plan fit a workspace of 4,096 bytes
pub opening-room : {o : Operations} {p : Plan} → Sound o p → (w : List ℕ) → 4096 ≤ length w → p.t * p.t ≤ length w
opening-room {o} {p} sound w room =
    omega (arith, mul-le p.t p.t 8 8 (omega (arith, sound.ordered, sound.most)) (omega (arith, sound.ordered, sound.most)))

pub hiding_room : {o : Operations} {p : Plan} → Sound o p → (w : List ℕ) → 4096 ≤ length w → lane_size p * lane_size p ≤ length w
hiding_room {o} {p} sound w room =
    let size : lane_size p ≤ 56 = mul-le (p.t - 1) p.t 7 8 (omega (arith, sound.ordered, sound.most)) (omega (arith, sound.ordered, sound.most)) in
    omega (arith, mul-le (lane_size p) (lane_size p) 56 56 size size)

-- a write into the first n bytes leaves the others
pub rest-kept : (n : ℕ) (m w : List ℕ) → n ≤ length w → length m ≡ length (take n w) → drop n (m ++ drop n w) ≡ drop n w
rest-kept n m w room long = drop_at m (drop n w) n (long ∙ length-take-le n w room)

module _ (o : Operations) (n : ℕ) (a : ℕ → ℕ → ℕ) where
  pub entry_laid_out : (r c : ℕ) → r < n → c < n → entry n (laid_out n a) r c ≡ a r c
  entry_laid_out r c hr hc =
      get_or-map-range_with_len (λ x. a (x / n) (x % n)) 0 (n * n) (r * n + c) (r * n + c) 0 (within n n r c hr hc) (omega arith)
      ∙ ap₂ a (div-mul-add r n c hc) (mod-mul-add r n c hc)

  -- what is laid out is a matrix of codes
  pub matrix_laid_out : ((r c : ℕ) → r < n → c < n → a r c < o.size) → Matrix o n n (laid_out n a)
  matrix_laid_out codes = record {
    square = omega arith;
    size = length-map-range_with_len (λ x. a (x / n) (x % n)) 0 (n * n);
    codes = λ i l.
        by-lanes n n (λ x. get_or (laid_out n a) x 0 < o.size)
        (λ r c hr hc. subst (λ x. x < o.size) (sym (entry_laid_out r c hr hc)) (codes r c hr hc))
        i (omega (arith, l, length-map-range_with_len (λ x. a (x / n) (x % n)) 0 (n * n)));
  }

-- matrices with the same entries send the same vectors to zero
pub only_zero_cong : (o : Operations) (n : ℕ) (a b : ℕ → ℕ → ℕ) → ((r c : ℕ) → r < n → c < n → a r c ≡ b r c) → OnlyZero o n a → OnlyZero o n b
only_zero_cong o n a b same only x null =
    only x (solves_matrix o n b a (λ r c hr hc. sym (same r c hr hc)) (λ r. 0) x null)

module _ {o : Operations} (laws : Laws o) (p : Plan) (sound : Sound o p) (g : List ℕ) where
  -- the numbers of the rows are codes
  row_below : (q c : ℕ) → row p.t p.rows q c < o.size
  row_below q c =
      cond_both (ltb q p.t) (cond (eqb q c) 1 0) (get_or p.rows ((q - p.t) * p.t + c) 0) (λ x. x < o.size)
      (λ is. cond_both (eqb q c) 1 0 (λ x. x < o.size) (λ is. one_code laws) (λ is. zero_code laws))
      (λ is. codes_all o (zero_code laws) p.rows sound.codes ((q - p.t) * p.t + c))

  opening_below : (i m c : ℕ) → opening_matrix p g i m c < o.size
  opening_below i m c = row_below ((get_or g m 0 + i) % p.n) c

  -- both matrices are of codes
  pub opening_codes : (i : ℕ) → Matrix o p.t p.t (laid_out p.t (opening_matrix p g i))
  opening_codes i = matrix_laid_out o p.t (opening_matrix p g i) (λ m c hm hc. opening_below i m c)

  pub hiding_codes : Matrix o (lane_size p) (lane_size p) (laid_out (lane_size p) (hiding_matrix p g))
  hiding_codes =
      matrix_laid_out o (lane_size p) (hiding_matrix p g)
      (λ r u hr hu.
      cond_both (eqb (r % p.t) 0 || eqb (r % p.t) (u / p.t + 1)) (opening_matrix p g (r % p.t) (r / p.t) (u % p.t)) 0
      (λ x. x < o.size) (λ is. opening_below (r % p.t) (r / p.t) (u % p.t)) (λ is. zero_code laws))

-- a matrix sends no vector but zero to zero exactly if what is laid out does
pub only_zero_laid_out : (o : Operations) (n : ℕ) (a : ℕ → ℕ → ℕ) → OnlyZero o n (entry n (laid_out n a)) ↔ OnlyZero o n a
only_zero_laid_out o n a = (
  only_zero_cong o n (entry n (laid_out n a)) a (λ r c hr hc. entry_laid_out o n a r c hr hc),
  only_zero_cong o n a (entry n (laid_out n a)) (λ r c hr hc. sym (entry_laid_out o n a r c hr hc)),
)
