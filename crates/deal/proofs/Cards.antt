-- How many cards pass a test after one of them was put elsewhere. Assumes nothing.
use Rattle.std.proofs.Common.{◌≡◌, ℕ, zero, suc, ◌+◌, ◌<◌, ◌≤◌, Bool, true, false, cond, eqb, ◌≢◌, ◌⊎◌, List, length, get_or, set, take, filter, sym, refl, ap, ◌∙◌, ap₂, inl, inr, add-one, arith, length-set, get_or-set_other, get_or-set_same}
use Rattle.std.proofs.lemmas.Bool.{cases_eq, eq-eqb, ne_eqb, cond-true, cond-false}
use Rattle.std.proofs.lemmas.List.Filters.{length-filter_more}
use Rattle.deal.specs.declared.state.State.{State}
use Rattle.deal.specs.declared.state.CardState.{CardState}
use Rattle.deal.specs.declared.state.CardState.TheVariants.{Waiting, Out, Written}
use Rattle.deal.specs.Calls.{is_out, is_written, standing, held, tally}
use Rattle.deal.proofs.Tallies.{tally_same, tally_more, tally_next}

-- a card that is out is not written
pub out_not_written : (c : CardState) → is_out c ≡ true → is_written c ≡ false
out_not_written Waiting e = refl
out_not_written Out e = refl
out_not_written Written e = sym e

module _ (f : CardState → Bool) (cards : List CardState) (n j : ℕ) (to : CardState) (within : j < length cards) where
  before : ℕ → Bool
  before i = f (get_or cards i Waiting)

  later : ℕ → Bool
  later i = f (get_or (set cards j to) i Waiting)

  here : later j ≡ f to
  unfolding later
  here = ap f (get_or-set_same cards j to Waiting within)

  elsewhere : (i : ℕ) → i ≢ j → later i ≡ before i
  unfolding later before
  elsewhere i ne = ap f (get_or-set_other cards j i to Waiting ne)

  -- card i is tested after card j was put elsewhere
  pub put_test : (i : ℕ) → f (get_or (set cards j to) i Waiting) ≡ cond (eqb j i) (f to) (f (get_or cards i Waiting))
  unfolding later before
  put_test i = by (cases_eq i j)
    where
      by : (i ≡ j) ⊎ (i ≡ j → ⊥) → later i ≡ cond (eqb j i) (f to) (before i)
      by (inl e) = ap later e ∙ here ∙ sym (cond-true (eqb j i) (f to) (before i) (eq-eqb j i (sym e)))
      by (inr ne) = elsewhere i ne ∙ sym (cond-false (eqb j i) (f to) (before i) (ne_eqb j i (λ e. ne (sym e))))

  -- the card passes now, and did not before
  pub tally_up : j < n → f (get_or cards j Waiting) ≡ false → f to ≡ true
      → tally (λ i. f (get_or (set cards j to) i Waiting)) n ≡ tally (λ i. f (get_or cards i Waiting)) n + 1
  unfolding later before
  tally_up lt no-then yes-now = tally_more before later n j lt no-then (here ∙ yes-now) elsewhere

  -- the card passed before, and does not now
  pub tally_down : j < n → f (get_or cards j Waiting) ≡ true → f to ≡ false
      → tally (λ i. f (get_or cards i Waiting)) n ≡ tally (λ i. f (get_or (set cards j to) i Waiting)) n + 1
  unfolding later before
  tally_down lt yes-then no-now = tally_more later before n j lt (here ∙ no-now) yes-then (λ i ne. sym (elsewhere i ne))

  -- the card passes as it did before
  pub tally_level : f (get_or cards j Waiting) ≡ f to
      → tally (λ i. f (get_or (set cards j to) i Waiting)) n ≡ tally (λ i. f (get_or cards i Waiting)) n
  unfolding later before
  tally_level same = tally_same later before n (λ i _. by i (cases_eq i j))
    where
      by : (i : ℕ) → (i ≡ j) ⊎ (i ≡ j → ⊥) → f (get_or (set cards j to) i Waiting) ≡ f (get_or cards i Waiting)
      by i (inl e) = ap later e ∙ here ∙ sym same ∙ ap before (sym e)
      by i (inr ne) = elsewhere i ne

  -- every card that passes is below n, if that was so before
  pub still_below : j < n → ((i : ℕ) → f (get_or cards i Waiting) ≡ true → i < n)
      → (i : ℕ) → f (get_or (set cards j to) i Waiting) ≡ true → i < n
  unfolding later before
  still_below lt was i passes = by (cases_eq i j)
    where
      by : (i ≡ j) ⊎ (i ≡ j → ⊥) → i < n
      by (inl e) = omega arith
      by (inr ne) = was i (sym (elsewhere i ne) ∙ passes)

-- a card that was out is put elsewhere
pub record Spent (d : State) (j : ℕ) (to : CardState) : Type 0 where
  pub lt : j < d.n
  pub inside : j < length d.cards
  pub long : length (set d.cards j to) ≡ 8
  pub below : (i : ℕ) → is_out (get_or (set d.cards j to) i Waiting) ≡ true → i < d.n
  pub outs : tally (held d).out d.n ≡ tally (λ i. is_out (get_or (set d.cards j to) i Waiting)) d.n + 1
  pub unwritten : is_written (standing d j) ≡ false

pub spent : (d : State) (j : ℕ) (to : CardState) → d.n ≤ 8 → length d.cards ≡ 8
    → ((i : ℕ) → is_out (standing d i) ≡ true → i < d.n) → is_out (standing d j) ≡ true → is_out to ≡ false → Spent d j to
spent d j to small long below is not-now =
    let lt : j < d.n = below j is in
    let inside : j < length d.cards = omega arith in
    record {
      lt = lt;
      inside = inside;
      long = length-set d.cards j to ∙ long;
      below = still_below is_out d.cards d.n j to inside lt below;
      outs = tally_down is_out d.cards d.n j to inside lt is not-now;
      unwritten = out_not_written (standing d j) is;
    }

-- one card further in a count
pub counted_next : (f : CardState → Bool) (d : State) (j count : ℕ) (c : CardState)
    → count ≡ tally (λ i. f (standing d i)) j → standing d j ≡ c → count + cond (f c) 1 0 ≡ tally (λ i. f (standing d i)) (j + 1)
counted_next f d j count c so_far is =
    ap₂ (λ k x. k + cond (f x) 1 0) so_far (sym is) ∙ sym (tally_next (λ i. f (standing d i)) j)

-- of the first n cards as many pass as of the card numbers below n
pub tally_front : (f : CardState → Bool) (cards : List CardState) (n : ℕ) → n ≤ length cards
    → length (filter f (take n cards)) ≡ tally (λ i. f (get_or cards i Waiting)) n
unfolding tally
tally_front f cards zero le = refl
tally_front f cards (suc n) le =
    ap (λ k. length (filter f (take k cards))) (sym (add-one n)) ∙ length-filter_more f cards n Waiting (omega arith)
    ∙ ap (λ k. k + cond (f (get_or cards n Waiting)) 1 0) (tally_front f cards n (omega arith))
