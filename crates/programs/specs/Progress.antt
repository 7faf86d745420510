-- How far the writing of a deal's cards has come. Assumes nothing.
--   Ready   a deal whose first j cards are written, and the others wait
use Rattle.std.specs.Prelude.{◌≡◌, ℕ, ◌<◌, cond, length, nat_lt}
use Rattle.sharing.specs.Scheme.{Plan}
use Rattle.deal.specs.Calls.{standing}
use Rattle.deal.specs.declared.state.State.{State}
use Rattle.deal.specs.declared.state.CardState.TheVariants.{Waiting, Written}

pub record Ready (p : Plan) (L j : ℕ) (d : State) : Type 0 where
  pub t : d.t ≡ p.t
  pub n : d.n ≡ p.n
  pub len : d.len ≡ L
  pub long : length d.cards ≡ 8
  pub cards : (i : ℕ) → i < 8 → standing d i ≡ cond (nat_lt i j) Written Waiting
  pub granted : d.granted ≡ j
