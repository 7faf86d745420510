-- What Begin and Write ask of a store, as lines of a call's table. Assumes nothing.
--   store_rules    a store of the wrong length, or with a number that is no code
--   stray_padding  the index of the first number of the padding that is not zero
--   begin_rules    every refusal of Begin, in order
use Rattle.std.specs.Prelude.{ℕ, ◌*◌, not, ◌&&◌, List, [], ◌∷◌, ◌++◌, length, is_some, Option, ◌==◌, nat_le, slice_index}
use Rattle.std.specs.Option.{unwrap_or}
use Rattle.field.specs.Codes.{Operations, first}
use Rattle.field.specs.Refusals.{Rule}
use Rattle.sharing.specs.Scheme.{Plan, lanes}
use Rattle.plan_check.specs.Faults.{first_no_code, faults}

-- a line that applies where there is an index at fault, and carries it
abbrev pub at_fault : ℕ → Option ℕ → Rule
at_fault number index = (number, is_some index, unwrap_or index 0)

abbrev pub store_rules : Operations → (t L : ℕ) → List ℕ → List Rule
store_rules o t L s = (0x18, not (length s == t * (t * lanes t L)), 0) ∷ at_fault 0x19 (first_no_code o s) ∷ []

-- the padding follows the L numbers of the key, up to t times b
abbrev pub stray_padding : (t L : ℕ) → List ℕ → Option ℕ
stray_padding t L s = first (λ i. nat_le L i && not (slice_index s i == 0)) (t * lanes t L)

abbrev pub begin_rules : Operations → Plan → (L : ℕ) → List ℕ → List Rule
begin_rules o p L s =
    faults o p
    ++ (0x17, not (nat_le 1 L && nat_le L 64), 0) ∷ (store_rules o p.t L s ++ at_fault 0x1A (stray_padding p.t L s) ∷ [])
