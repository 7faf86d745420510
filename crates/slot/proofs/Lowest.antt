-- The t lowest cards of a slot that holds t cards or more: their numbers differ and are below n, their data are as long as
-- those of t cards. Assumes nothing.
use Rattle.std.proofs.Common.{◌≡◌, ℕ, zero, suc, ◌+◌, ◌*◌, ◌<◌, ◌≤◌, true, List, [], ◌∷◌, ◌++◌, length, get_or, take, is_some, Some, None, unwrap_or, sym, refl, ◌∙◌, subst, ap₂, suc-mul, zero-mul, arith, length-append}
use Rattle.std.specs.List.{AllByRecursion}
use Rattle.std.proofs.ByRecursion.{All-take}
use Rattle.std.proofs.lemmas.List.{length-take-le}
use Rattle.field.specs.Codes.{Operations}
use Rattle.sharing.specs.Scheme.{Plan, card}
use Rattle.plan_check.proofs.Ranks.{Run, run_group, run_wider}
use Rattle.opening.specs.Answers.{data_of}
use Rattle.opening.proofs.Faultless.{Numbered}
use Rattle.slot.specs.Holdings.{Cards, count}
use Rattle.slot.specs.Unlocks.{data_held, lowest, numbers_held}
use Rattle.slot.proofs.Gathering.{length-numbers}

-- the numbers ascend, and are below n if those of the cards held are
numbers_run : (k n : ℕ) (cards : Cards) → ((i : ℕ) → is_some (get_or cards i None) ≡ true → k + i < n) → Run k n (numbers_held k cards)
numbers_run k n [] below = tt
numbers_run k n (Some d ∷ cards) below =
    (omega arith, omega (arith, below 0 refl), numbers_run (suc k) n cards (λ i e. omega (arith, below (suc i) e)))
numbers_run k n (None ∷ cards) below =
    run_wider k n (numbers_held (suc k) cards) (numbers_run (suc k) n cards (λ i e. omega (arith, below (suc i) e)))

run_take : (t c n : ℕ) (g : List ℕ) → Run c n g → Run c n (take t g)
run_take zero c n g run = tt
run_take (suc t) c n [] run = tt
run_take (suc t) c n (j ∷ g) run = (run.0, run.1, run_take t (suc j) n g run.2)

-- what holds of every card held holds of the numbers
numbers_all : (P : ℕ → Type 0) (k : ℕ) (cards : Cards) → ((i : ℕ) → is_some (get_or cards i None) ≡ true → P (k + i)) → AllByRecursion P (numbers_held k cards)
numbers_all P k [] each = tt
numbers_all P k (Some d ∷ cards) each =
    (subst P (omega arith) (each 0 refl), numbers_all P (suc k) cards (λ i e. subst P (omega arith) (each (suc i) e)))
numbers_all P k (None ∷ cards) each = numbers_all P (suc k) cards (λ i e. subst P (omega arith) (each (suc i) e))

pub lowest_all : (P : ℕ → Type 0) (t : ℕ) (cards : Cards) → ((j : ℕ) → is_some (get_or cards j None) ≡ true → P j) → AllByRecursion P (lowest t cards)
lowest_all P t cards each =
    All-take P t (numbers_held 0 cards) (numbers_all P 0 cards (λ i e. subst P (omega arith) (each i e)))

pub length-lowest : (t : ℕ) (cards : Cards) → t ≤ count cards → length (lowest t cards) ≡ t
length-lowest t cards enough = length-take-le t (numbers_held 0 cards) (omega (arith, length-numbers 0 cards))

pub lowest_numbered : (t n : ℕ) (cards : Cards) → t ≤ count cards → ((j : ℕ) → is_some (get_or cards j None) ≡ true → j < n)
    → Numbered t n (lowest t cards)
lowest_numbered t n cards enough below =
    let run = run_take t 0 n (numbers_held 0 cards) (numbers_run 0 n cards (λ i e. omega (arith, below i e))) in
    let group = run_group n t (lowest t cards) (length-lowest t cards enough) run in
    record {
      count = group.0;
      below = group.1;
      different = λ i h lt inside same. omega (arith, group.2 i h lt inside);
    }

-- cards of one length
pub length_data : (cards : Cards) (len : ℕ) (ns : List ℕ) → AllByRecursion (λ j. length (unwrap_or (get_or cards j None) []) ≡ len) ns
    → length (data_held cards ns) ≡ length ns * len
length_data cards len [] each = sym (zero-mul len)
length_data cards len (j ∷ ns) each =
    length-append (unwrap_or (get_or cards j None) []) (data_held cards ns)
    ∙ omega (arith, each.0, length_data cards len ns each.1, suc-mul (length ns) len)

-- cards of a store
pub data_written : (o : Operations) (p : Plan) (b : ℕ) (store : List ℕ) (cards : Cards) (ns : List ℕ)
    → AllByRecursion (λ j. unwrap_or (get_or cards j None) [] ≡ card o p b store j) ns → data_held cards ns ≡ data_of o p b store ns
data_written o p b store cards [] each = refl
data_written o p b store cards (j ∷ ns) each = ap₂ (λ xs ys. xs ++ ys) each.0 (data_written o p b store cards ns each.1)
