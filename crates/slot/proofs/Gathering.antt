-- The numbers of the cards held, lowest first, and how the data of cards are laid out one after the other. Assumes nothing.
use Rattle.std.proofs.Common.{◌≡◌, ℕ, suc, ◌+◌, ◌*◌, ◌<◌, ◌≤◌, Bool, cond, List, [], ◌∷◌, ◌++◌, length, get_or, take, is_some, Some, None, Option, unwrap_or, sym, refl, ap, ◌∙◌, append_assoc, add-mul, one-mul, arith, length-take}
use Rattle.std.specs.List.{filter, range_with_len}
use Rattle.std.proofs.lemmas.List.{append-nil, length_push}
use Rattle.std.proofs.lemmas.List.Sums.{count_by-le-length, sum_by-cons}
use Rattle.slot.specs.Holdings.{Cards, count}
use Rattle.slot.specs.States.{laid}
use Rattle.slot.specs.Unlocks.{numbers_held, lowest, data_held}
use Rattle.slot.proofs.Windows.{laid_front}

abbrev held_one : Option (List ℕ) → ℕ
held_one c = cond (is_some c) 1 0

-- there are as many numbers as cards held
pub length-numbers : (k : ℕ) (cards : Cards) → length (numbers_held k cards) ≡ count cards
length-numbers k [] = refl
length-numbers k (Some d ∷ cards) = omega (arith, length-numbers (suc k) cards, sum_by-cons held_one (Some d) cards)
length-numbers k (None ∷ cards) = omega (arith, length-numbers (suc k) cards, sum_by-cons held_one None cards)

pub lowest_most : (t : ℕ) (cards : Cards) → length (lowest t cards) ≤ length cards
lowest_most t cards =
    omega (arith, length-take t (numbers_held 0 cards), length-numbers 0 cards, count_by-le-length is_some cards)

-- they are the places that have a card
pub numbers_filtered : (test : ℕ → Bool) (k : ℕ) (cards : Cards) → ((i : ℕ) → i < length cards → test (k + i) ≡ is_some (get_or cards i None))
    → filter test (range_with_len k (length cards)) ≡ numbers_held k cards
numbers_filtered test k [] same = refl
numbers_filtered test k (c ∷ cards) same =
    let rest = numbers_filtered test (k + 1) cards (λ i h. ap test (omega arith) ∙ same (suc i) (omega (arith, h))) in
    ap (λ b. cond b (k ∷ filter test (range_with_len (k + 1) (length cards))) (filter test (range_with_len (k + 1) (length cards))))
    (ap test (omega arith) ∙ same 0 (omega arith))
    ∙ by_card c
    ∙ ap (λ l. cond (is_some c) (k ∷ []) [] ++ l) (rest ∙ ap (λ i. numbers_held i cards) (omega arith))
  where
    by_card : (d : Option (List ℕ))
        → cond (is_some d) (k ∷ filter test (range_with_len (k + 1) (length cards))) (filter test (range_with_len (k + 1) (length cards)))
        ≡ cond (is_some d) (k ∷ []) [] ++ filter test (range_with_len (k + 1) (length cards))
    by_card (Some d) = refl
    by_card None = refl

-- the data of cards and of some more cards
pub data_append : (cards : Cards) (xs ys : List ℕ) → data_held cards (xs ++ ys) ≡ data_held cards xs ++ data_held cards ys
data_append cards [] ys = refl
data_append cards (j ∷ xs) ys =
    ap (λ l. unwrap_or (get_or cards j None) [] ++ l) (data_append cards xs ys)
    ∙ sym (append_assoc (unwrap_or (get_or cards j None) []) (data_held cards xs) (data_held cards ys))

-- the data of some cards are laid out, and one more card's are laid behind them
pub data_more : (cards : Cards) (numbers : List ℕ) (len j : ℕ) (ns «data» : List ℕ) → take (length numbers * len) «data» ≡ data_held cards numbers
    → get_or cards j None ≡ Some ns → length ns ≡ len → length numbers * len + length ns ≤ length «data»
    → take (length (numbers ++ j ∷ []) * len) (laid «data» (length numbers * len) ns) ≡ data_held cards (numbers ++ j ∷ [])
data_more cards numbers len j ns «data» before here long fits =
    ap (λ k. take k (laid «data» (length numbers * len) ns))
    (ap (λ k. k * len) (length_push numbers j) ∙ add-mul (length numbers) 1 len ∙ omega (arith, long, one-mul len))
    ∙ laid_front «data» (length numbers * len) ns fits
    ∙ ap (λ l. l ++ ns) before
    ∙ ap (λ l. data_held cards numbers ++ l) (sym (append-nil ns) ∙ ap (λ c. unwrap_or c [] ++ []) (sym here))
    ∙ sym (data_append cards numbers (j ∷ []))
