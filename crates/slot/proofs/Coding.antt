-- The numbers of the cards held are codes, and stay so. Assumes nothing.
use Rattle.std.proofs.Common.{◌≡◌, ℕ, ◌+◌, ◌*◌, ◌<◌, List, [], ◌∷◌, length, get_or, set, is_some, Some, None, Option, unwrap_or, sym, ap, ◌∙◌, subst, ⊎_elim, arith}
use Rattle.std.proofs.lemmas.List.{get_or_past, get_or-set_other, get_or-set_same, length-set}
use Rattle.std.proofs.lemmas.Bool.{cases_eq, cases_lt}
use Rattle.field.specs.Codes.{Operations}
use Rattle.field.specs.declared.refusal.Refusal.TheVariants.{DataCode}
use Rattle.lines.specs.Lines.{Content}
use Rattle.sharing.specs.Scheme.{Codes}
use Rattle.sharing.proofs.Stores.{codes_all, codes_append}
use Rattle.plan_check.specs.Faults.{first_no_code}
use Rattle.plan_check.proofs.Faults.{all_codes, none_missing, none_no_code}
use Rattle.slot.specs.Holdings.{Cards, Holding}
use Rattle.slot.specs.Inserts.{card_table, differs, heading_of, held_at, inserted, number_of, pulled}
use Rattle.slot.specs.Refusals.{foremost}
use Rattle.slot.specs.Unlocks.{Coded, data_held}
use Rattle.slot.specs.declared.refusal.SlotRefusal.TheVariants.{HeldAlready, OtherDeal, Shared}
use Rattle.slot.proofs.Inserting.{passed}

abbrev Coding : Operations → Option (List ℕ) → Type 0
Coding o c = Codes o (unwrap_or c [])

nothing-coded : (o : Operations) → Coding o None
nothing-coded o i lt = absurd (omega arith)

-- what holds of every place, and of an empty one, still does with another card in a place
pub placed_set : (P : ℕ → Option (List ℕ) → Type 0) (cards : Cards) (j : ℕ) (c : Option (List ℕ)) → ((k : ℕ) → P k None) → P j c
    → ((k : ℕ) → P k (get_or cards k None)) → (k : ℕ) → P k (get_or (set cards j c) k None)
placed_set P cards j c none new old k =
    ⊎_elim
    (λ is.
    ⊎_elim
    (λ lt. subst (P k) (sym (ap (λ i. get_or (set cards j c) i None) is ∙ get_or-set_same cards j c None lt)) (subst (λ i. P i c) (sym is) new))
    (λ past. subst (P k) (sym (get_or_past (set cards j c) k None (omega (arith, length-set cards j c)))) (none k))
    (cases_lt j (length cards)))
    (λ ne. subst (P k) (sym (get_or-set_other cards j k c None ne)) (old k))
    (cases_eq k j)

coded_set : (o : Operations) (cards : Cards) (j : ℕ) (c : Option (List ℕ)) → Coding o c → ((k : ℕ) → Coding o (get_or cards k None))
    → (k : ℕ) → Coding o (get_or (set cards j c) k None)
coded_set o cards j c new old = placed_set (λ k. Coding o) cards j c (λ k. nothing-coded o) new old

-- a card of which nothing is refused is put in
pub coded-inserted : (o : Operations) (s : Holding) (c : Content) → foremost (card_table o s c) ≡ None → Coded o s → Coded o (inserted s c)
coded-inserted o s c none coded =
    let first = first_no_code o c.numbers in
    let rest = (differs s.first (heading_of c), OtherDeal) ∷ (is_some (held_at s (number_of c)), HeldAlready (number_of c)) ∷ [] in
    let fine = (passed (is_some first) (Shared (DataCode (256 * number_of c + unwrap_or first 0))) rest none).0 in
    coded_set o s.cards (number_of c) (Some c.numbers) (all_codes o c.numbers (none_missing first fine)) coded

-- a card is taken out
pub coded-pulled : (o : Operations) (s : Holding) (j : ℕ) → Coded o s → Coded o (pulled s j)
coded-pulled o s j coded = coded_set o s.cards j None (nothing-coded o) coded

data_coded : (o : Operations) → 0 < o.size → (cards : Cards) → ((k : ℕ) → Coding o (get_or cards k None))
    → (ns : List ℕ) (i : ℕ) → get_or (data_held cards ns) i 0 < o.size
data_coded o some cards coded [] i = some
data_coded o some cards coded (j ∷ ns) i =
    codes_append o (unwrap_or (get_or cards j None) []) (data_held cards ns) (codes_all o some (unwrap_or (get_or cards j None) []) (coded j))
    (data_coded o some cards coded ns) i

-- the data of any cards are codes
pub data_codes : (o : Operations) → 0 < o.size → (s : Holding) → Coded o s → (ns : List ℕ) → first_no_code o (data_held s.cards ns) ≡ None
data_codes o some s coded ns = none_no_code o (data_held s.cards ns) (λ i lt. data_coded o some s.cards coded ns i)
