-- When a group of cards opens the key, and when it tells nothing of it. Assumes nothing.
--   Alike    two stores give each card of a group the same data
--   Opens    two deals of one length that give the group the same cards have the same padded key
--   Hides    for every deal and every key of its length exactly one set of dummy keys gives that key the same cards
--   Admits   every group of t cards opens
--   Vets     every group of t − 1 cards hides
use Rattle.std.specs.Prelude.{◌≡◌, ℕ, ◌-◌, List}
use Rattle.field.specs.Codes.{Operations}
use Rattle.sharing.specs.Groups.{Group, Holds}
use Rattle.sharing.specs.Scheme.{Plan, Key, Dummies, Deal, lanes, padded, store, card}

abbrev pub Alike : Operations → Plan → (b : ℕ) → List ℕ → (s s' : List ℕ) → Type 0
Alike o p b g s s' = (j : ℕ) → Holds g j → card o p b s j ≡ card o p b s' j

abbrev pub Opens : Operations → Plan → List ℕ → Type 0
Opens o p g =
    (L : ℕ) (key dummies key' dummies' : List ℕ) → Deal o p L key dummies → Deal o p L key' dummies'
    → Alike o p (lanes p.t L) g (store p.t L key dummies) (store p.t L key' dummies')
    → padded p.t L key ≡ padded p.t L key'

-- dummy keys that give another key the same cards in the group
abbrev pub Fits : Operations → Plan → (L : ℕ) → List ℕ → (s key dummies : List ℕ) → Type 0
Fits o p L g s key dummies =
    Dummies o p.t L dummies × Alike o p (lanes p.t L) g s (store p.t L key dummies)

abbrev pub Hides : Operations → Plan → List ℕ → Type 0
Hides o p g =
    (L : ℕ) (key dummies key' : List ℕ) → Deal o p L key dummies → Key o L key'
    → (found : List ℕ) × Fits o p L g (store p.t L key dummies) key' found
    × ((other : List ℕ) → Fits o p L g (store p.t L key dummies) key' other → other ≡ found)

abbrev pub Admits : Operations → Plan → Type 0
Admits o p = (g : List ℕ) → Group p.n p.t g → Opens o p g

abbrev pub Vets : Operations → Plan → Type 0
Vets o p = (g : List ℕ) → Group p.n (p.t - 1) g → Hides o p g
