-- What the two checks of a plan answer: Admit, whether groups of t cards open the key, and Vet, whether groups of t − 1
-- cards hide it. Assumes nothing.
--   group_size   how many cards the groups have that a check looks at
--   Passes       a group has the property that is checked
--   failure      the number of the refusal that names a group without it
--   AllPass      every group of that size has the property
--   table        what a check looks at before any group: the plan's faults, then a workspace that is too short
--   Searched     what is answered after that: granted if all groups pass, else the first one that does not
--   Settled      the answers once it is known what the table refuses: that, or else what the groups decide
--   Allowed      the answers of a check
--   Grants       a check grants exactly a sound plan all of whose groups pass, given enough workspace
--   OnlyAnswer   no other answer is allowed
--   cleared      what the workspace holds after a check: zeros, or what it held where it is too short
use Rattle.std.specs.Prelude.{◌≡◌, ℕ, ◌-◌, ◌≤◌, cond, ◌↔◌, List, [], ◌∷◌, ◌++◌, length, replicate, Some, None, Option, nat_lt}
use Rattle.field.specs.Codes.{Operations}
use Rattle.field.specs.Refusals.{Rule, foremost}
use Rattle.sharing.specs.Groups.{FirstBad, bits}
use Rattle.sharing.specs.Scheme.{Plan, Sound}
use Rattle.sharing.specs.Secrecy.{Opens, Hides, Admits, Vets}
use Rattle.plan_check.specs.declared.property.Property.{Property}
use Rattle.plan_check.specs.declared.property.Property.TheVariants.{Opening, Hiding}
use Rattle.plan_check.specs.Faults.{faults}

abbrev pub group_size : Property → (t : ℕ) → ℕ
group_size Opening t = t
group_size Hiding t = t - 1

abbrev pub Passes : Property → Operations → Plan → List ℕ → Type 0
Passes Opening o p g = Opens o p g
Passes Hiding o p g = Hides o p g

abbrev pub failure : Property → ℕ
failure Opening = 0x15
failure Hiding = 0x16

abbrev pub AllPass : Property → Operations → Plan → Type 0
AllPass Opening o p = Admits o p
AllPass Hiding o p = Vets o p

abbrev pub table : Operations → Plan → (room : ℕ) → List Rule
table o p room = faults o p ++ (0x13, nat_lt room 4096, 0) ∷ []

abbrev pub Searched : Property → Operations → Plan → Option (ℕ × ℕ) → Type 0
Searched w o p None = AllPass w o p
Searched w o p (Some r) =
    (g : List ℕ) × FirstBad (Passes w o p) p.n (group_size w p.t) g × (r ≡ (failure w, bits g))

abbrev pub Settled : Property → Operations → Plan → (fault answer : Option (ℕ × ℕ)) → Type 0
Settled w o p (Some r) answer = answer ≡ Some r
Settled w o p None answer = Searched w o p answer

abbrev pub Allowed : Property → Operations → Plan → (room : ℕ) → Option (ℕ × ℕ) → Type 0
Allowed w o p room answer = Settled w o p (foremost (table o p room)) answer

abbrev pub Grants : Property → Operations → Plan → (room : ℕ) → Option (ℕ × ℕ) → Type 0
Grants w o p room answer = (answer ≡ None) ↔ (Sound o p × (4096 ≤ room) × AllPass w o p)

abbrev pub OnlyAnswer : Property → Operations → Plan → (room : ℕ) → Option (ℕ × ℕ) → Type 0
OnlyAnswer w o p room answer = (other : Option (ℕ × ℕ)) → Allowed w o p room other → other ≡ answer

abbrev pub cleared : List ℕ → List ℕ
cleared xs = cond (nat_lt (length xs) 4096) xs (replicate (length xs) 0)
