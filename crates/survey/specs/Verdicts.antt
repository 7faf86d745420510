-- What is found of the plan of the Cauchy rows for t of n. Assumes nothing.
--   cauchy_plan   the plan: t, n and the Cauchy rows
--   Named         bits name the first group that lacks a property
--   Judged        what a verdict says of it
--   OnlyVerdict   no other verdict says what is so
use Rattle.std.specs.Prelude.{◌≡◌, ℕ, ◌-◌, true, false, List}
use Rattle.field.specs.Codes.{Operations}
use Rattle.field.specs.Rows.{within, cauchy_rows}
use Rattle.sharing.specs.Groups.{FirstBad, bits}
use Rattle.sharing.specs.Scheme.{Plan, plan_of}
use Rattle.sharing.specs.Secrecy.{Opens, Hides, Admits, Vets}
use Rattle.survey.specs.declared.verdict.Verdict.{Verdict}
use Rattle.survey.specs.declared.verdict.Verdict.TheVariants.{OutOfLimits, NotAdmitted, Tells, Vetted}

abbrev pub cauchy_plan : Operations → (t n : ℕ) → Plan
cauchy_plan o t n = plan_of t n (cauchy_rows o t n)

-- b is the bits of the first group of k of n cards, in dictionary order, that lacks a property
abbrev pub Named : (List ℕ → Type 0) → (n k b : ℕ) → Type 0
Named Good n k b = (g : List ℕ) × FirstBad Good n k g × (b ≡ bits g)

abbrev pub Judged : Operations → (t n : ℕ) → Verdict → Type 0
Judged o t n OutOfLimits = within t n ≡ false
Judged o t n (NotAdmitted b) = (within t n ≡ true) × Named (Opens o (cauchy_plan o t n)) n t b
Judged o t n (Tells b) = (within t n ≡ true) × Admits o (cauchy_plan o t n) × Named (Hides o (cauchy_plan o t n)) n (t - 1) b
Judged o t n Vetted = (within t n ≡ true) × Admits o (cauchy_plan o t n) × Vets o (cauchy_plan o t n)

abbrev pub OnlyVerdict : Operations → (t n : ℕ) → Verdict → Type 0
OnlyVerdict o t n verdict = (other : Verdict) → Judged o t n other → other ≡ verdict
