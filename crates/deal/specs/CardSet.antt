-- All that is promised of the check and of a deal, in one statement. Assumes nothing.
--   CardSet   a plan is admitted exactly when every group of t opens, and vetted exactly when every group of t − 1 hides; else
--             the answer names the first group that does not; and both laws of a deal stand
use Rattle.std.specs.Prelude.{ℕ, Option}
use Rattle.field.specs.Codes.{Operations}
use Rattle.sharing.specs.Scheme.{Plan}
use Rattle.plan_check.specs.declared.property.Property.TheVariants.{Opening, Hiding}
use Rattle.plan_check.specs.Checks.{Allowed, Grants, OnlyAnswer}
use Rattle.deal.specs.Onlooker.{DealLaws}

-- Allowed is what the contracts of Admit and Vet say of an answer: the first fault in their table, else the first group that
-- fails, else none
pub record CardSet (o : Operations) : Type 0 where
  -- Admit grants exactly a sound plan that every group of t opens, given room enough
  pub admits : (p : Plan) (room : ℕ) (answer : Option (ℕ × ℕ)) → Allowed Opening o p room answer → Grants Opening o p room answer
  -- and it has no choice what to answer
  pub admits_only : (p : Plan) (room : ℕ) (answer : Option (ℕ × ℕ)) → Allowed Opening o p room answer → OnlyAnswer Opening o p room answer
  -- Vet grants exactly a sound plan that every group of t − 1 hides, given room enough
  pub vets : (p : Plan) (room : ℕ) (answer : Option (ℕ × ℕ)) → Allowed Hiding o p room answer → Grants Hiding o p room answer
  pub vets_only : (p : Plan) (room : ℕ) (answer : Option (ℕ × ℕ)) → Allowed Hiding o p room answer → OnlyAnswer Hiding o p room answer
  -- the law of accounts and the law of the onlooker
  pub deals : DealLaws o
