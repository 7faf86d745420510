-- The lines of a key and its dummy keys in a text. Assumes nothing.
--   KeyLines    the text begins with a key line and the lines of its dummy keys
--   Unkeyed     the answer to a text that does not
use Rattle.std.specs.Prelude.{◌≡◌, ℕ, ◌+◌, ◌-◌, List, length, Err}
use Rattle.lines.specs.Lines.{padded, reading}
use Rattle.lines.specs.declared.fault.Fault.{Fault}
use Rattle.lines.specs.declared.kind.Kind.TheVariants as kind
use Rattle.lines.specs.declared.wanted.Wanted.TheVariants as wanted
use Rattle.programs.specs.Answers.{Answer, at_line}
use Rattle.programs.specs.Texts.{Block, Broken, KeyHead}

-- each of the t − 1 dummy keys has as many numbers as the padded key
pub record KeyLines (t mark : ℕ) (key dummies text rest : List ℕ) : Type 0 where
  pub middle : List ℕ
  pub key_is : KeyHead mark key text middle
  pub dummies_are : Block kind.Dummy (padded t (length key)) (t - 1) middle dummies rest

-- the key line has the number `line`
pub data Unkeyed (t line : ℕ) (text : List ℕ) (a : Answer) : Type 0 where
  no_key : (f : Fault) → reading wanted.Key text ≡ Err f → a ≡ at_line f line → Unkeyed t line text a
  no_dummy : (mark : ℕ) (key middle : List ℕ) → KeyHead mark key text middle → (k : ℕ) (f : Fault)
      → Broken (wanted.Dummy t (length key)) (t - 1) k middle f → a ≡ at_line f (line + 1 + k) → Unkeyed t line text a
