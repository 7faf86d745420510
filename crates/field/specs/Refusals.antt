-- How a call refuses: every refusal's number and what it carries, and the order in which a call looks for one.
-- Assumes nothing.
--   listing   the number of each refusal, as two hexadecimal digits say it, and what it carries
--   refused   the number and the carried value of an answer that is a refusal
--   Rule      a number, whether its condition holds, what it carries: one line of a call's table
--   foremost  the first line of a table whose condition holds
use Rattle.std.specs.Prelude.{ℕ, Bool, cond, List, [], ◌∷◌, Some, None, Ok, Err, Option, Result}
use Rattle.field.specs.declared.refusal.Refusal.{Refusal}
use Rattle.field.specs.declared.refusal.Refusal.TheVariants.{PlanLimits, RowsLength, RowCode, Workspace, GroupShut, GroupTells, KeyLength, StoreLength, StoreCode, StorePadding, NoCard, CardOut, CardWritten, NotOut, WriteMismatch, PlaceLength, AllGranted, CardCount, NumberBeyond, NumberTwice, LengthBeyond, DataLength, DataCode, KeyPlace, OpeningRoom, KeyPadding}

abbrev pub listing : Refusal → ℕ × ℕ
listing PlanLimits = (0x10, 0)
listing RowsLength = (0x11, 0)
listing (RowCode i) = (0x12, i)
listing Workspace = (0x13, 0)
listing (GroupShut g) = (0x15, g)
listing (GroupTells g) = (0x16, g)
listing KeyLength = (0x17, 0)
listing StoreLength = (0x18, 0)
listing (StoreCode i) = (0x19, i)
listing (StorePadding i) = (0x1A, i)
listing (NoCard j) = (0x20, j)
listing (CardOut j) = (0x21, j)
listing (CardWritten j) = (0x22, j)
listing (NotOut j) = (0x23, j)
listing WriteMismatch = (0x24, 0)
listing PlaceLength = (0x25, 0)
listing AllGranted = (0x26, 0)
listing CardCount = (0x30, 0)
listing (NumberBeyond j) = (0x31, j)
listing (NumberTwice j) = (0x32, j)
listing LengthBeyond = (0x33, 0)
listing DataLength = (0x34, 0)
listing (DataCode x) = (0x35, x)
listing KeyPlace = (0x36, 0)
listing OpeningRoom = (0x37, 0)
listing (KeyPadding i) = (0x38, i)

abbrev pub refused : {T : Type 0} → Result T Refusal → Option (ℕ × ℕ)
refused (Ok x) = None
refused (Err e) = Some (listing e)

abbrev pub Rule : Type 0
Rule = ℕ × Bool × ℕ

abbrev pub foremost : List Rule → Option (ℕ × ℕ)
foremost [] = None
foremost (r ∷ rest) = cond r.1 (Some (r.0, r.2)) (foremost rest)
