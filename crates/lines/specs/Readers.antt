-- Where a reader stands in its text, and how it steps on. Assumes nothing.
use Rattle.std.specs.Prelude.{ℕ, ◌+◌, ◌-◌, ◌^◌, min, cond, List, length, take, drop, Ok, Err, Result, ◌==◌, nat_lt}
use Rattle.lines.specs.Lines.{head}
use Rattle.lines.specs.declared.fault.Fault.{Fault}
use Rattle.lines.specs.declared.fault.Fault.TheVariants.{Excess}
use Rattle.lines.specs.declared.reader.Reader.{Reader}

-- the longest text that is read
abbrev pub longest_text : ℕ
longest_text = 4096

-- a text, where in it the next line begins, and the number of that line, from 0
pub record Stand : Type 0 where
  pub text : List ℕ
  pub start : ℕ
  pub number : ℕ

abbrev pub standing : Reader → Stand
standing r = record { text = r.text.now; start = r.start; number = r.number }

-- what is left of the text
abbrev pub left : Stand → List ℕ
left s = drop s.start s.text

-- past the next line and the byte that closes it; the number stops at the largest that fits a machine word
abbrev pub stepped : Stand → Stand
stepped s = record {
  text = s.text;
  start = s.start + (length (head (left s)) + 1);
  number = min (s.number + 1) (2 ^ 64 - 1);
}

-- the text of the line at the head of a text, with the byte that closes it; all of the text where nothing closes it
abbrev pub line_text : List ℕ → List ℕ
line_text text = take (length (head text) + 1) text

-- past the text of the next line, whatever it holds
abbrev pub skipped : Stand → Stand
skipped s = record {
  text = s.text;
  start = s.start + length (line_text (left s));
  number = min (s.number + 1) (2 ^ 64 - 1);
}

-- a reader that was asked for stands at the start, unless the text is too long
abbrev pub opening : List ℕ → Result Stand Fault
opening text = cond (nat_lt longest_text (length text)) (Err Excess) (Ok (record { text = text; start = 0; number = 0 }))

-- what came, with a reader by where it stands
abbrev pub opened : Result Reader Fault → Result Stand Fault
opened (Ok r) = Ok (standing r)
opened (Err f) = Err f

-- nothing is left after the last line wanted
abbrev pub ending : List ℕ → Result (Unit {0}) Fault
ending text = cond (length text == 0) (Ok tt) (Err Excess)
