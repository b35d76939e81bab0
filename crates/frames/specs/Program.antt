-- The program as a function from the bytes of standard input to the bytes of standard output. Definitions only.
--
--   program_output   what the program writes for an input
use Rattle.std.specs.Prelude.{ℕ, cond, List, ltb, length, drop}
use Rattle.netpbm.specs.Reading.{Answer, Refused, Frame, read_answer}
use Rattle.printing.specs.Printing.{greatest_frame, refusal_line, enhanced_frame}

-- the greatest number of bytes of an input
abbrev pub greatest_input : ℕ
greatest_input = 65536

-- what is written for what reading the input answers
abbrev pub output_for : List ℕ → Answer → List ℕ
output_for input (Refused number) = refusal_line number
output_for input (Frame w h offset) = enhanced_frame (drop offset input) w h

-- an input that is too long gets 13 before all else
unfoldable pub program_output : List ℕ → List ℕ
program_output input =
    cond (ltb greatest_input (length input)) (refusal_line 13) (output_for input (read_answer input greatest_frame))
