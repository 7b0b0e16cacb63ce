-- The text that `bridgecheck` prints (01, "Logger cases"), as ASCII bytes.
-- Assumes nothing.
use Rattle.std.specs.Prelude.{ℕ, zero, suc, ◌+◌, ◌/◌, ◌%◌, List, [], ◌∷◌, ◌++◌, length, drop, ltb}
use Rattle.base.specs.Choice.{pick}
use Rattle.base.specs.Outcome.{Outcome, on_outcome}
use Rattle.base.specs.Outcome.Outcome.{value, refused}
use Rattle.base.specs.Formula.{decide}
use Rattle.base.specs.Lengths.{is_certificate_length}
use Rattle.hex_write.specs.ImageText.{hex_digit}
use Rattle.certificate.specs.declared.Verdict.{Verdict}
use Rattle.certificate.specs.declared.Verdict.TheVariants.{Accepted, Refused}
use Rattle.certificate.specs.Layout.{Certificate, certificate_of}
use Rattle.safety.specs.Rules.{used}

-- a number in decimal with no zeros in front. It has at most k digits
unfoldable pub decimal : ℕ → ℕ → List ℕ
decimal zero x = []
decimal (suc k) x = pick (ltb x 10) ((x + 48) ∷ []) (decimal k (x / 10) ++ ((x % 10 + 48) ∷ []))

-- a number, and the character behind it
unfoldable pub number_text : ℕ → ℕ → ℕ → List ℕ
number_text k x end = decimal k x ++ (end ∷ [])

-- an address in four upper-case hexadecimal digits, and the character behind it
abbrev pub address_text : ℕ → ℕ → List ℕ
address_text x end = hex_digit (x / 4096) ∷ hex_digit (x / 256 % 16) ∷ hex_digit (x / 16 % 16) ∷ hex_digit (x % 16) ∷ end ∷ []

abbrev pub space : ℕ
space = 32

abbrev pub line_end : ℕ
line_end = 10

-- routine, start, need, bound
unfoldable pub row_text : Certificate → ℕ → List ℕ
row_text C n =
    number_text 2 n space
    ++ (address_text (C.start n) space ++ (number_text 3 (C.need n) space ++ number_text 5 (C.bound n) line_end))

-- nothing for a routine that is not used
abbrev pub routine_text : Certificate → ℕ → List ℕ
routine_text C n = pick (decide (used C n)) (row_text C n) []

-- routines 1 to n
unfoldable pub rows_text : Certificate → ℕ → List ℕ
rows_text C zero = []
rows_text C (suc n) = rows_text C n ++ routine_text C (suc n)

-- `accepted` and LF
abbrev pub accepted_word : List ℕ
accepted_word = 97 ∷ 99 ∷ 99 ∷ 101 ∷ 112 ∷ 116 ∷ 101 ∷ 100 ∷ 10 ∷ []

-- `refused` and a space
abbrev pub refused_word : List ℕ
refused_word = 114 ∷ 101 ∷ 102 ∷ 117 ∷ 115 ∷ 101 ∷ 100 ∷ 32 ∷ []

unfoldable pub accepted_text : Certificate → List ℕ
accepted_text C = accepted_word ++ rows_text C 63

unfoldable pub refused_text : ℕ → ℕ → List ℕ
refused_text number address = refused_word ++ (number_text 3 number space ++ address_text address line_end)

abbrev pub report_text : Verdict → Certificate → List ℕ
report_text Accepted C = accepted_text C
report_text (Refused number address) C = refused_text number address.0

-- the longest text: `accepted`, and 63 rows of at most 18 bytes
abbrev pub longest_report : ℕ
longest_report = 1143

-- the length of the text; 7: a certificate of another length, or too short a buffer
unfoldable pub report_answer : Verdict → List ℕ → ℕ → Outcome ℕ
report_answer verdict cert room =
    pick (is_certificate_length (length cert))
    (pick (ltb room longest_report) (refused 7) (value (length (report_text verdict (certificate_of cert)))))
    (refused 7)

-- the buffer behind it: the text at its front, unchanged where it is refused
unfoldable pub report_buffer : Verdict → List ℕ → List ℕ → List ℕ
report_buffer verdict cert out =
    on_outcome (report_answer verdict cert (length out)) (λ n. report_text verdict (certificate_of cert) ++ drop n out) (λ number. out)
