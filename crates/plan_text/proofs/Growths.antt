-- A text that grows: bytes added in two steps are added in one, and bytes that fit stand behind its own.
use Rattle.std.proofs.Common.{◌≡◌, ℕ, suc, ◌+◌, ◌-◌, ◌/◌, ◌%◌, ◌<◌, ◌≤◌, List, [], ◌∷◌, ◌++◌, length, get_or, drop, refl, ◌∙◌, append_assoc, append-nil, add-one, arith, length-append, length-drop, drop-cons}
use borrow.Author.Tests.{lt-ltb, le-ltb}
use Rattle.basics.specs.Digits.{digit}
use Rattle.plan_text.specs.Decimal.{decimal}
use Rattle.plan_text.specs.Lines.{mark, line}
use Rattle.plan_text.specs.means.Growth.{room, with_byte, with_bytes}
use Rattle.plan_text.proofs.Digits.{one_digit, more_digits}

-- Bytes added in two steps.
pub with_both : (t xs ys : List ℕ) → with_bytes (with_bytes t xs) ys ≡ with_bytes t (xs ++ ys)
with_both t [] ys = refl
with_both t (x ∷ xs) ys = with_both (with_byte t x) xs ys

-- The digits of a number: the last one alone, or behind those of a tenth.
pub number_one : (t : List ℕ) (n : ℕ) → n < 10 → with_byte t (digit (n % 10)) ≡ with_bytes t (decimal n)
number_one t n h =
    let same : n % 10 ≡ n = omega arith in
    rw (one_digit n h, same)

pub number_more : (t : List ℕ) (n : ℕ) → 10 ≤ n → with_byte (with_bytes t (decimal (n / 10))) (digit (n % 10)) ≡ with_bytes t (decimal n)
number_more t n h = rw (more_digits n h) (with_both t (decimal (n / 10)) (digit (n % 10) ∷ []))

-- One number of a line with its mark, and then the line of those after it.
pub line_step : (t numbers : List ℕ) (i : ℕ) → i < length numbers →
    with_bytes (with_byte (with_bytes t (decimal (get_or numbers i 0))) (mark (length numbers - 1 - i))) (line (drop (i + 1) numbers))
    ≡ with_bytes t (line (drop i numbers))
line_step t numbers i h =
    let left : length numbers - 1 - i ≡ length numbers - suc i = omega arith in
    rw (drop-cons numbers i 0 h, length-drop (suc i) numbers, add-one i, left)
    (with_both t (decimal (get_or numbers i 0)) (mark (length numbers - suc i) ∷ line (drop (suc i) numbers)))

-- A byte where there is room, and where there is none.
pub byte_fits : (t : List ℕ) (b : ℕ) → length t < room → with_byte t b ≡ t ++ b ∷ []
unfolding with_byte
byte_fits t b h = rw (lt-ltb (length t) room h)

pub byte_lost : (t : List ℕ) (b : ℕ) → room ≤ length t → with_byte t b ≡ t
unfolding with_byte
byte_lost t b h = rw (le-ltb (length t) room h)

-- Bytes that fit.
pub bytes_fit : (t bytes : List ℕ) → length t + length bytes ≤ room → with_bytes t bytes ≡ t ++ bytes
bytes_fit t [] h = rw (append-nil t)
bytes_fit t (b ∷ bytes) h =
    let longer = length-append t (b ∷ []) in
    rw (byte_fits t b (omega arith))
    (bytes_fit (t ++ b ∷ []) bytes (omega arith) ∙ append_assoc t (b ∷ []) bytes)

pub from_empty : (bytes : List ℕ) → length bytes ≤ room → with_bytes [] bytes ≡ bytes
from_empty bytes h = bytes_fit [] bytes (omega arith)
