-- A text read numeral by numeral.
use Rattle.std.specs.Prelude.{ℕ, ◌+◌, ◌-◌, ◌*◌, ◌≤◌, true, false, Bool, cond, List, [], ◌∷◌, ◌≡◌, leb, length, drop, Result, Ok, Err, Some, None, Option}
use Rattle.basics.specs.Digits.{digit, is_digit}
use Rattle.graph_text.specs.declared.text.BadFormat.{BadFormat}
use Rattle.graph_text.specs.Text.{is_blank, words_of, numeral_limit, numbers_of, numerals_of}

-- The numerals of a text from a place on.
unfoldable pub numerals_at : List ℕ → ℕ → Option (List ℕ)
numerals_at text at = numerals_of (drop at text)

-- A number in front of others, where these could be read.
abbrev pub number_before : ℕ → Option (List ℕ) → Option (List ℕ)
number_before n None = None
number_before n (Some numbers) = Some (n ∷ numbers)

-- The same of a number that may be too great for a numeral.
abbrev pub numeral_before : ℕ → Option (List ℕ) → Option (List ℕ)
numeral_before n numbers = cond (leb n numeral_limit) (number_before n numbers) None

-- The numerals of bytes behind digits that say v.
abbrev pub numerals_after : ℕ → List ℕ → Option (List ℕ)
numerals_after v [] = numeral_before v (Some [])
numerals_after v (b ∷ bytes) =
    cond (is_blank b) (numeral_before v (numbers_of (words_of bytes)))
    (cond (is_digit b) (numerals_after (10 * v + (b - digit 0)) bytes) None)

-- What is told of the numerals of a text, old, and of those that are left, new: the first of them; that there is none; or that
-- something else stands among them.
abbrev pub TakesMaybe : Option (List ℕ) → Option (List ℕ) → Result (Option ℕ) BadFormat → Type 0
TakesMaybe old new (Ok (Some n)) = old ≡ number_before n new
TakesMaybe old new (Ok None) = old ≡ Some []
TakesMaybe old new (Err e) = old ≡ None

-- What is told of the numerals from a place on: the first of them, and the place behind it; that there is none; or that something else
-- stands among them.
abbrev pub Told : List ℕ → ℕ → Result (Option (ℕ × ℕ)) BadFormat → Type 0
Told text from (Ok (Some (n, next))) =
    (next ≤ length text) × (n ≤ numeral_limit) × (numerals_at text from ≡ number_before n (numerals_at text next))
Told text from (Ok None) = numerals_at text from ≡ Some []
Told text from (Err e) = numerals_at text from ≡ None

-- What is left of a text: its last bytes.
unfoldable pub IsRest : List ℕ → List ℕ → Type 0
IsRest text rest = rest ≡ drop (length text - length rest) text

-- Whether there is a numeral in front.
abbrev pub has_first : Option (List ℕ) → Bool
has_first None = false
has_first (Some []) = false
has_first (Some (n ∷ numbers)) = true

-- The same of a numeral that has to be there.
abbrev pub Takes : Option (List ℕ) → Option (List ℕ) → Result ℕ BadFormat → Type 0
Takes old new (Ok n) = old ≡ number_before n new
Takes old new (Err e) = has_first old ≡ false

-- No blank is in front.
unfoldable pub BeginsFull : List ℕ → Type 0
BeginsFull [] = Unit
BeginsFull (b ∷ bytes) = is_blank b ≡ false
