-- S14.1: the numerals of a text of the Standard Task Graph format.
use Rattle.std.specs.Prelude.{ℕ, Bool, cond, not, ◌&&◌, ◌||◌, List, [], ◌∷◌, ◌++◌, map, eqb, leb, Option, None, Some}
use Rattle.std.specs.List.{list_all}
use Rattle.basics.specs.Lists.{kept_if, is_empty}
use Rattle.basics.specs.Digits.{is_digit, value_of}

-- The byte `#`, which ends the text.
abbrev pub end_mark : ℕ
end_mark = 35

-- S14.1: the bytes before the first `#`.
abbrev pub before_mark : List ℕ → List ℕ
before_mark [] = []
before_mark (b ∷ bytes) = cond (eqb b end_mark) [] (b ∷ before_mark bytes)

-- S14.1: a tab, a line feed, a carriage return or a space.
unfoldable pub is_blank : ℕ → Bool
is_blank b = eqb b 9 || eqb b 10 || eqb b 13 || eqb b 32

-- A word in front of others, where it has a byte.
abbrev pub word_before : List ℕ → List (List ℕ) → List (List ℕ)
word_before word words = kept_if (not (is_empty word)) word words

-- The words of some bytes behind those of a word that has begun.
abbrev pub words_after : List ℕ → List ℕ → List (List ℕ)
words_after word [] = word_before word []
words_after word (b ∷ bytes) = cond (is_blank b) (word_before word (words_after [] bytes)) (words_after (word ++ b ∷ []) bytes)

-- S14.1: the words of some bytes: what stands between blanks.
abbrev pub words_of : List ℕ → List (List ℕ)
words_of bytes = words_after [] bytes

-- S14.1: the greatest number that a numeral may say.
abbrev pub numeral_limit : ℕ
numeral_limit = 65535

-- S14.1: whether a word is a numeral: digits, in value at most 65,535.
unfoldable pub is_numeral : List ℕ → Bool
is_numeral word = list_all is_digit word && leb (value_of word) numeral_limit

-- The numbers that words say, or none where one of them is no numeral.
unfoldable pub numbers_of : List (List ℕ) → Option (List ℕ)
numbers_of words = cond (list_all is_numeral words) (Some (map value_of words)) None

-- S14.1: the numerals of a text, or none where it has anything else.
unfoldable pub numerals_of : List ℕ → Option (List ℕ)
numerals_of text = numbers_of (words_of (before_mark text))
