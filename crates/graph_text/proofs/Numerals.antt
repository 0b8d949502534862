-- The numerals of a text, byte by byte: a blank changes nothing, digits say one number more, `#` and the end leave none, and any other
-- byte leaves a text that is not of the format.
use Prim.Native.Nat.{ℕ, ◌+◌, ◌-◌, ◌*◌, ◌≤◌, ◌<◌}
use mathlib.Core.Bool.{Bool, true, false, cond, ◌&&◌, and-false, true≢false}
use mathlib.Core.List.{List, [], ◌∷◌, ◌++◌, map}
use Rattle.std.specs.List.{list_all}
use mathlib.Core.Path.{◌≡◌, refl, sym, ap, ◌∙◌}
use native.Mathlib.Omega.{arith}
use lib.Dec.{eqb, leb}
use Rattle.std.specs.Char.{is_ascii_digit}
use Rattle.std.specs.Prelude.{Some, None, Ok, Err, Option}
use Rattle.std.specs.Option.{SomeIff, ok_or}
use Rattle.graph_text.specs.declared.text.BadFormat.{BadFormat}
use borrow.Author.Tests.{eqb-true, leb-true, le-leb, lt-leb, ne_eqb}
use Rattle.std.proofs.lemmas.Bool.{and_parts}
use Rattle.basics.specs.Digits.{digit, is_digit, value_of}
use Rattle.basics.proofs.Digits.{value_both, digits_both}
use Rattle.graph_text.specs.Text.{end_mark, before_mark, is_blank, word_before, words_after, words_of, numeral_limit, is_numeral, numbers_of, numerals_of}
use Rattle.graph_text.specs.means.Scan.{number_before, numeral_before, numerals_after, BeginsFull}

-- A test that one value fails.
unlike : (test : ℕ → Bool) (b x : ℕ) → test x ≡ false → test b ≡ true → eqb b x ≡ false
unlike test b x fails h = ne_eqb b x (λ e. true≢false (sym h ∙ ap test e ∙ fails))

pub blank_no_mark : (b : ℕ) → is_blank b ≡ true → eqb b end_mark ≡ false
unfolding is_blank
blank_no_mark b h = unlike is_blank b end_mark refl h

pub digit_no_mark : (b : ℕ) → is_digit b ≡ true → eqb b end_mark ≡ false
unfolding is_digit
digit_no_mark b h = unlike is_digit b end_mark refl h

-- A digit's byte is that of `0` at least, and that of `9` at most.
pub digit-within : (b : ℕ) → is_digit b ≡ true → (48 ≤ b) × (b ≤ 57)
unfolding is_digit
digit-within b h =
    let both = and_parts (leb (digit 0) b) (leb b (digit 9)) h in
    (leb-true (digit 0) b both.0, leb-true b (digit 9) both.1)

pub digit_no_blank : (b : ℕ) → is_digit b ≡ true → is_blank b ≡ false
unfolding is_blank is_digit
digit_no_blank b h =
    rw (unlike is_digit b 9 refl h, unlike is_digit b 10 refl h, unlike is_digit b 13 refl h, unlike is_digit b 32 refl h)

-- One byte more behind a word that is no digits, or a byte that is none.
still_bad : (word : List ℕ) (b : ℕ) → list_all is_digit word ≡ false → list_all is_digit (word ++ b ∷ []) ≡ false
still_bad [] b bad = absurd (true≢false bad)
still_bad (x ∷ word) b bad = go (is_digit x) bad (still_bad word b)
  where
    go : (t : Bool) → (t && list_all is_digit word) ≡ false → (list_all is_digit word ≡ false → list_all is_digit (word ++ b ∷ []) ≡ false) →
        (t && list_all is_digit (word ++ b ∷ [])) ≡ false
    go true e rest = rest e
    go false e rest = refl

now_bad : (word : List ℕ) (b : ℕ) → is_digit b ≡ false → list_all is_digit (word ++ b ∷ []) ≡ false
now_bad [] b bad = rw bad
now_bad (x ∷ word) b bad = rw (now_bad word b bad) (and-false (is_digit x))

-- A word that is no digits is no numeral, whatever follows.
bad_word : (x : ℕ) (word bytes : List ℕ) → list_all is_digit (x ∷ word) ≡ false → list_all is_numeral (words_after (x ∷ word) bytes) ≡ false
unfolding is_numeral
bad_word x word [] bad = rw bad
bad_word x word (b ∷ bytes) bad = go (is_blank b) (bad_word x (word ++ b ∷ []) bytes (still_bad (x ∷ word) b bad))
  where
    go : (t : Bool) → list_all is_numeral (words_after (x ∷ word ++ b ∷ []) bytes) ≡ false →
        list_all is_numeral (cond t (word_before (x ∷ word) (words_after [] bytes)) (words_after (x ∷ word ++ b ∷ []) bytes)) ≡ false
    go true rest = rw bad
    go false rest = rest

no_numbers : (words : List (List ℕ)) → list_all is_numeral words ≡ false → numbers_of words ≡ None
unfolding numbers_of
no_numbers words bad = rw bad

-- A word of digits in front of others.
numbers_cons : (word : List ℕ) (words : List (List ℕ)) → list_all is_digit word ≡ true →
    numbers_of (word ∷ words) ≡ numeral_before (value_of word) (numbers_of words)
unfolding numbers_of is_numeral
numbers_cons word words digits = rw digits (go (leb (value_of word) numeral_limit) (list_all is_numeral words))
  where
    go : (small others : Bool) →
        cond (small && others) (Some (value_of word ∷ map value_of words)) None
        ≡ cond small (number_before (value_of word) (cond others (Some (map value_of words)) None)) None
    go true true = refl
    go true false = refl
    go false others = refl

-- Digits that have begun a word, and then the other bytes.
word_numbers : (x : ℕ) (word bytes : List ℕ) → list_all is_digit (x ∷ word) ≡ true →
    numbers_of (words_after (x ∷ word) bytes) ≡ numerals_after (value_of (x ∷ word)) bytes
unfolding numbers_of
word_numbers x word [] digits = numbers_cons (x ∷ word) [] digits
word_numbers x word (b ∷ bytes) digits = go (is_blank b) (is_digit b) refl (word_numbers x (word ++ b ∷ []) bytes)
  where
    go : (blank one : Bool) → is_digit b ≡ one →
        (list_all is_digit (x ∷ word ++ b ∷ []) ≡ true →
        numbers_of (words_after (x ∷ word ++ b ∷ []) bytes) ≡ numerals_after (value_of (x ∷ word ++ b ∷ [])) bytes) →
        numbers_of (cond blank (word_before (x ∷ word) (words_after [] bytes)) (words_after (x ∷ word ++ b ∷ []) bytes))
        ≡ cond blank (numeral_before (value_of (x ∷ word)) (numbers_of (words_of bytes)))
        (cond one (numerals_after (10 * value_of (x ∷ word) + (b - digit 0)) bytes) None)
    go true one e rest = numbers_cons (x ∷ word) (words_after [] bytes) digits
    go false true e rest =
        rest (digits_both (x ∷ word) (b ∷ []) digits (rw e))
        ∙ ap (λ (n : ℕ). numerals_after n bytes) (value_both 0 (x ∷ word) (b ∷ []))
    go false false e rest =
        no_numbers (words_after (x ∷ word ++ b ∷ []) bytes) (bad_word x (word ++ b ∷ []) bytes (now_bad (x ∷ word) b e))

-- A number that no numeral says stays so, whatever follows.
pub too_great : (v : ℕ) (bytes : List ℕ) → numeral_limit < v → numerals_after v bytes ≡ None
too_great v [] h = rw (lt-leb v numeral_limit h)
too_great v (b ∷ bytes) h = rw (lt-leb v numeral_limit h, too_great (10 * v + (b - digit 0)) bytes (omega arith)) (go (is_blank b) (is_digit b))
  where
    nothing : Option (List ℕ)
    nothing = None

    go : (blank one : Bool) → cond blank nothing (cond one nothing nothing) ≡ nothing
    go true one = refl
    go false true = refl
    go false false = refl

-- A byte in front of others.
module _ (b : ℕ) (rest : List ℕ) where
  before_from : eqb b end_mark ≡ false → before_mark (b ∷ rest) ≡ b ∷ before_mark rest
  before_from e = rw e

  -- A blank changes nothing.
  pub blank_passed : is_blank b ≡ true → numerals_of (b ∷ rest) ≡ numerals_of rest
  unfolding numerals_of
  blank_passed h = rw (blank_no_mark b h, h)

  -- `#` ends the text.
  pub mark_ends : b ≡ end_mark → before_mark (b ∷ rest) ≡ []
  mark_ends e = rw e

  pub none_at_mark : b ≡ end_mark → numerals_of (b ∷ rest) ≡ Some []
  unfolding numerals_of numbers_of
  none_at_mark e = rw (mark_ends e)

  -- What is no blank, no digit and no `#` is no numeral.
  pub fault_at : is_blank b ≡ false → is_digit b ≡ false → eqb b end_mark ≡ false → numerals_of (b ∷ rest) ≡ None
  unfolding numerals_of numbers_of
  fault_at blank one mark = rw (before_from mark, blank, bad_word b [] (before_mark rest) (rw one))

  -- A digit begins a numeral.
  pub digits_begin : is_digit b ≡ true → numerals_of (b ∷ rest) ≡ numerals_after (b - digit 0) (before_mark rest)
  unfolding numerals_of
  digits_begin h =
      let first : 10 * 0 + (b - digit 0) ≡ b - digit 0 = omega arith in
      rw (digit_no_mark b h, digit_no_blank b h)
      (word_numbers b [] (before_mark rest) (rw h) ∙ ap (λ (n : ℕ). numerals_after n (before_mark rest)) first)

  -- One digit more.
  pub digit_more : (v : ℕ) → is_digit b ≡ true →
      numerals_after (10 * v + (b - digit 0)) (before_mark rest) ≡ numerals_after v (before_mark (b ∷ rest))
  digit_more v h = rw (digit_no_mark b h, digit_no_blank b h, h)

  -- Behind the last digit stand the other numerals.
  digits_end_blank : (v : ℕ) → v ≤ numeral_limit → is_blank b ≡ true → eqb b end_mark ≡ false →
      numerals_after v (before_mark (b ∷ rest)) ≡ number_before v (numerals_of rest)
  unfolding numerals_of
  digits_end_blank v small bl m = rw (m, bl, le-leb v numeral_limit small)

  pub digits_end : (v : ℕ) → v ≤ numeral_limit → is_digit b ≡ false →
      numerals_after v (before_mark (b ∷ rest)) ≡ number_before v (numerals_of (b ∷ rest))
  digits_end v small other = go (eqb b end_mark) (is_blank b) refl refl
    where
      go : (mark blank : Bool) → eqb b end_mark ≡ mark → is_blank b ≡ blank →
          numerals_after v (before_mark (b ∷ rest)) ≡ number_before v (numerals_of (b ∷ rest))
      go true blank m bl = rw (none_at_mark (eqb-true b end_mark m), mark_ends (eqb-true b end_mark m), le-leb v numeral_limit small)
      go false true m bl = digits_end_blank v small bl m ∙ ap (number_before v) (sym (blank_passed bl))
      go false false m bl = rw (fault_at bl other m, m, bl, other)

-- At the end there is none.
pub none_at_end : numerals_of [] ≡ Some []
unfolding numerals_of numbers_of
none_at_end = refl

pub digits_to_end : (v : ℕ) → v ≤ numeral_limit → numerals_after v [] ≡ number_before v (numerals_of [])
digits_to_end v small = rw (none_at_end, le-leb v numeral_limit small)

-- Std's test of a digit is the definition's.
pub digit_is : (b : ℕ) → is_ascii_digit b ≡ is_digit b
unfolding is_digit
digit_is b = refl

-- A value with one digit more that is a numeral's, and one that is too great.
pub more_taken : (o : Option ℕ) (v n : ℕ) (e : BadFormat) → SomeIff o (v ≤ numeral_limit) v → ok_or o e ≡ Ok n →
    (n ≡ v) × (v ≤ numeral_limit)
more_taken None v n e h same = absurd (cc)
more_taken (Some x) v n e (small, x-is) same = (cc, small)

pub more_refused : (o : Option ℕ) (v : ℕ) (e f : BadFormat) → SomeIff o (v ≤ numeral_limit) v → ok_or o e ≡ Err f → numeral_limit < v
more_refused None v e f h same = omega (arith, h)
more_refused (Some x) v e f h same = absurd (cc)

pub no_blank : (text : List ℕ) (b : ℕ) (rest : List ℕ) → BeginsFull text → text ≡ b ∷ rest → is_blank b ≡ false
unfolding BeginsFull
no_blank text b rest h e = rw e at h
