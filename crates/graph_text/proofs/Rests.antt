-- What is left of a text: the whole is, and so is what is left of what is left, and what stands behind its first byte.
use Rattle.std.proofs.Common.{◌≡◌, ℕ, ◌+◌, ◌-◌, ◌≤◌, List, ◌∷◌, length, take, drop, sym, ap, ◌∙◌, arith}
use Rattle.std.proofs.lemmas.List.{drop-drop, length-drop, take_rest}
use Rattle.graph_text.specs.means.Scan.{IsRest, numerals_at}
use Rattle.graph_text.specs.Text.{numerals_of}

pub rest_whole : (text : List ℕ) → IsRest text text
unfolding IsRest
rest_whole text = let e : length text - length text ≡ 0 = omega arith in rw e

pub rest_within : (text rest : List ℕ) → IsRest text rest → length rest ≤ length text
unfolding IsRest
rest_within text rest is = omega (arith, ap length is ∙ length-drop (length text - length rest) text)

pub rest_of_rest : (text rest end : List ℕ) → IsRest text rest → IsRest rest end → IsRest text end
unfolding IsRest
rest_of_rest text rest end is more =
    let sum : length text - length rest + (length rest - length end) ≡ length text - length end =
    omega (arith, rest_within text rest is, rest_within rest end more) in
    more
    ∙ ap (drop (length rest - length end)) is
    ∙ drop-drop (length rest - length end) (length text - length rest) text
    ∙ ap (λ k. drop k text) sum

behind_first : (b : ℕ) (behind : List ℕ) → IsRest (b ∷ behind) behind
unfolding IsRest
behind_first b behind = let e : length (b ∷ behind) - length behind ≡ 1 = omega arith in rw e

pub rest_passed : (text rest : List ℕ) (b : ℕ) (behind : List ℕ) → IsRest text rest → rest ≡ b ∷ behind → IsRest text behind
rest_passed text rest b behind is e = rest_of_rest text rest behind is (rw e (behind_first b behind))

-- The numerals from a place on are those of the slice that begins there.
pub at_slice : (text : List ℕ) (from : ℕ) → numerals_at text from ≡ numerals_of (take (length text - from) (drop from text))
unfolding numerals_at
at_slice text from = ap numerals_of (sym (take_rest text from))

pub rest_from : (text : List ℕ) (from : ℕ) → from ≤ length text → IsRest text (take (length text - from) (drop from text))
unfolding IsRest
rest_from text from inside =
    let e : length text - length (drop from text) ≡ from = omega (arith, length-drop from text) in rw (take_rest text from, e)

-- What is left begins at the place behind the bytes that are not left.
pub at_rest : (text rest : List ℕ) (at : ℕ) → IsRest text rest → at + length rest ≡ length text → numerals_at text at ≡ numerals_of rest
unfolding IsRest numerals_at
at_rest text rest at is e =
    let place : length text - length rest ≡ at = omega (arith, e) in
    sym (ap numerals_of (is ∙ ap (λ k. drop k text) place))
