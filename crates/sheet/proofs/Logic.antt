-- The code's tests beside those of the rules: a mask shifted, a record too short for its length; sums for differences.
use Prim.Native.Nat.{ℕ, suc, ◌≤◌, ◌<◌, ◌+◌, ◌-◌, ◌*◌, ◌/◌, ◌^◌}
use mathlib.Core.Bool.{Bool, true, false, cond, ◌&&◌, and-false}
use mathlib.Core.List.{List}
use mathlib.Core.Path.{◌≡◌, sym, ap, ◌∙◌}
use native.Mathlib.Omega.{arith}
use native.Mathlib.Decide.{dec_lt, ℕ_discrete}
use native.Mathlib.Nat.{div-lt_iff_lt-mul, div-eq_of_lt, le_of_eq}
use lib.Dec.{leb, ltb, eqb}
use lib.ListN.{get_or}
use lib.Pow.{pow_pos}
use borrow.Author.Tests.{lt-ltb, le-ltb, leb-true, ne_eqb}
use Rattle.std.proofs.lemmas.Bool.{and_parts}
use Rattle.basics.proofs.Logic.{under, leb_same}
use Rattle.sheet.specs.Level.{is_wide, bytes_before_masks}
use Rattle.sheet.specs.Rules.{mask_lawful}

-- The code shifts a mask by its node's number: what is left is zero just where the mask keeps the rule.
module _ (masks : List ℕ) (v : ℕ) where
  pub mask_kept : get_or masks v 0 / 2 ^ v ≡ 0 → mask_lawful masks v ≡ true
  unfolding mask_lawful
  mask_kept e =
      let below : get_or masks v 0 < 1 * 2 ^ v = (div-lt_iff_lt-mul (pow_pos v)).0 (le_of_eq (ap suc e)) in
      lt-ltb (get_or masks v 0) (2 ^ v) (omega arith)

  pub mask_broken : (get_or masks v 0 / 2 ^ v ≡ 0 → ⊥) → mask_lawful masks v ≡ false
  unfolding mask_lawful
  mask_broken n = go (dec_lt (get_or masks v 0) (2 ^ v))
    where
      go : Dec (get_or masks v 0 < 2 ^ v) → ltb (get_or masks v 0) (2 ^ v) ≡ false
      go (yes h) = absurd (n (div-eq_of_lt h))
      go (no h) = le-ltb (get_or masks v 0) (2 ^ v) (omega arith)

  -- The test that the code makes.
  pub shifted_lawful : eqb (get_or masks v 0 / 2 ^ v) 0 ≡ mask_lawful masks v
  shifted_lawful = go (ℕ_discrete (get_or masks v 0 / 2 ^ v) 0)
    where
      go : Dec (get_or masks v 0 / 2 ^ v ≡ 0) → eqb (get_or masks v 0 / 2 ^ v) 0 ≡ mask_lawful masks v
      go (yes e) = rw e (sym (mask_kept e))
      go (no n) = ne_eqb _ 0 n ∙ sym (mask_broken n)

-- S2.10: where the guards hold, the sums compare as the differences do.
pub order_by_sums : (g : Bool) (ln cn lo co x y : ℕ) → x ≡ lo + cn → y ≡ co + ln →
    (g && leb cn co && leb ln lo && leb x y) ≡ (g && leb cn co && leb ln lo && leb (lo - ln) (co - cn))
order_by_sums g ln cn lo co x y ex ey =
    under (g && leb cn co && leb ln lo)
    (λ e.
    let both = and_parts (g && leb cn co) (leb ln lo) e in
    let work : cn ≤ co = leb-true cn co (and_parts g (leb cn co) both.0).1 in
    let span : ln ≤ lo = leb-true ln lo both.1 in
    leb_same x y (lo - ln) (co - cn) (λ h. omega arith) (λ h. omega arith))

-- From 2 to 22 bytes stand before the masks, whatever the level.
before_range : (wide : Bool) → (2 ≤ cond wide 22 12) × (cond wide 22 12 ≤ 22)
before_range true = (omega arith, omega arith)
before_range false = (omega arith, omega arith)

before_some : (level : ℕ) → 2 ≤ bytes_before_masks level
unfolding bytes_before_masks
before_some level = (before_range (is_wide level)).0

pub before_most : (level : ℕ) → bytes_before_masks level ≤ 22
unfolding bytes_before_masks
before_most level = (before_range (is_wide level)).1

-- A record of fewer than two bytes does not have the length of a record.
pub length_broken : (g : Bool) (level nodes bytes : ℕ) → bytes < 2 → (g && eqb bytes (bytes_before_masks level + 4 * nodes)) ≡ false
length_broken g level nodes bytes h =
    rw (ne_eqb bytes (bytes_before_masks level + 4 * nodes) (λ e. omega (arith, before_some level))) (and-false g)
