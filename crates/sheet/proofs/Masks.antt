-- A mask below 2 ^ v is one without a bit from v on: a number below a power has no bit from there, and a number all of
-- whose bits are lower is below it.
use Prim.Native.Nat.{ℕ, ◌<◌, ◌^◌}
use mathlib.Core.Bool.{true, true≢false}
use mathlib.Core.List.{List}
use mathlib.Core.Path.{◌≡◌, sym, ◌∙◌}
use native.Mathlib.Omega.{arith}
use native.Mathlib.Nat.{lt_of_not-le}
use lib.ListN.{get_or}
use borrow.Author.Tests.{ltb-true, lt-ltb}
use Rattle.nodes.proofs.Bits.{has_above, has_lt, below_of_has}
use Rattle.sheet.specs.Rules.{mask_lawful, masks_lawful}
use Rattle.sheet.specs.Laws.{MaskLaw, MasksLaw}
use Rattle.basics.proofs.Below.{all_at, all_intro}

-- A lawful mask as a bound.
module _ (masks : List ℕ) (v : ℕ) where
  pub mask_below : mask_lawful masks v ≡ true → get_or masks v 0 < 2 ^ v
  unfolding mask_lawful
  mask_below e = ltb-true (get_or masks v 0) (2 ^ v) e

  below_mask : get_or masks v 0 < 2 ^ v → mask_lawful masks v ≡ true
  unfolding mask_lawful
  below_mask h = lt-ltb (get_or masks v 0) (2 ^ v) h

pub mask_law : MaskLaw
unfolding MaskLaw
mask_law masks v = (
  λ e j up. has_above v (get_or masks v 0) j (mask_below masks v e) (omega arith),
  λ none. below_mask masks v (below_of_has v (get_or masks v 0) (λ j m. lt_of_not-le (λ up. true≢false (sym m ∙ none j (omega arith))))),
)

pub masks_law : MasksLaw
unfolding MasksLaw masks_lawful
masks_law masks k = (
  λ e v j h m. has_lt v (get_or masks v 0) j (mask_below masks v (all_at k (mask_lawful masks) e v h)) m,
  λ lower. all_intro k (mask_lawful masks) (λ v h. below_mask masks v (below_of_has v (get_or masks v 0) (λ j m. lower v j h m))),
)
