-- A record written part by part: the masks one behind the other, behind the bytes before them.
use Prim.Native.Nat.{ℕ, suc, ◌+◌, ◌*◌, ◌-◌, ◌≤◌, ◌<◌}
use mathlib.Core.List.{List}
use mathlib.Core.Path.{◌≡◌, sym, ap, ◌∙◌}
use native.Mathlib.Numerals.{add-one}
use native.Mathlib.Omega.{arith}
use lib.ListN.{length, drop, get_or, set}
use lib.Seq.{drop-cons, sets}
use Rattle.basics.specs.Numbers.{u16_bytes, u32_bytes}
use Rattle.basics.proofs.Bytes.{sets-append}
use Rattle.sheet.specs.declared.task.Task.{Task}
use Rattle.sheet.specs.Encoding.{figure_bytes, masks_bytes, record_bytes}
use Rattle.sheet.proofs.Encoding.{narrow_record}
use Rattle.sheet.proofs.Wide.{first_narrow}

-- The masks from node v on begin with that of v.
masks_open : (masks : List ℕ) (v left : ℕ) (out : List ℕ) (at : ℕ) → v < length masks →
    sets (sets out at (u32_bytes (get_or masks v 0))) (at + 4) (masks_bytes left (drop (suc v) masks)) ≡ sets out at (masks_bytes (suc left) (drop v masks))
unfolding masks_bytes u32_bytes
masks_open masks v left out at h =
    sym
    (ap (λ (rest : List ℕ). sets out at (masks_bytes (suc left) rest)) (drop-cons masks v 0 h)
    ∙ sets-append out at (u32_bytes (get_or masks v 0)) (masks_bytes left (drop (suc v) masks)))

pub masks_step : (masks : List ℕ) (k v : ℕ) (before out start : List ℕ) → v < k → v < length masks →
    out ≡ sets before (12 + 4 * v) (u32_bytes (get_or masks v 0)) →
    sets before (12 + 4 * v) (masks_bytes (k - v) (drop v masks)) ≡ start →
    sets out (12 + 4 * (v + 1)) (masks_bytes (k - (v + 1)) (drop (v + 1) masks)) ≡ start
masks_step masks k v before out start h inside stored whole =
    let place : 12 + 4 * (v + 1) ≡ 12 + 4 * v + 4 = omega arith in
    let left : suc (k - (v + 1)) ≡ k - v = omega arith in
    rw (stored, place, add-one v)
    (masks_open masks v (k - suc v) before (12 + 4 * v) inside
    ∙ ap (λ (n : ℕ). sets before (12 + 4 * v) (masks_bytes n (drop v masks))) (rw (add-one v) at left)
    ∙ whole)

pub masks_all : (masks : List ℕ) (k v : ℕ) (out start : List ℕ) → k - v ≡ 0 →
    sets out (12 + 4 * v) (masks_bytes (k - v) (drop v masks)) ≡ start → out ≡ start
unfolding masks_bytes
masks_all masks k v out start none whole = rw none at whole

-- The parts of a record of level 0 or 1, stored one behind the other, are its bytes.
pub record_stored : (t : Task) → t.level ≤ 1 → (out o₁ o₂ o₃ o₄ o₅ o₆ : List ℕ) →
    o₁ ≡ sets (set (set out 0 t.level) 1 t.nodes) 2 (u16_bytes t.figures.deadline) →
    o₂ ≡ sets o₁ 4 (u16_bytes t.figures.nominal.work) →
    o₃ ≡ sets o₂ 6 (u16_bytes t.figures.overload.work) →
    o₄ ≡ sets o₃ 8 (u16_bytes t.figures.nominal.span) →
    o₅ ≡ sets o₄ 10 (u16_bytes t.figures.overload.span) →
    o₆ ≡ sets o₅ 12 (masks_bytes t.nodes t.predecessors) →
    o₆ ≡ sets out 0 (record_bytes t)
unfolding figure_bytes u16_bytes
record_stored t low out o₁ o₂ o₃ o₄ o₅ o₆ e₁ e₂ e₃ e₄ e₅ e₆ =
    rw (narrow_record t (first_narrow t.level low), e₆, e₅, e₄, e₃, e₂, e₁)
