-- A record that is written is read back: its figures by their places, and the masks one by one.
use Prim.Native.Nat.{ℕ, zero, suc, ◌≤◌, ◌<◌, ◌+◌, ◌*◌, ◌-◌, ◌/◌, ◌%◌, ◌^◌}
use mathlib.Core.Bool.{Bool, true, false, cond}
use mathlib.Core.List.{List, [], ◌∷◌, ◌++◌}
use mathlib.Core.Path.{◌≡◌, refl, sym, ap, ◌∙◌}
use native.Mathlib.Omega.{arith}
use native.Mathlib.Nat.{mod-lt}
use lib.Dec.{ltb}
use lib.ListN.{length, get_or, replicate}
use borrow.Author.Tests.{ltb-true}
use Rattle.std.specs.List.{list_all}
use Rattle.std.proofs.lemmas.Bool.{and_parts}
use Rattle.basics.specs.Lists.{cells_from}
use Rattle.sheet.specs.declared.task.Task.{Task}
use Rattle.basics.specs.Numbers.{byte_at, u16_at, u32_at, u16_bytes, u32_bytes}
use Rattle.sheet.specs.Level.{is_wide, bytes_before_masks}
use Rattle.sheet.specs.Format.{level_at, nodes_at, figure_at, figures_at, masks_at, task_at}
use Rattle.sheet.specs.Encoding.{figure_bytes, masks_bytes, record_bytes}
use Rattle.sheet.specs.Laws.{figure_room, Encodable, RoundTrip, RecordLength, RecordOfBytes}
use Rattle.basics.proofs.Bytes.{byte_behind, u16_behind, u32_behind, u16_whole, u32_whole}
use Rattle.basics.proofs.Cells.{cells_whole}

-- The first mask, and those behind it.
module _ (mask : ℕ) (s : List ℕ) where
  mask_first : mask < 4294967296 → u32_at (u32_bytes mask ++ s) 0 ≡ mask
  unfolding u32_at u16_at byte_at u32_bytes
  mask_first h = u32_whole mask h

  mask_next : (d : ℕ) → u32_at (u32_bytes mask ++ s) (4 * suc d) ≡ u32_at s (4 * d)
  unfolding u32_bytes
  mask_next d =
      u32_behind (mask % 256 ∷ mask / 256 % 256 ∷ mask / 65536 % 256 ∷ mask / 16777216 % 256 ∷ []) s (4 * d) (4 * suc d) (omega arith)

-- Mask j of the first k, by its bytes.
mask_at : (masks : List ℕ) (k j : ℕ) (back : List ℕ) → k ≤ length masks → list_all (λ mask. ltb mask (2 ^ 32)) masks ≡ true → j < k →
    u32_at (masks_bytes k masks ++ back) (4 * j) ≡ get_or masks j 0
unfolding masks_bytes u32_bytes
mask_at masks zero j back few fit h = absurd (omega arith)
mask_at [] (suc k) j back few fit h = absurd (omega arith)
mask_at (mask ∷ masks) (suc k) zero back few fit h =
    mask_first mask (masks_bytes k masks ++ back) (ltb-true mask (2 ^ 32) (and_parts (ltb mask (2 ^ 32)) _ fit).0)
mask_at (mask ∷ masks) (suc k) (suc j) back few fit h =
    mask_next mask (masks_bytes k masks ++ back) j ∙ mask_at masks k j back (omega arith) (and_parts (ltb mask (2 ^ 32)) _ fit).1 (omega arith)

-- A task's record with figures of the given width, up to its masks and with them.
abbrev up_to_masks : Bool → Task → List ℕ
up_to_masks wide t =
    t.level
    ∷ t.nodes
    ∷ figure_bytes wide t.figures.deadline
    ++ figure_bytes wide t.figures.nominal.work
    ++ figure_bytes wide t.figures.overload.work
    ++ figure_bytes wide t.figures.nominal.span
    ++ figure_bytes wide t.figures.overload.span

abbrev pub record_with : Bool → Task → List ℕ
record_with wide t = up_to_masks wide t ++ masks_bytes t.nodes t.predecessors

-- What such a record says: each figure by its place, and the masks behind them.
record Told (wide : Bool) (t : Task) (back : List ℕ) : Type 0 where
  deadline : t.figures.deadline < figure_room wide → figure_at wide (record_with wide t ++ back) 0 0 ≡ t.figures.deadline
  nominal_work : t.figures.nominal.work < figure_room wide → figure_at wide (record_with wide t ++ back) 0 1 ≡ t.figures.nominal.work
  overload_work : t.figures.overload.work < figure_room wide → figure_at wide (record_with wide t ++ back) 0 2 ≡ t.figures.overload.work
  nominal_span : t.figures.nominal.span < figure_room wide → figure_at wide (record_with wide t ++ back) 0 3 ≡ t.figures.nominal.span
  overload_span : t.figures.overload.span < figure_room wide → figure_at wide (record_with wide t ++ back) 0 4 ≡ t.figures.overload.span
  masks : (n : ℕ) → u32_at (record_with wide t ++ back) (cond wide 22 12 + n) ≡ u32_at (masks_bytes t.nodes t.predecessors ++ back) n

told : (wide : Bool) (t : Task) (back : List ℕ) → Told wide t back
unfolding figure_at figure_bytes u16_bytes u32_bytes u16_at u32_at byte_at
told true t back =
    record {
      deadline = u32_whole t.figures.deadline;
      nominal_work = u32_whole t.figures.nominal.work;
      overload_work = u32_whole t.figures.overload.work;
      nominal_span = u32_whole t.figures.nominal.span;
      overload_span = u32_whole t.figures.overload.span;
      masks = λ n. u32_behind (up_to_masks true t) (masks_bytes t.nodes t.predecessors ++ back) n (22 + n) refl;
    }
told false t back =
    record {
      deadline = u16_whole t.figures.deadline;
      nominal_work = u16_whole t.figures.nominal.work;
      overload_work = u16_whole t.figures.overload.work;
      nominal_span = u16_whole t.figures.nominal.span;
      overload_span = u16_whole t.figures.overload.span;
      masks = λ n. u32_behind (up_to_masks false t) (masks_bytes t.nodes t.predecessors ++ back) n (12 + n) refl;
    }

-- Bytes in front move a figure.
figure_behind : (wide : Bool) (front s : List ℕ) (i : ℕ) → figure_at wide (front ++ s) (length front) i ≡ figure_at wide s 0 i
unfolding figure_at
figure_behind true front s i = u32_behind front s (2 + 4 * i) (length front + 2 + 4 * i) (omega arith)
figure_behind false front s i = u16_behind front s (2 + 2 * i) (length front + 2 + 2 * i) (omega arith)

-- A task by its parts.
task_whole : (t : Task) {level nodes d cn co ln lo : ℕ} {masks : List ℕ} → level ≡ t.level → nodes ≡ t.nodes
    → d ≡ t.figures.deadline → cn ≡ t.figures.nominal.work → co ≡ t.figures.overload.work
    → ln ≡ t.figures.nominal.span → lo ≡ t.figures.overload.span → masks ≡ t.predecessors
    → ◌≡◌ {A = Task}
    (record { level = level; nodes = nodes; figures = record { deadline = d; nominal = record { work = cn; span = ln }; overload = record { work = co; span = lo } }; predecessors = masks }) t
task_whole t a b c d e f g h = rw (a, b, c, d, e, f, g, h)

module _ (t : Task) (front back : List ℕ) where
  abbrev whole : List ℕ
  whole = record_bytes t ++ back

  abbrev wide : Bool
  wide = is_wide t.level

  -- Level and number of nodes.
  level_read : level_at (front ++ whole) (length front) ≡ t.level
  unfolding level_at byte_at record_bytes
  level_read = byte_behind front whole 0 (length front) (omega arith)

  nodes_read : nodes_at (front ++ whole) (length front) ≡ t.nodes
  unfolding nodes_at byte_at record_bytes
  nodes_read = byte_behind front whole 1 (length front + 1) refl

  -- What the record says, by itself.
  whole_told : Told wide t back
  whole_told = told wide t back

  -- A figure, where the level that is read gives the width.
  figure_read : (i : ℕ) {x : ℕ} → figure_at wide whole 0 i ≡ x →
      figure_at (is_wide (level_at (front ++ whole) (length front))) (front ++ whole) (length front) i ≡ x
  figure_read i e =
      ap (λ (level : ℕ). figure_at (is_wide level) (front ++ whole) (length front) i) level_read
      ∙ figure_behind wide front whole i
      ∙ e

  -- A mask, by its node.
  mask_read : (d v : ℕ) → v ≡ 0 + d →
      u32_at (front ++ whole) (length front + bytes_before_masks (level_at (front ++ whole) (length front)) + 4 * v)
      ≡ u32_at (masks_bytes t.nodes t.predecessors ++ back) (4 * d)
  unfolding record_bytes bytes_before_masks
  mask_read d v e =
      ap (λ (level : ℕ). u32_at (front ++ whole) (length front + bytes_before_masks level + 4 * v)) level_read
      ∙ u32_behind front whole (bytes_before_masks t.level + 4 * d) (length front + bytes_before_masks t.level + 4 * v) (omega arith)
      ∙ whole_told.masks (4 * d)

  masks_whole : Encodable t →
      masks_at (front ++ whole) (length front + bytes_before_masks (level_at (front ++ whole) (length front))) (nodes_at (front ++ whole) (length front))
      ≡ t.predecessors
  unfolding masks_at
  masks_whole fits =
      let at = length front + bytes_before_masks (level_at (front ++ whole) (length front)) in
      let mask : ℕ → ℕ = λ v. u32_at (front ++ whole) (at + 4 * v) in
      let few : t.nodes ≤ length t.predecessors = omega (arith, fits.nodes, fits.masks) in
      ap (λ (n : ℕ). cells_from 0 n mask 0 (nodes_at (front ++ whole) (length front))) (sym fits.masks)
      ∙ cells_whole mask 0 0 t.predecessors 0 t.nodes (nodes_at (front ++ whole) (length front)) (omega (arith, nodes_read)) few
      (λ v j e h. mask_read j v e ∙ mask_at t.predecessors t.nodes j back few fits.masks_fit h)
      (fits.masks_none ∙ ap (λ (n : ℕ). replicate (n - t.nodes) 0) (sym fits.masks))

pub round_trip : RoundTrip
unfolding RoundTrip task_at figures_at record_bytes
round_trip t front back fits =
    let says = whole_told t front back in
    task_whole t (level_read t front back) (nodes_read t front back)
    (figure_read t front back 0 (says.deadline fits.deadline))
    (figure_read t front back 1 (says.nominal_work fits.nominal_work))
    (figure_read t front back 2 (says.overload_work fits.overload_work))
    (figure_read t front back 3 (says.nominal_span fits.nominal_span))
    (figure_read t front back 4 (says.overload_span fits.overload_span))
    (masks_whole t front back fits)

pub masks_length : (k : ℕ) (masks : List ℕ) → k ≤ length masks → length (masks_bytes k masks) ≡ 4 * k
unfolding masks_bytes u32_bytes
masks_length zero masks h = refl
masks_length (suc k) [] h = absurd (omega arith)
masks_length (suc k) (mask ∷ masks) h = omega (arith, masks_length k masks (omega arith))

length_with : (wide : Bool) (t : Task) → length (masks_bytes t.nodes t.predecessors) ≡ 4 * t.nodes →
    length (record_with wide t) ≡ cond wide 22 12 + 4 * t.nodes
unfolding figure_bytes u16_bytes u32_bytes
length_with true t e = omega (arith, e)
length_with false t e = omega (arith, e)

pub record_length : RecordLength
unfolding RecordLength record_bytes bytes_before_masks
record_length t fits =
    length_with (is_wide t.level) t (masks_length t.nodes t.predecessors (omega (arith, fits.nodes, fits.masks)))

-- A record that is not wide, byte by byte.
pub narrow_record : (t : Task) → is_wide t.level ≡ false → record_bytes t ≡ record_with false t
unfolding record_bytes
narrow_record t e = ap (λ (wide : Bool). record_with wide t) e

-- A list of bytes, one in front of the other.
record Bytes (xs : List ℕ) : Type 0 where
  each : (i : ℕ) → get_or xs i 0 < 256

bytes_none : Bytes []
bytes_none = record { each = λ i. omega arith }

bytes_cons : {x : ℕ} {xs : List ℕ} → x < 256 → Bytes xs → Bytes (x ∷ xs)
bytes_cons {x} {xs} h rest = record { each = go }
  where
    go : (i : ℕ) → get_or (x ∷ xs) i 0 < 256
    go zero = h
    go (suc i) = rest.each i

low_byte : (x : ℕ) → x % 256 < 256
low_byte x = mod-lt x (omega arith)

u16_bytes_lem : (x : ℕ) {xs : List ℕ} → Bytes xs → Bytes (x % 256 ∷ x / 256 % 256 ∷ xs)
u16_bytes_lem x rest = bytes_cons (low_byte x) (bytes_cons (low_byte (x / 256)) rest)

bytes_both : (xs : List ℕ) {ys : List ℕ} → Bytes xs → Bytes ys → Bytes (xs ++ ys)
bytes_both [] front back = back
bytes_both (x ∷ xs) front back = bytes_cons (front.each 0) (bytes_both xs (record { each = λ i. front.each (suc i) }) back)

figure_bytes_lem : (wide : Bool) (x : ℕ) → Bytes (figure_bytes wide x)
unfolding figure_bytes u16_bytes u32_bytes
figure_bytes_lem true x = u16_bytes_lem x (bytes_cons (low_byte (x / 65536)) (bytes_cons (low_byte (x / 16777216)) bytes_none))
figure_bytes_lem false x = u16_bytes_lem x bytes_none

masks_bytes_lem : (k : ℕ) (masks : List ℕ) → Bytes (masks_bytes k masks)
unfolding masks_bytes u32_bytes
masks_bytes_lem zero masks = bytes_none
masks_bytes_lem (suc k) [] = bytes_none
masks_bytes_lem (suc k) (mask ∷ masks) =
    u16_bytes_lem mask (bytes_cons (low_byte (mask / 65536)) (bytes_cons (low_byte (mask / 16777216)) (masks_bytes_lem k masks)))

pub record_of_bytes : RecordOfBytes
unfolding RecordOfBytes record_bytes byte_at
record_of_bytes t i fits =
    let nodes : t.nodes < 256 = omega (arith, fits.nodes) in
    let wide = is_wide t.level in
    (bytes_cons fits.level
    (bytes_cons nodes
    (bytes_both _
    (bytes_both _
    (bytes_both _
    (bytes_both _
    (bytes_both _ (figure_bytes_lem wide t.figures.deadline) (figure_bytes_lem wide t.figures.nominal.work))
    (figure_bytes_lem wide t.figures.overload.work))
    (figure_bytes_lem wide t.figures.nominal.span))
    (figure_bytes_lem wide t.figures.overload.span))
    (masks_bytes_lem t.nodes t.predecessors)))).each i
