-- What the rules and the format come to, put another way. Each law is proved in proofs/.
use Rattle.std.specs.Prelude.{ℕ, ◌≤◌, ◌<◌, ◌+◌, ◌*◌, ◌-◌, ◌^◌, Bool, true, false, cond, List, ◌++◌, ◌↔◌, ◌≡◌, ltb, length, get_or, drop, replicate}
use Rattle.std.specs.List.{list_all}
use Rattle.nodes.specs.Sets.{has}
use Rattle.sheet.specs.declared.task.Task.{Task}
use Rattle.basics.specs.Numbers.{byte_at}
use Rattle.sheet.specs.Level.{is_wide, bytes_before_masks}
use Rattle.sheet.specs.Format.{task_at}
use Rattle.sheet.specs.Rules.{mask_lawful, masks_lawful}
use Rattle.sheet.specs.Encoding.{record_bytes}

-- S2.12, bit by bit: node v's mask is lawful exactly if none of its bits from v on is set.
unfoldable pub MaskLaw : Type 0
MaskLaw = (masks : List ℕ) (v : ℕ) → (mask_lawful masks v ≡ true) ↔ ((j : ℕ) → v ≤ j → has (get_or masks v 0) j ≡ false)

-- S2.12, for a task of k nodes: each node's predecessors have lower numbers than the node.
unfoldable pub MasksLaw : Type 0
MasksLaw =
    (masks : List ℕ) (k : ℕ) → (masks_lawful masks k ≡ true) ↔ ((v j : ℕ) → v < k → has (get_or masks v 0) j ≡ true → j < v)

-- The numbers that a figure's bytes can hold lie below this.
abbrev pub figure_room : Bool → ℕ
figure_room wide = cond wide (2 ^ 32) (2 ^ 16)

-- A task that a record can hold: each part fits its bytes, and there are 32 masks, those from k on 0.
pub record Encodable (t : Task) : Type 0 where
  pub level : t.level < 256
  pub nodes : t.nodes ≤ 32
  pub deadline : t.figures.deadline < figure_room (is_wide t.level)
  pub nominal_work : t.figures.nominal.work < figure_room (is_wide t.level)
  pub overload_work : t.figures.overload.work < figure_room (is_wide t.level)
  pub nominal_span : t.figures.nominal.span < figure_room (is_wide t.level)
  pub overload_span : t.figures.overload.span < figure_room (is_wide t.level)
  pub masks : length t.predecessors ≡ 32
  pub masks_fit : list_all (λ mask. ltb mask (2 ^ 32)) t.predecessors ≡ true
  pub masks_none : drop t.nodes t.predecessors ≡ replicate (32 - t.nodes) 0

-- S2.6: a record that is written is read as its task, wherever it stands.
unfoldable pub RoundTrip : Type 0
RoundTrip =
    (t : Task) (front back : List ℕ) → Encodable t → task_at (front ++ (record_bytes t ++ back)) (length front) ≡ t

-- S2.7: it has as many bytes as its level and its nodes ask for.
unfoldable pub RecordLength : Type 0
RecordLength = (t : Task) → Encodable t → length (record_bytes t) ≡ bytes_before_masks t.level + 4 * t.nodes

-- Each of them is a byte.
unfoldable pub RecordOfBytes : Type 0
RecordOfBytes = (t : Task) (i : ℕ) → Encodable t → byte_at (record_bytes t) i < 256
