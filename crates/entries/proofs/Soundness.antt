-- What soundness says of an entry, as facts.
use Prim.Native.Nat.{ℕ, ◌-◌, ◌≤◌, ◌<◌, ◌^◌, min}
use mathlib.Core.Path.{◌≡◌}
use mathlib.Core.Bool.{Bool, true, not, ◌&&◌, and-eq-true_iff}
use native.Mathlib.Nat.{min-eq_left}
use native.Mathlib.Omega.{arith}
use borrow.Author.Tests.{leb-true, ltb-true, le-leb, lt-ltb}
use lib.Dec.{leb, ltb}
use lib.Pow.{pow_pos}
use Rattle.std.proofs.lemmas.Bool.Decides.{nat_tests}
use Rattle.basics.specs.Lists.{range}
use Rattle.nodes.specs.Sets.{set_of}
use Rattle.nodes.proofs.Members.{set_of-range}
use Rattle.basics.proofs.Logic.{within_bounds}
use Rattle.basics.specs.Numbers.{within}
use Rattle.sheet.specs.Level.{level_lawful, figure_limit}
use Rattle.sheet.specs.Rules.{masks_lawful}
use Rattle.model.specs.Row.{all_ended}
use Rattle.entries.specs.declared.state.TaskState.{TaskState}
use Rattle.entries.specs.Sound.{entry_sound}

-- Eight tests that all hold.
pub record All (a b c d e f g h : Bool) : Type 0 where
  pub first : a ≡ true
  pub second : b ≡ true
  pub third : c ≡ true
  pub fourth : d ≡ true
  pub fifth : e ≡ true
  pub sixth : f ≡ true
  pub seventh : g ≡ true
  pub eighth : h ≡ true

all_of : (a b c d e f g h : Bool) → (a && b && c && d && e && f && g && h) ≡ true → All a b c d e f g h
all_of a b c d e f g h t =
    let p7 = (and-eq-true_iff (a && b && c && d && e && f && g) h).0 t in
    let p6 = (and-eq-true_iff (a && b && c && d && e && f) g).0 p7.0 in
    let p5 = (and-eq-true_iff (a && b && c && d && e) f).0 p6.0 in
    let p4 = (and-eq-true_iff (a && b && c && d) e).0 p5.0 in
    let p3 = (and-eq-true_iff (a && b && c) d).0 p4.0 in
    let p2 = (and-eq-true_iff (a && b) c).0 p3.0 in
    let p1 = (and-eq-true_iff a b).0 p2.0 in
    record { first = p1.0; second = p1.1; third = p2.1; fourth = p3.1; fifth = p4.1; sixth = p5.1; seventh = p6.1; eighth = p7.1 }

of_all : (a b c d e f g h : Bool) → All a b c d e f g h → (a && b && c && d && e && f && g && h) ≡ true
of_all a b c d e f g h t = rw (t.first, t.second, t.third, t.fourth, t.fifth, t.sixth, t.seventh, t.eighth)

-- A sound entry, part by part.
pub record SoundEntry (e : TaskState) : Type 0 where
  pub level : level_lawful e.level ≡ true
  pub nodes : within 1 32 e.nodes ≡ true
  pub masks : masks_lawful e.predecessors e.nodes ≡ true
  pub deadline : within 1 (figure_limit e.level) e.deadline ≡ true
  pub virtual : e.virtual_deadline ≤ e.deadline
  pub age : e.age ≤ e.deadline
  pub ended : e.job.ended < 2 ^ e.nodes
  pub alive : not (e.job.alive && all_ended e.nodes e.job.ended) ≡ true

pub entry_facts : (e : TaskState) → entry_sound e ≡ true → SoundEntry e
unfolding entry_sound
entry_facts e t =
    let all =
    all_of (level_lawful e.level) (within 1 32 e.nodes) (masks_lawful e.predecessors e.nodes) (within 1 (figure_limit e.level) e.deadline)
    (leb e.virtual_deadline e.deadline) (leb e.age e.deadline) (ltb e.job.ended (2 ^ e.nodes))
    (not (e.job.alive && all_ended e.nodes e.job.ended)) t in
    record {
      level = all.first;
      nodes = all.second;
      masks = all.third;
      deadline = all.fourth;
      virtual = leb-true e.virtual_deadline e.deadline all.fifth;
      age = leb-true e.age e.deadline all.sixth;
      ended = ltb-true e.job.ended (2 ^ e.nodes) all.seventh;
      alive = all.eighth;
    }

pub sound_entry : (e : TaskState) → SoundEntry e → entry_sound e ≡ true
unfolding entry_sound
sound_entry e s =
    of_all (level_lawful e.level) (within 1 32 e.nodes) (masks_lawful e.predecessors e.nodes) (within 1 (figure_limit e.level) e.deadline)
    (leb e.virtual_deadline e.deadline) (leb e.age e.deadline) (ltb e.job.ended (2 ^ e.nodes))
    (not (e.job.alive && all_ended e.nodes e.job.ended))
    (record {
      first = s.level;
      second = s.nodes;
      third = s.masks;
      fourth = s.deadline;
      fifth = le-leb e.virtual_deadline e.deadline s.virtual;
      sixth = le-leb e.age e.deadline s.age;
      seventh = lt-ltb e.job.ended (2 ^ e.nodes) s.ended;
      eighth = s.alive;
    })

-- The ended set against the set of all k nodes.
pub below_full : (k x : ℕ) → k ≤ 32 → leb x (set_of (range 0 (min k 32))) ≡ ltb x (2 ^ k)
below_full k x h =
    let full : set_of (range 0 (min k 32)) ≡ 2 ^ k - 1 = rw (min-eq_left {n = k} {m = 32} h) (set_of-range k) in
    let some : 0 < 2 ^ k = pow_pos k in
    rw full (grind (arith, nat_tests))

pub few_nodes : (e : TaskState) → entry_sound e ≡ true → e.nodes ≤ 32
few_nodes e t = (within_bounds 1 32 e.nodes (entry_facts e t).nodes).1
