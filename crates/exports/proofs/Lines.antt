-- S13.2: what the tests of a line say, as facts, and back.
use Prim.Native.Nat.{ℕ, ◌<◌}
use mathlib.Core.Path.{◌≡◌}
use mathlib.Core.Bool.{Bool, true, ◌&&◌, and-eq-true_iff}
use mathlib.Core.List.{List}
use borrow.Author.Tests.{ltb-true, lt-ltb, eqb-true, eq-eqb}
use lib.Dec.{eqb}
use lib.ListN.{length, get_or, drop}
use Rattle.basics.specs.Lists.{all_below}
use Rattle.basics.proofs.Below.{all_at, all_intro}
use Rattle.exports.specs.Words.{entry_start, state_size, is_byte, is_mark, entry_fits, is_state}

-- The words of an entry that have a bound.
pub record Fitting (words : List ℕ) : Type 0 where
  pub level : get_or words 0 0 < 256
  pub nodes : get_or words 1 0 < 256
  pub typical : get_or words 36 0 < 256
  pub critical : get_or words 37 0 < 256
  pub alive : get_or words 40 0 < 2

pub entry_fitting : (words : List ℕ) → entry_fits words ≡ true → Fitting words
unfolding entry_fits
entry_fitting words t =
    let a = is_byte (get_or words 0 0) in
    let b = is_byte (get_or words 1 0) in
    let c = is_byte (get_or words 36 0) in
    let d = is_byte (get_or words 37 0) in
    let p4 = (and-eq-true_iff (a && b && c && d) (is_mark (get_or words 40 0))).0 t in
    let p3 = (and-eq-true_iff (a && b && c) d).0 p4.0 in
    let p2 = (and-eq-true_iff (a && b) c).0 p3.0 in
    let p1 = (and-eq-true_iff a b).0 p2.0 in
    record {
      level = ltb-true (get_or words 0 0) 256 p1.0;
      nodes = ltb-true (get_or words 1 0) 256 p1.1;
      typical = ltb-true (get_or words 36 0) 256 p2.1;
      critical = ltb-true (get_or words 37 0) 256 p3.1;
      alive = ltb-true (get_or words 40 0) 2 p4.1;
    }

pub fitting_entry : (words : List ℕ) → Fitting words → entry_fits words ≡ true
unfolding entry_fits
fitting_entry words f =
    rw (
      lt-ltb (get_or words 0 0) 256 f.level,
      lt-ltb (get_or words 1 0) 256 f.nodes,
      lt-ltb (get_or words 36 0) 256 f.typical,
      lt-ltb (get_or words 37 0) 256 f.critical,
      lt-ltb (get_or words 40 0) 2 f.alive,
    )

-- A line that is a state, part by part.
pub record StateLine (line : List ℕ) : Type 0 where
  pub long : length line ≡ state_size
  pub processors : get_or line 0 0 < 256
  pub count : get_or line 1 0 < 256
  pub mode : get_or line 2 0 < 2
  pub entries : (i : ℕ) → i < 16 → entry_fits (drop (entry_start i) line) ≡ true

pub state_line : (line : List ℕ) → is_state line ≡ true → StateLine line
unfolding is_state
state_line line t =
    let l = eqb (length line) state_size in
    let m = is_byte (get_or line 0 0) in
    let n = is_byte (get_or line 1 0) in
    let c = is_mark (get_or line 2 0) in
    let fits : ℕ → Bool = λ i. entry_fits (drop (entry_start i) line) in
    let p4 = (and-eq-true_iff (l && m && n && c) (all_below 16 fits)).0 t in
    let p3 = (and-eq-true_iff (l && m && n) c).0 p4.0 in
    let p2 = (and-eq-true_iff (l && m) n).0 p3.0 in
    let p1 = (and-eq-true_iff l m).0 p2.0 in
    record {
      long = eqb-true (length line) state_size p1.0;
      processors = ltb-true (get_or line 0 0) 256 p1.1;
      count = ltb-true (get_or line 1 0) 256 p2.1;
      mode = ltb-true (get_or line 2 0) 2 p3.1;
      entries = all_at 16 fits p4.1;
    }

pub line_state : (line : List ℕ) → StateLine line → is_state line ≡ true
unfolding is_state
line_state line f =
    rw (
      eq-eqb (length line) state_size f.long,
      lt-ltb (get_or line 0 0) 256 f.processors,
      lt-ltb (get_or line 1 0) 256 f.count,
      lt-ltb (get_or line 2 0) 2 f.mode,
      all_intro 16 (λ (i : ℕ). entry_fits (drop (entry_start i) line)) f.entries,
    )
