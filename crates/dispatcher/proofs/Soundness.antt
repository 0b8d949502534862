-- What soundness says of a state, as facts.
use Prim.Native.Nat.{ℕ, ◌≤◌}
use mathlib.Core.Path.{◌≡◌}
use mathlib.Core.Bool.{Bool, true, false, ◌&&◌, and-eq-true_iff}
use mathlib.Core.List.{List}
use borrow.Author.Tests.{leb-true, le-leb}
use lib.Dec.{leb}
use Rattle.basics.specs.Numbers.{within}
use Rattle.basics.proofs.Logic.{within_bounds}
use Rattle.shares.specs.Totals.{share_total}
use Rattle.model.specs.Row.{Row}
use Rattle.dispatcher.specs.declared.state.State.{State}
use Rattle.dispatcher.specs.Holds.{entries_of, model_of, row_shares}
use Rattle.dispatcher.specs.Sound.{entries_sound, is_sound}

-- The sum of the rows' shares in one mode.
abbrev pub shares_in : Bool → List Row → ℕ
shares_in critical rows = share_total critical (row_shares rows)

-- The state's tests: the ranges of M and n first, then what the entries say.
pub ranges_broken : (s : State) → (within 1 64 s.processors && within 1 16 s.count) ≡ false → is_sound s ≡ false
unfolding is_sound
ranges_broken s t = rw t

pub ranges_kept : (s : State) → (within 1 64 s.processors && within 1 16 s.count) ≡ true
    → (entries_sound (entries_of s) && leb (shares_in false (model_of s).rows) s.processors && leb (shares_in true (model_of s).rows) s.processors) ≡ is_sound s
unfolding is_sound
ranges_kept s t = rw t

pub count-within : (s : State) → (within 1 64 s.processors && within 1 16 s.count) ≡ true → s.count ≤ 16
count-within s t =
    (within_bounds 1 16 s.count ((and-eq-true_iff (within 1 64 s.processors) (within 1 16 s.count)).0 t).1).1

-- A sound state, part by part.
pub record SoundState (s : State) : Type 0 where
  pub processors : within 1 64 s.processors ≡ true
  pub count : within 1 16 s.count ≡ true
  pub entries : entries_sound (entries_of s) ≡ true
  pub typical : shares_in false (model_of s).rows ≤ s.processors
  pub critical : shares_in true (model_of s).rows ≤ s.processors

pub state_facts : (s : State) → is_sound s ≡ true → SoundState s
unfolding is_sound
state_facts s t =
    let m = within 1 64 s.processors in
    let n = within 1 16 s.count in
    let es = entries_sound (entries_of s) in
    let ts = leb (shares_in false (model_of s).rows) s.processors in
    let p4 = (and-eq-true_iff (m && n && es && ts) (leb (shares_in true (model_of s).rows) s.processors)).0 t in
    let p3 = (and-eq-true_iff (m && n && es) ts).0 p4.0 in
    let p2 = (and-eq-true_iff (m && n) es).0 p3.0 in
    let p1 = (and-eq-true_iff m n).0 p2.0 in
    record {
      processors = p1.0;
      count = p1.1;
      entries = p2.1;
      typical = leb-true (shares_in false (model_of s).rows) s.processors p3.1;
      critical = leb-true (shares_in true (model_of s).rows) s.processors p4.1;
    }

pub sound_state : (s : State) → SoundState s → is_sound s ≡ true
unfolding is_sound
sound_state s f =
    rw (
      f.processors,
      f.count,
      f.entries,
      le-leb (shares_in false (model_of s).rows) s.processors f.typical,
      le-leb (shares_in true (model_of s).rows) s.processors f.critical,
    )

-- The line is long enough for what is read.
pub few_entries : (s : State) → is_sound s ≡ true → s.count ≤ 16
few_entries s t = (within_bounds 1 16 s.count (state_facts s t).count).1
