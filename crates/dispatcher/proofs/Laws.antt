-- What Release and Tick keep: a sound state stays sound and answers as the model does, the state after a call holds the
-- model after its step, a refused call hands back an equal state, and entries behind the tasks come back as they were.
-- From the model's laws, entry by entry.
use Prim.Native.Nat.{ℕ, zero, suc, ◌+◌, ◌≤◌, ◌<◌}
use mathlib.Core.Path.{◌≡◌, refl, sym, ap, ap₂, subst, ◌∙◌}
use mathlib.Core.Bool.{Bool, true, false, cond, not, ◌&&◌, true≢false, and-eq-true_iff}
use mathlib.Core.List.{List, [], ◌∷◌, map}
use Rattle.std.specs.Prelude.{Option, Some, None, Result, Ok, Err, ⊤}
use native.Mathlib.Omega.{arith}
use borrow.Author.Tests.{not-true}
use lib.ListN.{length, get_or, take, drop, length-map, length-take, get_or-map}
use Rattle.std.specs.List.{list_any}
use Rattle.basics.proofs.Logic.{within_bounds}
use Rattle.sheet.specs.declared.refusal.Refusal.{Refusal}
use Rattle.sheet.specs.declared.refusal.Refusal.TheVariants.{NotSound}
use Rattle.shares.specs.Totals.{share_in}
use Rattle.model.specs.Row.{Fixed, Job, Row, all_ended, has_high_job, fixed_part as row_fixed}
use Rattle.model.specs.Step.{Model, Call, release, tick, step, step_by, release_refusal, tick_refusal, released, ticked, turning, switched_to, returned_to, lowest_late, ticked_rows, no_row, row_at}
use Rattle.model.proofs.Lasting.{KeptSound, fixed_step, length-step, sound_step}
use Rattle.entries.specs.declared.state.TaskState.{TaskState}
use Rattle.dispatcher.specs.declared.state.State.{State}
use Rattle.dispatcher.specs.declared.tick.TickAnswer.TheVariants.{Refused as TickRefused}
use Rattle.entries.specs.Entry.{fixed_of, job_of, row_of, with_row}
use Rattle.dispatcher.specs.Holds.{entries_of, model_of, with_rows, with_model}
use Rattle.entries.specs.Sound.{entry_sound}
use Rattle.dispatcher.specs.Sound.{entries_sound, is_sound}
use Rattle.dispatcher.specs.Answers.{release_answer, tick_answer}
use Rattle.dispatcher.specs.Calls.{released_by, release_of, ticked_by, tick_of}
use Rattle.dispatcher.specs.Laws.{ReleaseSound, TickSound, ReleaseModel, TickModel}
use Rattle.entries.proofs.Soundness.{SoundEntry, entry_facts, sound_entry}
use Rattle.dispatcher.proofs.Soundness.{shares_in, SoundState, state_facts, sound_state}
use Rattle.dispatcher.proofs.Entries.{no_entry, sound_in}
use Rattle.dispatcher.proofs.Rows.{rows_rest, model_own, model_with, no_entry_row}

-- One entry: what soundness says of its job is what the model says of its row.
row_sound : (e : TaskState) → entry_sound e ≡ true → KeptSound (row_of e)
unfolding row_of fixed_of job_of
row_sound e t =
    let f = entry_facts e t in
    record {
      some = (within_bounds 1 32 e.nodes f.nodes).0;
      sound = record { age = f.age; ended = f.ended; alive = λ alive. unended e.job.alive (all_ended e.nodes e.job.ended) alive f.alive };
    }
  where
    unended : (a b : Bool) → a ≡ true → not (a && b) ≡ true → b ≡ false
    unended true b alive t = not-true b t
    unended false b alive t = absurd (true≢false (sym alive))

ended_test : (a b : Bool) → (a ≡ true → b ≡ false) → not (a && b) ≡ true
ended_test true b h = rw (h refl)
ended_test false b h = refl

row_kept : (e : TaskState) (age : ℕ) (j : Job) → SoundEntry e → KeptSound (record { fixed = fixed_of e; age = age; job = j })
    → SoundEntry (with_row e (record { fixed = fixed_of e; age = age; job = j }))
unfolding fixed_of with_row
row_kept e age j f k =
    record {
      level = f.level;
      nodes = f.nodes;
      masks = f.masks;
      deadline = f.deadline;
      virtual = f.virtual;
      age = k.sound.age;
      ended = k.sound.ended;
      alive = ended_test j.alive (all_ended e.nodes j.ended) k.sound.alive;
    }

entry_kept : (e : TaskState) (r : Row) → entry_sound e ≡ true → r.fixed ≡ fixed_of e → KeptSound r → entry_sound (with_row e r) ≡ true
unfolding with_row
entry_kept e r t same kept =
    sound_entry (with_row e r)
    (row_kept e r.age r.job (entry_facts e t) (subst (λ (f : Fixed). KeptSound (record { fixed = f; age = r.age; job = r.job })) same kept))

-- All entries.
entries_kept : (n : ℕ) (es : List TaskState) (rows : List Row) → entries_sound (take n es) ≡ true
    → map row_fixed rows ≡ map row_fixed (map row_of (take n es)) → ((i : ℕ) → i < length rows → KeptSound (get_or rows i no_row))
    → entries_sound (take n (with_rows es rows)) ≡ true
unfolding row_of
entries_kept zero [] rows t same kept = refl
entries_kept zero (e ∷ es) [] t same kept = refl
entries_kept zero (e ∷ es) (r ∷ rows) t same kept = refl
entries_kept (suc n) [] rows t same kept = refl
entries_kept (suc n) (e ∷ es) [] t same kept = t
entries_kept (suc n) (e ∷ es) (r ∷ rows) t same kept =
    let both = (and-eq-true_iff (entry_sound e) (entries_sound (take n es))).0 t in
    rw (
      entry_kept e r both.0 (cc) (kept 0 (omega arith)),
      entries_kept n es rows both.1 (cc) (λ i h. kept (suc i) (omega arith)),
    )

-- Rows with the same fixed parts have the same shares.
shares_kept : (critical : Bool) (rows others : List Row) → map row_fixed rows ≡ map row_fixed others → shares_in critical rows ≡ shares_in critical others
shares_kept critical [] [] same = refl
shares_kept critical [] (o ∷ others) same = let never : ◌≡◌ {A = ℕ} 0 1 = cc in absurd (omega arith)
shares_kept critical (r ∷ rows) [] same = let never : ◌≡◌ {A = ℕ} 0 1 = cc in absurd (omega arith)
shares_kept critical (r ∷ rows) (o ∷ others) same =
    ap₂ ◌+◌ (ap (share_in critical) (cc)) (shares_kept critical rows others (cc))

-- One step of the model, put back into a sound state: it stays sound, and it holds the model after the step.
module _ (s : State) (sound : is_sound s ≡ true) (c : Call) where
  -- The state with the model after the step.
  abbrev stepped : State
  stepped = with_model s (step (model_of s) c).model

  pub step_model : model_of stepped ≡ (step (model_of s) c).model
  step_model = model_with s (step (model_of s) c).model (fixed_step (model_of s) c)

  row_of_lem : (i : ℕ) → row_at (model_of s) i ≡ row_of (get_or (entries_of s) i no_entry)
  unfolding model_of row_at
  row_of_lem i = ap (get_or (map row_of (entries_of s)) i) (sym no_entry_row) ∙ get_or-map row_of (entries_of s) i no_entry

  rows_as_many : length (model_of s).rows ≡ length (entries_of s)
  unfolding model_of
  rows_as_many = length-map (entries_of s) row_of

  rows_kept : (i : ℕ) → i < length (step (model_of s) c).model.rows → KeptSound (row_at (step (model_of s) c).model i)
  rows_kept i h =
      let known : i < length (model_of s).rows = omega (arith, length-step (model_of s) c) in
      sound_step (model_of s) c i known
      (rw (row_of_lem i) (row_sound (get_or (entries_of s) i no_entry) (sound_in (entries_of s) i (state_facts s sound).entries (omega (arith, rows_as_many)))))

  shares_small : (critical : Bool) → shares_in critical (model_of s).rows ≤ s.processors → shares_in critical (model_of stepped).rows ≤ s.processors
  shares_small critical h =
      let same : shares_in critical (model_of stepped).rows ≡ shares_in critical (model_of s).rows =
      ap (λ (m : Model). shares_in critical m.rows) step_model
      ∙ shares_kept critical (step (model_of s) c).model.rows (model_of s).rows (fixed_step (model_of s) c) in
      omega arith

  facts_kept : SoundState s → SoundState stepped
  unfolding with_model model_of entries_of row_at
  facts_kept f =
      let rows = (step (model_of s) c).model.rows in
      record {
        processors = f.processors;
        count = f.count;
        entries = entries_kept s.count s.entries rows f.entries (fixed_step (model_of s) c) rows_kept;
        typical = shares_small false f.typical;
        critical = shares_small true f.critical;
      }

  pub step_sound : is_sound stepped ≡ true
  step_sound = sound_state stepped (facts_kept (state_facts s sound))

-- S7.2: a sound state stays sound under Release and Tick.
pub release_sound : ReleaseSound
unfolding release_of
release_sound s i sound = rw sound (step_sound s sound (release i))

pub tick_sound : TickSound
unfolding tick_of
tick_sound s reports sound = rw sound (step_sound s sound (tick reports))

-- S10.3: a call on a sound state answers as the model does.
pub release_answered : (s : State) (i : ℕ) → is_sound s ≡ true → (release_of s i).answer ≡ release_answer (step (model_of s) (release i)).answer
unfolding release_of
release_answered s i sound = rw sound

pub tick_answered : (s : State) (reports : List ℕ) → is_sound s ≡ true → (tick_of s reports).answer ≡ tick_answer (step (model_of s) (tick reports)).answer
unfolding tick_of
tick_answered s reports sound = rw sound

-- S10.3: the state after a call holds the model after its step.
pub release_model : ReleaseModel
unfolding release_of
release_model s i sound = rw sound (step_model s sound (release i))

pub tick_model : TickModel
unfolding tick_of
tick_model s reports sound = rw sound (step_model s sound (tick reports))

-- S3.4: a refused call hands back an equal state.
pub release_back : (s : State) (i : ℕ) {r : Refusal} → (release_of s i).answer ≡ Err r → (release_of s i).state ≡ s
unfolding release_of step released
release_back s i {r} refused = go (is_sound s) (release_refusal (model_of s) i) refused
  where
    go : (t : Bool) (o : Result ⊤ Refusal)
        → (cond t (released_by s (step_by o (model_of s) (release i))) (record { state = s; answer = Err NotSound })).answer ≡ Err r
        → (cond t (released_by s (step_by o (model_of s) (release i))) (record { state = s; answer = Err NotSound })).state ≡ s
    go true (Ok x) e = let never : ◌≡◌ {A = ℕ} 0 1 = cc in absurd (omega arith)
    go true (Err r) e = model_own s
    go false o e = refl

-- An accepted tick is answered by no refusal.
not_refused : (critical : Bool) (rows : List Row) {r : Refusal} → tick_answer (turning critical rows).answer ≡ TickRefused r → ⊥
not_refused true rows {r} e = go (list_any has_high_job rows) e
  where
    go : (t : Bool) → tick_answer (returned_to rows t).answer ≡ TickRefused r → ⊥
    go true e = let never : ◌≡◌ {A = ℕ} 0 1 = cc in omega arith
    go false e = let never : ◌≡◌ {A = ℕ} 0 1 = cc in omega arith
not_refused false rows {r} e = go (lowest_late 0 rows) e
  where
    go : (o : Option ℕ) → tick_answer (switched_to rows o).answer ≡ TickRefused r → ⊥
    go None e = let never : ◌≡◌ {A = ℕ} 0 1 = cc in omega arith
    go (Some i) e = let never : ◌≡◌ {A = ℕ} 0 1 = cc in omega arith

pub tick_back : (s : State) (reports : List ℕ) {r : Refusal} → (tick_of s reports).answer ≡ TickRefused r → (tick_of s reports).state ≡ s
unfolding tick_of step ticked
tick_back s reports {r} refused = go (is_sound s) (tick_refusal (model_of s) reports) refused
  where
    go : (t : Bool) (o : Result ⊤ Refusal)
        → (cond t (ticked_by s (step_by o (model_of s) (tick reports))) (record { state = s; answer = TickRefused NotSound })).answer ≡ TickRefused r
        → (cond t (ticked_by s (step_by o (model_of s) (tick reports))) (record { state = s; answer = TickRefused NotSound })).state ≡ s
    go true (Ok x) e = absurd (not_refused (model_of s).critical (ticked_rows (model_of s).rows reports) e)
    go true (Err r) e = model_own s
    go false o e = refl

-- S7.3: entries behind the tasks come back as they were, whatever the state.
step_rest : (s : State) (c : Call) → drop s.count (with_model s (step (model_of s) c).model).entries ≡ drop s.count s.entries
unfolding with_model model_of entries_of
step_rest s c =
    let few : length (model_of s).rows ≤ s.count =
    rw (length-map (take s.count s.entries) row_of) (omega (arith, length-take s.count s.entries)) in
    rows_rest s.count s.entries (step (model_of s) c).model.rows (omega (arith, length-step (model_of s) c))

pub release_rest : (s : State) (i : ℕ) → drop s.count (release_of s i).state.entries ≡ drop s.count s.entries
unfolding release_of
release_rest s i = go (is_sound s)
  where
    go : (t : Bool)
        → drop s.count (cond t (released_by s (step (model_of s) (release i))) (record { state = s; answer = Err NotSound })).state.entries
        ≡ drop s.count s.entries
    go true = step_rest s (release i)
    go false = refl

pub tick_rest : (s : State) (reports : List ℕ) → drop s.count (tick_of s reports).state.entries ≡ drop s.count s.entries
unfolding tick_of
tick_rest s reports = go (is_sound s)
  where
    go : (t : Bool)
        → drop s.count (cond t (ticked_by s (step (model_of s) (tick reports))) (record { state = s; answer = TickRefused NotSound })).state.entries
        ≡ drop s.count s.entries
    go true = step_rest s (tick reports)
    go false = refl
