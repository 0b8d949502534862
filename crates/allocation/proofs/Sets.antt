-- A lawful task set: its offers are offers of its tasks' options, so that what they select is what is chosen, and an
-- offer that offers nothing is a task without an option.
use Prim.Native.Nat.{ℕ, zero, suc, ◌+◌, ◌-◌, ◌≤◌, ◌<◌}
use mathlib.Core.Path.{◌≡◌, refl, sym, ap, ◌∙◌, subst}
use mathlib.Core.Bool.{Bool, true, false, false≢true}
use mathlib.Core.List.Memᴰ
use mathlib.Core.List.{List, [], ◌∷◌, map, Memᴰ}
use native.Mathlib.Numerals.{add-one}
use native.Mathlib.Omega.{arith}
use native.Mathlib.Decide.{dec_le, dec_lt}
use lib.Dec.{ltb}
use lib.ListN.{length, get_or, drop, drop_of_length-le}
use lib.Seq.{drop-cons, length-take-le, get_or-take}
use borrow.Author.Tests.{ltb-true, lt-ltb}
use Rattle.sheet.specs.declared.task.Task.{Task}
use Rattle.sheet.specs.declared.task.TaskSet.{TaskSet}
use Rattle.std.specs.Prelude.{Result, Ok, Err, None, unwrap_or}
use Rattle.allocation.proofs.Directory.{tasks_length}
use Rattle.sheet.specs.declared.refusal.Refusal.{Refusal}
use Rattle.sheet.specs.declared.refusal.Refusal.TheVariants.{NoShare}
use Rattle.sheet.specs.Refusal.{Answer, refused_if, ◌or_else◌, first_over}
use Rattle.basics.specs.Lists.{is_empty, range}
use Rattle.sheet.specs.Format.{task_in, missing_task}
use Rattle.basics.proofs.Cells.{cells-length, cells_at}
use Rattle.sheet.proofs.Faults.{over_same}
use Rattle.shares.specs.declared.share.Share.{Share}
use Rattle.shares.specs.Offer.{tabulate, critical_at, offer_of}
use Rattle.shares.proofs.Levels.{critical_within, critical_bound, critical_past}
use Rattle.shares.proofs.Offers.{offer_at}
use Rattle.allocation.specs.Choice.{options_of, choices, fits, fitting, chosen}
use Rattle.shares.specs.Totals.{no_processors}
use Rattle.keeping.specs.Kept.{with_kept}
use Rattle.allocation.specs.Allocation.{tasks_of, chosen_for, share_answer, choice_answer, sixteen, shares_with, shares_of, choice_of}
use Rattle.allocation.specs.Lawful.{LawfulTask, LawfulSet}
use Rattle.allocation.specs.means.Selection.{cell_at, offered, selected, zero_offer, missing_offer, offers_of, offers_none, offer_answer, offers_up_to, selection_of, OfferWithin, OffersWithin}
use Rattle.basics.proofs.Members.{filter_from, all_member, all-members}
use Rattle.allocation.proofs.Optimal.{OfferOf, EachOffer, Offers, no_offer, offer_and, Takes, choice_takes, select_least}
use Rattle.allocation.proofs.Options.{offer_of_lem, offer_agrees}
use Rattle.allocation.proofs.Cells.{tabulate_from, tabulate-has}
use Rattle.allocation.proofs.Lines.{table_within, offers_open, offers_length}

-- The answer on a task set beside the choice, before low tasks are kept.
abbrev pub chosen_line : TaskSet → Result (List Share) Refusal
chosen_line set = choice_answer set or_else Ok (sixteen (unwrap_or (chosen_for set) []))

-- Where nothing is chosen there are no shares.
pub none_shares : (set : TaskSet) → chosen_for set ≡ None → shares_of set ≡ []
unfolding shares_of shares_with with_kept range
none_shares set e = rw e

-- The offer of a lawful task, as 64 numbers.
module _ (M : ℕ) (t : Task) (small : M ≤ 64) (lawful : LawfulTask t) where
  pub cell_is : (a : ℕ) → 1 ≤ a → a ≤ 64 → cell_at (offer_of M t) a ≡ critical_at M t a
  unfolding cell_at
  cell_is a from to = offer_at M t a from to

  pub offer_offers : OfferOf M (options_of M t) (cell_at (offer_of M t))
  offer_offers = offer_agrees M (options_of M t) (critical_at M t) (cell_at (offer_of M t)) small cell_is (offer_of_lem M t lawful)

  offer_within : OfferWithin M (offer_of M t)
  unfolding offer_of
  offer_within =
      record {
        small = table_within (critical_at M t) 1 64 (M + 1) (critical_bound M t);
        past = λ a beyond to. cell_is a (omega arith) to ∙ critical_past M t a beyond;
      }

  offers_nothing : options_of M t ≡ [] → offers_none M (offer_of M t) ≡ true
  unfolding offers_none offer_of
  offers_nothing e =
      all-members _ (tabulate (critical_at M t) 1 64)
      (λ b m.
      let found = tabulate_from (critical_at M t) 1 64 b m in
      past found.0 found.1.0 b found.1.1 (dec_le b M))
    where
      past : (a : ℕ) → 1 ≤ a → (b : ℕ) → b ≡ critical_at M t a → Dec (b ≤ M) → ltb M b ≡ true
      past a from b same (no beyond) = lt-ltb M b (omega arith)
      past a from b same (yes within) =
          let few : critical_at M t a ≤ M = rw (← same) within in
          absurd (Memᴰ.not-nil (subst (λ (o : List Share). Memᴰ (offered (critical_at M t) a) o) e
          ((offer_of_lem M t lawful).offers a from (omega (arith, critical_within M t a few)) few)))

  offers_something : (s : Share) → Memᴰ s (options_of M t) → offers_none M (offer_of M t) ≡ true → ⊥
  unfolding offers_none offer_of
  offers_something s m e =
      let offer = offer_of_lem M t lawful in
      let to = offer.within s m in
      let there = tabulate-has (critical_at M t) 1 64 s.typical (offer.positive s m) (omega arith) in
      let past = ltb-true M _ (all_member _ (tabulate (critical_at M t) 1 64) _ e there) in
      omega (arith, offer.least s m, offer.small s m)

  -- The offer offers nothing just where the task has no option.
  pub offers_empty : offers_none M (offer_of M t) ≡ is_empty (options_of M t)
  offers_empty = go (options_of M t) refl (offers_none M (offer_of M t)) refl
    where
      go : (options : List Share) → options_of M t ≡ options → (b : Bool) → offers_none M (offer_of M t) ≡ b → b ≡ is_empty options
      go [] e true h = refl
      go [] e false h = absurd (false≢true (sym h ∙ offers_nothing e))
      go (s ∷ rest) e true h =
          absurd (offers_something s (subst (λ (o : List Share). Memᴰ s o) (sym e) (Memᴰ.head refl)) h)
      go (s ∷ rest) e false h = refl

-- A refusal over the tasks is that of the first task that is refused.
pub over_first : (offer : ℕ → Answer) (first count : ℕ) (r : Refusal) → first_over offer first count ≡ Err r →
    (i : ℕ) × ((i < first + count) × (offer i ≡ Err r) × ((j : ℕ) → first ≤ j → j < i → offer j ≡ Ok tt))
unfolding first_over
over_first offer first zero r e = absurd (cc)
over_first offer first (suc count) r e = go (offer first) refl (over_first offer (suc first) count r) e
  where
    earlier : (i : ℕ) → offer first ≡ Ok tt → ((j : ℕ) → suc first ≤ j → j < i → offer j ≡ Ok tt) → (j : ℕ) → first ≤ j → j < i →
        Dec (first < j) → offer j ≡ Ok tt
    earlier i q rest j from before (yes later) = rest j later before
    earlier i q rest j from before (no not-later) = let same : j ≡ first = omega arith in ap offer same ∙ q

    go : (a : Answer) → offer first ≡ a →
        (first_over offer (suc first) count ≡ Err r →
        (i : ℕ) × ((i < suc first + count) × (offer i ≡ Err r) × ((j : ℕ) → suc first ≤ j → j < i → offer j ≡ Ok tt))) →
        (a or_else first_over offer (suc first) count) ≡ Err r →
        (i : ℕ) × ((i < first + suc count) × (offer i ≡ Err r) × ((j : ℕ) → first ≤ j → j < i → offer j ≡ Ok tt))
    go (Ok u) q rest h =
        let found = rest h in
        let to = found.1.0 in
        (found.0, (omega arith, found.1.1, λ j from before. earlier found.0 q found.1.2 j from before (dec_lt first j)))
    go (Err k) q rest h = (first, (omega arith, q ∙ h, λ j' from before. absurd (omega arith)))

-- Refusal 7 of a task says that it has no option, and has its number.
pub share_refused : (set : TaskSet) (i : ℕ) (r : Refusal) → share_answer set i ≡ Err r →
    (is_empty (options_of set.processors (task_in set i)) ≡ true) × (r ≡ NoShare i)
unfolding share_answer
share_refused set i r e = go (is_empty (options_of set.processors (task_in set i))) e
  where
    go : (t : Bool) → refused_if t (NoShare i) ≡ Err r → (t ≡ true) × (r ≡ NoShare i)
    go true h = (refl, cc)
    go false h = absurd (cc)

-- An option of each task, by the task's number.
pub takes_at : {A : Type 0} (options : A → List Share) (tasks : List A) (choice : List Share) → Takes (map options tasks) choice →
    (i : ℕ) (d : A) → i < length tasks → Memᴰ (get_or choice i no_processors) (options (get_or tasks i d))
takes_at options [] choice t i d inside = absurd (omega arith)
takes_at options (task ∷ tasks) [] t i d inside = absurd t
takes_at options (task ∷ tasks) (s ∷ choice) (m, t) zero d inside = m
takes_at options (task ∷ tasks) (s ∷ choice) (m, t) (suc i) d inside = takes_at options tasks choice t i d (omega arith)

pub takes_length : {A : Type 0} (options : A → List Share) (tasks : List A) (choice : List Share) → Takes (map options tasks) choice →
    length choice ≡ length tasks
takes_length options [] [] t = refl
takes_length options [] (s ∷ choice) t = absurd t
takes_length options (task ∷ tasks) [] t = absurd t
takes_length options (task ∷ tasks) (s ∷ choice) (m, t) = ap suc (takes_length options tasks choice t)

module _ (set : TaskSet) (lawful : LawfulSet set) where
  there : set.count ≤ length set.tasks
  there = let long = lawful.all_there in let few = lawful.few_tasks in omega arith

  pub offers_there : set.count ≤ length (offers_of set)
  unfolding offers_of
  offers_there =
      let few = lawful.few_tasks in
      let long : length (offers_of set) ≡ 16 = cells-length (λ i. offer_of set.processors (task_in set i)) zero_offer 0 16 set.count in
      omega arith

  -- The offer of task i.
  pub offers_at : (i : ℕ) → i < set.count → get_or (offers_of set) i missing_offer ≡ offer_of set.processors (task_in set i)
  unfolding offers_of
  offers_at i inside =
      let few = lawful.few_tasks in
      cells_at (λ j. offer_of set.processors (task_in set j)) zero_offer 16 set.count i missing_offer (omega arith) inside

  -- Each offer is as the selection needs it.
  pub offers_within : OffersWithin set.processors set.count (offers_of set)
  offers_within i inside =
      rw (offers_at i inside) (offer_within set.processors (task_in set i) lawful.few_processors (lawful.lawful i inside))

  offer_at_task : (i : ℕ) → i < set.count →
      OfferOf set.processors (options_of set.processors (task_in set i)) (cell_at (get_or (offers_of set) i missing_offer))
  offer_at_task i inside =
      rw (offers_at i inside) (offer_offers set.processors (task_in set i) lawful.few_processors (lawful.lawful i inside))

  -- The offers of the last tasks, one task after the other: what holds for each task's options and offer.
  module _ (P : List Share → (ℕ → ℕ) → Type 0) (options : Task → List Share)
      (holds_at : (i : ℕ) → i < set.count → P (options (task_in set i)) (cell_at (get_or (offers_of set) i missing_offer))) where
    each_left : (count i : ℕ) → i + count ≡ set.count →
        EachOffer P (map options (drop i (tasks_of set))) (drop i (offers_up_to set.count (offers_of set)))
    unfolding task_in
    each_left zero i e =
        let past : length (offers_up_to set.count (offers_of set)) ≤ i = omega (arith, offers_length set.count (offers_of set) offers_there) in
        let last : length (tasks_of set) ≤ i = omega (arith, tasks_length set lawful) in
        rw (drop_of_length-le (offers_up_to set.count (offers_of set)) past, drop_of_length-le (tasks_of set) last) no_offer
    each_left (suc count) i e =
        let inside : i < length (tasks_of set) = omega (arith, tasks_length set lawful) in
        let later = each_left count (i + 1) (omega arith) in
        rw (
          drop-cons (tasks_of set) i missing_task inside,
          get_or-take set.count set.tasks i missing_task (omega arith),
          offers_open set.count (offers_of set) offers_there i (omega arith),
        )
        (offer_and (holds_at i (omega arith))
        (subst (λ (j : ℕ). EachOffer P (map options (drop j (tasks_of set))) (drop (i + 1) (offers_up_to set.count (offers_of set)))) (add-one i) later))

    pub each_from : (i : ℕ) → i ≤ set.count → EachOffer P (map options (drop i (tasks_of set))) (drop i (offers_up_to set.count (offers_of set)))
    each_from i inside = each_left (set.count - i) i (omega arith)

  pub set_offers : (i : ℕ) → i ≤ set.count →
      Offers set.processors (map (options_of set.processors) (drop i (tasks_of set))) (drop i (offers_up_to set.count (offers_of set)))
  set_offers = each_from (OfferOf set.processors) (options_of set.processors) offer_at_task

  -- What the offers select is what is chosen.
  pub selected-chosen : chosen_for set ≡ selected set.processors (offers_up_to set.count (offers_of set))
  unfolding chosen_for chosen fitting
  selected-chosen = select_least (set_offers 0 (omega arith)) lawful.few_processors

  -- Refusal 7 by the offers and by the options.
  answer_same : (i : ℕ) → i < set.count → offer_answer set.processors (offers_of set) i ≡ share_answer set i
  unfolding offer_answer share_answer
  answer_same i inside =
      ap (λ (t : Bool). refused_if t (NoShare i))
      (ap (λ (offer : List ℕ). offers_none set.processors offer) (offers_at i inside)
      ∙ offers_empty set.processors (task_in set i) lawful.few_processors (lawful.lawful i inside))

  pub answers_same : first_over (offer_answer set.processors (offers_of set)) 0 set.count ≡ first_over (share_answer set) 0 set.count
  answers_same = over_same _ _ 0 set.count (λ i from to. answer_same i (omega arith))

  -- An option of each task, in a choice that fits.
  pub fitting_takes : (choice : List Share) → Memᴰ choice (fitting set.processors (tasks_of set)) →
      Takes (map (options_of set.processors) (tasks_of set)) choice
  unfolding fitting
  fitting_takes choice m =
      let options = map (options_of set.processors) (tasks_of set) in
      choice_takes options choice (filter_from (fits set.processors) (choices options) choice m).0

  pub fitting_option : (choice : List Share) → Memᴰ choice (fitting set.processors (tasks_of set)) → (i : ℕ) → i < set.count →
      Memᴰ (get_or choice i no_processors) (options_of set.processors (task_in set i))
  unfolding task_in
  fitting_option choice m i inside =
      let long = length-take-le set.count set.tasks there in
      subst (λ (t : Task). Memᴰ (get_or choice i no_processors) (options_of set.processors t)) (get_or-take set.count set.tasks i missing_task inside)
      (takes_at (options_of set.processors) (tasks_of set) choice (fitting_takes choice m) i missing_task (omega arith))

  -- The answers of `choose`, by the offers.
  module _ (offers : List (List ℕ)) (of_set : offers ≡ offers_of set) where
    answers_are : first_over (share_answer set) 0 set.count ≡ first_over (offer_answer set.processors offers) 0 set.count
    answers_are = rw of_set (sym answers_same)

    pub choice_refused : {r : Refusal} → first_over (offer_answer set.processors offers) 0 set.count ≡ Err r → Err r ≡ choice_of set
    unfolding choice_of choice_answer
    choice_refused refused = let here = answers_are ∙ refused in rw here

    -- What is selected is the choice.
    pub choice_selected : (chosen_shares : Result (List Share) Refusal) → first_over (offer_answer set.processors offers) 0 set.count ≡ Ok tt →
        chosen_shares ≡ selection_of set.processors (offers_up_to set.count offers) → chosen_shares ≡ chosen_line set
    unfolding choice_answer selection_of
    choice_selected chosen_shares accepted same =
        let here = answers_are ∙ accepted in
        same ∙ rw (here, selected-chosen, of_set)
