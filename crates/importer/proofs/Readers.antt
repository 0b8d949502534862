-- S14.8: the record of an accepted import can be held and is read back as its task, whose level, nodes, figures and masks are lawful.
use Prim.Native.Nat.{ℕ, zero, suc, ◌+◌, ◌*◌, ◌<◌, ◌^◌}
use mathlib.Core.Bool.{Bool, true, false, cond, not, ◌&&◌, ◌||◌}
use mathlib.Core.List.{List, ◌++◌}
use Rattle.std.specs.List.{list_all}
use Rattle.std.specs.Prelude.{Option}
use mathlib.Core.Path.{◌≡◌, refl, sym, ap, ◌∙◌}
use native.Mathlib.Omega.{arith}
use lib.Dec.{eqb, ltb}
use lib.ListN.{length}
use borrow.Author.Tests.{le-leb, lt-ltb, eq-eqb}
use Rattle.basics.specs.Lists.{is_in, cells_from}
use Rattle.basics.proofs.Below.{all_intro}
use Rattle.basics.proofs.Cells.{cells-length, cells_rest}
use Rattle.nodes.proofs.Members.{set_of-filter_lt}
use Rattle.sheet.specs.declared.task.Budget.{Budget}
use Rattle.sheet.specs.declared.refusal.Refusal.TheVariants.{NotHeavy}
use Rattle.sheet.specs.Refusal.{refused_if}
use Rattle.sheet.specs.Level.{level_lawful, is_high, bytes_before_masks}
use Rattle.sheet.specs.Format.{offset_of, length_of, task_at}
use Rattle.sheet.specs.Rules.{shape_lawful, low_lawful, figures_lawful, mask_lawful, masks_lawful, is_heavy}
use Rattle.sheet.specs.Encoding.{record_bytes}
use Rattle.sheet.specs.Laws.{Encodable, RoundTrip, RecordLength}
use Rattle.sheet.proofs.Encoding.{round_trip, record_length}
use Rattle.sheet.proofs.Limits.{in_range_lem, limit_room}
use Rattle.reader.specs.Reading.{record_answer}
use Rattle.reader.proofs.Records.{record_answers}
use Rattle.model.specs.Row.{predecessors_of}
use Rattle.chains.specs.Laws.{LowerOnly}
use Rattle.chains.proofs.Laws.{budget_same}
use Rattle.graph_text.specs.Graph.{Graph, node_of, time_of, mask_of, masks_of}
use Rattle.importer.specs.declared.terms.Terms.{Terms}
use Rattle.importer.specs.Task.{overload_time_of, figures_of, task_from}
use Rattle.importer.specs.Import.{record_for, imported_record}
use Rattle.importer.specs.Laws.{FiguresInOrder, ReaderTakes}
use Rattle.importer.proofs.Orders.{scaled_whole, figures_in_order}
use Rattle.importer.proofs.Rising.{rising_lower}
use Rattle.importer.proofs.Acceptance.{Kept, accepted_kept}

-- Cells of masks: each fits its four bytes.
cells_fit : (test : ℕ → Bool) (f : ℕ → ℕ) (first size count : ℕ) → ((v : ℕ) → test (f v) ≡ true) → test 0 ≡ true →
    list_all test (cells_from first size f 0 count) ≡ true
unfolding cells_from
cells_fit test f first zero count fits none = refl
cells_fit test f first (suc size) count fits none = rw (go (ltb first count), cells_fit test f (suc first) size count fits none)
  where
    go : (t : Bool) → test (cond t (f first) 0) ≡ true
    go true = fits first
    go false = none

mask_fits : (predecessors : List ℕ) → mask_of predecessors < 2 ^ 32
unfolding mask_of
mask_fits predecessors = set_of-filter_lt (λ j. is_in (suc j) predecessors) 32

module _ (g : Graph) (t : Terms) (kept : Kept g t) where
  -- S2.6: a record can hold the task.
  encodable : Encodable (task_from g t)
  unfolding task_from masks_of
  encodable =
      let ranged = in_range_lem t.level (figures_of g t) kept.ranged in
      let limit = limit_room t.level in
      record {
        level = omega (arith, kept.terms.level);
        nodes = kept.few_nodes;
        deadline = omega (arith, ranged.deadline, limit);
        nominal_work = omega (arith, ranged.nominal_work, limit);
        overload_work = omega (arith, ranged.overload_work, limit);
        nominal_span = omega (arith, ranged.nominal_span, limit);
        overload_span = omega (arith, ranged.overload_span, limit);
        masks = cells-length (λ v. mask_of (node_of g v).predecessors) 0 0 32 g.count;
        masks_fit = cells_fit (λ mask. ltb mask (2 ^ 32)) (λ v. mask_of (node_of g v).predecessors) 0 32 g.count
            (λ v. lt-ltb (mask_of (node_of g v).predecessors) (2 ^ 32) (mask_fits (node_of g v).predecessors)) refl;
        masks_none = cells_rest (λ v. mask_of (node_of g v).predecessors) 0 g.count 0 32 g.count (omega arith) kept.few_nodes;
      }

  -- S2.11: a low task's percentage is 100, which changes no time.
  low_kept : low_lawful t.level (figures_of g t) ≡ true
  unfolding low_lawful figures_of overload_time_of
  low_kept = go (is_high t.level) refl
    where
      go : (high : Bool) → is_high t.level ≡ high →
          (high
          || eqb (figures_of g t).nominal.work (figures_of g t).overload.work
          && eqb (figures_of g t).nominal.span (figures_of g t).overload.span)
          ≡ true
      go true e = refl
      go false e =
          let same = budget_same (masks_of g) (time_of g) (overload_time_of g t.percentage) g.count
          (λ v l. sym (scaled_whole t.percentage (time_of g v) (kept.terms.low e))) in
          rw (eq-eqb _ _ (ap (λ (b : Budget). b.work) same), eq-eqb _ _ (ap (λ (b : Budget). b.span) same))

  figures_kept : figures_lawful t.level (figures_of g t) ≡ true
  unfolding figures_lawful FiguresInOrder
  figures_kept = rw (kept.ranged, figures_in_order g t kept.terms.percentage, low_kept)

  masks_kept : masks_lawful (masks_of g) g.count ≡ true
  unfolding masks_lawful mask_lawful LowerOnly predecessors_of
  masks_kept =
      all_intro g.count (mask_lawful (masks_of g))
      (λ v l. lt-ltb (predecessors_of (masks_of g) v) (2 ^ v) (rising_lower g kept.rising v l))

  shape_kept : (bytes : ℕ) → bytes ≡ length (record_bytes (task_from g t)) → shape_lawful t.level g.count bytes ≡ true
  unfolding shape_lawful level_lawful task_from RecordLength
  shape_kept bytes e =
      rw (
        le-leb t.level 1 kept.terms.level,
        le-leb 1 g.count kept.some_nodes,
        le-leb g.count 32 kept.few_nodes,
        eq-eqb bytes (bytes_before_masks t.level + 4 * g.count) (e ∙ record_length (task_from g t) encodable),
      )

  record_taken : (front back : List ℕ) (i : ℕ) →
      offset_of (front ++ (record_bytes (task_from g t) ++ back)) i ≡ length front →
      length_of (front ++ (record_bytes (task_from g t) ++ back)) i ≡ length (record_bytes (task_from g t)) →
      record_answer (front ++ (record_bytes (task_from g t) ++ back)) i ≡ refused_if (not (is_heavy (figures_of g t))) (NotHeavy i)
  unfolding task_from RoundTrip
  record_taken front back i offset bytes =
      let sheet = front ++ (record_bytes (task_from g t) ++ back) in
      record_answers sheet i (task_from g t)
      (ap (task_at sheet) offset ∙ round_trip (task_from g t) front back encodable)
      (shape_kept (length_of sheet i) bytes) figures_kept masks_kept

pub reader_takes : ReaderTakes
unfolding ReaderTakes imported_record
reader_takes text t room g front back i accepted said =
    let same : imported_record text t ≡ record_bytes (task_from g t) = ap (λ (o : Option Graph). record_for o t) said in
    rw same (record_taken g t (accepted_kept text t room g accepted said) front back i)
