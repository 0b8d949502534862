-- `reader::directory::places_answer`: a turn puts the cause of one task behind those before it; the end is the last.
use Rattle.std.proofs.Common.{◌≡◌, length, sym, ap, ◌∙◌, arith}
use Rattle.sheet.specs.Format.{place_of}
use Rattle.reader.specs.Reading.{place_answer}
use Rattle.sheet.proofs.Faults.{after_accepted, after_refused, over_next, over_stop, over_end, over_all}
use Rattle.reader.proofs.Places.{start_first, start_next, place_kept, place_broken, end_kept, end_broken}
use Rattle.reader.proofs.directory.places_answer.Goals as goal

pub loop-i-init : goal.loop-i-init
loop-i-init c =
    record {
      place = rw (c.from-start.ensures, c.entry_place.ensures, c.requires.0) (sym (start_first c.args.s.now));
      small = omega arith;
      passed = over_all (place_answer c.args.s.now) c.args.n;
    }

pub returns-then-offset-start : goal.returns-then-offset-start
returns-then-offset-start c =
    let offset = c.offset_of-offset.ensures.value in
    let off = place_broken c.args.s.now c.loop-i.i (λ e. c.if-offset-start.true (offset ∙ e ∙ sym c.loop-i.invariant.place)) in
    sym (after_refused _ _ (sym c.loop-i.invariant.passed ∙ over_stop (place_answer c.args.s.now) c.loop-i.i _ (omega arith) off))

pub loop-i-preserved : goal.loop-i-preserved
loop-i-preserved c =
    let offset = c.offset_of-offset.ensures.value in
    let in_place = place_kept c.args.s.now c.loop-i.i (sym offset ∙ c.if-offset-start.false ∙ c.loop-i.invariant.place) in
    record {
      place = rw (c.offset_of-offset.ensures.value, c.length_of.ensures.value) (sym (start_next c.args.s.now c.loop-i.i));
      small = omega arith;
      passed = over_next (place_answer c.args.s.now) c.loop-i.i _ (omega arith) in_place ∙ c.loop-i.invariant.passed;
    }

pub returns-then-start-s : goal.returns-then-start-s
returns-then-start-s c =
    let all : c.loop-i.i ≡ c.args.n = omega arith in
    let places = sym c.loop-i.invariant.passed ∙ over_end (place_answer c.args.s.now) c.loop-i.i c.args.n (omega arith) in
    let start : place_of c.args.s.now c.args.n ≡ c.loop-i.start = ap (place_of c.args.s.now) (sym all) ∙ sym c.loop-i.invariant.place in
    sym (after_accepted _ _ places ∙ end_broken c.args.s.now c.args.n c.requires.0 (λ e. c.if-start-s.true (sym start ∙ e)))

pub returns : goal.returns
returns c =
    let all : c.loop-i.i ≡ c.args.n = omega arith in
    let places = sym c.loop-i.invariant.passed ∙ over_end (place_answer c.args.s.now) c.loop-i.i c.args.n (omega arith) in
    let last : place_of c.args.s.now c.args.n ≡ length c.args.s.now = ap (place_of c.args.s.now) (sym all) ∙ sym c.loop-i.invariant.place ∙ c.if-start-s.false in
    sym (after_accepted _ _ places ∙ end_kept c.args.s.now c.args.n c.requires.0 last)
