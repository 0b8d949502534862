-- `reader::directory::places_answer`: the records passed are in place, and the next has to begin where the last ended.
use Rattle.std.proofs.Common.{◌≡◌, ◌<◌, ◌-◌}
use Rattle.sheet.specs.Refusal.{first_over}
use Rattle.sheet.specs.Format.{place_of}
use Rattle.reader.specs.Reading.{place_answer}
use Rattle.reader.proofs.directory.places_answer.Given as goal

abbrev pub invariant-loop-i : goal.invariant-loop-i
invariant-loop-i l =
    record {
      place : l.start ≡ place_of l.s l.i;
      small : l.start < 262144;
      passed : first_over (place_answer l.s) l.i (l.n - l.i) ≡ first_over (place_answer l.s) 0 l.n;
    }
