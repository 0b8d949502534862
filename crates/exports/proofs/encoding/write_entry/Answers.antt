-- `exports::encoding::write_entry`: each field is a word, the masks are 32 of them.
use mathlib.Core.Path.{◌≡◌, ◌∙◌}
use native.Mathlib.Omega.{arith}
use lib.ListN.{length, length-set}
use Rattle.basics.proofs.Stores.{put_mid_sets}
use Rattle.exports.proofs.Stored.{mark_word, entry_stored}
use Rattle.exports.proofs.encoding.write_entry.Goals as goal

pub returns : goal.returns
returns c =
    let masks : length c.args.e.now.predecessors ≡ 32 = omega arith in record {
      held = record {
        level = omega arith;
        nodes = omega arith;
        masks = masks;
        typical = omega arith;
        critical = omega arith;
      };
      written =
          rw (c.from.ensures, c.from-2.ensures, c.from-3.ensures, c.from-4.ensures)
          (entry_stored c.args.words.now 0 c.args.e.now masks _ _
          (put_mid_sets _ c.args.e.now.predecessors _ 2 32 c.copy_from_slice.ensures.after masks (simp length-set (omega arith)))
          (c.from-5.ensures ∙ mark_word c.args.e.now.job.alive));
    }
