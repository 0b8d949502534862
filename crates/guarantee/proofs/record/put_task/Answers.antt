-- `guarantee::record::put_task`: a mark and two numbers, one behind the other.
use Prim.Native.Nat.{ℕ, ◌+◌}
use mathlib.Core.List.{List}
use mathlib.Core.Path.{◌≡◌, ap, ◌∙◌}
use lib.ListN.{length, length-set}
use lib.Seq.{sets}
use Rattle.entries.specs.Entry.{job_of, row_of}
use Rattle.basics.specs.Numbers.{u32_bytes}
use Rattle.guarantee.proofs.Records.{task_stored, bit_of}
use Rattle.guarantee.proofs.record.put_task.Goals.{After-put_u32}
use Rattle.guarantee.proofs.record.put_task.Goals as goal

-- The buffer has its length after the first number.
long : (c : After-put_u32) → length c.put_u32.new.out ≡ length c.args.out.now
long c = c.put_u32.auto.out ∙ length-set c.args.out.now c.args.at c.from.result

pub returns : goal.returns
unfolding row_of job_of
returns c =
    c.put_u32-2.ensures
    ∙ ap (λ (l : List ℕ). sets l (c.args.at + 5) (u32_bytes c.args.e.now.job.ended)) c.put_u32.ensures
    ∙ task_stored c.args.out.now c.args.at c.from.result (row_of c.args.e.now) (bit_of c.args.e.now.job.alive c.from.ensures)
