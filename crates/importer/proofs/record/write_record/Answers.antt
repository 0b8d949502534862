-- `importer::record::write_record`: the stores are the record's bytes, part behind part.
use Rattle.importer.proofs.Writing.{record_stored}
use Rattle.importer.proofs.record.write_record.Goals as goal

pub returns : goal.returns
returns c =
    record_stored c.args.t.now c.requires.2 c.args.out.now _ _ _ _ _ _ c.put_u16.ensures c.put_u16-2.ensures c.put_u16-3.ensures c.put_u16-4.ensures
    c.put_u16-5.ensures (rw c.from.ensures at c.put_masks.ensures)
