-- `exports::decoding::entry_from`: each word is a field, and fits it.
use native.Mathlib.Omega.{arith}
use Rattle.exports.specs.Words.{entry_from, is_set}
use Rattle.exports.proofs.Lines.{entry_fitting}
use Rattle.exports.proofs.decoding.entry_from.Goals as goal

pub overflow_cast-share : goal.overflow_cast-share
overflow_cast-share c = omega (arith, (entry_fitting c.args.words.now c.requires.fits).typical)

pub overflow_cast-share-2 : goal.overflow_cast-share-2
overflow_cast-share-2 c = omega (arith, (entry_fitting c.args.words.now c.requires.fits).critical)

pub overflow_cast-result : goal.overflow_cast-result
overflow_cast-result c = omega (arith, (entry_fitting c.args.words.now c.requires.fits).level)

pub overflow_cast-result-2 : goal.overflow_cast-result-2
overflow_cast-result-2 c = omega (arith, (entry_fitting c.args.words.now c.requires.fits).nodes)

pub returns : goal.returns
unfolding entry_from is_set
returns c = rw c.masks_from.ensures
