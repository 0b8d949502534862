-- `exports::decoding::masks_from`: the masks passed are those of the words.
use Rattle.std.proofs.Common.{◌≡◌, length, take, drop}
use Rattle.exports.proofs.decoding.masks_from.Given as goal

abbrev pub invariant-loop-v : goal.invariant-loop-v
invariant-loop-v l =
    record {
      all : length l.masks ≡ 32;
      read : take l.v l.masks ≡ take l.v (drop 2 l.words);
    }
