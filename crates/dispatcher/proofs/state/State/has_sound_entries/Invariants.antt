-- `dispatcher::state::State::has_sound_entries`: every entry passed is sound, and these are its shares.
use Rattle.dispatcher.proofs.Entries.{Passed}
use Rattle.dispatcher.proofs.state.State.has_sound_entries.Given as goal

abbrev pub invariant-loop-e : goal.invariant-loop-e
invariant-loop-e l = Passed l.self l.e-index l.typical l.critical
