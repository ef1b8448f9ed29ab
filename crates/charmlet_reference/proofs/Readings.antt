-- How packed objects are read, for the program that reads them.
use Rattle.charmlet_model.proofs.ReadStates as reads

pub ruleset state_lengths = (reads.state_lengths)

pub ruleset tape_reads = (reads.tape_reads)

pub ruleset lengths_of_states = (reads.lengths_of_states)
