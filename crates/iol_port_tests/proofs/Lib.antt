-- The files of lemmas that the proofs of iol_port_tests cite.
mod FirstApp
mod MeetLemmas
mod MissedPulse
mod ShowsHistory
