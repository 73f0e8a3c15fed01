use Rattle.shared_log.proofs.steps.log.Log.meet.Given as goal

abbrev pub ghosts-meet_as : goal.ghosts-meet_as
ghosts-meet_as a = record { one = a.one.now.pass; other = a.other.now.pass }
