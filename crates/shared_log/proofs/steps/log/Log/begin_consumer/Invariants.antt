use Rattle.shared_log.proofs.steps.log.Log.begin_consumer.Given as goal

abbrev pub ghosts-begin_as : goal.ghosts-begin_as
ghosts-begin_as a = record { number = a.number; place = a.place }
