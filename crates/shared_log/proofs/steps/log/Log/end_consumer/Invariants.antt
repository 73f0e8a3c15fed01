use Rattle.shared_log.proofs.steps.log.Log.end_consumer.Given as goal

abbrev pub ghosts-end_as : goal.ghosts-end_as
ghosts-end_as a = record { number = a.number; place = a.place }
