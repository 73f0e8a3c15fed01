use Rattle.shared_log.proofs.steps.log.Log.consume.Given as goal

abbrev pub ghosts-consume : goal.ghosts-consume
ghosts-consume a = record { number = a.consumer.now.place }
