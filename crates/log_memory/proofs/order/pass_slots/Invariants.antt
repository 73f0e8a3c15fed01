use Rattle.log_memory.proofs.order.pass_slots.Given as goal

abbrev pub ghosts-pass_as : goal.ghosts-pass_as
ghosts-pass_as a = record { number = a.count }
