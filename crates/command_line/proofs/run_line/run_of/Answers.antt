use Rattle.command_line.proofs.run_line.run_of.Goals as goal

pub returns : goal.returns
returns c =
    record {
      publishers = c.number_of.ensures;
      receivers = c.number_of-2.ensures;
      messages = c.number_of-3.ensures;
      length = c.number_of-4.ensures;
      loss = c.number_of-5.ensures;
      repeat = c.number_of-6.ensures;
      hold = c.number_of-7.ensures;
      seed = c.number_of-8.ensures;
      turns = c.number_of-9.ensures;
      term = c.number_of-10.ensures;
      mtu = c.number_of-11.ensures;
      counters = c.flag_of.ensures;
    }
