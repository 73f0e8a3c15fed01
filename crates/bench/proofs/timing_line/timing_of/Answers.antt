use Rattle.bench.proofs.timing_line.timing_of.Goals as goal

pub returns : goal.returns
returns c = record {
  publishers = c.number_of.ensures;
  length = c.number_of-2.ensures;
  term = c.number_of-3.ensures;
  mtu = c.number_of-4.ensures;
  messages = c.number_of-5.ensures;
  rate = c.number_of-6.ensures;
  loss = c.number_of-7.ensures;
  seed = c.number_of-8.ensures;
}
