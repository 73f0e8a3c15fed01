use Rattle.image.proofs.Here.{found_block, missed_block, same_length}
use Rattle.image.proofs.reader.reading.read.Goals as goal

pub returns-clause-found : goal.returns-clause-found
returns-clause-found c = found_block c.args.reader.now c.read_with.new.reader c.args.block.now c.read_with.new.handler c.read_with.result c.read_with.ensures.found c.requires.room

pub returns-clause-none : goal.returns-clause-none
returns-clause-none c = missed_block c.args.reader.now c.read_with.new.reader c.args.block.now c.read_with.new.handler c.read_with.result c.read_with.ensures.none

pub returns-clause-same_length : goal.returns-clause-same_length
returns-clause-same_length c = same_length c.args.reader.now c.read_with.new.reader c.args.block.now c.read_with.new.handler c.read_with.result c.read_with.ensures.found c.read_with.ensures.none c.requires.room
