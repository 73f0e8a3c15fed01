use Rattle.channel_meaning.proofs.Several.{writes_all_at_each_place}
use Rattle.channel_meaning.proofs.writes_all_at_each_place.Goals as goal

pub returns : goal.returns
returns c = writes_all_at_each_place c.writes_all_of_it.ensures
