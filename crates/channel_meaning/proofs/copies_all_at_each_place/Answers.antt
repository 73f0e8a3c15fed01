use Rattle.channel_meaning.proofs.Several.{copies_all_at_each_place}
use Rattle.channel_meaning.proofs.copies_all_at_each_place.Goals as goal

pub returns : goal.returns
returns c = copies_all_at_each_place c.writes_all_of_it.ensures
