use Rattle.log_tests.proofs.Each.{each_of}
use Rattle.log_tests.proofs.crowd.publish_each.Goals as goal

pub map_vec-requires-after_bounds : goal.map_vec-requires-after_bounds
map_vec-requires-after_bounds g c κs within = each_of c.args.log.now 0 c.args.publishers.items c.requires
