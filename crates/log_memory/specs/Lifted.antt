-- A pass goes to a new seat, and back to one that has nothing.
use Rattle.log_rule.specs.declared.claims.view.View.{View}
use Rattle.log_rule.specs.Claims.Plays.{newcomer}
use Rattle.log_rule.specs.Table.{new_seat}

abbrev pub lifted_left : View → View
lifted_left v = new_seat (newcomer v.pass.identity v.pass.start 0 0)

abbrev pub lifted_right : View → View
lifted_right v = new_seat v.pass

abbrev pub lowered : View → View → View
lowered v w = new_seat w.pass
